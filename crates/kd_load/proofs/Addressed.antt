-- Whom the offers of a message are for, at the desk of a load.
use Rattle.std.proofs.Common.{◌≡◌, ◌≢◌, ◌≤◌, ◌==◌, ℕ, ◌+◌, ◌-◌, Bool, true, false, cond, List, [], ◌∷◌, get_or, map, length, refl, ap, ◌∙◌, arith, ◌⊎◌, inl, inr}
use Rattle.std.specs.Prelude.{◌&&◌, ◌||◌, not, None}
use Rattle.std.specs.List.{range_with_len}
use Rattle.std.proofs.lemmas.Bool.{cases_eq}
use Rattle.kd_model.specs.Words.{first, those}
use Rattle.kd_bloom.specs.Bits.{passes}
use Rattle.kd_match.specs.Told.{condition_holds, message}
use Rattle.kd_match.specs.Rules.{admits, rules_of}
use Rattle.kd_match.specs.declared.rule.Rule.{Rule}
use Rattle.kd_registry.specs.Changes.{names_of}
use Rattle.kd_commands.specs.declared.conn.Conn.{Conn}
use Rattle.kd_commands.specs.State.{Desk}
use Rattle.kd_acts.specs.State.{Answer}
use Rattle.kd_commands.specs.Plans.{Part, Plan}
use Rattle.kd_histories.specs.Slots.{part_behind}
use Rattle.kd_load.specs.Counts.{is_for}
use Rattle.kd_load.specs.declared.message.Message.{Message}
use Rattle.kd_commands.specs.Audience.{broadcast, is_shown, is_told}
use Rattle.kd_load.specs.Bus.{conn_at, loaded_desk, rule_at}
use Rattle.kd_load.specs.Counts.{digit_of}
use Rattle.kd_load.proofs.Offers.{OffersOnly, parts_at}
use Rattle.kd_model.proofs.Truth.{and_true}
use Rattle.kd_load.proofs.Sends.{may_always}
use Rattle.kd_load.proofs.Ranges.{none_before, none_in_range, other_number, those_behind, same_number, those_in_range}

module _ (filters : List (List ℕ)) (n : ℕ) where
  abbrev D : Desk
  D = loaded_desk filters n

  -- the rules of a connection are the one that it has
  one_rule : (j : ℕ) → 1 ≤ j → j ≤ n → rules_of j D.rules.rules ≡ rule_at filters j ∷ []
  unfolding loaded_desk
  one_rule j some low = those_in_range (rule_at filters) (λ (r : Rule). r.id == j) j (same_number j) (λ k ne _. other_number k j ne) 1 n (omega arith) some (omega arith)

  admitted : (j source : ℕ) (names : List (List ℕ)) (bits : List ℕ) → 1 ≤ j → j ≤ n
      → admits D.rules j (message source names bits 0) ≡ passes bits (get_or filters (digit_of j) [])
  unfolding condition_holds
  admitted j source names bits some low = rw (one_rule j some low) (bool_ends (passes bits (get_or filters (digit_of j) [])))
    where
      bool_ends : (b : Bool) → (b && true) || false ≡ b
      bool_ends true = refl
      bool_ends false = refl

  -- the audience of a message to all
  pub heard : (i j : ℕ) (names : List (List ℕ)) (bits : List ℕ) → 1 ≤ j → j ≤ n
      → is_told D (broadcast (conn_at i) (record { generation = 0; bits = bits })) (conn_at j)
      ≡ (not (j == i) && passes bits (get_or filters (digit_of j) []))
  unfolding is_shown
  heard i j names bits some low = rw (admitted j i (names_of D.registry i) bits some low, may_always filters n j i) (ends (not (j == i)) (passes bits (get_or filters (digit_of j) [])))
    where
      ends : (a b : Bool) → ((a && true) && b) ≡ (a && b)
      ends true b = refl
      ends false b = refl

  module _ (T : Conn → Bool) (f : Conn → Part) (seats : (c : Conn) → (f c).seat ≡ c.seat) where
    abbrev test : ℕ → Conn → Bool
    test c x = T x && (f x).seat == c

    elsewhere : (c j : ℕ) → j - 1 ≢ c → test c (conn_at j) ≡ false
    elsewhere c j ne = rw (seats (conn_at j), other_number (j - 1) c ne) (none (T (conn_at j)))
      where
        none : (b : Bool) → (b && false) ≡ false
        none true = refl
        none false = refl

    here : (id : ℕ) (b : Bool) → T (conn_at id) ≡ b → test (id - 1) (conn_at id) ≡ b
    here id b e = rw (seats (conn_at id), same_number (id - 1), e) (and_true b)

    behind : (c : ℕ) → parts_at c (map f (those T (map conn_at (range_with_len 1 n)))) ≡ map f (those (test c) (map conn_at (range_with_len 1 n)))
    behind c = those_behind f T (λ (p : Part). p.seat == c) (map conn_at (range_with_len 1 n))

    -- of those that pass, the seat of a connection has a part if it passes, and other seats none
    pub audience_at : (id : ℕ) (b : Bool) → 1 ≤ id → id ≤ n → T (conn_at id) ≡ b → length (parts_at (id - 1) (map f (those T (map conn_at (range_with_len 1 n))))) ≡ cond b 1 0
    audience_at id true some low e =
        let one = those_in_range conn_at (test (id - 1)) id (here id true e) (λ j ne first. elsewhere (id - 1) j (λ z. ne (omega arith))) 1 n (omega arith) some (omega arith) in
        ap (λ (ps : List Part). length ps) (behind (id - 1) ∙ ap (map f) one)
    audience_at id false some low e =
        let nobody : (j : ℕ) → 1 ≤ j → test (id - 1) (conn_at j) ≡ false = λ j first. at j first (cases_eq j id) in
        ap (λ (ps : List Part). length ps) (behind (id - 1) ∙ ap (map f) (none_in_range conn_at (test (id - 1)) nobody 1 n (omega arith)))
      where
        at : (j : ℕ) → 1 ≤ j → (j ≡ id) ⊎ (j ≡ id → ⊥) → test (id - 1) (conn_at j) ≡ false
        at j first (inl is) = ap (λ (k : ℕ). test (id - 1) (conn_at k)) is ∙ here id false e
        at j first (inr ne) = elsewhere (id - 1) j (λ z. ne (omega arith))

    pub audience_past : (c : ℕ) → n ≤ c → length (parts_at c (map f (those T (map conn_at (range_with_len 1 n))))) ≡ 0
    audience_past c past =
        let none = none_before conn_at (test c) (c + 1) (λ j ne first. elsewhere c j (λ z. ne (omega arith))) 1 n (omega arith) (omega arith) in
        ap (λ (ps : List Part). length ps) (behind c ∙ ap (map f) none)

-- what is planned for a message: it leaves the desk as it is, and offers it to those that it is for
pub record IsPlanned (n : ℕ) (m : Message) (d : Desk) (p : Plan) : Type 0 where
  pub next : p.next ≡ d
  pub offers : OffersOnly p.parts
  pub here : (id : ℕ) → 1 ≤ id → id ≤ n → length (parts_at (id - 1) p.parts) ≡ cond (is_for id m) 1 0
  pub nobody : (c : ℕ) → n ≤ c → length (parts_at c p.parts) ≡ 0
  pub all : (outs : List Answer) → part_behind p.parts outs ≡ None → length p.parts ≤ length outs
