-- The connections of a load come to its bus, one after the other.
use Rattle.std.proofs.Common.{◌≡◌, ◌<◌, ◌≤◌, ◌==◌, ◌⊎◌, inl, inr, ℕ, zero, suc, ◌+◌, ◌-◌, ◌/◌, Bool, true, false, cond, take, get_or, List, [], ◌∷◌, ◌++◌, map, length, refl, ap, sym, ◌∙◌, arith}
use Rattle.std.specs.Prelude.{◌&&◌, not, Ok, Some, None}
use Rattle.std.specs.List.{range_with_len}
use Rattle.kd_model.specs.Words.{first, first_that_holds, put_in_order, some_of, those}
use Rattle.kd_wire.specs.declared.reply.Reply.TheVariants as reply
use Rattle.kd_wire.specs.declared.item.WireItem.TheVariants as item
use Rattle.kd_acts.specs.State.{raise}
use Rattle.kd_match.specs.Told as told
use Rattle.kd_match.specs.Told.{condition_holds}
use Rattle.kd_match.specs.Rules.{comes_before, rule_admits, rules_of, with_rule}
use Rattle.kd_match.specs.declared.condition.Condition.TheVariants as condition
use Rattle.kd_match.specs.declared.rule.Rule.{Rule}
use Rattle.kd_bloom.specs.Bits.{pieces}
use Rattle.kd_commands.specs.declared.conn.Conn.{Conn}
use Rattle.kd_commands.specs.declared.who.WhoKind.TheVariants as who
use Rattle.kd_commands.specs.State.{Desk, conn_of, has_id, sits_before}
use Rattle.kd_commands.specs.Hello.{Asked, free_seat, hello, hello_refusals, is_free, newcomer, with_newcomer}
use Rattle.kd_commands.specs.Matches.{match_add, match_refusals, with_rule_of}
use Rattle.kd_commands.specs.Audience.{audience, id_add, is_shown, is_told}
use Rattle.kd_commands.specs.Plans.{itself, unless}
use Rattle.kd_commands.specs.Step.{plan}
use Rattle.kd_load.specs.Bus.{conn_at, hello_command, loaded_desk, rule_at, rule_command, sender_at, user}
use Rattle.kd_load.specs.Counts.{digit_of}
use Rattle.std.proofs.lemmas.Bool.{cases_eq}
use Rattle.kd_load.proofs.Ranges.{first_in_range, none_before, none_in_range, other_number, same_number}

-- one more at the end of a range
range_more : {X : Type 0} (f : ℕ → X) (a n : ℕ) → map f (range_with_len a (suc n)) ≡ map f (range_with_len a n) ++ f (a + n) ∷ []
range_more f a zero = ap (λ (k : ℕ). f k ∷ []) (omega arith)
range_more f a (suc n) = ap (λ xs. f a ∷ xs) (range_more f (a + 1) n ∙ ap (λ (k : ℕ). map f (range_with_len (a + 1) n) ++ f k ∷ []) (omega arith))

-- what is above all others goes to the end
put_last : {X : Type 0} (below : X → X → Bool) (f : ℕ → X) (x : X) → (a n : ℕ) → ((j : ℕ) → a ≤ j → j < a + n → below x (f j) ≡ false) → put_in_order below x (map f (range_with_len a n)) ≡ map f (range_with_len a n) ++ x ∷ []
put_last below f x a zero none = refl
put_last below f x a (suc n) none = rw (none a (omega arith) (omega arith)) (ap (λ xs. f a ∷ xs) (put_last below f x (a + 1) n (λ j low high. none j (omega arith) (omega arith))))

-- ---- seats

-- the seats below a number are taken, and no other is
is_taken : (j a n : ℕ) → 1 ≤ a → a ≤ j + 1 → j + 1 < a + n → some_of (λ (c : Conn). c.seat == j) (map conn_at (range_with_len a n)) ≡ true
is_taken j a zero some low high = absurd (omega arith)
is_taken j a (suc n) some low high = go (cases_eq a (j + 1)) (λ ne. is_taken j (a + 1) n (omega arith) (omega arith) (omega arith))
  where
    go : (a ≡ j + 1) ⊎ (a ≡ j + 1 → ⊥) → ((a ≡ j + 1 → ⊥) → some_of (λ (c : Conn). c.seat == j) (map conn_at (range_with_len (a + 1) n)) ≡ true) → some_of (λ (c : Conn). c.seat == j) (map conn_at (range_with_len a (suc n))) ≡ true
    go (inl is) later = let e : a - 1 ≡ j = omega arith in rw (ap (λ (k : ℕ). k == j) e ∙ same_number j) refl
    go (inr ne) later = rw (other_number (a - 1) j (λ z. ne (omega arith))) (later ne)

is_untaken : (j a n : ℕ) → 1 ≤ a → a + n ≤ j + 1 → some_of (λ (c : Conn). c.seat == j) (map conn_at (range_with_len a n)) ≡ false
is_untaken j a zero some past = refl
is_untaken j a (suc n) some past = rw (other_number (a - 1) j (λ z. omega arith)) (is_untaken j (a + 1) n (omega arith) (omega arith))

first_free : (free : ℕ → Bool) (i : ℕ) → ((j : ℕ) → j < i → free j ≡ false) → free i ≡ true → (a n : ℕ) → a ≤ i → i < a + n → first free (range_with_len a n) ≡ Some i
first_free free i lower here a zero low high = absurd (omega arith)
first_free free i lower here a (suc n) low high = go (cases_eq a i) (λ ne. first_free free i lower here (a + 1) n (omega arith) (omega arith))
  where
    go : (a ≡ i) ⊎ (a ≡ i → ⊥) → ((a ≡ i → ⊥) → first free (range_with_len (a + 1) n) ≡ Some i) → first free (range_with_len a (suc n)) ≡ Some i
    go (inl is) later = rw (ap free is ∙ here) (ap (λ (k : ℕ). Some k) is)
    go (inr ne) later = rw (lower a (omega arith)) (later ne)

take_whole : {X : Type 0} (xs : List X) (k : ℕ) → length xs ≡ k → take k xs ≡ xs
take_whole [] zero e = refl
take_whole [] (suc k) e = refl
take_whole (x ∷ xs) zero e = absurd cc
take_whole (x ∷ xs) (suc k) e = ap (λ ys. x ∷ ys) (take_whole xs k (omega (arith, e)))

module _ (filters : List (List ℕ)) (n : ℕ) (few : n < 64) where
  abbrev D : Desk
  D = loaded_desk filters n

  seat_is : free_seat D ≡ Some n
  unfolding free_seat loaded_desk
  seat_is = first_free (is_free D) n
      (λ j lt. ap (λ (b : Bool). not b && true) (is_taken j 1 n (omega arith) (omega arith) (omega arith)))
      (ap (λ (b : Bool). not b && true) (is_untaken n 1 n (omega arith) (omega arith))) 0 64 (omega arith) (omega arith)

  asked : Asked
  asked = record { flags = record { 0 = 0 }; size = 1048576; send_mask = 0; receive_mask = 0; items = [] }

  comes : newcomer D user asked ≡ conn_at (suc n)
  unfolding newcomer loaded_desk asked
  comes = let id : n + 1 ≡ suc n = omega arith in let seat : n ≡ suc n - 1 = omega arith in rw seat_is (λ t. record (conn_at (suc n)) { id = id t; seat = seat t })

  not_refused : first_that_holds (hello_refusals D (conn_at (suc n)) asked) ≡ None
  unfolding hello_refusals loaded_desk asked
  not_refused = rw seat_is refl

  -- the desk once it came, before its rule
  pub joined : Desk
  joined = record D { conns = map conn_at (range_with_len 1 (suc n)); next_id = suc n + 1 }

  with_it : with_newcomer D (conn_at (suc n)) asked ≡ joined
  unfolding with_newcomer loaded_desk asked joined
  with_it =
      let end : put_in_order sits_before (conn_at (suc n)) (map conn_at (range_with_len 1 n)) ≡ map conn_at (range_with_len 1 (suc n)) =
      put_last sits_before conn_at (conn_at (suc n)) 1 n (λ j low high. grind arith) ∙ (ap (λ (k : ℕ). map conn_at (range_with_len 1 n) ++ conn_at k ∷ []) (omega arith) ∙ sym (range_more conn_at 1 n)) in
      let next : n + 1 + 1 ≡ suc n + 1 = omega arith in
      λ t. record D { conns = end t; next_id = next t }

  -- a mask admits no notice of an id, so nobody is told
  unadmitted : (id : ℕ) (p : Rule → Bool) (a m : ℕ) → some_of (rule_admits (told.id_add id)) (those p (map (rule_at filters) (range_with_len a m))) ≡ false
  unfolding condition_holds
  unadmitted id p a zero = refl
  unadmitted id p a (suc m) = go (p (rule_at filters a)) (unadmitted id p (a + 1) m)
    where
      go : (b : Bool) → some_of (rule_admits (told.id_add id)) (those p (map (rule_at filters) (range_with_len (a + 1) m))) ≡ false
          → some_of (rule_admits (told.id_add id)) (cond b (rule_at filters a ∷ those p (map (rule_at filters) (range_with_len (a + 1) m))) (those p (map (rule_at filters) (range_with_len (a + 1) m)))) ≡ false
      go true later = later
      go false later = later

  nobody_told : (id : ℕ) → audience joined (id_add id) ≡ []
  unfolding audience is_shown joined loaded_desk
  nobody_told id = none_in_range conn_at (is_told joined (id_add id)) (λ j first. rw (unadmitted id (λ (r : Rule). r.id == j) 1 n) (none (not (j == id)))) 1 (suc n) (omega arith)
    where
      none : (b : Bool) → (b && false) ≡ false
      none true = refl
      none false = refl

  hello_is : hello D user asked
      ≡ Ok (record { parts = record { seat = suc n - 1; act = raise 1048576 } ∷ []; reply = reply.Hello (suc n) 64 8; next = joined; becomes = itself (conn_at (suc n)) })
  unfolding hello asked loaded_desk
  hello_is = rw (comes, unless, not_refused, comes, with_it, nobody_told (suc n)) refl

  -- ---- its rule

  no_rule : rules_of (suc n) (map (rule_at filters) (range_with_len 1 n)) ≡ []
  no_rule = none_before (rule_at filters) (λ (r : Rule). r.id == suc n) (suc n) (λ j ne first. other_number j (suc n) ne) 1 n (omega arith) (omega arith)

  abbrev bits : List ℕ
  bits = get_or filters (digit_of (suc n)) []

  module _ (long : length bits ≡ 64) where
    rule_stands : first_that_holds (match_refusals joined (conn_at (suc n)) false 0 (item.Mask bits ∷ [])) ≡ None
    unfolding match_refusals joined loaded_desk
    rule_stands = rw (long, no_rule) refl

    mask_is : pieces (length bits / 64) 64 bits ≡ bits ∷ []
    mask_is = (λ t. pieces (long t / 64) 64 bits) ∙ ap (λ (xs : List ℕ). xs ∷ []) (take_whole bits 64 long)

    with_its_rule : with_rule_of joined (conn_at (suc n)) false 0 (item.Mask bits ∷ []) ≡ loaded_desk filters (suc n)
    unfolding with_rule joined loaded_desk
    with_its_rule =
        let rule : List (List ℕ) → Rule = λ m. record { id = suc n; cookie = 0; conditions = condition.Mask m ∷ [] } in
        let end = put_last comes_before (rule_at filters) (rule (pieces (length bits / 64) 64 bits)) 1 n (λ j low high. grind arith)
        ∙ ((λ t. map (rule_at filters) (range_with_len 1 n) ++ rule (mask_is t) ∷ [])
        ∙ (ap (λ (k : ℕ). map (rule_at filters) (range_with_len 1 n) ++ rule_at filters k ∷ []) (omega arith) ∙ sym (range_more (rule_at filters) 1 n))) in
        λ t. record (loaded_desk filters (suc n)) { rules = record { size = 64; rules = end t } }

    rule_is : match_add joined (conn_at (suc n)) false 0 (item.Mask bits ∷ [])
        ≡ Ok (record { parts = []; reply = reply.MatchAdd; next = loaded_desk filters (suc n); becomes = itself (conn_at (suc n)) })
    unfolding match_add
    rule_is = rw (unless, rule_stands, with_its_rule) refl

    found : conn_of joined (suc n) ≡ Some (conn_at (suc n))
    unfolding joined
    found = first_in_range conn_at (has_id (suc n)) (suc n) (same_number (suc n)) (λ j ne first. other_number j (suc n) ne) 1 (suc n) (omega arith) (omega arith) (omega arith)

    pub rule_planned : plan joined (sender_at (suc n)) (rule_command filters (suc n))
        ≡ Ok (record { parts = []; reply = reply.MatchAdd; next = loaded_desk filters (suc n); becomes = itself (conn_at (suc n)) })
    unfolding plan
    rule_planned = rw (found, plan) rule_is

  pub hello_planned : plan D (record { creds = user; member = who.Fresh }) hello_command
      ≡ Ok (record { parts = record { seat = suc n - 1; act = raise 1048576 } ∷ []; reply = reply.Hello (suc n) 64 8; next = joined; becomes = itself (conn_at (suc n)) })
  unfolding plan asked
  hello_planned = hello_is
