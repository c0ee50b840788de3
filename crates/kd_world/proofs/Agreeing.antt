-- Hands agree with pools: what each event that acts at a pool keeps.
use Rattle.std.specs.Prelude.{◌≡◌, ◌≢◌, ◌<◌, ◌==◌, ◌&&◌, ℕ, Bool, true, false, not, List, length, get_or, set, refl, Option, Some, None}
use Rattle.std.proofs.Common.{ap, sym, subst, ◌∙◌, eq-eqb, ne_eqb, get_or-set_other, get_or-set_same}
use Rattle.std.proofs.lemmas.Bool.{true≢false}
use mathlib.Core.Logic.{dite}
use native.Mathlib.Decide.{ℕ_discrete}
use Rattle.kd_types.specs.declared.creds.Kind.{Kind}
use Rattle.kd_acts.specs.declared.receive.RecvMode.{RecvMode}
use Rattle.kd_acts.specs.State.{Act, Answer, Hold, by_desk, close, drain, free, idle, offer, post, publish, raise, read, receive, settle}
use Rattle.kd_acts.specs.Steps.{after, answer}
use Rattle.kd_acts.specs.Lasting.{AreNumbered, handed_after, hands_over, is_handed_in, is_let_be, is_open, open_after}
use Rattle.kd_commands.specs.declared.who.WhoKind.{WhoKind}
use Rattle.kd_commands.specs.declared.who.WhoKind.TheVariants as who
use Rattle.kd_commands.specs.State.{Desk, is_holder}
use Rattle.kd_commands.specs.Seating.{AreSeated, IsElsewhere, IsKnown}
use Rattle.kd_world.specs.declared.told.Told.{Told}
use Rattle.kd_world.specs.declared.told.Told.TheVariants.{Peeked, Handed}
use Rattle.kd_world.specs.Hands.{told_by}
use Rattle.kd_world.specs.Agreed.{is_told_handed}
use Rattle.kd_acts.proofs.Handed.{handed_follows}
use Rattle.kd_acts.proofs.Lasting.{open_follows, numbers_stay}

-- the function, but for one place
abbrev pub but_at : {A : Type 0} → (ℕ → A) → ℕ → A → ℕ → A
but_at f l a k = elim (k == l) [ true ↦ a | false ↦ f k ]

module _ {A : Type 0} where
  pub here : (f : ℕ → A) (l : ℕ) (a : A) → but_at f l a l ≡ a
  here f l a = ap (λ b. elim b [ true ↦ a | false ↦ f l ]) (eq-eqb l l refl)

  pub there : (f : ℕ → A) (l k : ℕ) (a : A) → k ≢ l → but_at f l a k ≡ f k
  there f l k a n = ap (λ b. elim b [ true ↦ a | false ↦ f k ]) (ne_eqb k l n)

  -- what holds of the new value, and of all others as they were, holds of each
  pub each : (P : ℕ → A → Type 0) (f : ℕ → A) (l : ℕ) (a : A) → P l a → ((k : ℕ) → k ≢ l → P k (f k)) → (k : ℕ) → P k (but_at f l a k)
  each P f l a new old k = dite (ℕ_discrete k l)
      (λ e. subst (λ i. P i (but_at f l a i)) (sym e) (subst (P l) (sym (here f l a)) new))
      (λ n. subst (P k) (sym (there f l k a n)) (old k n))

  -- setting an element of a list
  pub set_reads : (xs : List A) (l k : ℕ) (a d : A) → l < length xs → get_or (set xs l a) k d ≡ but_at (λ i. get_or xs i d) l a k
  set_reads xs l k a d lt = each (λ i x. get_or (set xs l a) i d ≡ x) (λ i. get_or xs i d) l a (get_or-set_same xs l a d lt) (λ i n. get_or-set_other xs l i a d n) k

-- what the law needs of a caller
pub record Face : Type 0 where
  pub member : WhoKind
  pub kind : Kind
  pub hand : List (Option Told)

abbrev pub has : Face → ℕ → Bool
has f n = is_told_handed (get_or f.hand n None)

-- a connection that has a pool of its own
pub record Sits (f : Face) : Type 0 where
  pub id : ℕ
  pub seat : ℕ
  pub member : f.member ≡ who.Conn id seat
  pub kind : is_holder f.kind ≡ false

-- hands agree with pools, where the up ones are these
pub record Agrees (d : Desk) (pool : ℕ → Hold) (face : ℕ → Face) (up : ℕ → Bool) : Type 0 where
  pub seated : AreSeated d
  pub numbered : (s : ℕ) → AreNumbered (pool s).pool
  pub opens : (s : ℕ) → is_open (pool s) ≡ up s
  pub wide : (i : ℕ) → length (face i).hand ≡ 256
  pub known : (i : ℕ) → IsKnown d (face i).kind (face i).member
  pub bare : (i n : ℕ) → has (face i) n ≡ true → Sits (face i)
  pub apart : (i j id s : ℕ) → j ≢ i → (face i).member ≡ who.Conn id s → IsElsewhere s (face j).member
  pub agreed : (i id s n : ℕ) → (face i).member ≡ who.Conn id s → is_open (pool s) ≡ true → has (face i) n ≡ is_handed_in n (pool s)
  pub unowned : (s n : ℕ) → ((i id : ℕ) → (face i).member ≡ who.Conn id s → ⊥) → is_handed_in n (pool s) ≡ false

-- an act of the desk's holder that opens no pool, or one that moves no message into a hand or out
-- of it
abbrev pub is_quiet : Act → Bool
is_quiet (by_desk (raise size)) = false
is_quiet (receive mode) = false
is_quiet (free n) = false
is_quiet _ = true

-- it hands over nothing, and where it leaves the pool up nothing is taken back
pub quiet_hands : (a : Act) (o : Answer) (n : ℕ) → is_quiet a ≡ true → handed_after a o n false ≡ false
quiet_hands (by_desk (raise size)) o n q = absurd (true≢false (sym q))
quiet_hands (by_desk (close force)) o n q = go (is_let_be force o)
  where
    go : (b : Bool) → (b && false) ≡ false
    go true = refl
    go false = refl
quiet_hands (by_desk (offer user len source must content)) o n q = refl
quiet_hands (by_desk (post image)) o n q = refl
quiet_hands (by_desk drain) o n q = refl
quiet_hands (by_desk (settle images)) o n q = refl
quiet_hands (publish generation number content) o n q = refl
quiet_hands (receive mode) o n q = absurd (true≢false (sym q))
quiet_hands (read number wants) o n q = refl
quiet_hands (free number) o n q = absurd (true≢false (sym q))
quiet_hands idle o n q = refl

both : (a b c : Bool) → (a && b) ≡ true → (b ≡ true) × ((a && c) ≡ c)
both true b c e = (e, refl)
both false b c e = absurd (true≢false (sym e))

pub quiet_keeps : (a : Act) (o : Answer) (n : ℕ) (up was : Bool) → is_quiet a ≡ true → open_after a o up ≡ true → (up ≡ true) × (handed_after a o n was ≡ was)
quiet_keeps (by_desk (raise size)) o n up was q e = absurd (true≢false (sym q))
quiet_keeps (by_desk (close force)) o n up was q e = both (is_let_be force o) up was e
quiet_keeps (by_desk (offer user len source must content)) o n up was q e = (e, refl)
quiet_keeps (by_desk (post image)) o n up was q e = (e, refl)
quiet_keeps (by_desk drain) o n up was q e = (e, refl)
quiet_keeps (by_desk (settle images)) o n up was q e = (e, refl)
quiet_keeps (publish generation number content) o n up was q e = (e, refl)
quiet_keeps (receive mode) o n up was q e = absurd (true≢false (sym q))
quiet_keeps (read number wants) o n up was q e = (e, refl)
quiet_keeps (free number) o n up was q e = absurd (true≢false (sym q))
quiet_keeps idle o n up was q e = (e, refl)

-- one connection has one seat
pub same_seat : (m : WhoKind) (id s id' s' : ℕ) → m ≡ who.Conn id s → m ≡ who.Conn id' s' → s' ≡ s
same_seat m id s id' s' e f = ap (λ (x : WhoKind). elim x [ who.Fresh ↦ s | who.Conn i t ↦ t | who.Keeper k ↦ s | who.Old o ↦ s ]) (sym f ∙ e)

module _ (d : Desk) (pool : ℕ → Hold) (face : ℕ → Face) (up : ℕ → Bool) (r : Agrees d pool face up) (s : ℕ) (a : Act) where
  abbrev now : Hold
  now = after (pool s) a

  abbrev pools : ℕ → Hold
  pools = but_at pool s now

  abbrev said : Answer
  said = answer (pool s) a

  still_numbered : (k : ℕ) → AreNumbered (pools k).pool
  still_numbered = each (λ k h. AreNumbered h.pool) pool s now (numbers_stay (pool s) a (r.numbered s)) (λ k _. r.numbered k)

  -- an act at a pool that moves nothing into a hand or out of it, and opens none that anybody sits
  -- at
  module _ (up' : ℕ → Bool) (opened : (k : ℕ) → is_open (pools k) ≡ up' k)
      (none : (n : ℕ) → is_handed_in n (pool s) ≡ false → is_handed_in n now ≡ false)
      (keeps : (i id n : ℕ) → (face i).member ≡ who.Conn id s → is_open now ≡ true → (is_open (pool s) ≡ true) × (is_handed_in n now ≡ is_handed_in n (pool s))) where
    acted : Agrees d pools face up'
    acted = record {
      seated = r.seated;
      numbered = still_numbered;
      opens = opened;
      wide = r.wide;
      known = r.known;
      bare = r.bare;
      apart = r.apart;
      agreed = λ i id k n. each (λ k h. (face i).member ≡ who.Conn id k → is_open h ≡ true → has (face i) n ≡ is_handed_in n h) pool s now
          (λ m o. let q = keeps i id n m o in r.agreed i id s n m q.0 ∙ sym q.1) (λ k _. r.agreed i id k n) k;
      unowned = λ k n. each (λ k h. ((i id : ℕ) → (face i).member ≡ who.Conn id k → ⊥) → is_handed_in n h ≡ false) pool s now
          (λ no. none n (r.unowned s n no)) (λ k _. r.unowned k n) k;
    }

  pub acted_quietly : (up' : ℕ → Bool) → ((k : ℕ) → is_open (pools k) ≡ up' k) → is_quiet a ≡ true → Agrees d pools face up'
  acted_quietly up' opened q = acted up' opened
      (λ n e. handed_follows (pool s) a n (r.numbered s) ∙ ap (handed_after a said n) e ∙ quiet_hands a said n q)
      (λ i id n m o. let k = quiet_keeps a said n (is_open (pool s)) (is_handed_in n (pool s)) q (sym (open_follows (pool s) a) ∙ o) in
      (k.0, handed_follows (pool s) a n (r.numbered s) ∙ k.1))

  -- a pool is opened at a seat that nobody has
  pub raised : (up' : ℕ → Bool) → ((k : ℕ) → is_open (pools k) ≡ up' k) → (size : ℕ) → a ≡ by_desk (raise size)
      → ((i id : ℕ) → (face i).member ≡ who.Conn id s → ⊥) → Agrees d pools face up'
  raised up' opened size is nobody = acted up' opened
      (λ n e. handed_follows (pool s) a n (r.numbered s) ∙ ap (λ x. handed_after x said n (is_handed_in n (pool s))) is)
      (λ i id n m o. absurd (nobody i id m))

  -- the caller of this seat comes to another hand by the act
  module _ (i id : ℕ) (m : (face i).member ≡ who.Conn id s) (kind : is_holder (face i).kind ≡ false) (hand : List (Option Told)) (long : length hand ≡ 256)
      (opened : is_open now ≡ is_open (pool s))
      (told : (n : ℕ) → is_open (pool s) ≡ true → is_told_handed (get_or hand n None) ≡ is_handed_in n now) where
    abbrev mine : Face
    mine = record (face i) { hand = hand }

    abbrev faces : ℕ → Face
    faces = but_at face i mine

    same_member : (j : ℕ) → (face j).member ≡ (faces j).member
    same_member = each (λ j f. (face j).member ≡ f.member) face i mine refl (λ j _. refl)

    pub used : Agrees d pools faces up
    used = record {
      seated = r.seated;
      numbered = still_numbered;
      opens = each (λ k h. is_open h ≡ up k) pool s now (opened ∙ r.opens s) (λ k _. r.opens k);
      wide = each (λ j f. length f.hand ≡ 256) face i mine long (λ j _. r.wide j);
      known = each (λ j f. IsKnown d f.kind f.member) face i mine (r.known i) (λ j _. r.known j);
      bare = λ j n. each (λ j f. has f n ≡ true → Sits f) face i mine (λ _. record { id = id; seat = s; member = m; kind = kind }) (λ j _. r.bare j n) j;
      apart = λ j k id' t ne e. subst (IsElsewhere t) (same_member k) (r.apart j k id' t ne (same_member j ∙ e));
      agreed = λ j id' t n. each (λ j f. f.member ≡ who.Conn id' t → is_open (pools t) ≡ true → has f n ≡ is_handed_in n (pools t)) face i mine
          (λ e o. let t_is : t ≡ s = same_seat (face i).member id s id' t m e in
          subst (λ t. is_open (pools t) ≡ true → has mine n ≡ is_handed_in n (pools t)) (sym t_is)
          (λ o. told n (sym opened ∙ sym (ap is_open (here pool s now)) ∙ o) ∙ sym (ap (is_handed_in n) (here pool s now))) o)
          (λ j ne e o.
          let elsewhere : t ≢ s = λ z. apart_is (face j).member id' t s e (r.apart i j id s ne m) (sym z) in
          let same : pools t ≡ pool t = there pool s t now elsewhere in
          r.agreed j id' t n e (sym (ap is_open same) ∙ o) ∙ sym (ap (is_handed_in n) same)) j;
      unowned = λ k n. each (λ k h. ((j id' : ℕ) → (faces j).member ≡ who.Conn id' k → ⊥) → is_handed_in n h ≡ false) pool s now
          (λ no. absurd (no i id (sym (same_member i) ∙ m))) (λ k _ no. r.unowned k n (λ j id' e. no j id' (sym (same_member j) ∙ e))) k;
    }
      where
        apart_is : (w : WhoKind) (id' t s : ℕ) → w ≡ who.Conn id' t → IsElsewhere s w → s ≡ t → ⊥
        apart_is w id' t s e f z = let g : IsElsewhere s (who.Conn id' t) = subst (IsElsewhere s) e f in g z

-- ---- a receive and a free, on the hand

abbrev pub mode_tells : RecvMode → Bool
mode_tells mode = is_told_handed (told_by mode)

pub told_if_handed : (mode : RecvMode) → is_told_handed (told_by mode) ≡ hands_over mode
told_if_handed mode = go mode.peek mode.drop_it
  where
    go : (peek drop_it : Bool) → is_told_handed (elim drop_it [ true ↦ None | false ↦ Some (elim peek [ true ↦ Peeked | false ↦ Handed ]) ]) ≡ (not peek && not drop_it)
    go true true = refl
    go true false = refl
    go false true = refl
    go false false = refl
