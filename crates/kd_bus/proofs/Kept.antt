-- What a connection keeps is what its pass has in hand, through each call.
use Rattle.std.specs.Prelude.{◌≡◌, ◌≢◌, ◌<◌, ℕ, zero, suc, ◌==◌, ◌&&◌, ◌||◌, Bool, true, false, not, cond, List, [], ◌∷◌, get_or, set, length, slice_index_or, Option, Some, None, Result, Ok, Err, OnErr, OnOk, refl}
use Rattle.std.proofs.lemmas.Map.Views.{any-filter_same}
use Rattle.std.proofs.Common.{sym, ap, ◌∙◌, subst, arith, eq-eqb, eqb-true, ne_eqb, length-set, get_or-set_same, get_or-set_other}
use mathlib.Core.Logic.{dite}
use native.Mathlib.Decide.{ℕ_discrete}
use Rattle.kd_types.specs.declared.refusal.Refusal.{Refusal}
use Rattle.kd_acts.specs.declared.receive.Got.{Got}
use Rattle.kd_acts.specs.declared.receive.RecvMode.{RecvMode}
use Rattle.kd_acts.specs.State.{Answer, bytes_of, done, drained, freed, gone, got, placed, receive, refused, slice}
use Rattle.kd_acts.specs.Steps.{answer}
use Rattle.kd_acts.specs.Lasting.{hands_over}
use Rattle.kd_world.specs.Hands as hands
use Rattle.kd_world.specs.declared.told.Told.{Told}
use Rattle.kd_world.specs.declared.told.Told.TheVariants.{Peeked, Handed}
use Rattle.kd_hands.specs.declared.views.Part.{Part}
use Rattle.kd_hands.specs.declared.views.View.{View}
use Rattle.kd_hands.specs.Lists.{hand_has, hand_without}
use Rattle.kd_hands.specs.Views.{part, hand, blank}
use Rattle.kd_hands.proofs.Hands.{gone_from}
use Rattle.kd_turn.specs.Sight.{Sight}
use Rattle.kd_turn.specs.Told.{Marked}
use Rattle.kd_histories.specs.Seats.{Sitter, sitter}
use Rattle.kd_commands.specs.declared.who.WhoKind.TheVariants as who
use Rattle.kd_histories.specs.Turns.{Turn}
use Rattle.kd_histories.specs.Pools.{hold_of}
use Rattle.kd_histories.specs.Lent.{hand_by, hand_received}
use Rattle.kd_histories.specs.Puts.{IsOwn}
use Rattle.kd_bus.specs.declared.conn.Conn.{Conn}
use Rattle.kd_world.specs.State.{Pending}
use Rattle.kd_holds.specs.declared.pending.Published.{Published}
use Rattle.kd_bus.specs.Turned.{Belongs, IsNew, Publishes, Receives, hand_answer, is_kept}

-- the numbers that are kept are those in hand
abbrev IsSame : List (Option Told) → List ℕ → Type 0
IsSame told xs = (n : ℕ) → hand_has n xs ≡ is_kept (get_or told n None)

-- ---- a receive

kept_told : (mode : RecvMode) → is_kept (hands.told_by mode) ≡ hands_over mode
kept_told mode = go mode.peek mode.drop_it
  where
    go : (p d : Bool) → is_kept (elim d as (λ d. Option Told) [ true ↦ None | false ↦ Some (elim p [ true ↦ Peeked | false ↦ Handed ]) ]) ≡ (not p && not d)
    go true true = refl
    go true false = refl
    go false true = refl
    go false false = refl

same_told : (told : List (Option Told)) (xs : List ℕ) (n : ℕ) (t : Option Told) (b : Bool) → n < length told → hand_has n xs ≡ false → is_kept t ≡ b → IsSame told xs → IsSame (set told n t) (cond b (n ∷ xs) xs)
same_told told xs n t b lt off is same k = dite (ℕ_discrete k n) (λ z. here z b is) (λ ne. there ne b)
  where
    here : k ≡ n → (b : Bool) → is_kept t ≡ b → hand_has k (cond b (n ∷ xs) xs) ≡ is_kept (get_or (set told n t) k None)
    here z true i = ap (λ c. c || hand_has k xs) (eq-eqb n k (sym z)) ∙ sym (ap (λ (j : ℕ). is_kept (get_or (set told n t) j None)) z ∙ (ap is_kept (get_or-set_same told n t None lt) ∙ i))
    here z false i = ap (λ (j : ℕ). hand_has j xs) z ∙ (off ∙ sym (ap (λ (j : ℕ). is_kept (get_or (set told n t) j None)) z ∙ (ap is_kept (get_or-set_same told n t None lt) ∙ i)))

    there : k ≢ n → (b : Bool) → hand_has k (cond b (n ∷ xs) xs) ≡ is_kept (get_or (set told n t) k None)
    there ne true = ap (λ c. c || hand_has k xs) (ne_eqb n k (λ z. ne (sym z))) ∙ (same k ∙ sym (ap is_kept (get_or-set_other told n k t None ne)))
    there ne false = same k ∙ sym (ap is_kept (get_or-set_other told n k t None ne))

received_same : (mode : RecvMode) (o : Answer) (told : List (Option Told)) (xs : List ℕ) → length told ≡ 256 → IsNew o xs → IsSame told xs
    → IsSame (hands.hand_received mode o told) (hand_received mode o xs)
received_same mode (got n offset len dropped) told xs long new same = same_told told xs n (hands.told_by mode) (hands_over mode) (let lt = new.0 in omega (arith, long, lt)) new.1 (kept_told mode) same
received_same mode done told xs long new same = same
received_same mode placed told xs long new same = same
received_same mode gone told xs long new same = same
received_same mode freed told xs long new same = same
received_same mode (slice n) told xs long new same = same
received_same mode (refused why) told xs long new same = same
received_same mode (drained images) told xs long new same = same
received_same mode (bytes_of bytes) told xs long new same = same

received_long : (mode : RecvMode) (o : Answer) (told : List (Option Told)) → length (hands.hand_received mode o told) ≡ length told
received_long mode (got n offset len dropped) told = length-set told n (hands.told_by mode)
received_long mode done told = refl
received_long mode placed told = refl
received_long mode gone told = refl
received_long mode freed told = refl
received_long mode (slice n) told = refl
received_long mode (refused why) told = refl
received_long mode (drained images) told = refl
received_long mode (bytes_of bytes) told = refl

pub receives_belong : (c : Conn) (mode : RecvMode) (r : Result Got Refusal) (new : List (Option Told)) (v v' : View Turn) → Belongs v c → Receives c.seat mode r c.hand new v v' → Belongs v' (record c { hand = new })
unfolding hand_by
receives_belong c mode r new v v' b it = record {
  low = b.low;
  sized = ap (λ (xs : List (Option Told)). length xs) it.hand_is ∙ (received_long mode (answer (hold_of it.list) (receive mode)) c.hand ∙ b.sized);
  own = subst (λ (p : Part Turn). IsOwn p.own c.generation (who.Conn c.id c.seat)) (sym (it.turn.others 0 (λ z. omega arith))) b.own;
  kept = λ n. ap (hand_has n) it.turn.hand_is
      ∙ (received_same mode (answer (hold_of it.list) (receive mode)) c.hand (hand v (suc c.seat)) b.sized it.is_new b.kept n ∙ ap (λ told. is_kept (get_or told n None)) (sym it.hand_is));
}

-- ---- a publishing

-- changes no hand
pub publishes_belong : (q : Pending) (r : Published) (v v' : View Turn) (c : Conn) → Belongs v c → Publishes q r v v' → Belongs v' c
unfolding hand_by
publishes_belong q r v v' c b it = record {
  low = b.low;
  sized = b.sized;
  own = subst (λ (p : Part Turn). IsOwn p.own c.generation (who.Conn c.id c.seat)) (sym (it.turn.others 0 (λ z. omega arith))) b.own;
  kept = λ n. ap (hand_has n) (dite (ℕ_discrete (suc c.seat) (suc q.seat))
      (λ z. ap (λ (k : ℕ). hand v' k) z ∙ (it.turn.hand_is ∙ ap (λ (k : ℕ). hand v k) (sym z)))
      (λ ne. it.turn.other_hands (suc c.seat) ne)) ∙ b.kept n;
}

-- ---- a release

other_from : (n m : ℕ) (xs : List ℕ) → n ≢ m → hand_has n (hand_without m xs) ≡ hand_has n xs
other_from n m xs ne = any-filter_same (λ x. x == n) (λ x. not (x == m)) (not (n == m)) (λ k e. ap (λ x. not (x == m)) (eqb-true k n e)) xs
    ∙ ap (λ b. not b && hand_has n xs) (ne_eqb n m ne)

-- a number that was told is one of the hand's
pub told_low : (told : List (Option Told)) (n : ℕ) (t : Told) → get_or told n None ≡ Some t → n < length told
told_low [] n t e = absurd cc
told_low (x ∷ xs) zero t e = omega arith
told_low (x ∷ xs) (suc n) t e = let lt = told_low xs n t e in omega (arith, lt)

pub release_belongs : (c : Conn) (m : ℕ) (v v' : View Turn) → Belongs v c → get_or c.hand m None ≡ Some Handed → Marked (suc c.seat) m v v' → Belongs v' (record c { hand = hands.with_told m None c.hand })
release_belongs c m v v' b handed it = record {
  low = b.low;
  sized = length-set c.hand m None ∙ b.sized;
  own = subst (λ (p : Part Turn). IsOwn p.own c.generation (who.Conn c.id c.seat)) (ap (λ ps. slice_index_or ps 0 blank) (sym it.parts)) b.own;
  kept = λ n. ap (hand_has n) it.hand_is ∙ dite (ℕ_discrete n m)
      (λ z. ap (λ (j : ℕ). hand_has j (hand_without m (hand v (suc c.seat)))) z
      ∙ (gone_from m (hand v (suc c.seat)) ∙ sym (ap (λ (j : ℕ). is_kept (get_or (set c.hand m None) j None)) z ∙ ap is_kept (get_or-set_same c.hand m None None (told_low c.hand m Handed handed)))))
      (λ ne. other_from n m (hand v (suc c.seat)) ne ∙ (b.kept n ∙ sym (ap is_kept (get_or-set_other c.hand m n None None ne))));
}

-- what a release asks for
pub kept_in_hand : (c : Conn) (m : ℕ) (v : View Turn) → Belongs v c → get_or c.hand m None ≡ Some Handed → (m < 256) × (hand_has m (hand v (suc c.seat)) ≡ true)
kept_in_hand c m v b handed = let lt = told_low c.hand m Handed handed in let long = b.sized in (omega (arith, lt, long), b.kept m ∙ ap is_kept handed)

pub release_keeps : (c : Conn) (m : ℕ) (p p' : Sight Turn) (new : List (Option Told)) (r : Result (Unit {0}) Refusal) → Belongs p.view c → r ≡ hand_answer (get_or c.hand m None)
    → OnOk r (new ≡ hands.with_told m None c.hand) → OnOk r (Marked (suc c.seat) m p.view p'.view) → OnErr r ((p' ≡ p) × (new ≡ c.hand)) → Belongs p'.view (record c { hand = new })
release_keeps c m p p' new r b a freed_ok marked_ok kept_err = go (get_or c.hand m None) refl
  where
    still : (p' ≡ p) × (new ≡ c.hand) → Belongs p'.view (record c { hand = new })
    still s = subst (λ (q : Sight Turn). Belongs q.view (record c { hand = new })) (sym s.0) (subst (λ h. Belongs p.view (record c { hand = h })) (sym s.1) b)

    go : (t : Option Told) → get_or c.hand m None ≡ t → Belongs p'.view (record c { hand = new })
    go None e = still (subst (λ x. OnErr x ((p' ≡ p) × (new ≡ c.hand))) (a ∙ ap hand_answer e) kept_err)
    go (Some Peeked) e = still (subst (λ x. OnErr x ((p' ≡ p) × (new ≡ c.hand))) (a ∙ ap hand_answer e) kept_err)
    go (Some Handed) e =
        let ok = a ∙ ap hand_answer e in
        subst (λ h. Belongs p'.view (record c { hand = h })) (sym (subst (λ x. OnOk x (new ≡ hands.with_told m None c.hand)) ok freed_ok))
        (release_belongs c m p.view p'.view b e (subst (λ x. OnOk x (Marked (suc c.seat) m p.view p'.view)) ok marked_ok))

-- who made the connection has its seat
pub belongs_sits : (v : View Turn) (c : Conn) → Belongs v c → (t : Sitter) × (sitter c.seat (part v 0).own ≡ Some t)
belongs_sits v c b = (record { pass = b.own.0; generation = c.generation; id = c.id }, b.own.1)

-- ---- connections at other seats

pub receives_others : (s : ℕ) (mode : RecvMode) (r : Result Got Refusal) (old new : List (Option Told)) (v v' : View Turn) (k : Conn) → k.seat ≢ s → Belongs v k → Receives s mode r old new v v' → Belongs v' k
receives_others s mode r old new v v' k ne b it = record {
  low = b.low;
  sized = b.sized;
  own = subst (λ (p : Part Turn). IsOwn p.own k.generation (who.Conn k.id k.seat)) (sym (it.turn.others 0 (λ z. omega arith))) b.own;
  kept = λ n. ap (hand_has n) (it.turn.other_hands (suc k.seat) (λ z. ne (omega (arith, z)))) ∙ b.kept n;
}

pub release_others : (s m : ℕ) (r : Result (Unit {0}) Refusal) (h h' : List (Option Told)) (p p' : Sight Turn) (k : Conn) → k.seat ≢ s → Belongs p.view k → OnOk r (Marked (suc s) m p.view p'.view) → OnErr r ((p' ≡ p) × (h' ≡ h)) → Belongs p'.view k
release_others s m (Ok x) h h' p p' k ne b it same = record {
  low = b.low;
  sized = b.sized;
  own = subst (λ (q : Part Turn). IsOwn q.own k.generation (who.Conn k.id k.seat)) (ap (λ ps. slice_index_or ps 0 blank) (sym it.parts)) b.own;
  kept = λ n. ap (hand_has n) (it.other_hands (suc k.seat) (λ z. ne (omega (arith, z)))) ∙ b.kept n;
}
release_others s m (Err why) h h' p p' k ne b it same = subst (λ (q : Sight Turn). Belongs q.view k) (sym same.0) b
