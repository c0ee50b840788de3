-- One entry more at the end of a list.
use Rattle.std.specs.Prelude.{◌≡◌, ℕ, ◌==◌, Bool, cond, List, [], ◌∷◌, ◌++◌, Option, refl}
use Rattle.std.proofs.Common.{sym, ap, ◌∙◌, append_assoc}
use Rattle.std.proofs.lemmas.List.{append-nil}
use Rattle.kd_acts.specs.State.{Hold, Visit, Answer, by_desk}
use Rattle.kd_acts.specs.Lasting.{open_after}
use Rattle.kd_histories.specs.Turns.{Turn}
use Rattle.kd_histories.specs.Slots.{Slot, slot_after, slot_from, IsTold, AreTold}
use Rattle.kd_histories.specs.Visits.{addressed, addressed_by, made_by_turn, visits_made, visits_opened}
use Rattle.kd_histories.specs.Seats.{Sitter, move_of, sitter_after, sitter_from, IsFair, AreFair}
use Rattle.kd_histories.specs.Pools.{hold_after, hold_from, IsDoneTurn, AreDone}
use Rattle.kd_histories.specs.Pairs.{Due, due_by, due_from, IsPaired, ArePaired}
use Rattle.kd_histories.specs.Known.{open_by}

pub slot_snoc : (s : Slot) (xs : List (ℕ × Turn)) (x : ℕ × Turn) → slot_from s (xs ++ x ∷ []) ≡ slot_after x.1 (slot_from s xs)
unfolding slot_from
slot_snoc s [] x = refl
slot_snoc s (y ∷ ys) x = slot_snoc (slot_after y.1 s) ys x

pub addressed_snoc : (c : ℕ) (s : Slot) (xs : List (ℕ × Turn)) (x : ℕ × Turn) → addressed c s (xs ++ x ∷ []) ≡ addressed c s xs ++ addressed_by c (slot_from s xs) x.1
unfolding addressed slot_from
addressed_snoc c s [] x = append-nil (addressed_by c s x.1)
addressed_snoc c s (y ∷ ys) x =
    let s' : Slot = slot_after y.1 s in
    let here : List (Visit × Answer) = addressed_by c s y.1 in
    ap (λ zs. here ++ zs) (addressed_snoc c s' ys x) ∙ sym (append_assoc here (addressed c s' ys) (addressed_by c (slot_from s' ys) x.1))

pub told_snoc : (s : Slot) (xs : List (ℕ × Turn)) (x : ℕ × Turn) → AreTold s xs → IsTold (slot_from s xs) x.1 → AreTold s (xs ++ x ∷ [])
unfolding AreTold slot_from
told_snoc s [] x all one = (one, tt)
told_snoc s (y ∷ ys) x all one = (all.0, told_snoc (slot_after y.1 s) ys x all.1 one)

pub sitter_snoc : (c : ℕ) (k : Option Sitter) (xs : List (ℕ × Turn)) (x : ℕ × Turn) → sitter_from c k (xs ++ x ∷ []) ≡ sitter_after c x.0 (move_of x.1) (sitter_from c k xs)
unfolding sitter_from
sitter_snoc c k [] x = refl
sitter_snoc c k (y ∷ ys) x = sitter_snoc c (sitter_after c y.0 (move_of y.1) k) ys x

pub fair_snoc : (c : ℕ) (k : Option Sitter) (xs : List (ℕ × Turn)) (x : ℕ × Turn) → AreFair c k xs → IsFair c x.0 x.1 (sitter_from c k xs) → AreFair c k (xs ++ x ∷ [])
unfolding AreFair sitter_from
fair_snoc c k [] x fair one = (one, tt)
fair_snoc c k (y ∷ ys) x fair one = (fair.0, fair_snoc c (sitter_after c y.0 (move_of y.1) k) ys x fair.1 one)

pub hold_snoc : (h : Hold) (xs : List (ℕ × Turn)) (x : ℕ × Turn) → hold_from h (xs ++ x ∷ []) ≡ hold_after x.1 (hold_from h xs)
unfolding hold_from
hold_snoc h [] x = refl
hold_snoc h (y ∷ ys) x = hold_snoc (hold_after y.1 h) ys x

pub done_snoc : (h : Hold) (xs : List (ℕ × Turn)) (x : ℕ × Turn) → AreDone h xs → IsDoneTurn (hold_from h xs) x.1 → AreDone h (xs ++ x ∷ [])
unfolding AreDone hold_from
done_snoc h [] x all one = (one, tt)
done_snoc h (y ∷ ys) x all one = (all.0, done_snoc (hold_after y.1 h) ys x all.1 one)

pub made_snoc : (xs : List (ℕ × Turn)) (x : ℕ × Turn) → visits_made (xs ++ x ∷ []) ≡ visits_made xs ++ made_by_turn x.1
unfolding visits_made
made_snoc [] x = append-nil (made_by_turn x.1)
made_snoc (y ∷ ys) x = ap (λ zs. made_by_turn y.1 ++ zs) (made_snoc ys x) ∙ sym (append_assoc (made_by_turn y.1) (visits_made ys) (made_by_turn x.1))

pub opened_snoc : (l : ℕ) (xs : List (ℕ × ℕ × Turn)) (x : ℕ × ℕ × Turn) → visits_opened l (xs ++ x ∷ []) ≡ visits_opened l xs ++ cond (x.0 == l) (made_by_turn x.2) []
unfolding visits_opened
opened_snoc l [] x = append-nil (cond (x.0 == l) (made_by_turn x.2) [])
opened_snoc l (y ∷ ys) x =
    ap (λ zs. cond (y.0 == l) (made_by_turn y.2) [] ++ zs) (opened_snoc l ys x)
    ∙ sym (append_assoc (cond (y.0 == l) (made_by_turn y.2) []) (visits_opened l ys) (cond (x.0 == l) (made_by_turn x.2) []))

pub due_snoc : (n : ℕ) (k : Option Due) (xs : List (ℕ × Turn)) (x : ℕ × Turn) → due_from n k (xs ++ x ∷ []) ≡ due_by n x.0 x.1 (due_from n k xs)
unfolding due_from
due_snoc n k [] x = refl
due_snoc n k (y ∷ ys) x = due_snoc n (due_by n y.0 y.1 k) ys x

pub paired_snoc : (n : ℕ) (k : Option Due) (xs : List (ℕ × Turn)) (x : ℕ × Turn) → ArePaired n k xs → IsPaired n x.0 x.1 (due_from n k xs) → ArePaired n k (xs ++ x ∷ [])
unfolding ArePaired due_from
paired_snoc n k [] x all one = (one, tt)
paired_snoc n k (y ∷ ys) x all one = (all.0, paired_snoc n (due_by n y.0 y.1 k) ys x all.1 one)

pub open_append : (xs ys : List (Visit × Answer)) (b : Bool) → open_by (xs ++ ys) b ≡ open_by ys (open_by xs b)
unfolding open_by
open_append [] ys b = refl
open_append (x ∷ xs) ys b = open_append xs ys (open_after (by_desk x.0) x.1 b)
