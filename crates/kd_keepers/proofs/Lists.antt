-- Keepers along lists: one entry more at the end, and where a list is cut.
use Rattle.std.specs.Prelude.{◌≡◌, ℕ, List, [], ◌∷◌, ◌++◌, Option, refl}
use Rattle.kd_histories.specs.Turns.{Turn}
use Rattle.kd_histories.specs.Slots.{AreTold, IsTold, Slot, slot_after, slot_from}
use Rattle.kd_histories.specs.Seats.{AreFair, Sitter, IsFair, move_of, sitter_after, sitter_from}
use Rattle.kd_keepers.specs.Keeping.{AreKept, Endpoint, IsKeptAt, change_of, keeping_after, keeping_from}

pub keeping_snoc : (x : Endpoint) (k : Option ℕ) (xs : List (ℕ × Turn)) (e : ℕ × Turn) → keeping_from x k (xs ++ e ∷ []) ≡ keeping_after x e.0 (change_of e.1) (keeping_from x k xs)
unfolding keeping_from
keeping_snoc x k [] e = refl
keeping_snoc x k (y ∷ ys) e = keeping_snoc x (keeping_after x y.0 (change_of y.1) k) ys e

pub kept_snoc : (x : Endpoint) (k : Option ℕ) (xs : List (ℕ × Turn)) (e : ℕ × Turn) → AreKept x k xs → IsKeptAt x e.0 e.1 (keeping_from x k xs) → AreKept x k (xs ++ e ∷ [])
unfolding AreKept keeping_from
kept_snoc x k [] e kept one = (one, tt)
kept_snoc x k (y ∷ ys) e kept one = (kept.0, kept_snoc x (keeping_after x y.0 (change_of y.1) k) ys e kept.1 one)

-- ---- a list that is cut

pub told_cut : (s : Slot) (xs ys : List (ℕ × Turn)) → AreTold s (xs ++ ys) → AreTold s xs × AreTold (slot_from s xs) ys
unfolding AreTold slot_from
told_cut s [] ys all = (tt, all)
told_cut s (x ∷ xs) ys all = let more = told_cut (slot_after x.1 s) xs ys all.1 in ((all.0, more.0), more.1)

pub fair_cut : (c : ℕ) (k : Option Sitter) (xs ys : List (ℕ × Turn)) → AreFair c k (xs ++ ys) → AreFair c k xs × AreFair c (sitter_from c k xs) ys
unfolding AreFair sitter_from
fair_cut c k [] ys all = (tt, all)
fair_cut c k (x ∷ xs) ys all = let more = fair_cut c (sitter_after c x.0 (move_of x.1) k) xs ys all.1 in ((all.0, more.0), more.1)

pub kept_cut : (x : Endpoint) (k : Option ℕ) (xs ys : List (ℕ × Turn)) → AreKept x k (xs ++ ys) → AreKept x k xs × AreKept x (keeping_from x k xs) ys
unfolding AreKept keeping_from
kept_cut x k [] ys all = (tt, all)
kept_cut x k (e ∷ es) ys all = let more = kept_cut x (keeping_after x e.0 (change_of e.1) k) es ys all.1 in ((all.0, more.0), more.1)

-- ---- the entry behind a cut

pub told_first : (s : Slot) (x : ℕ × Turn) (xs : List (ℕ × Turn)) → AreTold s (x ∷ xs) → IsTold s x.1
unfolding AreTold
told_first s x xs all = all.0

pub fair_first : (c : ℕ) (k : Option Sitter) (x : ℕ × Turn) (xs : List (ℕ × Turn)) → AreFair c k (x ∷ xs) → IsFair c x.0 x.1 k
unfolding AreFair
fair_first c k x xs all = all.0

pub kept_first : (x : Endpoint) (k : Option ℕ) (e : ℕ × Turn) (es : List (ℕ × Turn)) → AreKept x k (e ∷ es) → IsKeptAt x e.0 e.1 k
unfolding AreKept
kept_first x k e es all = all.0
