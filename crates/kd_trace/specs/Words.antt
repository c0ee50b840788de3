-- The words of a run.
use Rattle.std.specs.Prelude.{◌≡◌, List, [], ◌∷◌, ℕ, codes}
use Rattle.std.specs.Borrow.{Bor}

-- the words are this one and no other
abbrev pub AreOnly : List ℕ → List (Bor (List ℕ)) → Type 0
AreOnly only [] = ⊥
AreOnly only (w ∷ []) = w.now ≡ only
AreOnly only (w ∷ v ∷ ws) = ⊥

-- the one word of a check
abbrev pub AreCheck : List (Bor (List ℕ)) → Type 0
AreCheck words = AreOnly (codes "check") words

-- the one word of a record
abbrev pub AreRecord : List (Bor (List ℕ)) → Type 0
AreRecord words = AreOnly (codes "record") words
