-- The words of the command line.
use Rattle.std.specs.Prelude.{◌≡◌, List, [], ◌∷◌, ℕ, codes}
use Rattle.std.specs.Borrow.{Bor}
use Rattle.kd_lines.specs.declared.kind.Kind.TheVariants.{Frames, Replies}
use Rattle.kd_show.specs.declared.words.Work.{Work}
use Rattle.kd_show.specs.declared.words.Work.TheVariants.{Show, Make}

-- the word of each work
abbrev pub word_of : Work → List ℕ
word_of (Show Frames) = codes "frames"
word_of (Show Replies) = codes "replies"
word_of Make = codes "make"

-- the words ask for this work: they are its one word
abbrev pub AskFor : Work → List (Bor (List ℕ)) → Type 0
AskFor work [] = ⊥
AskFor work (w ∷ []) = w.now ≡ word_of work
AskFor work (w ∷ v ∷ ws) = ⊥

-- they ask for nothing that the program does
abbrev pub AskForNothing : List (Bor (List ℕ)) → Type 0
AskForNothing words = (work : Work) → AskFor work words → ⊥
