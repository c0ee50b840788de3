-- Words that ask for a work ask for something.
use Rattle.std.proofs.Common.{ℕ, List}
use Rattle.std.specs.Borrow.{Bor}
use Rattle.kd_show.specs.declared.words.Work.{Work}
use Rattle.kd_show.specs.Words.{AskFor, AskForNothing}

pub something : (work : Work) (words : List (Bor (List ℕ))) → AskFor work words → AskForNothing words → ⊥
something work words asked nothing = nothing work asked
