-- Marks stay those of a set of seats.
use Rattle.std.proofs.Common.{[], refl, ap, ◌∙◌}
use Rattle.std.proofs.lemmas.List.{append-nil}
use Rattle.kd_commands.specs.State.{seat_set}
use Rattle.kd_tables.specs.Room.{marked}
use Rattle.kd_tables.proofs.Marks.{all_set, none_set}
use Rattle.kd_tables.proofs.desk.Desk.clear.Goals as goal

pub returns-clause-seats : goal.returns-clause-seats
returns-clause-seats c =
    let gone = c.self.inside.gone in
    all_set gone gone [] (none_set gone gone refl c.self.told) ∙ ap seat_set (append-nil (marked gone))
