-- A mark more is a seat more.
use Rattle.std.proofs.Common.{◌≡◌, ℕ, true, List, ◌∷◌, set, ap, ◌∙◌}
use Rattle.kd_commands.specs.State.{seat_set}
use Rattle.kd_tables.specs.Room.{desk_of, marked}
use Rattle.kd_tables.proofs.Marks.{with_mark}
use Rattle.kd_tables.proofs.desk.Desk.block.Goals as goal

pub returns : goal.returns
returns c =
    let place : c.from.result ≡ c.args.seat = c.from.ensures ∙ c.seat.view_is in
    let seats : marked (set c.self.inside.gone c.from.result true) ≡ seat_set (c.args.seat ∷ marked c.self.inside.gone) =
    ap (λ n. marked (set c.self.inside.gone n true)) place ∙ with_mark c.self.inside.gone c.args.seat c.requires.seat c.self.told in
    rw (← c.self.view_is) (ap (λ (ns : List ℕ). record (desk_of c.self.inside) { blocked = ns }) seats)
