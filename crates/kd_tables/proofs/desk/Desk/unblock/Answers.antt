-- A mark less is a seat less; a number above the seats is none of them.
use Rattle.std.proofs.Common.{◌≡◌, ◌<◌, ◌≤◌, ℕ, false, List, set, ap, ◌∙◌, arith}
use Rattle.std.specs.Prelude.{◌==◌}
use Rattle.kd_model.specs.Words.{but_those}
use Rattle.kd_tables.specs.Room.{desk_of, marked}
use Rattle.kd_tables.proofs.Marks.{no_mark, without_mark}
use Rattle.kd_tables.proofs.desk.Desk.unblock.Goals as goal

pub returns-then-place-lt-SEATS : goal.returns-then-place-lt-SEATS
returns-then-place-lt-SEATS c =
    let place : c.from-place.result ≡ c.args.seat = c.from-place.ensures ∙ c.seat.view_is in
    let low : c.args.seat < 64 = omega (arith, place, c.if-place-lt-SEATS.true) in
    let seats : marked (set c.self.inside.gone c.from-place.result false) ≡ but_those (λ b. b == c.args.seat) (marked c.self.inside.gone) =
    ap (λ n. marked (set c.self.inside.gone n false)) place ∙ without_mark c.self.inside.gone c.args.seat low c.self.told in
    rw (← c.self.view_is) (ap (λ (ns : List ℕ). record (desk_of c.self.inside) { blocked = ns }) seats)

pub returns-else-place-lt-SEATS : goal.returns-else-place-lt-SEATS
returns-else-place-lt-SEATS c =
    let place : c.from-place.result ≡ c.args.seat = c.from-place.ensures ∙ c.seat.view_is in
    let high : 64 ≤ c.args.seat = omega (arith, place, c.if-place-lt-SEATS.false) in
    rw (← c.self.view_is) (ap (λ (ns : List ℕ). record (desk_of c.self.inside) { blocked = ns }) (no_mark c.self.inside.gone c.args.seat high))
