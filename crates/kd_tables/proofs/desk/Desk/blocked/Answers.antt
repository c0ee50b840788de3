-- A seat is among those that wait where it has a mark, and no number above the seats is.
use Rattle.std.proofs.Common.{◌≡◌, ◌<◌, ◌≤◌, false, get_or, ltb, sym, ap, ◌∙◌, arith}
use Rattle.std.proofs.lemmas.Bool.Decides.{nat_tests}
use Rattle.kd_model.specs.Words.{contains}
use Rattle.kd_commands.specs.State.{Desk}
use Rattle.kd_tables.specs.Room.{marked}
use Rattle.kd_tables.proofs.Marks.{mark_here, no_mark_above}
use Rattle.kd_tables.proofs.desk.Desk.blocked.Goals as goal

pub returns-then-place-lt-SEATS : goal.returns-then-place-lt-SEATS
returns-then-place-lt-SEATS c =
    let place : c.from-place.result ≡ c.args.seat = c.from-place.ensures ∙ c.seat.view_is in
    let low : c.args.seat < 64 = omega (arith, place, c.if-place-lt-SEATS.true) in
    let seats : marked c.self.inside.gone ≡ c.args.self.now.blocked = ap (λ (d : Desk). d.blocked) c.self.view_is in
    ap (λ n. get_or c.self.inside.gone n false) place ∙ sym (mark_here c.self.inside.gone c.args.seat low) ∙ ap (contains c.args.seat) seats

pub returns-else-place-lt-SEATS : goal.returns-else-place-lt-SEATS
returns-else-place-lt-SEATS c =
    let place : c.from-place.result ≡ c.args.seat = c.from-place.ensures ∙ c.seat.view_is in
    let high : 64 ≤ c.args.seat = omega (arith, place, c.if-place-lt-SEATS.false) in
    let seats : marked c.self.inside.gone ≡ c.args.self.now.blocked = ap (λ (d : Desk). d.blocked) c.self.view_is in
    let isnt : ltb c.from-place.result 64 ≡ false = grind (arith, nat_tests) in
    isnt ∙ sym (no_mark_above c.self.inside.gone c.args.seat high) ∙ ap (contains c.args.seat) seats
