use Rattle.std.proofs.Common.{◌≡◌, ◌∙◌, sym, subst}
use Rattle.kd_core.specs.Running.{Running}
use Rattle.kd_world.specs.Whole.{next_seat}
use Rattle.kd_core.proofs.Seen.{seat_ahead_in}
use Rattle.kd_core.proofs.world.World.next_seat.Goals as goal

pub returns-in-Some : goal.returns-in-Some
returns-in-Some c =
    let ahead = seat_ahead_in c.self.inside c.in-Some.holder c.in-Some.is c.self.invariant.holder in
    subst (λ (r : Running). c.next_seat.result ≡ next_seat r.world) c.self.view_is (c.next_seat.ensures ∙ sym ahead)
