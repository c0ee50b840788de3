-- A binder gives the first of the clocks that are to come.
use Rattle.std.proofs.Common.{◌≡◌, List, ◌∷◌, refl}
use Rattle.kd_outside.specs.Told.{Lends}
use Rattle.kd_outside.specs.Racks.{Rack, with_one_out}
use Rattle.kd_outside.specs.Serving.{BinderParts, ClockParts, binder_state, clock_state, own_clock}

pub lends_first : (old b : BinderParts) (clocks : Rack ClockParts) (given c : ClockParts) (rest : List ClockParts)
    → b ≡ old → b.clocks.coming ≡ c ∷ rest → clocks ≡ with_one_out b.clocks → given ≡ own_clock c
    → Lends (binder_state old) (binder_state (record b { clocks = clocks })) (clock_state given) given.spare
lends_first old b clocks given c rest same e f g = rw (← same, f, g, e) (refl, refl, refl)
