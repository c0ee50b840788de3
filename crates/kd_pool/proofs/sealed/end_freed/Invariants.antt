-- What is left ends the shares so far as all do those before.
use Rattle.std.specs.Prelude.{◌≡◌, drop}
use Rattle.kd_acts.specs.State.{is_freed}
use Rattle.kd_pool.specs.Sealed.{without_shares}
use Rattle.kd_pool.proofs.sealed.end_freed.Given as goal

abbrev pub invariant-slots : goal.invariant-slots
invariant-slots l =
    without_shares is_freed (drop l.slot-index l.slots) l.shares.items ≡ without_shares is_freed l.slots l.initial.shares.items
