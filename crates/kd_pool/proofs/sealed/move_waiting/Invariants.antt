-- What is left moves the shares so far as all do those before.
use Rattle.std.specs.Prelude.{◌≡◌, drop}
use Rattle.kd_acts.specs.State.{is_waiting}
use Rattle.kd_pool.specs.Sealed.{with_all_moved, without_shares}
use Rattle.kd_pool.proofs.sealed.move_waiting.Given as goal

abbrev pub invariant-slots : goal.invariant-slots
invariant-slots l =
    (without_shares is_waiting (drop l.slot-index l.slots) l.from.items ≡ without_shares is_waiting l.slots l.initial.from.items)
    × (with_all_moved is_waiting (drop l.slot-index l.slots) l.from.items l.to.items ≡ with_all_moved is_waiting l.slots l.initial.from.items l.initial.to.items)
