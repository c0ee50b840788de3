-- What is left ends the shares so far as all do those before.
use Rattle.std.specs.Prelude.{◌≡◌, drop, true}
use Rattle.kd_pool.specs.Sealed.{without_shares}
use Rattle.kd_pool.proofs.sealed.end_all.Given as goal

abbrev pub invariant-slots : goal.invariant-slots
invariant-slots l =
    without_shares (λ _. true) (drop l.slot-index l.slots) l.shares.items ≡ without_shares (λ _. true) l.slots l.initial.shares.items
