-- What is left settles in the pool so far as all do in the pool before, and each message counts at
-- most once.
use Rattle.std.specs.Prelude.{◌≡◌, ◌≤◌, ◌+◌, drop, map}
use Rattle.kd_acts.specs.Steps.{settled}
use Rattle.kd_pool.specs.Table.{carried}
use Rattle.kd_pool.proofs.pool.Pool.settle_each.Given as goal

abbrev pub invariant-rows : goal.invariant-rows
invariant-rows l =
    (settled (map (carried l.memory l.shares.items) (drop l.row-index l.rows)) l.self ≡ settled (map (carried l.memory l.initial.shares.items) l.rows) l.initial.self)
    × (l.self.next_arrival ≤ l.initial.self.next_arrival + l.row-index) × (l.self.dropped ≤ l.initial.self.dropped + l.row-index)
