use Rattle.std.proofs.Common.{◌≡◌, List, ◌++◌, length}
use Rattle.std.specs.Prelude.{All}
use Rattle.kd_turn.specs.Sight.{Sight}
use Rattle.kd_turn.specs.Told.{Gathered, IsIdle}
use Rattle.kd_turn.proofs.closing.gathered.Given as goal

abbrev pub invariant-gathering : goal.invariant-gathering
invariant-gathering g l = (l.first.table_id ≡ l.table.shared.table_id) × All (IsIdle l.table.shared.table_id) l.passes.items
    × ((taken : List (Sight g.row.T-Entry.Denot)) × (l.fn.passes.items ≡ l.passes.items ++ taken) × Gathered taken l.first.me.0)

abbrev pub decreases-gathering : goal.decreases-gathering
decreases-gathering g l = length l.passes.items
