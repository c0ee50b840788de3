-- The slot in hand is changed.
use Rattle.std.proofs.Math.ListN.{set}
use Rattle.std.proofs.Common.{ap, arith, ◌∙◌}
use Rattle.std.proofs.lemmas.List.Edits.{map_over_more}
use Rattle.kd_pool.proofs.table.set_queued.Goals as goal

pub slots-preserved : goal.slots-preserved
slots-preserved c = (ap (set c.slots.slots.items c.slots.i) c.now_queued.ensures ∙ map_over_more _ c.args.slots.now.items c.slots.slots.items c.slots.i c.index.result.now (omega arith) c.slots.invariant.0 c.index.ensures, c.slots.invariant.1)
