-- The slot in hand takes part, and behind the last nothing is left.
use Rattle.std.proofs.Common.{sym, ◌∙◌}
use Rattle.std.proofs.lemmas.List.{drop_all}
use Rattle.kd_model.proofs.Least.{lesser_none}
use Rattle.kd_model.proofs.Lists.{rest_at}
use Rattle.kd_pool.proofs.Picks.{leads_on, number_ranks}
use Rattle.kd_acts.specs.State.{is_reserved}
use Rattle.kd_acts.specs.Steps.{of_lower_number}
use Rattle.kd_pool.proofs.table.lowest_reserved.Goals as goal

pub slots-preserved : goal.slots-preserved
slots-preserved c =
    let here = rest_at c.args.slots.now c.slots.slot-index c.slot-item.result c.slots-test.true c.slot-item.is in
    leads_on of_lower_number is_reserved number_ranks c.slots.best _ c.args.slots.now _ c.slot-item.result (rw here at c.slots.invariant) c.lower_reserved-best.ensures

pub returns : goal.returns
returns c =
    let none = drop_all c.slots.slot-index c.args.slots.now c.slots-test.false in
    sym (lesser_none _ c.slots.best) ∙ (rw none at c.slots.invariant.whole)
