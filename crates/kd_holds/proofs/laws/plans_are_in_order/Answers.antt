-- By the laws on the parts of plans.
use Rattle.kd_holds.proofs.Orders as orders
use Rattle.kd_holds.proofs.laws.plans_are_in_order.Goals as goal

pub returns : goal.returns
returns c = orders.plans_are_in_order
