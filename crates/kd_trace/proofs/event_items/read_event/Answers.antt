use Rattle.std.proofs.Common.{arith}
use Rattle.kd_trace.proofs.EventItems.{other_none, other_read}
use Rattle.kd_trace.proofs.event_items.read_event.Goals as goal

pub returns-clause-read : goal.returns-clause-read
returns-clause-read c = other_read c.args.kind c.args.body.now c.read_other.result (λ i. omega (arith, c.type_inv.body i)) c.read_other.ensures

pub returns-clause-none : goal.returns-clause-none
returns-clause-none c = other_none c.args.kind c.args.body.now c.read_other.result c.if-kind-eq-TAKE.false c.read_other.ensures
