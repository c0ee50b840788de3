use Rattle.std.proofs.Common.{refl}
use Rattle.kd_said.specs.Said.{name_among}
use Rattle.kd_said.proofs.Said.{said_found, said_not_yet, said_name_among, no_name_among}
use Rattle.kd_said.proofs.texts.name_among.Goals as goal

pub items-preserved : goal.items-preserved
items-preserved c = said_not_yet name_among said_name_among c.args.items.now c.items.item-index c.item-item.result c.items-test.true c.item-item.is c.items.invariant (no_name_among c.item-item.result c.in_default.not-Name)

pub returns-in-Name : goal.returns-in-Name
returns-in-Name c = said_found name_among said_name_among c.args.items.now c.items.item-index c.item-item.result c.in-Name.name c.items-test.true c.item-item.is c.items.invariant (rw c.in-Name.is refl)
