use Rattle.std.proofs.Common.{refl}
use Rattle.kd_commands.specs.Items.{destination_name}
use Rattle.kd_said.proofs.Said.{said_found, said_not_yet, said_name, no_name}
use Rattle.kd_said.proofs.texts.destination.Goals as goal

pub items-preserved : goal.items-preserved
items-preserved c = said_not_yet destination_name said_name c.args.items.now c.items.item-index c.item-item.result c.items-test.true c.item-item.is c.items.invariant (no_name c.item-item.result c.in_default.not-DstName)

pub returns-in-DstName : goal.returns-in-DstName
returns-in-DstName c = said_found destination_name said_name c.args.items.now c.items.item-index c.item-item.result c.in-DstName.name c.items-test.true c.item-item.is c.items.invariant (rw c.in-DstName.is refl)
