use Rattle.std.proofs.Common.{refl}
use Rattle.kd_commands.specs.Items.{description_in}
use Rattle.kd_said.proofs.Said.{said_found, said_not_yet, said_description, no_description}
use Rattle.kd_said.proofs.texts.description_in.Goals as goal

pub items-preserved : goal.items-preserved
items-preserved c = said_not_yet description_in said_description c.args.items.now c.items.item-index c.item-item.result c.items-test.true c.item-item.is c.items.invariant (no_description c.item-item.result c.in_default.not-Description)

pub returns-in-Description : goal.returns-in-Description
returns-in-Description c = said_found description_in said_description c.args.items.now c.items.item-index c.item-item.result c.in-Description.text c.items-test.true c.item-item.is c.items.invariant (rw c.in-Description.is refl)
