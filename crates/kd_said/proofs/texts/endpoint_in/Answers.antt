use Rattle.std.proofs.Common.{refl}
use Rattle.kd_commands.specs.Items.{endpoint_in}
use Rattle.kd_said.proofs.Said.{said_found, said_not_yet, said_endpoint, no_label}
use Rattle.kd_said.proofs.texts.endpoint_in.Goals as goal

pub items-preserved : goal.items-preserved
items-preserved c = said_not_yet endpoint_in said_endpoint c.args.items.now c.items.item-index c.item-item.result c.items-test.true c.item-item.is c.items.invariant (no_label c.item-item.result c.in_default.not-Endpoint)

pub returns-in-Endpoint : goal.returns-in-Endpoint
returns-in-Endpoint c = said_found endpoint_in said_endpoint c.args.items.now c.items.item-index c.item-item.result c.in-Endpoint.label c.items-test.true c.item-item.is c.items.invariant (rw c.in-Endpoint.is refl)
