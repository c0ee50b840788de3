use Rattle.std.proofs.Common.{refl}
use Rattle.kd_commands.specs.Items.{filter_among}
use Rattle.kd_said.proofs.Said.{said_found, said_not_yet, said_filter, no_filter}
use Rattle.kd_said.proofs.message.filter.Goals as goal

pub items-preserved : goal.items-preserved
items-preserved c = said_not_yet filter_among said_filter c.args.items.now c.items.item-index c.item-item.result c.items-test.true c.item-item.is c.items.invariant (no_filter c.item-item.result c.in_default.not-Filter)

pub returns-in-Filter : goal.returns-in-Filter
returns-in-Filter c = said_found filter_among said_filter c.args.items.now c.items.item-index c.item-item.result (record { generation = c.in-Filter.generation; bits = c.in-Filter.bits }) c.items-test.true c.item-item.is c.items.invariant (rw c.in-Filter.is refl)
