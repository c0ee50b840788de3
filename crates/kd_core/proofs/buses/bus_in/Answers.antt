-- The item in hand names it, or those behind it do.
use Rattle.std.proofs.Common.{ap, sym, ◌∙◌}
use Rattle.std.proofs.lemmas.List.{drop_all}
use Rattle.kd_model.proofs.Lists.{rest_at}
use Rattle.kd_commands.specs.Items.{bus_in}
use Rattle.kd_core.proofs.Naming.{named_here, named_later}
use Rattle.kd_core.proofs.buses.bus_in.Goals as goal

pub items-preserved : goal.items-preserved
items-preserved c =
    let here = rest_at c.args.items.now c.items.item-index c.item-item.result c.items-test.true c.item-item.is in
    sym (named_later c.item-item.result _ c.in_default.not-Bus) ∙ sym (ap bus_in here) ∙ c.items.invariant

pub returns-in-Bus : goal.returns-in-Bus
returns-in-Bus c =
    let here = rest_at c.args.items.now c.items.item-index c.item-item.result c.items-test.true c.item-item.is in
    sym (named_here c.item-item.result _ c.in-Bus.name c.in-Bus.is) ∙ sym (ap bus_in here) ∙ c.items.invariant

pub returns : goal.returns
returns c = sym (ap bus_in (drop_all c.items.item-index c.args.items.now c.items-test.false)) ∙ c.items.invariant
