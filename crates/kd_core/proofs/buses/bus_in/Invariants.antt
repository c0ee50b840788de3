-- What is left names the same bus as all.
use Rattle.std.proofs.Common.{◌≡◌, drop}
use Rattle.kd_commands.specs.Items.{bus_in}
use Rattle.kd_core.proofs.buses.bus_in.Given as goal

abbrev pub invariant-items : goal.invariant-items
invariant-items l = bus_in (drop l.item-index l.items) ≡ bus_in l.items
