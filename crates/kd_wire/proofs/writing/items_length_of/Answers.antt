use Rattle.std.proofs.Common.{arith, ◌∙◌, ap, length}
use Rattle.kd_wire.specs.declared.item.WireItem.TheVariants.{Payload, Name, Bus}
use Rattle.kd_wire.proofs.Lengths.{length_alone}
use Rattle.kd_wire.proofs.writing.items_length_of.Goals as goal

pub returns-in-MakeBus : goal.returns-in-MakeBus
returns-in-MakeBus c = rw c.in-MakeBus.is (c.entry_length-in-MakeBus.ensures ∙ length_alone (Bus c.in-MakeBus.bus) _ (omega (arith, ap length c.bytes-in-MakeBus.ensures)))

pub returns-in-Seal : goal.returns-in-Seal
returns-in-Seal c = rw c.in-Seal.is (c.entry_length-in-Seal.ensures ∙ length_alone (Payload c.in-Seal.payload) _ (omega (arith, ap length c.bytes-in-Seal.ensures)))

pub returns-in-NameAcquire : goal.returns-in-NameAcquire
returns-in-NameAcquire c = rw c.in-NameAcquire.is (c.entry_length.ensures ∙ length_alone (Name c.in-NameAcquire.name) _ (omega (arith, ap length c.bytes.ensures)))

pub returns-in-NameRelease : goal.returns-in-NameRelease
returns-in-NameRelease c = rw c.in-NameRelease.is (c.entry_length-in-NameRelease.ensures ∙ length_alone (Name c.in-NameRelease.name) _ (omega (arith, ap length c.bytes-in-NameRelease.ensures)))
