use Rattle.std.proofs.Common.{arith, ◌+◌, ap, length}
use Rattle.kd_wire.specs.declared.item.WireItem.TheVariants.{Payload, Name, Bus}
use Rattle.kd_wire.proofs.Lengths.{length_alone}
use Rattle.kd_wire.proofs.writing.put_items_of.Goals as goal

pub put_entry-requires-in-MakeBus-clause-room : goal.put_entry-requires-in-MakeBus-clause-room
put_entry-requires-in-MakeBus-clause-room c =
    let room = rw c.in-MakeBus.is at c.requires in
    omega (arith, room, length_alone (Bus c.in-MakeBus.bus) (0 + length c.bytes-in-MakeBus.result.now) (omega (arith, ap length c.bytes-in-MakeBus.ensures)))

pub put_entry-requires-in-Seal-clause-room : goal.put_entry-requires-in-Seal-clause-room
put_entry-requires-in-Seal-clause-room c =
    let room = rw c.in-Seal.is at c.requires in
    omega (arith, room, length_alone (Payload c.in-Seal.payload) (0 + length c.bytes-in-Seal.result.now) (omega (arith, ap length c.bytes-in-Seal.ensures)))

pub put_entry-requires-clause-room : goal.put_entry-requires-clause-room
put_entry-requires-clause-room c =
    let room = rw c.in-NameAcquire.is at c.requires in
    omega (arith, room, length_alone (Name c.in-NameAcquire.name) (0 + length c.bytes.result.now) (omega (arith, ap length c.bytes.ensures)))

pub put_entry-requires-in-NameRelease-clause-room : goal.put_entry-requires-in-NameRelease-clause-room
put_entry-requires-in-NameRelease-clause-room c =
    let room = rw c.in-NameRelease.is at c.requires in
    omega (arith, room, length_alone (Name c.in-NameRelease.name) (0 + length c.bytes-in-NameRelease.result.now) (omega (arith, ap length c.bytes-in-NameRelease.ensures)))
