use Rattle.std.proofs.Common.{refl, sym}
use Rattle.kd_wire.proofs.Formed.{acquires_so, releases_so, makes_bus_so, seals}
use Rattle.kd_wire.proofs.command.Command.is_well_formed.Goals as goal

pub returns-then-is_short_text : goal.returns-then-is_short_text
returns-then-is_short_text c =
    let e = acquires_so c.in-NameAcquire.flags c.in-NameAcquire.name c.bytes.result.now c.word.result c.is_short_text.result c.has_unknown_flag.result c.bytes.ensures c.is_short_text.ensures c.word.ensures c.has_unknown_flag.ensures in
    rw (c.in-NameAcquire.is, e, c.if-is_short_text.true) refl

pub returns-else-is_short_text : goal.returns-else-is_short_text
returns-else-is_short_text c =
    let e = acquires_so c.in-NameAcquire.flags c.in-NameAcquire.name c.bytes.result.now _ c.is_short_text.result _ c.bytes.ensures c.is_short_text.ensures refl refl in
    rw (c.in-NameAcquire.is, e, c.if-is_short_text.false) refl

pub returns-in-NameRelease : goal.returns-in-NameRelease
returns-in-NameRelease c =
    rw c.in-NameRelease.is (sym (releases_so c.in-NameRelease.name c.bytes-in-NameRelease.result.now c.is_short_text-in-NameRelease.result c.bytes-in-NameRelease.ensures c.is_short_text-in-NameRelease.ensures))

pub returns-then-is_short_text-2 : goal.returns-then-is_short_text-2
returns-then-is_short_text-2 c =
    let bad = rw (c.from.ensures, c.from-then-is_short_text-2.ensures) at c.has_bad_word.ensures in
    let e = makes_bus_so c.in-MakeBus.size c.in-MakeBus.hashes c.in-MakeBus.bus c.bytes-in-MakeBus.result.now c.is_short_text-in-MakeBus.result c.has_bad_word.result c.bytes-in-MakeBus.ensures c.is_short_text-in-MakeBus.ensures bad in
    rw (c.in-MakeBus.is, e, c.if-is_short_text-2.true) refl

pub returns-else-is_short_text-2 : goal.returns-else-is_short_text-2
returns-else-is_short_text-2 c =
    let e = makes_bus_so c.in-MakeBus.size c.in-MakeBus.hashes c.in-MakeBus.bus c.bytes-in-MakeBus.result.now c.is_short_text-in-MakeBus.result _ c.bytes-in-MakeBus.ensures c.is_short_text-in-MakeBus.ensures refl in
    rw (c.in-MakeBus.is, e, c.if-is_short_text-2.false) refl

pub returns-in-Seal : goal.returns-in-Seal
returns-in-Seal c =
    rw (c.in-Seal.is, seals c.in-Seal.payload, c.is_short.ensures, c.entry_length.ensures, c.bytes-in-Seal.ensures) refl
