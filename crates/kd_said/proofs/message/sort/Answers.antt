use Rattle.std.proofs.Common.{◌∙◌, sym, refl}
use Rattle.kd_commands.specs.Items.{destination_name}
use Rattle.kd_said.proofs.Said.{said_stays, said_kept, said_comes, said_name, no_name}
use Rattle.kd_said.proofs.Sorted.{pieces_stay, pieces_more, no_piece}
use Rattle.kd_said.proofs.message.sort.Goals as goal

pub items-preserved-in-Continue-1 : goal.items-preserved-in-Continue-1
items-preserved-in-Continue-1 c =
    let xs = c.items.yielded in
    let x = c.in-Some.item in (
      said_stays destination_name said_name xs x c.items.destination (rw c.in-Payload.is refl) c.items.invariant.0,
      pieces_more xs x c.items.pieces.items c.in-Payload.bytes c.items.invariant.1 c.in-Payload.is ∙ sym c.in_ok-push-in-Payload.ensures.items,
    )

pub items-preserved-then-is_none : goal.items-preserved-then-is_none
items-preserved-then-is_none c =
    let xs = c.items.yielded in
    let x = c.in-Some.item in (
      said_comes destination_name said_name xs x c.items.destination c.in-DstName.name c.if-is_none.ensures c.items.invariant.0 (rw c.in-DstName.is refl),
      pieces_stay xs x c.items.pieces.items (rw c.in-DstName.is refl) c.items.invariant.1,
    )

pub items-preserved-else-is_none : goal.items-preserved-else-is_none
items-preserved-else-is_none c =
    let xs = c.items.yielded in
    let x = c.in-Some.item in (
      said_kept destination_name said_name xs x c.items.destination c.if-is_none.ensures c.items.invariant.0,
      pieces_stay xs x c.items.pieces.items (rw c.in-DstName.is refl) c.items.invariant.1,
    )

pub items-preserved : goal.items-preserved
items-preserved c =
    let xs = c.items.yielded in
    let x = c.in-Some.item in (
      said_stays destination_name said_name xs x c.items.destination (no_name x c.in_default.not-DstName) c.items.invariant.0,
      pieces_stay xs x c.items.pieces.items (no_piece x c.in_default.not-Payload) c.items.invariant.1,
    )
