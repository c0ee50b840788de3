use Rattle.std.proofs.Common.{refl}
use Rattle.kd_said.proofs.Sealed.{found_seal, not_yet, place_behind}
use Rattle.kd_said.proofs.seals.named_seal.Goals as goal

pub items-preserved : goal.items-preserved
items-preserved c =
    let is = c.args.items.now in
    let i = c.items.item-index in
    let x = c.item-item.result in (
      not_yet is i x c.items-test.true c.item-item.is c.items.invariant.0 c.in_default.not-Sealed,
      place_behind is i c.items.place c.in_ok-place.place x c.items-test.true c.item-item.is c.items.invariant.1 c.in_ok-place.ensures,
    )

pub returns-in-Sealed : goal.returns-in-Sealed
returns-in-Sealed c =
    found_seal c.args.items.now c.items.item-index c.items.place c.in-Sealed.number c.in-Sealed.start c.in-Sealed.length c.item-item.result c.items-test.true c.item-item.is c.items.invariant.0 c.items.invariant.1 (rw c.in-Sealed.is refl)
