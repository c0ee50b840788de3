use Rattle.std.proofs.Common.{◌<◌, ◌^◌, ap, sym, subst, ◌∙◌, arith}
use Rattle.kd_hands.specs.Views.{part}
use Rattle.kd_histories.specs.Slots.{Slot}
use Rattle.kd_bus.proofs.Belonging.{ids_low, slot_so}
use Rattle.kd_bus.proofs.Begun.{generation_low}
use Rattle.kd_bus.proofs.starting.start.Goals as goal

pub new_bus-requires : goal.new_bus-requires
new_bus-requires g c =
    let v₁ = c.take.new.self.view in
    let took = c.in-Desk.ensures.took in
    record { ids = subst (λ (z : Slot). z.desk.next_id < 2 ^ 63) (slot_so c.args.pass.now.view v₁ c.in-Desk.slot took ∙ sym c.slot.view_is) (ids_low v₁ took.holds took.stood took.short) }

pub begin-requires-clause-generation : goal.begin-requires-clause-generation
begin-requires-clause-generation g c =
    let v₁ = c.take.new.self.view in
    let took = c.in-Desk.ensures.took in
    let same = ap (λ (z : Slot). z.generation) (slot_so c.args.pass.now.view v₁ c.in-Desk.slot took) in
    let low = generation_low (part v₁ 0).seen in
    let short = took.short in
    omega (arith, same, low, short)
