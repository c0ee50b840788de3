use Rattle.std.proofs.Common.{ap, subst, ◌∙◌}
use Rattle.kd_commands.specs.State.{Desk, opening_desk}
use Rattle.kd_commands.specs.Seating.{AreSeated}
use Rattle.kd_histories.specs.Slots.{Slot, next_odd, seats_behind}
use Rattle.kd_bus.specs.Begins.{shut_below}
use Rattle.kd_bus.specs.Visited.{AreVisits}
use Rattle.kd_bus.proofs.Begun.{begins_so, seated_so, stands_then, started_put}
use Rattle.kd_bus.proofs.Left.{desk_idle}
use Rattle.kd_bus.proofs.starting.begin.Goals as goal

pub block_all-requires : goal.block_all-requires
unfolding opening_desk
block_all-requires g c = ap (λ (d : Desk). d.blocked) c.requires.next

pub put-requires-clause-stands : goal.put-requires-clause-stands
put-requires-clause-stands g c =
    let s : Slot = c.args.slot in
    let v = c.args.pass.now.view in
    let w = c.shut_all.new.pass.view in
    let new = c.args.new in
    let e = c.started-slip.result in
    let is = c.next_odd-generation.ensures ∙ ap (λ (z : Slot). next_odd z.generation) c.slot.view_is in
    let seated : AreSeated s.desk = subst (λ (z : Slot). AreSeated z.desk) c.requires.value (seated_so v c.requires.desk.desk c.requires.stood) in
    let each = subst (λ (z : Slot). AreVisits (shut_below 64 z.desk) c.shut_all.ensures.shut.0 v w) c.slot.view_is c.shut_all.ensures.shut.1 in
    stands_then s c.next_odd-generation.result new.creator new.param.size new.param.hashes is v w c.requires.desk.desk c.requires.shut c.requires.value seated c.shut_all.ensures.shut.0 each e c.started-slip.ensures c.block_all.new.next
    (c.block_all.ensures ∙ (ap (λ (d : Desk). record d { blocked = seats_behind c.slot.inside.desk }) c.requires.next ∙ ap (λ (z : Slot). record (opening_desk new.creator new.param.size new.param.hashes) { blocked = seats_behind z.desk }) c.slot.view_is))

pub put-requires-clause-tie : goal.put-requires-clause-tie
put-requires-clause-tie g c =
    let s : Slot = c.args.slot in
    let v = c.args.pass.now.view in
    let w = c.shut_all.new.pass.view in
    let new = c.args.new in
    let e = c.started-slip.result in
    let is = c.next_odd-generation.ensures ∙ ap (λ (z : Slot). next_odd z.generation) c.slot.view_is in
    let seated : AreSeated s.desk = subst (λ (z : Slot). AreSeated z.desk) c.requires.value (seated_so v c.requires.desk.desk c.requires.stood) in
    let each = subst (λ (z : Slot). AreVisits (shut_below 64 z.desk) c.shut_all.ensures.shut.0 v w) c.slot.view_is c.shut_all.ensures.shut.1 in
    started_put s c.next_odd-generation.result new.creator new.param.size new.param.hashes is v w c.requires.desk.desk c.requires.shut c.requires.value seated c.shut_all.ensures.shut.0 each e c.started-slip.ensures

pub returns-clause-idle : goal.returns-clause-idle
returns-clause-idle g c = desk_idle c.args.gate.now c.shut_all.new.pass c.put.new.self c.started-slip.result c.shut_all.ensures.desk c.put.ensures.gate c.put.ensures.held c.put.ensures.passed

pub returns-clause-begins : goal.returns-clause-begins
returns-clause-begins g c =
    let s : Slot = c.args.slot in
    let v = c.args.pass.now.view in
    let w = c.shut_all.new.pass.view in
    let new = c.args.new in
    let e = c.started-slip.result in
    let is = c.next_odd-generation.ensures ∙ ap (λ (z : Slot). next_odd z.generation) c.slot.view_is in
    let seated : AreSeated s.desk = subst (λ (z : Slot). AreSeated z.desk) c.requires.value (seated_so v c.requires.desk.desk c.requires.stood) in
    let each = subst (λ (z : Slot). AreVisits (shut_below 64 z.desk) c.shut_all.ensures.shut.0 v w) c.slot.view_is c.shut_all.ensures.shut.1 in
    begins_so s c.next_odd-generation.result new.creator new.param.size new.param.hashes is v w c.requires.desk.desk c.requires.shut c.requires.value seated c.shut_all.ensures.shut.0 each e c.started-slip.ensures c.put.new.self.view c.put.ensures.passed
