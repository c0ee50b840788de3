use Rattle.std.proofs.Common.{◌≡◌, ◌<◌, ◌^◌, ℕ, ap, sym, subst, ◌∙◌}
use Rattle.kd_commands.specs.declared.who.Who.{Who}
use Rattle.kd_hands.specs.Views.{part}
use Rattle.kd_histories.specs.Puts.{IsOwn}
use Rattle.kd_histories.specs.Slots.{Slot}
use Rattle.kd_bus.specs.declared.locked.Locked.TheVariants as locked
use Rattle.kd_bus.specs.Members.{MemberBelongs, kind_made, who_of}
use Rattle.kd_bus.proofs.Belonging.{ids_low, idle_belongs, leaves_belong, member_is_own, slot_so, taken_belongs, takes_so}
use Rattle.kd_bus.proofs.command.run.Goals as goal

pub prepare-requires-clause-ids : goal.prepare-requires-clause-ids
prepare-requires-clause-ids g c =
    let s : Slot = c.in-Desk.slot in
    let v₁ = c.take.new.self.view in
    let took = c.in-Desk.ensures.took in
    subst (λ (z : Slot). z.desk.next_id < 2 ^ 63) (slot_so c.args.pass.now.view v₁ s took ∙ sym c.slot.view_is) (ids_low v₁ took.holds took.stood took.short)

pub returns-then-eq-clause-own_still : goal.returns-then-eq-clause-own_still
returns-then-eq-clause-own_still g c =
    let s : Slot = c.in-Desk.slot in
    let m = c.args.member.now in
    let v = c.args.pass.now.view in
    let v₁ = c.take.new.self.view in
    let took = c.in-Desk.ensures.took in
    let gen : c.slot.inside.generation ≡ s.generation = ap (λ (z : Slot). z.generation) c.slot.view_is in
    let mine : MemberBelongs v₁ m = taken_belongs m v v₁ (takes_so v v₁ (locked.Desk s) took) c.requires.own in
    let caller : c.who-who.result ≡ who_of c.slot.inside.generation m = c.who-who.ensures in
    idle_belongs m v₁ c.give_up.new.pass.view c.give_up.ensures.leaves mine

pub turn_away-outcome-requires-clause-own : goal.turn_away-outcome-requires-clause-own
turn_away-outcome-requires-clause-own g c =
    let s : Slot = c.in-Desk.slot in
    let m = c.args.member.now in
    let v = c.args.pass.now.view in
    let v₁ = c.take.new.self.view in
    let took = c.in-Desk.ensures.took in
    let gen : c.slot.inside.generation ≡ s.generation = ap (λ (z : Slot). z.generation) c.slot.view_is in
    let mine : MemberBelongs v₁ m = taken_belongs m v v₁ (takes_so v v₁ (locked.Desk s) took) c.requires.own in
    let caller : c.who-who.result ≡ who_of c.slot.inside.generation m = c.who-who.ensures in
    subst (λ (w : Who). IsOwn (part v₁ 0).own s.generation w.member) (sym (caller ∙ ap (λ (n : ℕ). who_of n m) gen)) (member_is_own s.generation m v₁ mine)

pub returns-in-Err-clause-own : goal.returns-in-Err-clause-own
returns-in-Err-clause-own g c =
    let s : Slot = c.in-Desk.slot in
    let m = c.args.member.now in
    let v = c.args.pass.now.view in
    let v₁ = c.take.new.self.view in
    let took = c.in-Desk.ensures.took in
    let gen : c.slot.inside.generation ≡ s.generation = ap (λ (z : Slot). z.generation) c.slot.view_is in
    let mine : MemberBelongs v₁ m = taken_belongs m v v₁ (takes_so v v₁ (locked.Desk s) took) c.requires.own in
    let caller : c.who-who.result ≡ who_of c.slot.inside.generation m = c.who-who.ensures in
    leaves_belong c.slot.inside.generation m (kind_made c.args.cmd) s c.of.result.value c.of-2.result.value c.of-3.result.value c.turn_away-outcome.result.reply c.turn_away-outcome.result.becomes c.turn_away-outcome.result.pendings.items v₁ c.turn_away-outcome.new.pass.view took.holds took.stood (slot_so v v₁ s took)
    c.turn_away-outcome.ensures.leaves (c.of-2.ensures ∙ caller) (sym gen) mine

pub carry_out-outcome-requires-clause-own : goal.carry_out-outcome-requires-clause-own
carry_out-outcome-requires-clause-own g c =
    let s : Slot = c.in-Desk.slot in
    let m = c.args.member.now in
    let v = c.args.pass.now.view in
    let v₁ = c.take.new.self.view in
    let took = c.in-Desk.ensures.took in
    let gen : c.slot.inside.generation ≡ s.generation = ap (λ (z : Slot). z.generation) c.slot.view_is in
    let mine : MemberBelongs v₁ m = taken_belongs m v v₁ (takes_so v v₁ (locked.Desk s) took) c.requires.own in
    let caller : c.who-who.result ≡ who_of c.slot.inside.generation m = c.who-who.ensures in
    subst (λ (w : Who). IsOwn (part v₁ 0).own s.generation w.member) (sym (caller ∙ ap (λ (n : ℕ). who_of n m) gen)) (member_is_own s.generation m v₁ mine)

pub returns-clause-own : goal.returns-clause-own
returns-clause-own g c =
    let s : Slot = c.in-Desk.slot in
    let m = c.args.member.now in
    let v = c.args.pass.now.view in
    let v₁ = c.take.new.self.view in
    let took = c.in-Desk.ensures.took in
    let gen : c.slot.inside.generation ≡ s.generation = ap (λ (z : Slot). z.generation) c.slot.view_is in
    let mine : MemberBelongs v₁ m = taken_belongs m v v₁ (takes_so v v₁ (locked.Desk s) took) c.requires.own in
    let caller : c.who-who.result ≡ who_of c.slot.inside.generation m = c.who-who.ensures in
    leaves_belong c.slot.inside.generation m (kind_made c.args.cmd) s c.of.result.value c.of-2.result.value c.of-3.result.value c.carry_out-outcome.result.reply c.carry_out-outcome.result.becomes c.carry_out-outcome.result.pendings.items v₁ c.carry_out-outcome.new.pass.view took.holds took.stood (slot_so v v₁ s took)
    c.carry_out-outcome.ensures.leaves (c.of-2.ensures ∙ caller) (sym gen) mine
