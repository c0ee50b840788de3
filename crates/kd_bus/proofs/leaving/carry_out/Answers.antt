use Rattle.std.proofs.Common.{◌≡◌, ◌≢◌, ◌++◌, None, Some, Option, Ok, refl, List, [], ◌∷◌, ℕ, ap, sym, subst, ◌∙◌}
use Rattle.kd_types.specs.declared.refusal.Refusal.{Refusal}
use Rattle.kd_types.specs.declared.refusal.Refusal.TheVariants.{OutOfMemory}
use Rattle.kd_wire.specs.declared.reply.Reply.{Reply}
use Rattle.kd_wire.specs.declared.reply.Reply.TheVariants as reply
use Rattle.kd_commands.specs.declared.who.WhoKind.{WhoKind}
use Rattle.kd_commands.specs.State.{Desk}
use Rattle.kd_tables.specs.declared.part.Out.{Out}
use Rattle.kd_tables.specs.Drafts.{Draft, drafted}
use Rattle.kd_tables.specs.Outs.{End, ended_on, why_ended}
use Rattle.kd_commands.specs.declared.who.Who.{Who}
use Rattle.kd_world.specs.State.{Pending}
use Rattle.kd_world.specs.Hands.{empty_hand}
use Rattle.kd_world.specs.declared.told.Told.{Told}
use Rattle.kd_hands.specs.Views.{part}
use Rattle.kd_holds.specs.Handing.{answers_told}
use Rattle.kd_histories.specs.Puts.{IsOwn}
use Rattle.kd_histories.specs.Slots.{Slot, planned}
use Rattle.kd_bus.specs.declared.locked.Locked.TheVariants as locked
use Rattle.kd_bus.specs.Values.{stands}
use Rattle.kd_histories.specs.Turns.{left}
use Rattle.kd_histories.proofs.DeskPuts.{raises_where_nobody_sits}
use Rattle.kd_bus.specs.Leaving.{Leaves, all_pending, becomes}
use Rattle.kd_bus.proofs.Left.{all_seats, left_put, leaves_so, refused_so, spent_ends, stands_now, the_left}
use Rattle.kd_bus.proofs.leaving.carry_out.Goals as goal

outcome : (why : Option Refusal) (r : Reply) (m : WhoKind) (ps : List Pending) (hand : List (Option Told)) (w : Who) → hand ≡ empty_hand → ((y : Refusal) → why ≡ Some y → (y ≢ OutOfMemory) × (r ≡ reply.Refused y) × (m ≡ w.member) × (ps ≡ []))
    → elim why as (λ o. Type 0) [ None ↦ ◌≡◌ {A = Option (List (Option Told))} (Some hand) (Some empty_hand) | Some y ↦ (y ≢ OutOfMemory) × (r ≡ reply.Refused y) × (m ≡ w.member) × (ps ≡ []) ]
outcome None r m ps hand w e f = ap (λ (h : List (Option Told)). Some h) e
outcome (Some y) r m ps hand w e f = f y refl

pub visit_all-requires-clause-seats : goal.visit_all-requires-clause-seats
visit_all-requires-clause-seats g c = all_seats c.args.prepared.plan.parts c.requires.ready.parts

pub visit_all-requires-clause-raised : goal.visit_all-requires-clause-raised
unfolding drafted
visit_all-requires-clause-raised g c =
    let s : Slot = c.args.slot in
    let x = c.args.given.command.value in
    let aim = c.args.given.aim.value in
    let w = c.args.given.who.value in
    let p = c.args.prepared.plan in
    let v = c.args.pass.now.view in
    let planned_now = subst (λ (z : Slot). planned z.generation aim z.desk w x ≡ Ok (drafted s.desk p)) (sym c.requires.value) c.requires.ready.plan in
    let own_now = subst (λ (z : Slot). IsOwn (part v 0).own z.generation w.member) (sym c.requires.value) (subst (IsOwn (part v 0).own s.generation) c.requires.was c.requires.own) in
    λ os q size next is. (raises_where_nobody_sits v aim w x (drafted s.desk p) c.requires.stood c.requires.desk.desk own_now planned_now os q size next is).1

pub put-requires-clause-stands : goal.put-requires-clause-stands
put-requires-clause-stands g c =
    let s : Slot = c.args.slot in
    let x = c.args.given.command.value in
    let aim = c.args.given.aim.value in
    let w = c.args.given.who.value in
    let p = c.args.prepared.plan in
    let v = c.args.pass.now.view in
    let v₁ = c.visit_all.new.pass.view in
    let outs = c.visit_all.new.outs.items in
    let gens = c.visit_all.new.generations.items in
    let b = c.visit_all.new.made.drained in
    let e = c.left-slip.result in
    let q = c.keep_all.new.plan in
    let gen : c.slot.inside.generation ≡ s.generation = ap (λ (z : Slot). z.generation) c.slot.view_is in
    let desk : c.slot.inside.desk ≡ s.desk = ap (λ (z : Slot). z.desk) c.slot.view_is in
    let ends : ended_on c.slot.inside.desk q c.deref-4.result.now ≡ ended_on s.desk p outs = ap (λ (d : Desk). ended_on d q c.deref-4.result.now) desk ∙ (ap (λ (xs : List Out). ended_on s.desk q xs) c.deref-4.ensures.value ∙ spent_ends s.desk p q outs c.keep_all.ensures.plan) in
    let reply_is : c.finish-reply.result ≡ (ended_on s.desk p outs).reply = c.finish-reply.ensures.reply ∙ ap (λ (z : End). z.reply) ends in
    let why_is : c.refusal-why.result ≡ why_ended p outs = c.refusal-why.ensures ∙ ap (λ (xs : List Out). why_ended p xs) c.deref.ensures.value in
    let becomes_is : c.becomes-becomes.result ≡ becomes p w.member (why_ended p outs) = c.becomes-becomes.ensures ∙ (ap (λ (m : WhoKind). becomes p m c.refusal-why.result) c.requires.was ∙ ap (becomes p w.member) why_is) in
    let says : e ≡ left (the_left s.generation s.desk aim w x p outs b c.requires.ready.plan c.visit_all.ensures.all c.requires.aim) = c.left-slip.ensures
    ∙ (ap (λ (k : ℕ). left (record { generation = k; aim = aim; who = w; command = x; outs = answers_told c.of-whole.result.value.parts outs b; reply = c.finish-reply.result; becomes = c.becomes-becomes.result })) gen
    ∙ (ap (λ (k : Draft). left (record { generation = s.generation; aim = aim; who = w; command = x; outs = answers_told k.parts outs b; reply = c.finish-reply.result; becomes = c.becomes-becomes.result })) c.of-whole.ensures
    ∙ (ap (λ (k : Reply). left (record { generation = s.generation; aim = aim; who = w; command = x; outs = answers_told p.parts outs b; reply = k; becomes = c.becomes-becomes.result })) reply_is
    ∙ ap (λ (k : WhoKind). left (record { generation = s.generation; aim = aim; who = w; command = x; outs = answers_told p.parts outs b; reply = (ended_on s.desk p outs).reply; becomes = k })) becomes_is))) in
    subst (λ (k : ℕ). stands 0 ((part v₁ 0).seen ++ (v₁.name, e) ∷ []) (locked.Desk (record { generation = k; desk = c.finish-reply.new.self }))) (sym gen)
    (stands_now s.generation s.desk aim w x p outs b c.requires.ready.plan c.visit_all.ensures.all c.requires.aim gens v v₁ c.requires.desk.desk c.requires.shut c.visit_all.ensures.visited c.requires.value e says c.finish-reply.new.self (c.finish-reply.ensures.after ∙ ap (λ (z : End). z.next) ends))

pub put-requires-clause-tie : goal.put-requires-clause-tie
put-requires-clause-tie g c =
    let s : Slot = c.args.slot in
    let x = c.args.given.command.value in
    let aim = c.args.given.aim.value in
    let w = c.args.given.who.value in
    let p = c.args.prepared.plan in
    let v = c.args.pass.now.view in
    let v₁ = c.visit_all.new.pass.view in
    let outs = c.visit_all.new.outs.items in
    let gens = c.visit_all.new.generations.items in
    let b = c.visit_all.new.made.drained in
    let e = c.left-slip.result in
    let q = c.keep_all.new.plan in
    let gen : c.slot.inside.generation ≡ s.generation = ap (λ (z : Slot). z.generation) c.slot.view_is in
    let desk : c.slot.inside.desk ≡ s.desk = ap (λ (z : Slot). z.desk) c.slot.view_is in
    let ends : ended_on c.slot.inside.desk q c.deref-4.result.now ≡ ended_on s.desk p outs = ap (λ (d : Desk). ended_on d q c.deref-4.result.now) desk ∙ (ap (λ (xs : List Out). ended_on s.desk q xs) c.deref-4.ensures.value ∙ spent_ends s.desk p q outs c.keep_all.ensures.plan) in
    let reply_is : c.finish-reply.result ≡ (ended_on s.desk p outs).reply = c.finish-reply.ensures.reply ∙ ap (λ (z : End). z.reply) ends in
    let why_is : c.refusal-why.result ≡ why_ended p outs = c.refusal-why.ensures ∙ ap (λ (xs : List Out). why_ended p xs) c.deref.ensures.value in
    let becomes_is : c.becomes-becomes.result ≡ becomes p w.member (why_ended p outs) = c.becomes-becomes.ensures ∙ (ap (λ (m : WhoKind). becomes p m c.refusal-why.result) c.requires.was ∙ ap (becomes p w.member) why_is) in
    let says : e ≡ left (the_left s.generation s.desk aim w x p outs b c.requires.ready.plan c.visit_all.ensures.all c.requires.aim) = c.left-slip.ensures
    ∙ (ap (λ (k : ℕ). left (record { generation = k; aim = aim; who = w; command = x; outs = answers_told c.of-whole.result.value.parts outs b; reply = c.finish-reply.result; becomes = c.becomes-becomes.result })) gen
    ∙ (ap (λ (k : Draft). left (record { generation = s.generation; aim = aim; who = w; command = x; outs = answers_told k.parts outs b; reply = c.finish-reply.result; becomes = c.becomes-becomes.result })) c.of-whole.ensures
    ∙ (ap (λ (k : Reply). left (record { generation = s.generation; aim = aim; who = w; command = x; outs = answers_told p.parts outs b; reply = k; becomes = c.becomes-becomes.result })) reply_is
    ∙ ap (λ (k : WhoKind). left (record { generation = s.generation; aim = aim; who = w; command = x; outs = answers_told p.parts outs b; reply = (ended_on s.desk p outs).reply; becomes = k })) becomes_is))) in
    left_put s.generation s.desk aim w x p outs b c.requires.ready.plan c.visit_all.ensures.all c.requires.aim gens v v₁ c.requires.desk.desk c.requires.shut c.visit_all.ensures.visited c.requires.value e says (subst (IsOwn (part v 0).own s.generation) c.requires.was c.requires.own)

pub returns-clause-leaves : goal.returns-clause-leaves
returns-clause-leaves g c =
    let s : Slot = c.args.slot in
    let x = c.args.given.command.value in
    let aim = c.args.given.aim.value in
    let w = c.args.given.who.value in
    let p = c.args.prepared.plan in
    let v = c.args.pass.now.view in
    let v₁ = c.visit_all.new.pass.view in
    let outs = c.visit_all.new.outs.items in
    let gens = c.visit_all.new.generations.items in
    let b = c.visit_all.new.made.drained in
    let e = c.left-slip.result in
    let q = c.keep_all.new.plan in
    let gen : c.slot.inside.generation ≡ s.generation = ap (λ (z : Slot). z.generation) c.slot.view_is in
    let desk : c.slot.inside.desk ≡ s.desk = ap (λ (z : Slot). z.desk) c.slot.view_is in
    let ends : ended_on c.slot.inside.desk q c.deref-4.result.now ≡ ended_on s.desk p outs = ap (λ (d : Desk). ended_on d q c.deref-4.result.now) desk ∙ (ap (λ (xs : List Out). ended_on s.desk q xs) c.deref-4.ensures.value ∙ spent_ends s.desk p q outs c.keep_all.ensures.plan) in
    let reply_is : c.finish-reply.result ≡ (ended_on s.desk p outs).reply = c.finish-reply.ensures.reply ∙ ap (λ (z : End). z.reply) ends in
    let why_is : c.refusal-why.result ≡ why_ended p outs = c.refusal-why.ensures ∙ ap (λ (xs : List Out). why_ended p xs) c.deref.ensures.value in
    let becomes_is : c.becomes-becomes.result ≡ becomes p w.member (why_ended p outs) = c.becomes-becomes.ensures ∙ (ap (λ (m : WhoKind). becomes p m c.refusal-why.result) c.requires.was ∙ ap (becomes p w.member) why_is) in
    let says : e ≡ left (the_left s.generation s.desk aim w x p outs b c.requires.ready.plan c.visit_all.ensures.all c.requires.aim) = c.left-slip.ensures
    ∙ (ap (λ (k : ℕ). left (record { generation = k; aim = aim; who = w; command = x; outs = answers_told c.of-whole.result.value.parts outs b; reply = c.finish-reply.result; becomes = c.becomes-becomes.result })) gen
    ∙ (ap (λ (k : Draft). left (record { generation = s.generation; aim = aim; who = w; command = x; outs = answers_told k.parts outs b; reply = c.finish-reply.result; becomes = c.becomes-becomes.result })) c.of-whole.ensures
    ∙ (ap (λ (k : Reply). left (record { generation = s.generation; aim = aim; who = w; command = x; outs = answers_told p.parts outs b; reply = k; becomes = c.becomes-becomes.result })) reply_is
    ∙ ap (λ (k : WhoKind). left (record { generation = s.generation; aim = aim; who = w; command = x; outs = answers_told p.parts outs b; reply = (ended_on s.desk p outs).reply; becomes = k })) becomes_is))) in
    let kept : c.keep_all.new.pendings.items ≡ all_pending p.contents p.parts outs gens = c.keep_all.ensures.pendings
    ∙ (ap (λ ys. ys ++ all_pending p.contents p.parts c.deref-2.result.now c.deref-3.result.now) c.requires.ready.pendings
    ∙ (ap (λ (xs : List Out). all_pending p.contents p.parts xs c.deref-3.result.now) c.deref-2.ensures.value ∙ ap (λ (ns : List ℕ). all_pending p.contents p.parts outs ns) c.deref-3.ensures.value)) in
    subst (λ (k : Reply). Leaves s aim w x k c.becomes-becomes.result c.keep_all.new.pendings.items v c.put.new.self.view) (sym reply_is)
    (subst (λ (k : WhoKind). Leaves s aim w x (ended_on s.desk p outs).reply k c.keep_all.new.pendings.items v c.put.new.self.view) (sym becomes_is)
    (leaves_so s.generation s.desk aim w x p outs b c.requires.ready.plan c.visit_all.ensures.all c.requires.aim gens v v₁ c.requires.desk.desk c.requires.shut c.visit_all.ensures.visited c.requires.value e says
    c.visit_all.ensures.first c.visit_all.ensures.counts.1 c.keep_all.new.pendings.items kept c.put.new.self.view c.put.ensures.passed))

pub returns-clause-outcome : goal.returns-clause-outcome
returns-clause-outcome g c =
    let s : Slot = c.args.slot in
    let x = c.args.given.command.value in
    let aim = c.args.given.aim.value in
    let w = c.args.given.who.value in
    let p = c.args.prepared.plan in
    let v = c.args.pass.now.view in
    let v₁ = c.visit_all.new.pass.view in
    let outs = c.visit_all.new.outs.items in
    let gens = c.visit_all.new.generations.items in
    let b = c.visit_all.new.made.drained in
    let e = c.left-slip.result in
    let q = c.keep_all.new.plan in
    let gen : c.slot.inside.generation ≡ s.generation = ap (λ (z : Slot). z.generation) c.slot.view_is in
    let desk : c.slot.inside.desk ≡ s.desk = ap (λ (z : Slot). z.desk) c.slot.view_is in
    let ends : ended_on c.slot.inside.desk q c.deref-4.result.now ≡ ended_on s.desk p outs = ap (λ (d : Desk). ended_on d q c.deref-4.result.now) desk ∙ (ap (λ (xs : List Out). ended_on s.desk q xs) c.deref-4.ensures.value ∙ spent_ends s.desk p q outs c.keep_all.ensures.plan) in
    let reply_is : c.finish-reply.result ≡ (ended_on s.desk p outs).reply = c.finish-reply.ensures.reply ∙ ap (λ (z : End). z.reply) ends in
    let why_is : c.refusal-why.result ≡ why_ended p outs = c.refusal-why.ensures ∙ ap (λ (xs : List Out). why_ended p xs) c.deref.ensures.value in
    let becomes_is : c.becomes-becomes.result ≡ becomes p w.member (why_ended p outs) = c.becomes-becomes.ensures ∙ (ap (λ (m : WhoKind). becomes p m c.refusal-why.result) c.requires.was ∙ ap (becomes p w.member) why_is) in
    let says : e ≡ left (the_left s.generation s.desk aim w x p outs b c.requires.ready.plan c.visit_all.ensures.all c.requires.aim) = c.left-slip.ensures
    ∙ (ap (λ (k : ℕ). left (record { generation = k; aim = aim; who = w; command = x; outs = answers_told c.of-whole.result.value.parts outs b; reply = c.finish-reply.result; becomes = c.becomes-becomes.result })) gen
    ∙ (ap (λ (k : Draft). left (record { generation = s.generation; aim = aim; who = w; command = x; outs = answers_told k.parts outs b; reply = c.finish-reply.result; becomes = c.becomes-becomes.result })) c.of-whole.ensures
    ∙ (ap (λ (k : Reply). left (record { generation = s.generation; aim = aim; who = w; command = x; outs = answers_told p.parts outs b; reply = k; becomes = c.becomes-becomes.result })) reply_is
    ∙ ap (λ (k : WhoKind). left (record { generation = s.generation; aim = aim; who = w; command = x; outs = answers_told p.parts outs b; reply = (ended_on s.desk p outs).reply; becomes = k })) becomes_is))) in
    let kept : c.keep_all.new.pendings.items ≡ all_pending p.contents p.parts outs gens = c.keep_all.ensures.pendings
    ∙ (ap (λ ys. ys ++ all_pending p.contents p.parts c.deref-2.result.now c.deref-3.result.now) c.requires.ready.pendings
    ∙ (ap (λ (xs : List Out). all_pending p.contents p.parts xs c.deref-3.result.now) c.deref-2.ensures.value ∙ ap (λ (ns : List ℕ). all_pending p.contents p.parts outs ns) c.deref-3.ensures.value)) in
    outcome c.refusal-why.result c.finish-reply.result c.becomes-becomes.result c.keep_all.new.pendings.items c.args.prepared.hand w c.requires.ready.hand
    (λ y is. let r = refused_so s.generation s.desk aim w x p outs b c.requires.ready.plan c.visit_all.ensures.all c.requires.aim gens v v₁ c.requires.desk.desk c.requires.shut c.visit_all.ensures.visited c.requires.value e says
    c.visit_all.ensures.first c.visit_all.ensures.counts.1 c.keep_all.new.pendings.items kept y (sym why_is ∙ is) in (r.0, reply_is ∙ r.1, becomes_is ∙ r.2, r.3))
