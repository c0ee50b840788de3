use Rattle.std.proofs.Common.{◌≡◌, List, [], ap, sym, subst, ◌∙◌}
use Rattle.kd_wire.specs.declared.reply.Reply.{Reply}
use Rattle.kd_wire.specs.declared.reply.Reply.TheVariants as reply
use Rattle.kd_world.specs.State.{Pending}
use Rattle.kd_commands.specs.declared.who.WhoKind.{WhoKind}
use Rattle.kd_hands.specs.Views.{part}
use Rattle.kd_histories.specs.Puts.{IsOwn}
use Rattle.kd_histories.specs.Slots.{Slot}
use Rattle.kd_histories.specs.Turns.{left}
use Rattle.kd_bus.specs.Leaving.{Leaves}
use Rattle.kd_bus.proofs.Left.{the_refused, turned_put, turned_so, turned_stands}
use Rattle.kd_bus.proofs.leaving.turn_away.Goals as goal

pub put-requires-clause-stands : goal.put-requires-clause-stands
put-requires-clause-stands c =
    let s : Slot = c.args.slot in
    let x = c.args.given.command.value in
    let aim = c.args.given.aim.value in
    let w = c.args.given.who.value in
    let y = c.args.why in
    let v = c.args.pass.now.view in
    let e = c.refused-slip.result in
    let gen = ap (λ (z : Slot). z.generation) c.slot.view_is in
    let says : e ≡ left (the_refused s.generation s.desk aim w x y c.requires.refused c.requires.aim) = c.refused-slip.ensures
    ∙ (ap (λ g. left (record { generation = g; aim = aim; who = w; command = x; outs = []; reply = reply.Refused y; becomes = c.args.was.now })) gen
    ∙ ap (λ m. left (record { generation = s.generation; aim = aim; who = w; command = x; outs = []; reply = reply.Refused y; becomes = m })) c.requires.was) in
    turned_stands s.generation s.desk aim w x y c.requires.refused c.requires.aim (part v 0).seen v.name e c.requires.value says

pub put-requires-clause-tie : goal.put-requires-clause-tie
put-requires-clause-tie c =
    let s : Slot = c.args.slot in
    let x = c.args.given.command.value in
    let aim = c.args.given.aim.value in
    let w = c.args.given.who.value in
    let y = c.args.why in
    let v = c.args.pass.now.view in
    let e = c.refused-slip.result in
    let gen = ap (λ (z : Slot). z.generation) c.slot.view_is in
    let says : e ≡ left (the_refused s.generation s.desk aim w x y c.requires.refused c.requires.aim) = c.refused-slip.ensures
    ∙ (ap (λ g. left (record { generation = g; aim = aim; who = w; command = x; outs = []; reply = reply.Refused y; becomes = c.args.was.now })) gen
    ∙ ap (λ m. left (record { generation = s.generation; aim = aim; who = w; command = x; outs = []; reply = reply.Refused y; becomes = m })) c.requires.was) in
    turned_put s.generation s.desk aim w x y c.requires.refused c.requires.aim v c.requires.desk.desk c.requires.shut c.requires.value e says (subst (IsOwn (part v 0).own s.generation) c.requires.was c.requires.own)

pub returns-clause-leaves : goal.returns-clause-leaves
returns-clause-leaves c =
    let s : Slot = c.args.slot in
    let x = c.args.given.command.value in
    let aim = c.args.given.aim.value in
    let w = c.args.given.who.value in
    let y = c.args.why in
    let v = c.args.pass.now.view in
    let e = c.refused-slip.result in
    let gen = ap (λ (z : Slot). z.generation) c.slot.view_is in
    let says : e ≡ left (the_refused s.generation s.desk aim w x y c.requires.refused c.requires.aim) = c.refused-slip.ensures
    ∙ (ap (λ g. left (record { generation = g; aim = aim; who = w; command = x; outs = []; reply = reply.Refused y; becomes = c.args.was.now })) gen
    ∙ ap (λ m. left (record { generation = s.generation; aim = aim; who = w; command = x; outs = []; reply = reply.Refused y; becomes = m })) c.requires.was) in
    subst (λ (r : Reply). Leaves s aim w x r c.args.was.now c.new.result.items v c.put.new.self.view) (sym c.refused-reply.ensures)
    (subst (λ (ps : List Pending). Leaves s aim w x (reply.Refused y) c.args.was.now ps v c.put.new.self.view) (sym c.new.ensures.items)
    (subst (λ (m : WhoKind). Leaves s aim w x (reply.Refused y) m [] v c.put.new.self.view) (sym c.requires.was)
    (turned_so s.generation s.desk aim w x y c.requires.refused c.requires.aim v c.requires.desk.desk c.requires.shut c.requires.value e says c.put.new.self.view c.put.ensures.passed)))
