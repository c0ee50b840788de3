use Rattle.std.proofs.Common.{ap, ◌∙◌, refl}
use Rattle.kd_bus.specs.Members.{member_after}
use Rattle.kd_bus.proofs.Belonging.{commands_so, refused_so}
use Rattle.kd_bus.proofs.bus.Bus.command.Goals as goal

pub returns-in-Some-clause-refused : goal.returns-in-Some-clause-refused
returns-in-Some-clause-refused g c = λ off ne.
    refused_so c.args.cmd c.args.member.now c.args.member.now c.args.pass.now _ _ c.in-Ok.generation c.pass.view_is c.aim_left-aim.ensures c.in-Ok.outcome c.in-Some.why c.in-Ok.ensures.outcome c.in-Some.is c.in-Ok.ensures.runs refl

pub returns-clause-done : goal.returns-clause-done
returns-clause-done g c =
    commands_so c.args.cmd c.args.member.now c.turn.new.self c.args.pass.now _ _ c.in-Ok.generation c.pass.view_is c.aim_left-aim.ensures c.in-Ok.outcome.reply c.in-Ok.outcome.becomes c.in-Ok.outcome.pendings.items c.in-Ok.ensures.runs
    (c.turn.ensures ∙ ap (λ k. member_after c.in-Ok.generation k c.in-Ok.outcome.becomes c.args.member.now) c.kind_made-kind.ensures)
