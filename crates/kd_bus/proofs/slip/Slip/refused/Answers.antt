use Rattle.std.proofs.Common.{ℕ, [], ap, ◌∙◌}
use Rattle.kd_types.specs.declared.refusal.Refusal.{Refusal}
use Rattle.kd_wire.specs.declared.reply.Reply.TheVariants as reply
use Rattle.kd_commands.specs.declared.who.WhoKind.{WhoKind}
use Rattle.kd_histories.specs.Turns.{Turn, left}
use Rattle.kd_bus.specs.Slips.{turn_told}
use Rattle.kd_bus.proofs.slip.Slip.refused.Goals as goal

pub returns : goal.returns
unfolding turn_told
returns c =
    let say : ℕ → Refusal → WhoKind → Turn = λ g y m. left (record { generation = g; aim = c.args.given.aim.value; who = c.args.given.who.value; command = c.args.given.command.value; outs = []; reply = reply.Refused y; becomes = m }) in
    c.of-4.ensures
    ∙ (ap (λ g. say g c.of-2.result.value c.of-3.result.value) c.of.ensures
    ∙ (ap (λ y. say c.args.generation y c.of-3.result.value) c.of-2.ensures
    ∙ ap (λ m. say c.args.generation c.args.why.now m) c.of-3.ensures))
