use Rattle.std.proofs.Common.{ℕ, List, ap, ◌∙◌}
use Rattle.kd_acts.specs.State.{Answer}
use Rattle.kd_wire.specs.declared.reply.Reply.{Reply}
use Rattle.kd_commands.specs.declared.who.WhoKind.{WhoKind}
use Rattle.kd_holds.specs.Handing.{answers_told}
use Rattle.kd_histories.specs.Turns.{Turn, left}
use Rattle.kd_bus.specs.Slips.{turn_told}
use Rattle.kd_bus.proofs.slip.Slip.left.Goals as goal

pub returns : goal.returns
unfolding turn_told
returns c =
    let say : ℕ → List Answer → Reply → WhoKind → Turn = λ g os r m. left (record { generation = g; aim = c.args.given.aim.value; who = c.args.given.who.value; command = c.args.given.command.value; outs = os; reply = r; becomes = m }) in
    let ps = c.args.plan.value.parts in
    c.of-6.ensures
    ∙ (ap (λ g. say g (answers_told ps c.of-3.result.value.items c.of-2.result.value.drained) c.of-4.result.value c.of-5.result.value) c.of.ensures
    ∙ (ap (λ m. say c.args.generation (answers_told ps c.of-3.result.value.items m.drained) c.of-4.result.value c.of-5.result.value) c.of-2.ensures
    ∙ (ap (λ os. say c.args.generation (answers_told ps os.items c.args.made.now.drained) c.of-4.result.value c.of-5.result.value) c.of-3.ensures
    ∙ (ap (λ r. say c.args.generation (answers_told ps c.args.outs.now.items c.args.made.now.drained) r c.of-5.result.value) c.of-4.ensures
    ∙ ap (λ m. say c.args.generation (answers_told ps c.args.outs.now.items c.args.made.now.drained) c.args.reply.now m) c.of-5.ensures))))
