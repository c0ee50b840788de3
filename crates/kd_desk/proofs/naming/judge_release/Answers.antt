use Rattle.std.proofs.Common.{Err, ap, ◌∙◌}
use Rattle.kd_registry.specs.Claims.{release_answer}
use Rattle.kd_commands.specs.State.{Desk}
use Rattle.kd_desk.specs.Owners.{hidden}
use Rattle.kd_desk.proofs.NamePlans.{release_ok, release_err}
use Rattle.kd_desk.proofs.naming.judge_release.Goals as goal

pub returns-in-Ok-clause-judged : goal.returns-in-Ok-clause-judged
returns-in-Ok-clause-judged c = release_ok c.args.desk.now c.args.conn.now c.args.name.now _ (c.in-Ok.ensures ∙ ap (λ (d : Desk). release_answer d.registry c.args.conn.now.id c.bytes.result.now) c.desk.view_is ∙ ap (release_answer c.args.desk.now.registry c.args.conn.now.id) c.bytes.ensures)

pub returns-in-Err-clause-judged : goal.returns-in-Err-clause-judged
returns-in-Err-clause-judged c =
    ap Err (c.hidden.ensures ∙ ap (hidden c.in-Err.refusal) c.may_see_name.ensures)
    ∙ release_err c.args.desk.now c.args.conn.now c.args.name.now c.in-Err.refusal (c.in-Err.ensures ∙ ap (λ (d : Desk). release_answer d.registry c.args.conn.now.id c.bytes.result.now) c.desk.view_is ∙ ap (release_answer c.args.desk.now.registry c.args.conn.now.id) c.bytes.ensures)
