use Rattle.std.proofs.Common.{ap, ◌∙◌, []}
use Rattle.kd_acts.specs.State.{publish}
use Rattle.kd_holds.specs.Publishing as publishing
use Rattle.kd_histories.specs.Turns.{did}
use Rattle.kd_bus.specs.Slips.{turn_told}
use Rattle.kd_bus.proofs.slip.Slip.published.Goals as goal

pub returns : goal.returns
unfolding turn_told
returns c =
    let p = c.args.pending.value in
    c.of-3.ensures
    ∙ (ap (λ g. did (record { generation = g; freed = []; act = publish p.generation p.number p.content; answer = publishing.publish_answer c.of-2.result.value })) c.of.ensures
    ∙ ap (λ r. did (record { generation = c.args.generation; freed = []; act = publish p.generation p.number p.content; answer = publishing.publish_answer r })) c.of-2.ensures)
