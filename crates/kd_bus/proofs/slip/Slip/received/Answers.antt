use Rattle.std.proofs.Common.{ap, ◌∙◌, []}
use Rattle.kd_acts.specs.State.{receive}
use Rattle.kd_pool.specs.Told.{receive_answer}
use Rattle.kd_histories.specs.Turns.{did}
use Rattle.kd_bus.specs.Slips.{turn_told}
use Rattle.kd_bus.proofs.slip.Slip.received.Goals as goal

pub returns : goal.returns
unfolding turn_told
returns c =
    c.of-4.ensures
    ∙ (ap (λ g. did (record { generation = g; freed = []; act = receive c.of-2.result.value; answer = receive_answer c.of-3.result.value })) c.of.ensures
    ∙ (ap (λ m. did (record { generation = c.args.generation; freed = []; act = receive m; answer = receive_answer c.of-3.result.value })) c.of-2.ensures
    ∙ ap (λ r. did (record { generation = c.args.generation; freed = []; act = receive c.args.mode; answer = receive_answer r })) c.of-3.ensures))
