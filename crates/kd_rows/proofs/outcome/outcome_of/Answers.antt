-- The sink holds nothing before the run, and what is compared after it.
use Rattle.std.proofs.Common.{rules, Some}
use Rattle.kd_rows.proofs.Answered.{answered}
use Rattle.kd_rows.proofs.outcome.outcome_of.Goals as goal

pub returns : goal.returns
returns c =
    answered c.args.trial.now c.deref.result.now (Some c.make-sink.result.held)
    (Some c.replay_frames-end.new.sink.held) c.held.result.now c.replay_frames-end.result
    c.compared.result (search rules) (search rules) (search rules)
    c.replay_frames-end.ensures.answers c.compared.ensures
