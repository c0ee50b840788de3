use Rattle.kd_core.specs.Running.{event_of}
use Rattle.kd_replay.proofs.Along.{one_heard}
use Rattle.kd_replay.proofs.running.step.Goals as goal

pub returns-clause-told : goal.returns-clause-told
returns-clause-told g c = one_heard (g.W.Witness.has_heard c.args.witness.now) (g.W.Witness.has_heard c.hear.new.self) c.args.world.now.world (event_of c.args.event) c.in_ok-answer.answer c.in_ok-answer.ensures.answer (λ hs h. c.in_ok-hear.ensures hs (event_of c.args.event) (c.in_ok-see.ensures hs h))
