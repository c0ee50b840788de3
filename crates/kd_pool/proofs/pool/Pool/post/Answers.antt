-- The notice is placed in the pool after its sweep.
use Rattle.std.specs.Prelude.{◌≤◌, ◌^◌, None, length, pos}
use Rattle.std.proofs.Common.{ap, sym, ◌∙◌}
use Rattle.kd_pool.proofs.Fills.{at_least, fills_refused, posts}
use Rattle.kd_acts.specs.State.{Answer, Pool}
use Rattle.kd_pool.proofs.pool.Pool.post.Goals as goal

abbrev first : Pool × Answer → Pool
first s = s.0

abbrev second : Pool × Answer → Answer
second s = s.1

pub returns-clause-state : goal.returns-clause-state
returns-clause-state c = c.fill.ensures.state ∙ sym (ap first (posts c.args.image.now c.args.self.now c.sweep.new.self c.sweep.ensures))

pub returns-clause-answer : goal.returns-clause-answer
returns-clause-answer c = c.fill.ensures.answer ∙ sym (ap second (posts c.args.image.now c.args.self.now c.sweep.new.self c.sweep.ensures))

pub returns-in_default-clause-state : goal.returns-in_default-clause-state
returns-in_default-clause-state c =
    let long : 2 ^ 32 ≤ length c.args.image.now = at_least (length c.args.image.now) (2 ^ 32) c.in_default.ensures in
    c.miss.ensures ∙ sym (ap first (posts c.args.image.now c.args.self.now c.sweep.new.self c.sweep.ensures ∙ fills_refused (record { image = c.args.image.now; shared = None; priority = pos 0 }) None 0 c.sweep.new.self c.why_too_long-why.result (c.why_too_long-why.ensures (length c.args.image.now) 0 None long)))

pub returns-in_default-clause-answer : goal.returns-in_default-clause-answer
returns-in_default-clause-answer c =
    let long : 2 ^ 32 ≤ length c.args.image.now = at_least (length c.args.image.now) (2 ^ 32) c.in_default.ensures in
    sym (ap second (posts c.args.image.now c.args.self.now c.sweep.new.self c.sweep.ensures ∙ fills_refused (record { image = c.args.image.now; shared = None; priority = pos 0 }) None 0 c.sweep.new.self c.why_too_long-why.result (c.why_too_long-why.ensures (length c.args.image.now) 0 None long)))
