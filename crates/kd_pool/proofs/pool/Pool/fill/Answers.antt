-- Either a slice is reserved and has the message, or a miss is counted.
use Rattle.std.proofs.Common.{ap, arith, sym, ◌∙◌}
use Rattle.std.proofs.lemmas.Int.{to_z-of_z}
use Rattle.kd_pool.proofs.Fills.{fills_none, fills_one, filling_counts, reserving_counts}
use Rattle.kd_acts.specs.State.{Answer, Pool}
use mir.Syntax.{w64}
use Rattle.kd_pool.proofs.pool.Pool.fill.Goals as goal

abbrev first : Pool × Answer → Pool
first s = s.0

abbrev second : Pool × Answer → Answer
second s = s.1

pub miss-requires : goal.miss-requires
miss-requires c =
    let counts = reserving_counts c.args.len c.args.source c.args.user c.args.self.now c.reserve.new.self c.reserve.ensures.state in
    record { count = omega (arith, counts.misses, c.requires.misses) }

pub publish-requires-clause-count : goal.publish-requires-clause-count
publish-requires-clause-count c =
    let counts = reserving_counts c.args.len c.args.source c.args.user c.args.self.now c.reserve.new.self c.reserve.ensures.state in
    omega (arith, counts.arrivals, c.requires.arrivals)

pub returns-in-Err-clause-state : goal.returns-in-Err-clause-state
returns-in-Err-clause-state c = c.miss.ensures ∙ sym (ap first (fills_none (record { image = c.args.image.now; shared = c.args.share; priority = c.args.priority }) c.args.user c.args.source c.args.len c.args.self.now c.reserve.new.self c.in-Err.why c.requires.whole c.reserve.ensures.state c.in-Err.ensures.answer))

pub returns-in-Err-clause-answer : goal.returns-in-Err-clause-answer
returns-in-Err-clause-answer c = sym (ap second (fills_none (record { image = c.args.image.now; shared = c.args.share; priority = c.args.priority }) c.args.user c.args.source c.args.len c.args.self.now c.reserve.new.self c.in-Err.why c.requires.whole c.reserve.ensures.state c.in-Err.ensures.answer))

pub returns-in-Err-clause-arrivals : goal.returns-in-Err-clause-arrivals
returns-in-Err-clause-arrivals c =
    let counts = reserving_counts c.args.len c.args.source c.args.user c.args.self.now c.reserve.new.self c.reserve.ensures.state in
    let same = ap (λ (x : Pool). x.next_arrival) c.miss.ensures in
    omega (arith, counts.arrivals, same)

pub returns-in-Err-clause-misses : goal.returns-in-Err-clause-misses
returns-in-Err-clause-misses c =
    let counts = reserving_counts c.args.len c.args.source c.args.user c.args.self.now c.reserve.new.self c.reserve.ensures.state in
    let same = ap (λ (x : Pool). x.dropped) c.miss.ensures in
    omega (arith, counts.misses, same)

pub returns-in-Ok-clause-state : goal.returns-in-Ok-clause-state
returns-in-Ok-clause-state c =
    let queued = simp (to_z-of_z w64 c.args.priority c.ranges.priority) at c.publish.ensures in
    queued ∙ sym (ap first (fills_one (record { image = c.args.image.now; shared = c.args.share; priority = c.args.priority }) c.args.user c.args.source c.args.len c.in-Ok.number c.args.self.now c.reserve.new.self c.requires.whole c.reserve.ensures.state c.in-Ok.ensures.answer))

pub returns-in-Ok-clause-answer : goal.returns-in-Ok-clause-answer
returns-in-Ok-clause-answer c = sym (ap second (fills_one (record { image = c.args.image.now; shared = c.args.share; priority = c.args.priority }) c.args.user c.args.source c.args.len c.in-Ok.number c.args.self.now c.reserve.new.self c.requires.whole c.reserve.ensures.state c.in-Ok.ensures.answer))

pub returns-in-Ok-clause-arrivals : goal.returns-in-Ok-clause-arrivals
returns-in-Ok-clause-arrivals c =
    let counts = reserving_counts c.args.len c.args.source c.args.user c.args.self.now c.reserve.new.self c.reserve.ensures.state in
    let one = filling_counts _ _ c.reserve.new.self c.publish.new.self c.publish.ensures in
    omega (arith, counts.arrivals, one.0)

pub returns-in-Ok-clause-misses : goal.returns-in-Ok-clause-misses
returns-in-Ok-clause-misses c =
    let counts = reserving_counts c.args.len c.args.source c.args.user c.args.self.now c.reserve.new.self c.reserve.ensures.state in
    let one = filling_counts _ _ c.reserve.new.self c.publish.new.self c.publish.ensures in
    omega (arith, counts.misses, one.1)
