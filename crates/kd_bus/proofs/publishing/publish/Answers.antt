use Rattle.std.proofs.Common.{suc, ◌∙◌, refl}
use Rattle.kd_hands.specs.Views.{part}
use Rattle.kd_acts.specs.State.{publish}
use Rattle.kd_world.specs.State.{Pending}
use Rattle.kd_bus.proofs.Alone.{alone_stands, answer_now, counts_fit, one_turn, publish_put, says_publish}
use Rattle.kd_bus.proofs.publishing.publish.Goals as goal

pub publish-published-requires : goal.publish-published-requires
publish-published-requires g c =
    let q : Pending = c.args.pending in
    record {
      counts = counts_fit q.seat c.lock_for-lock.result c.lock_for-lock.ensures c.args.pass.now.view c.take.new.self.view c.in-Pool.hold c.in-Pool.ensures.took;
    }

pub put-requires-clause-stands : goal.put-requires-clause-stands
put-requires-clause-stands g c =
    let q : Pending = c.args.pending in
    let h = c.in-Pool.hold in
    let a = publish q.generation q.number q.content in
    let is = says_publish h q c.of-given.result.value c.generation-generation.result c.publish-published.result c.published-slip.result c.published-slip.ensures c.generation-generation.ensures c.of-given.ensures c.publish-published.ensures.answer in
    alone_stands q.seat c.lock_for-lock.result c.lock_for-lock.ensures c.args.pass.now.view c.take.new.self.view h c.in-Pool.ensures.took c.requires.idle.rests.holds a c.published-slip.result is
    refl c.publish-published.new.self c.publish-published.ensures.after

pub put-requires-clause-tie : goal.put-requires-clause-tie
put-requires-clause-tie g c =
    let q : Pending = c.args.pending in
    let h = c.in-Pool.hold in
    let a = publish q.generation q.number q.content in
    let is = says_publish h q c.of-given.result.value c.generation-generation.result c.publish-published.result c.published-slip.result c.published-slip.ensures c.generation-generation.ensures c.of-given.ensures c.publish-published.ensures.answer in
    publish_put q.seat c.lock_for-lock.result c.lock_for-lock.ensures c.args.pass.now.view c.take.new.self.view h c.in-Pool.ensures.took c.requires.idle.rests.holds a c.published-slip.result is
    q.generation q.number q.content refl c.requires.owed.owed_is

pub returns-clause-publishes : goal.returns-clause-publishes
returns-clause-publishes g c =
    let q : Pending = c.args.pending in
    let h = c.in-Pool.hold in
    let a = publish q.generation q.number q.content in
    let is = says_publish h q c.of-given.result.value c.generation-generation.result c.publish-published.result c.published-slip.result c.published-slip.ensures c.generation-generation.ensures c.of-given.ensures c.publish-published.ensures.answer in
    record {
      list = (part c.take.new.self.view (suc q.seat)).seen;
      turn = one_turn q.seat c.lock_for-lock.result c.lock_for-lock.ensures c.args.pass.now.view c.take.new.self.view h c.in-Pool.ensures.took c.requires.idle.rests.holds a c.published-slip.result is c.put.new.self.view c.put.ensures.passed;
      answer_is = c.publish-published.ensures.answer ∙ answer_now q.seat c.lock_for-lock.result c.lock_for-lock.ensures c.args.pass.now.view c.take.new.self.view h c.in-Pool.ensures.took a;
    }
