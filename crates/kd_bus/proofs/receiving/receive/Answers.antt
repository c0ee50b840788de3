use Rattle.std.proofs.Common.{suc, ap, ◌∙◌, refl}
use Rattle.kd_hands.specs.Views.{part}
use Rattle.kd_acts.specs.State.{receive}
use Rattle.kd_world.specs.Hands.{hand_received}
use Rattle.kd_bus.proofs.Alone.{alone_stands, answer_now, new_number, one_turn, receive_put, says_receive}
use Rattle.kd_bus.proofs.receiving.receive.Goals as goal

pub put-requires-clause-stands : goal.put-requires-clause-stands
put-requires-clause-stands g c =
    let h = c.in-Pool.hold in
    let is = says_receive h c.args.mode c.generation-generation.result c.receive-got.result c.received-slip.result c.received-slip.ensures c.generation-generation.ensures c.receive-got.ensures.answer in
    alone_stands c.args.seat c.lock_of-lock.result c.lock_of-lock.ensures c.args.pass.now.view c.take.new.self.view h c.in-Pool.ensures.took c.requires.idle.rests.holds (receive c.args.mode) c.received-slip.result is
    refl c.receive-got.new.self c.receive-got.ensures.after

pub put-requires-clause-tie : goal.put-requires-clause-tie
put-requires-clause-tie g c =
    let h = c.in-Pool.hold in
    let is = says_receive h c.args.mode c.generation-generation.result c.receive-got.result c.received-slip.result c.received-slip.ensures c.generation-generation.ensures c.receive-got.ensures.answer in
    receive_put c.args.seat c.lock_of-lock.result c.lock_of-lock.ensures c.args.pass.now.view c.take.new.self.view h c.in-Pool.ensures.took c.requires.idle.rests.holds (receive c.args.mode) c.received-slip.result is
    c.args.mode c.requires.sits.0 refl c.requires.sits.1

pub returns-clause-receives : goal.returns-clause-receives
returns-clause-receives g c =
    let h = c.in-Pool.hold in
    let is = says_receive h c.args.mode c.generation-generation.result c.receive-got.result c.received-slip.result c.received-slip.ensures c.generation-generation.ensures c.receive-got.ensures.answer in
    let told = answer_now c.args.seat c.lock_of-lock.result c.lock_of-lock.ensures c.args.pass.now.view c.take.new.self.view h c.in-Pool.ensures.took (receive c.args.mode) in
    record {
      list = (part c.take.new.self.view (suc c.args.seat)).seen;
      turn = one_turn c.args.seat c.lock_of-lock.result c.lock_of-lock.ensures c.args.pass.now.view c.take.new.self.view h c.in-Pool.ensures.took c.requires.idle.rests.holds (receive c.args.mode) c.received-slip.result is c.put.new.self.view c.put.ensures.passed;
      answer_is = c.receive-got.ensures.answer ∙ told;
      hand_is = c.receive-got.ensures.hand ∙ ap (λ o. hand_received c.args.mode o c.args.hand.now) told;
      is_new = new_number c.args.seat c.lock_of-lock.result c.lock_of-lock.ensures c.args.pass.now.view c.take.new.self.view h c.in-Pool.ensures.took c.args.mode;
    }
