use Rattle.kd_bus.proofs.Looking.{read_put, read_stands, reads_so}
use Rattle.kd_bus.proofs.reading.read.Goals as goal

pub put-requires-clause-stands : goal.put-requires-clause-stands
put-requires-clause-stands g c =
    read_stands c.args.seat c.lock_of-lock.result c.lock_of-lock.ensures c.args.pass.now.view c.take.new.self.view c.in-Pool.hold c.in-Pool.ensures.took c.requires.idle.rests.holds
    c.args.number c.generation-generation.result c.args.sealed c.args.hand.now c.look-read.result c.generation-generation.ensures c.look-read.ensures c.read-slip.result c.read-slip.ensures

pub put-requires-clause-tie : goal.put-requires-clause-tie
put-requires-clause-tie g c =
    read_put c.args.seat c.lock_of-lock.result c.lock_of-lock.ensures c.args.pass.now.view c.take.new.self.view c.in-Pool.hold c.in-Pool.ensures.took c.requires.idle.rests.holds
    c.args.number c.generation-generation.result c.args.sealed c.args.hand.now c.look-read.result c.generation-generation.ensures c.look-read.ensures c.read-slip.result c.read-slip.ensures

pub returns-clause-reads : goal.returns-clause-reads
returns-clause-reads g c =
    reads_so c.args.seat c.lock_of-lock.result c.lock_of-lock.ensures c.args.pass.now.view c.take.new.self.view c.in-Pool.hold c.in-Pool.ensures.took c.requires.idle.rests.holds
    c.args.number c.generation-generation.result c.args.sealed c.args.hand.now c.look-read.result c.generation-generation.ensures c.look-read.ensures c.read-slip.result c.read-slip.ensures c.put.new.self.view c.put.ensures.passed
