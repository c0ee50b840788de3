-- A refused offer has counted no miss.
use Rattle.std.proofs.Common.{arith}
use Rattle.kd_holds.proofs.Counting.{misses_stay}
use Rattle.kd_holds.proofs.opened.offer.Goals as goal

pub miss-requires : goal.miss-requires
miss-requires c =
    let same = misses_stay c.args.user c.args.len c.args.from c.args.pool.now c.offer.new.self c.offer.ensures.state in
    record { count = omega (arith, same, c.requires.counts.misses) }
