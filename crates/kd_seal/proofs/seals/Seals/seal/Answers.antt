-- The connection's counter stands behind the others, one above the number that was given.
use Rattle.std.proofs.Common.{◌+◌}
use Rattle.kd_seal.proofs.Counting.{next_behind}
use Rattle.kd_seal.proofs.seals.Seals.seal.Goals as goal

pub returns-clause-next : goal.returns-clause-next
returns-clause-next c = next_behind c.self.inside.counters.items c.count.new.counters.items c.args.id (c.in_ok-number.number + 1) c.count.ensures.counted
