-- Bytes and count of the share so far.
use Rattle.kd_pool.proofs.Shares.{Shares}
use Rattle.kd_pool.proofs.table.is_over_quota.Given as goal

abbrev pub invariant-slots : goal.invariant-slots
invariant-slots l = Shares l.slots l.slot-index l.user l.len l.bytes l.count
