use Rattle.std.proofs.Common.{◌≡◌, ◌<◌, fold, take}
use Rattle.kd_policy.specs.Marks.{next_mark}
use Rattle.kd_policy.proofs.marks.mark_behind.Given as goal

abbrev pub invariant-bytes : goal.invariant-bytes
invariant-bytes l = (l.mark ≡ fold next_mark l.front (take l.byte-index l.back)) × (l.mark < 8191)
