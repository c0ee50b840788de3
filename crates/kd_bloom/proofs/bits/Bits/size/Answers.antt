-- The length of what is seen is the number of bytes.
use Rattle.std.proofs.Common.{ap, length, arith}
use Rattle.kd_bloom.proofs.Packs.{length_packed}
use Rattle.kd_bloom.proofs.bits.Bits.size.Goals as goal

pub returns : goal.returns
returns c = let e = length_packed _ _ c.self.invariant in let l = ap length c.self.view_is in omega arith
