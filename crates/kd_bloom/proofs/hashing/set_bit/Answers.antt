-- One bit more.
use Rattle.kd_bloom.proofs.Marks.{has-with_bit}
use Rattle.kd_bloom.proofs.hashing.set_bit.Goals as goal

pub returns-clause-bits : goal.returns-clause-bits
returns-clause-bits c = has-with_bit c.args.bytes.now c.args.bit c.requires
