use Rattle.std.proofs.Common.{◌≡◌, take}
use Rattle.kd_outside.specs.Paths.{bytes_of}
use Rattle.kd_outside.proofs.path.ToldPath.of.Given as goal

abbrev pub invariant-bytes : goal.invariant-bytes
invariant-bytes l = bytes_of l.bytes ≡ take l.byte-index l.path
