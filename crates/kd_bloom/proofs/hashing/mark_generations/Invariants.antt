use Rattle.std.proofs.Common.{◌≡◌, ◌*◌, length}
use Rattle.kd_bloom.specs.Bits.{pieces}
use Rattle.kd_bloom.specs.Bloom.{Marked}
use Rattle.kd_bloom.proofs.hashing.mark_generations.Given as goal

-- the generations so far have the bits of the string
abbrev pub invariant-generations : goal.invariant-generations
invariant-generations l = record {
  joined : length l.bytes ≡ l.generations * l.param.size;
  marked : Marked l.param.size l.param.hashes l.generation l.digest (pieces l.generations l.param.size l.initial.bytes) (pieces l.generations l.param.size l.bytes);
}
