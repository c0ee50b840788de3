use Rattle.std.proofs.Common.{◌≡◌, ◌++◌, length}
use Rattle.kd_bloom.specs.Packed.{unpacked}
use Rattle.kd_bloom.proofs.words.pack.Given as goal

-- the words so far and the bytes that are left are all the bytes
abbrev pub invariant-words : goal.invariant-words
invariant-words l = unpacked l.words.items ++ l.rest ≡ l.bytes

abbrev pub decreases-words : goal.decreases-words
decreases-words l = length l.rest
