use Rattle.std.proofs.Common.{◌≡◌, ◌==◌, take}
use Rattle.kd_bloom.specs.Packed.{words_fit}
use Rattle.kd_bloom.proofs.words.block_covers.Given as goal

-- nothing is lacking so far where the words so far are covered
abbrev pub invariant-words : goal.invariant-words
invariant-words l = (l.lacking == 0) ≡ words_fit (take l.i l.filter) (take l.i l.mask)
