use Rattle.std.proofs.Common.{◌≡◌, true, take}
use Rattle.kd_bloom.specs.Packed.{words_fit}
use Rattle.kd_bloom.proofs.words.each_covers.Given as goal

-- the words so far are covered
abbrev pub invariant-each : goal.invariant-each
invariant-each l = words_fit (take l.i l.filter) (take l.i l.mask) ≡ true
