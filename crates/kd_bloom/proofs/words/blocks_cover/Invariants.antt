use Rattle.std.proofs.Common.{◌≡◌, true, take}
use Rattle.kd_bloom.specs.Packed.{blocks_fit}
use Rattle.kd_bloom.proofs.words.blocks_cover.Given as goal

-- the blocks so far are covered
abbrev pub invariant-each : goal.invariant-each
invariant-each l = blocks_fit (take l.i l.filter) (take l.i l.mask) ≡ true
