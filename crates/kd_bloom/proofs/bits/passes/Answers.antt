-- A test of the words is a test of the bytes.
use Rattle.std.proofs.Common.{◌∙◌}
use Rattle.kd_bloom.proofs.Packs.{passes_packed, same_count}
use Rattle.kd_bloom.proofs.bits.passes.Goals as goal

pub covers-requires : goal.covers-requires
covers-requires c = same_count _ _ _ _ c.words.ensures c.words-2.ensures c.requires.equal_sizes

pub returns : goal.returns
returns c = c.covers.ensures ∙ passes_packed _ _ _ _ c.words.ensures c.words-2.ensures
