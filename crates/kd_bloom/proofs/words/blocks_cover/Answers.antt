-- A block that fails, and one block more.
use Rattle.std.proofs.Common.{◌∙◌, ap₂, sym, arith, ◌&&◌, []}
use Rattle.kd_bloom.specs.Packed.{block_fits}
use Rattle.kd_bloom.proofs.Blocks.{pairs_more, pairs_fail}
use Rattle.kd_bloom.proofs.words.blocks_cover.Goals as goal

pub returns-then-not-block_covers : goal.returns-then-not-block_covers
returns-then-not-block_covers c = sym (pairs_fail block_fits c.args.filter.now c.args.mask.now c.each.i [] (omega arith) (omega arith) (sym c.block_covers.ensures ∙ c.if-not-block_covers.true))

pub each-preserved : goal.each-preserved
each-preserved c = pairs_more block_fits c.args.filter.now c.args.mask.now c.each.i [] (omega arith) (omega arith) ∙ ap₂ ◌&&◌ c.each.invariant (sym c.block_covers.ensures ∙ c.if-not-block_covers.false)
