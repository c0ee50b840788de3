-- A word that fails, and one word more.
use Rattle.std.proofs.Common.{◌∙◌, ap₂, sym, arith, ◌&&◌}
use Rattle.std.proofs.lemmas.Bool.{eq-eqb, ne_eqb}
use Rattle.kd_bloom.specs.Packed.{word_fits}
use Rattle.kd_bloom.proofs.Blocks.{pairs_more, pairs_fail}
use Rattle.kd_bloom.proofs.words.each_covers.Goals as goal

pub returns-then-filter-i : goal.returns-then-filter-i
returns-then-filter-i c = sym (pairs_fail word_fits c.args.filter.now c.args.mask.now c.each.i 0 (omega arith) (omega arith) (ne_eqb _ _ c.if-filter-i.true))

pub each-preserved : goal.each-preserved
each-preserved c = pairs_more word_fits c.args.filter.now c.args.mask.now c.each.i 0 (omega arith) (omega arith) ∙ ap₂ ◌&&◌ c.each.invariant (eq-eqb _ _ c.if-filter-i.false)
