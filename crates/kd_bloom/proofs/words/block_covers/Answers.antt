-- One word more.
use Rattle.std.proofs.Common.{◌∙◌, ap₂, sym, arith, rules, ◌&&◌, get_or, ◌<◌, ◌^◌}
use Rattle.kd_bloom.specs.Packed.{word_fits}
use Rattle.kd_bloom.proofs.Blocks.{pairs_more, word_by_lack, lacks_together}
use Rattle.kd_bloom.proofs.words.block_covers.Goals as goal

pub words-preserved : goal.words-preserved
words-preserved c =
    let ff : get_or c.args.filter.now c.words.i 0 < 2 ^ 64 = search rules in
    let mf : get_or c.args.mask.now c.words.i 0 < 2 ^ 64 = search rules in
    lacks_together c.words.lacking _ ∙ ap₂ ◌&&◌ c.words.invariant (word_by_lack (get_or c.args.filter.now c.words.i 0) (get_or c.args.mask.now c.words.i 0) ff mf)
    ∙ sym (pairs_more word_fits c.args.filter.now c.args.mask.now c.words.i 0 (omega (arith, c.type_inv.filter)) (omega (arith, c.type_inv.mask)))
