-- Whether all blocks are covered, and the words behind them.
use Rattle.std.proofs.Common.{◌∙◌, ap, sym, ◌&&◌, Bool, arith}
use Rattle.kd_bloom.specs.Packed.{words_fit}
use Rattle.kd_bloom.proofs.Blocks.{passes_by_blocks}
use Rattle.kd_bloom.proofs.words.covers.Goals as goal

pub returns-then-blocks_cover : goal.returns-then-blocks_cover
returns-then-blocks_cover c =
    c.each_covers.ensures ∙ ap (λ (b : Bool). b && words_fit c.as_chunks.result.1.now c.as_chunks-2.result.1.now) (sym c.if-blocks_cover.true ∙ c.blocks_cover.ensures)
    ∙ passes_by_blocks c.args.filter.now c.args.mask.now _ _ _ _ c.requires (λ i. omega (arith, c.type_inv.filter i)) (λ i. omega (arith, c.type_inv.mask i)) c.as_chunks.ensures.front c.as_chunks-2.ensures.front c.as_chunks.ensures.back c.as_chunks-2.ensures.back

pub returns-else-blocks_cover : goal.returns-else-blocks_cover
returns-else-blocks_cover c =
    c.if-blocks_cover.false ∙ ap (λ (b : Bool). b && words_fit c.as_chunks.result.1.now c.as_chunks-2.result.1.now) (sym c.if-blocks_cover.false ∙ c.blocks_cover.ensures)
    ∙ passes_by_blocks c.args.filter.now c.args.mask.now _ _ _ _ c.requires (λ i. omega (arith, c.type_inv.filter i)) (λ i. omega (arith, c.type_inv.mask i)) c.as_chunks.ensures.front c.as_chunks-2.ensures.front c.as_chunks.ensures.back c.as_chunks-2.ensures.back
