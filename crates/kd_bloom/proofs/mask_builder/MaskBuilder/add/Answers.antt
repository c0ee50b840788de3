-- One string more in each generation.
use Rattle.std.proofs.Common.{◌≡◌, ◌∙◌, arith, length}
use Rattle.std.proofs.lemmas.List.{take_at}
use Rattle.kd_bloom.proofs.Masks.{masks_more, length-pieces}
use Rattle.kd_bloom.proofs.mask_builder.MaskBuilder.add.Goals as goal

pub returns-clause-one_more : goal.returns-clause-one_more
returns-clause-one_more c = λ strings m.
    let l = c.mark_generations.ensures.length in
    let k = c.mark_generations.ensures.marked in
    let len : length c.mark_generations.new.bytes ≡ c.self.inside.bytes.len = l ∙ c.deref_mut.ensures.len in
    let before = rw (← c.self.view_is) at m in
    let after = rw (c.deref_mut.ensures.value) at k in
    rw (take_at _ _ _ len) (masks_more _ _ _ c.args.string.now _ strings _ _ after (omega (arith, length-pieces c.self.inside.generations c.self.inside.param.size c.self.inside.bytes.items)) c.digest-digest.ensures before)
