-- One string more.
use Rattle.std.proofs.Common.{◌≡◌, ◌∙◌, ap, length}
use Rattle.std.proofs.lemmas.List.{take_at}
use Rattle.kd_bloom.proofs.Marks.{filter_more}
use Rattle.kd_bloom.proofs.builder.FilterBuilder.add.Goals as goal

pub returns-clause-one_more : goal.returns-clause-one_more
returns-clause-one_more c = λ strings f.
    let l = c.mark.ensures.length in
    let bits = c.mark.ensures.bits in
    let len : length c.mark.new.bytes ≡ c.self.inside.bytes.len = l ∙ c.deref_mut.ensures.len in
    let before = rw (← c.self.view_is) at f in
    let more = rw (c.deref_mut.ensures.value, c.self.invariant, c.hash_count-count.ensures, c.digest-digest.ensures) at bits in
    rw (take_at _ _ _ len) (filter_more _ _ _ strings c.args.string.now _ _ before (l ∙ ap length c.deref_mut.ensures.value ∙ c.self.invariant) more)
