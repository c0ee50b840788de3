-- The words of the mask's generation are tested.
use Rattle.std.proofs.Common.{◌≡◌, ◌∙◌, sym, arith, ◌-◌, ◌*◌, ◌+◌}
use Rattle.kd_bloom.proofs.Masks.{meets_by_words, filter_words, generation_words, some_generation}
use Rattle.kd_bloom.proofs.Law.{never_lost}
use Rattle.kd_bloom.proofs.mask.meets.Goals as goal

pub covers-requires : goal.covers-requires
covers-requires c =
    let some = c.mask.invariant.some in
    rw c.deref.ensures.value (filter_words _ _ _ _ _ _ c.words.ensures c.mask.invariant c.mask.view_is c.requires.equal_sizes ∙ sym (generation_words _ _ _ _ c.mask.invariant (omega (arith, c.min.ensures))))

pub returns-clause-value : goal.returns-clause-value
returns-clause-value c =
    let one : c.min.result * c.mask.inside.width + c.mask.inside.width - c.min.result * c.mask.inside.width ≡ c.mask.inside.width = omega arith in
    rw (← c.mask.view_is) (c.covers.ensures ∙ rw (one, c.deref.ensures.value, c.min.ensures) (meets_by_words _ _ _ _ _ _ c.words.ensures c.mask.invariant))

pub returns-clause-never_lost : goal.returns-clause-never_lost
returns-clause-never_lost c = λ size hashes strings asked f m among.
    returns-clause-value c ∙ never_lost size hashes c.args.generation strings asked c.args.filter.now c.args.mask.now (some_generation _ _ _ _ c.mask.invariant c.mask.view_is) f m among
