-- Whole generations of whole words.
use Rattle.std.proofs.Common.{arith, rules}
use Rattle.kd_bloom.proofs.Masks.{no_mask, wide, mask_pieces}
use Rattle.kd_bloom.proofs.mask.Mask.of.Goals as goal

pub returns-then-bytes-size-ne0-clause-size : goal.returns-then-bytes-size-ne0-clause-size
returns-then-bytes-size-ne0-clause-size c =
    (λ _. rw (no_mask c.args.param.size _ (omega (arith, c.args.param.not_empty)) (λ h. c.if-bytes-size-ne0.true h.0)) (search rules), λ _. search rules)

pub invariant_of-result : goal.invariant_of-result
invariant_of-result c = wide _ _ _ c.args.param.not_empty c.args.param.at_most_512 c.args.param.whole_words c.if-bytes-size-ne0.false c.if-generations-lt1.false c.if-generations-gt4.false c.in_ok-pack.ensures

pub returns-clause-split : goal.returns-clause-split
returns-clause-split c = mask_pieces _ _ _ c.args.param.whole_words c.if-bytes-size-ne0.false c.if-generations-gt4.false c.in_ok-pack.ensures
