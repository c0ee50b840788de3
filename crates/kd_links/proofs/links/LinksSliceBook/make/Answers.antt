-- A chain of no slices, whose only gap is the whole pool, is an empty book.
use Rattle.std.proofs.Common.{◌∙◌}
use Rattle.kd_links.proofs.Placing.{linked_empty}
use Rattle.kd_links.proofs.links.LinksSliceBook.make.Goals as goal

pub invariant_of-result : goal.invariant_of-result
invariant_of-result c =
    linked_empty c.args.size c.fill.new.chain c.refile.new.chain c.span_from.result c.ranges.size.fits c.requires.eights (c.fill.ensures.order ∙ c.in_ok-chain.ensures.order) c.fill.ensures.filed c.fill.ensures.slices c.fill.ensures.gaps c.refile.ensures.order c.refile.ensures.filed c.refile.ensures.spans c.span_from.ensures
