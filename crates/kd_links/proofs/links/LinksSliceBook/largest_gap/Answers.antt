-- The last gap in order of size is the largest of the book.
use Rattle.std.proofs.Common.{sym, ◌∙◌}
use Rattle.kd_links.proofs.Largest.{largest_is}
use Rattle.kd_links.proofs.links.LinksSliceBook.largest_gap.Goals as goal

pub returns : goal.returns
returns c = rw (← c.self.view_is) (c.largest.ensures ∙ sym (largest_is c.self.inside.size c.self.inside.chain c.self.invariant.kept c.self.invariant.binned))
