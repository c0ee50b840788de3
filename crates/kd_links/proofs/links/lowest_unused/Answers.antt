-- A number in use leaves those behind it, an unused one is the answer, and behind the last there is
-- none.
use Rattle.std.proofs.Common.{sym, ◌∙◌}
use Rattle.kd_slices.proofs.Walks.{finds_none, passes_over, stops_at, unused_from_start}
use Rattle.kd_links.proofs.links.lowest_unused.Goals as goal

pub numbers-init : goal.numbers-init
numbers-init c = unused_from_start _

pub returns-then-not-is_used : goal.returns-then-not-is_used
returns-then-not-is_used c = sym (c.numbers.invariant ∙ stops_at _ _ c.numbers-test.true (sym c.is_used.ensures ∙ c.if-not-is_used.true))

pub numbers-preserved : goal.numbers-preserved
numbers-preserved c = c.numbers.invariant ∙ passes_over _ _ c.numbers-test.true (sym c.is_used.ensures ∙ c.if-not-is_used.false)

pub returns : goal.returns
returns c = sym (c.numbers.invariant ∙ finds_none _ _ c.numbers-test.false)
