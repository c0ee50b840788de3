-- A seat that isn't free leaves those behind it, a free one is the answer, and behind the last
-- there is none.
use Rattle.std.proofs.Common.{sym, ◌∙◌}
use Rattle.kd_commands.proofs.Seats.{finds_none, free_from_start, passes_over, stops_at}
use Rattle.kd_desk.proofs.hello.free_seat.Goals as goal

pub seats-init : goal.seats-init
seats-init c = free_from_start _

pub returns-then-is_free : goal.returns-then-is_free
returns-then-is_free c = sym (c.seats.invariant ∙ stops_at _ _ c.seats-test.true (sym c.is_free.ensures ∙ c.if-is_free.true))

pub seats-preserved : goal.seats-preserved
seats-preserved c = c.seats.invariant ∙ passes_over _ _ c.seats-test.true (sym c.is_free.ensures ∙ c.if-is_free.false)

pub returns : goal.returns
returns c = sym (c.seats.invariant ∙ finds_none _ _ c.seats-test.false)
