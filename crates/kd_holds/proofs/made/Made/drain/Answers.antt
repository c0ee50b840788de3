-- A refused drain leaves the buffer empty, and one that was done fills it.
use Rattle.std.proofs.Common.{◌≡◌, None, Some, ap, subst, ◌∙◌}
use Rattle.kd_tables.specs.declared.part.Out.TheVariants as out
use Rattle.kd_holds.specs.Handing.{HasDrained, Stock}
use Rattle.kd_holds.proofs.Stocks.{done_keeps, refused_keeps}
use Rattle.kd_holds.proofs.made.Made.drain.Goals as goal

pub returns-in-Err-clause-kept : goal.returns-in-Err-clause-kept
returns-in-Err-clause-kept c =
    let none : c.self.inside.drained.value ≡ None = ap (λ (m : Stock). m.drained) c.self.view_is ∙ c.requires.room.1 in
    subst (λ (m : Stock). HasDrained (out.Refused c.in-Err.why) m (record { raised = c.self.inside.raised.items; buffer = Some c.drain_into.new.buffer; drained = c.self.inside.drained.value })) c.self.view_is
    (refused_keeps c.self.inside.raised.items c.self.inside.buffer c.self.inside.drained.value c.drain_into.new.buffer c.in-Err.why none c.in-Err.ensures.err)

pub returns-clause-kept : goal.returns-clause-kept
returns-clause-kept c =
    subst (λ (m : Stock). HasDrained out.Done m (record { raised = c.self.inside.raised.items; buffer = Some c.drain_into.new.buffer; drained = c.of.result.value })) c.self.view_is
    (done_keeps c.self.inside.raised.items c.self.inside.buffer c.self.inside.drained.value c.of.result.value c.drain_into.new.buffer c.of.ensures c.drain_into.ensures.few)
