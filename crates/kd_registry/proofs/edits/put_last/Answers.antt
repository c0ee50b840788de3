use Rattle.std.proofs.Common.{◌≡◌, ◌+◌, ap, ◌∙◌, arith, length}
use Rattle.kd_registry.specs.Claims.{lower, ranks}
use Rattle.kd_registry.proofs.Places.{puts_last}
use Rattle.kd_registry.proofs.Spans.{span_within}
use Rattle.kd_registry.proofs.edits.put_last.Goals as goal

pub overflow_add-end : goal.overflow_add-end
overflow_add-end c = omega (arith, span_within c.args.book.now c.args.claim.name c.args.span c.requires.ranked c.requires.span, c.requires.room)

pub insert-requires-clause-within : goal.insert-requires-clause-within
insert-requires-clause-within c = span_within c.args.book.now c.args.claim.name c.args.span c.requires.ranked c.requires.span

pub returns-clause-items : goal.returns-clause-items
returns-clause-items c =
    let r = c.args.book.now in
    let n = c.args.claim.name in
    let place : c.args.span.start + c.args.span.count ≡ length (lower r n) + length (ranks r n) = omega (arith, c.requires.span.start, c.requires.span.count) in
    c.insert.ensures ∙ puts_last r n c.args.claim (c.args.span.start + c.args.span.count) c.requires.ranked place
