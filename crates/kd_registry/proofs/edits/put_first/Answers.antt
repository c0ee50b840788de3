use Rattle.std.proofs.Common.{◌≡◌, ap, sym, ◌∙◌, arith, true, false}
use Rattle.kd_registry.specs.Claims.{gives_way, ranks}
use Rattle.kd_registry.proofs.Places.{owner_within, place_within, puts_over, puts_before}
use Rattle.kd_registry.proofs.Spans.{span_within_in, there_in}
use Rattle.kd_registry.proofs.edits.put_first.Goals as goal

pub claims_at-requires : goal.claims_at-requires
claims_at-requires c = span_within_in c.claims.result.now c.args.book.now c.args.claim.name c.args.span c.requires.ranked c.requires.span c.claims.ensures

pub replace-requires : goal.replace-requires
replace-requires c =
    let r = c.args.book.now in
    let n = c.args.claim.name in
    let mine : c.claims_at.result.now ≡ ranks r n = there_in c.claims_at.result.now c.claims.result.now r n c.args.span c.requires.ranked c.requires.span c.claims_at.ensures c.claims.ensures in
    let gives : gives_way (ranks r n) ≡ true = ap gives_way (sym mine) ∙ sym c.gives_way.ensures ∙ c.if-gives_way.true in
    omega (arith, c.requires.span.start, owner_within r n c.requires.ranked gives)

pub insert-requires-clause-within : goal.insert-requires-clause-within
insert-requires-clause-within c =
    let r = c.args.book.now in
    let n = c.args.claim.name in
    omega (arith, c.requires.span.start, place_within r n 0 c.requires.ranked (omega arith))

pub returns-then-gives_way-clause-items : goal.returns-then-gives_way-clause-items
returns-then-gives_way-clause-items c =
    let r = c.args.book.now in
    let n = c.args.claim.name in
    let mine : c.claims_at.result.now ≡ ranks r n = there_in c.claims_at.result.now c.claims.result.now r n c.args.span c.requires.ranked c.requires.span c.claims_at.ensures c.claims.ensures in
    let gives : gives_way (ranks r n) ≡ true = ap gives_way (sym mine) ∙ sym c.gives_way.ensures ∙ c.if-gives_way.true in
    c.replace.ensures ∙ puts_over r n c.args.claim c.args.span.start c.requires.ranked c.requires.span.start gives

pub returns-else-gives_way-clause-items : goal.returns-else-gives_way-clause-items
returns-else-gives_way-clause-items c =
    let r = c.args.book.now in
    let n = c.args.claim.name in
    let mine : c.claims_at.result.now ≡ ranks r n = there_in c.claims_at.result.now c.claims.result.now r n c.args.span c.requires.ranked c.requires.span c.claims_at.ensures c.claims.ensures in
    let keeps : gives_way (ranks r n) ≡ false = ap gives_way (sym mine) ∙ sym c.gives_way.ensures ∙ c.if-gives_way.false in
    c.insert.ensures ∙ puts_before r n c.args.claim c.args.span.start c.requires.ranked c.requires.span.start keeps
