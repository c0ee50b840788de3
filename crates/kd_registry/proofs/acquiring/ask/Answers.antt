use Rattle.std.proofs.Common.{◌≡◌, ap, subst, ◌∙◌, true, rules, Ok, Err}
use Rattle.kd_name.specs.Names.{is_name}
use Rattle.kd_registry.specs.Claims.{ranks}
use Rattle.kd_registry.specs.Spans.{IsSpanOf}
use Rattle.kd_registry.proofs.Spans.{span_within_in, there_in, asked_there, refused_as}
use Rattle.kd_registry.proofs.acquiring.ask.Goals as goal

pub claims_at-mine-requires : goal.claims_at-mine-requires
claims_at-mine-requires c =
    let i = subst (λ z. IsSpanOf z c.args.name.now c.span_of-span.result) c.claims.ensures c.span_of-span.ensures in
    span_within_in c.claims-2.result.now c.args.book.now c.args.name.now c.span_of-span.result c.requires i c.claims-2.ensures

pub returns-in_err-verdict-clause-err : goal.returns-in_err-verdict-clause-err
returns-in_err-verdict-clause-err c =
    let r = c.args.book.now in
    let n = c.args.name.now in
    let named : is_name n ≡ true = search rules in
    let i = subst (λ z. IsSpanOf z n c.span_of-span.result) c.claims.ensures c.span_of-span.ensures in
    let mine : c.claims_at-mine.result.now ≡ ranks r n = there_in c.claims_at-mine.result.now c.claims-2.result.now r n c.span_of-span.result c.requires i c.claims_at-mine.ensures c.claims-2.ensures in
    refused_as c.from_residual.result c.in_err-verdict.field-0.0 _ c.from_residual.ensures.1 (asked_there r c.claims_at-mine.result.now c.args.id n c.args.flags c.is_over.result (Err c.in_err-verdict.field-0.0) named mine c.is_over.ensures c.in_err-verdict.ensures)

pub returns-clause-ok : goal.returns-clause-ok
returns-clause-ok c =
    let r = c.args.book.now in
    let n = c.args.name.now in
    let named : is_name n ≡ true = search rules in
    let i = subst (λ z. IsSpanOf z n c.span_of-span.result) c.claims.ensures c.span_of-span.ensures in
    let mine : c.claims_at-mine.result.now ≡ ranks r n = there_in c.claims_at-mine.result.now c.claims-2.result.now r n c.span_of-span.result c.requires i c.claims_at-mine.ensures c.claims-2.ensures in
    asked_there r c.claims_at-mine.result.now c.args.id n c.args.flags c.is_over.result (Ok c.in_ok-verdict.verdict) named mine c.is_over.ensures c.in_ok-verdict.ensures
