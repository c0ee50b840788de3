use Rattle.std.proofs.Common.{◌≡◌, ap, sym, subst, ◌∙◌, true, false, rules, Ok, Err}
use Rattle.kd_model.specs.Words.{some_of}
use Rattle.kd_name.specs.Names.{is_name}
use Rattle.kd_registry.specs.Claims.{is_placeholder, ranks}
use Rattle.kd_registry.specs.Spans.{IsSpanOf}
use Rattle.kd_registry.proofs.Spans.{span_within_in, there_in, activated_there}
use Rattle.kd_registry.proofs.acquiring.ask_activator.Goals as goal

pub claims_at-requires : goal.claims_at-requires
claims_at-requires c =
    let i = subst (λ z. IsSpanOf z c.args.name.now c.span_of-span.result) c.claims.ensures c.span_of-span.ensures in
    span_within_in c.claims-2.result.now c.args.book.now c.args.name.now c.span_of-span.result c.requires i c.claims-2.ensures

pub returns-then-has_activator-clause-err : goal.returns-then-has_activator-clause-err
returns-then-has_activator-clause-err c =
    let r = c.args.book.now in
    let n = c.args.name.now in
    let named : is_name n ≡ true = search rules in
    let i = subst (λ z. IsSpanOf z n c.span_of-span.result) c.claims.ensures c.span_of-span.ensures in
    let mine : c.claims_at.result.now ≡ ranks r n = there_in c.claims_at.result.now c.claims-2.result.now r n c.span_of-span.result c.requires i c.claims_at.ensures c.claims-2.ensures in
    activated_there r c.claims_at.result.now n true named mine (sym c.if-has_activator.true ∙ c.has_activator.ensures)

pub returns-clause-ok : goal.returns-clause-ok
returns-clause-ok c =
    let r = c.args.book.now in
    let n = c.args.name.now in
    let named : is_name n ≡ true = search rules in
    let i = subst (λ z. IsSpanOf z n c.span_of-span.result) c.claims.ensures c.span_of-span.ensures in
    let mine : c.claims_at.result.now ≡ ranks r n = there_in c.claims_at.result.now c.claims-2.result.now r n c.span_of-span.result c.requires i c.claims_at.ensures c.claims-2.ensures in
    activated_there r c.claims_at.result.now n false named mine (sym c.if-has_activator.false ∙ c.has_activator.ensures)
