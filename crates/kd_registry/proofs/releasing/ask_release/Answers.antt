use Rattle.std.proofs.Common.{◌≡◌, length, sym, subst, ◌∙◌, true, false, rules}
use Rattle.std.specs.Prelude.{◌==◌}
use Rattle.kd_model.specs.Words.{some_of}
use Rattle.kd_name.specs.Names.{is_name}
use Rattle.kd_registry.specs.Claims.{is_claim_of, ranks}
use Rattle.kd_registry.specs.Spans.{IsSpanOf}
use Rattle.kd_registry.proofs.Leaving.{released_to}
use Rattle.kd_registry.proofs.Spans.{span_within_in, there_in, nobody_there, no_holder_there}
use Rattle.kd_registry.proofs.releasing.ask_release.Goals as goal

pub claims_at-mine-requires : goal.claims_at-mine-requires
claims_at-mine-requires c =
    let i = subst (λ z. IsSpanOf z c.args.name.now c.span_of-span.result) c.claims.ensures c.span_of-span.ensures in
    span_within_in c.claims-2.result.now c.args.book.now c.args.name.now c.span_of-span.result c.requires i c.claims-2.ensures

pub returns-then-is_empty-clause-err : goal.returns-then-is_empty-clause-err
returns-then-is_empty-clause-err c =
    let r = c.args.book.now in
    let n = c.args.name.now in
    let named : is_name n ≡ true = search rules in
    let i = subst (λ z. IsSpanOf z n c.span_of-span.result) c.claims.ensures c.span_of-span.ensures in
    let mine : c.claims_at-mine.result.now ≡ ranks r n = there_in c.claims_at-mine.result.now c.claims-2.result.now r n c.span_of-span.result c.requires i c.claims_at-mine.ensures c.claims-2.ensures in
    let none : (length c.claims_at-mine.result.now == 0) ≡ true = search rules in
    nobody_there r c.claims_at-mine.result.now c.args.id n named mine none

pub returns-then-not-has_claim-clause-err : goal.returns-then-not-has_claim-clause-err
returns-then-not-has_claim-clause-err c =
    let r = c.args.book.now in
    let n = c.args.name.now in
    let named : is_name n ≡ true = search rules in
    let i = subst (λ z. IsSpanOf z n c.span_of-span.result) c.claims.ensures c.span_of-span.ensures in
    let mine : c.claims_at-mine.result.now ≡ ranks r n = there_in c.claims_at-mine.result.now c.claims-2.result.now r n c.span_of-span.result c.requires i c.claims_at-mine.ensures c.claims-2.ensures in
    let some : (length c.claims_at-mine.result.now == 0) ≡ false = search rules in
    let none : some_of (is_claim_of c.args.id) c.claims_at-mine.result.now ≡ false = search rules in
    no_holder_there r c.claims_at-mine.result.now c.args.id n named mine some none

pub returns-clause-ok : goal.returns-clause-ok
returns-clause-ok c =
    let r = c.args.book.now in
    let n = c.args.name.now in
    let named : is_name n ≡ true = search rules in
    let i = subst (λ z. IsSpanOf z n c.span_of-span.result) c.claims.ensures c.span_of-span.ensures in
    let mine : c.claims_at-mine.result.now ≡ ranks r n = there_in c.claims_at-mine.result.now c.claims-2.result.now r n c.span_of-span.result c.requires i c.claims_at-mine.ensures c.claims-2.ensures in
    released_to r c.claims_at-mine.result.now c.args.id n c.heir-owner.result c.requires named mine (search rules) c.heir-owner.ensures
