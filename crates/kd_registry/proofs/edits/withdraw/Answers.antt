use Rattle.std.proofs.Common.{◌≡◌, ◌+◌, ap, ◌∙◌, arith, length, Some, None}
use Rattle.std.specs.List.{position, remove}
use Rattle.std.proofs.lemmas.List.Edits.{length-remove}
use Rattle.kd_registry.specs.Claims.{is_claim_of, ranks}
use Rattle.kd_registry.specs.Spans.{IsSpanOf}
use Rattle.kd_registry.proofs.Places.{rank_within, removes_one, removes_none, counts_one, counts_none}
use Rattle.kd_registry.proofs.Spans.{span_within_in, there_in, span_left_in}
use Rattle.kd_registry.proofs.edits.withdraw.Goals as goal

pub claims_at-requires : goal.claims_at-requires
claims_at-requires c = span_within_in c.claims.result.now c.args.book.now c.requires.span.0 c.args.span c.requires.ranked c.requires.span.1 c.claims.ensures

pub remove-requires : goal.remove-requires
remove-requires c =
    let r = c.args.book.now in
    let n = c.requires.span.0 in
    let i = c.requires.span.1 in
    let mine : c.claims_at.result.now ≡ ranks r n = there_in c.claims_at.result.now c.claims.result.now r n c.args.span c.requires.ranked i c.claims_at.ensures c.claims.ensures in
    let place : Some c.in-Some.rank ≡ position (is_claim_of c.args.id) (ranks r n) = c.in-Some.ensures ∙ ap (position (is_claim_of c.args.id)) mine in
    omega (arith, i.start, rank_within r c.args.id n c.in-Some.rank c.requires.ranked place)

pub returns-in-Some-clause-items : goal.returns-in-Some-clause-items
returns-in-Some-clause-items c n i =
    let r = c.args.book.now in
    let mine : c.claims_at.result.now ≡ ranks r n = there_in c.claims_at.result.now c.claims.result.now r n c.args.span c.requires.ranked i c.claims_at.ensures c.claims.ensures in
    let place : Some c.in-Some.rank ≡ position (is_claim_of c.args.id) (ranks r n) = c.in-Some.ensures ∙ ap (position (is_claim_of c.args.id)) mine in
    c.remove.ensures.left ∙ ap (λ s. remove r (s + c.in-Some.rank)) i.start ∙ removes_one r c.args.id n c.in-Some.rank c.requires.ranked place

pub returns-in-Some-clause-len : goal.returns-in-Some-clause-len
returns-in-Some-clause-len c n i =
    let r = c.args.book.now in
    let mine : c.claims_at.result.now ≡ ranks r n = there_in c.claims_at.result.now c.claims.result.now r n c.args.span c.requires.ranked i c.claims_at.ensures c.claims.ensures in
    let place : Some c.in-Some.rank ≡ position (is_claim_of c.args.id) (ranks r n) = c.in-Some.ensures ∙ ap (position (is_claim_of c.args.id)) mine in
    omega (arith, ap length c.remove.ensures.left, length-remove r (c.args.span.start + c.in-Some.rank) (omega (arith, i.start, rank_within r c.args.id n c.in-Some.rank c.requires.ranked place)), counts_one r c.args.id n c.in-Some.rank c.requires.ranked place)

pub returns-in-Some-clause-span : goal.returns-in-Some-clause-span
returns-in-Some-clause-span c n i =
    let r = c.args.book.now in
    let mine : c.claims_at.result.now ≡ ranks r n = there_in c.claims_at.result.now c.claims.result.now r n c.args.span c.requires.ranked i c.claims_at.ensures c.claims.ensures in
    let place : Some c.in-Some.rank ≡ position (is_claim_of c.args.id) (ranks r n) = c.in-Some.ensures ∙ ap (position (is_claim_of c.args.id)) mine in
    span_left_in (c.remove.new.self) r c.args.id n c.in-Some.rank c.args.span c.requires.ranked i place (c.remove.ensures.left ∙ ap (λ s. remove r (s + c.in-Some.rank)) i.start)

pub returns-in-None-clause-items : goal.returns-in-None-clause-items
returns-in-None-clause-items c n i =
    let r = c.args.book.now in
    let mine : c.claims_at.result.now ≡ ranks r n = there_in c.claims_at.result.now c.claims.result.now r n c.args.span c.requires.ranked i c.claims_at.ensures c.claims.ensures in
    removes_none r c.args.id n c.requires.ranked (c.in-None.ensures ∙ ap (position (is_claim_of c.args.id)) mine)

pub returns-in-None-clause-len : goal.returns-in-None-clause-len
returns-in-None-clause-len c n i =
    let r = c.args.book.now in
    let mine : c.claims_at.result.now ≡ ranks r n = there_in c.claims_at.result.now c.claims.result.now r n c.args.span c.requires.ranked i c.claims_at.ensures c.claims.ensures in
    let place : None ≡ position (is_claim_of c.args.id) (ranks r n) = c.in-None.ensures ∙ ap (position (is_claim_of c.args.id)) mine in
    omega (arith, counts_none r c.args.id n place)
