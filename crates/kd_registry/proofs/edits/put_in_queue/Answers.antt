use Rattle.std.proofs.Common.{◌≡◌, ◌+◌, ap, ◌∙◌, arith, length, Some, None}
use Rattle.std.specs.List.{position, insert}
use Rattle.std.proofs.lemmas.List.{length-set}
use Rattle.std.proofs.lemmas.List.Edits.{length-insert}
use Rattle.kd_model.specs.Words.{those}
use Rattle.kd_registry.specs.Claims.{is_claim_of, is_ordinary_claim, ranks}
use Rattle.kd_registry.proofs.Places.{rank_within, ordinary_within, counts_one, counts_none, queues_again, queues_behind}
use Rattle.kd_registry.proofs.Spans.{span_within_in, there_in}
use Rattle.kd_registry.proofs.edits.put_in_queue.Goals as goal

pub claims_at-mine-requires : goal.claims_at-mine-requires
claims_at-mine-requires c = span_within_in c.claims.result.now c.args.book.now c.args.claim.name c.args.span c.requires.ranked c.requires.span c.claims.ensures

pub replace-requires : goal.replace-requires
replace-requires c =
    let r = c.args.book.now in
    let n = c.args.claim.name in
    let start = c.requires.span.start in
    let mine : c.claims_at-mine.result.now ≡ ranks r n = there_in c.claims_at-mine.result.now c.claims.result.now r n c.args.span c.requires.ranked c.requires.span c.claims_at-mine.ensures c.claims.ensures in
    let place : Some c.in-Some.rank ≡ position (is_claim_of c.args.claim.id) (ranks r n) = c.in-Some.ensures ∙ ap (position (is_claim_of c.args.claim.id)) mine in
    omega (arith, start, rank_within r c.args.claim.id n c.in-Some.rank c.requires.ranked place)

pub overflow_add-behind : goal.overflow_add-behind
overflow_add-behind c =
    let r = c.args.book.now in
    let n = c.args.claim.name in
    let start = c.requires.span.start in
    let mine : c.claims_at-mine.result.now ≡ ranks r n = there_in c.claims_at-mine.result.now c.claims.result.now r n c.args.span c.requires.ranked c.requires.span c.claims_at-mine.ensures c.claims.ensures in
    let count = c.ordinary_count.ensures ∙ ap (λ z. length (those is_ordinary_claim z)) mine in
    omega (arith, start, count, ordinary_within r n c.requires.ranked, c.requires.short)

pub insert-requires-clause-within : goal.insert-requires-clause-within
insert-requires-clause-within c =
    let r = c.args.book.now in
    let n = c.args.claim.name in
    let start = c.requires.span.start in
    let mine : c.claims_at-mine.result.now ≡ ranks r n = there_in c.claims_at-mine.result.now c.claims.result.now r n c.args.span c.requires.ranked c.requires.span c.claims_at-mine.ensures c.claims.ensures in
    let count = c.ordinary_count.ensures ∙ ap (λ z. length (those is_ordinary_claim z)) mine in
    omega (arith, start, count, ordinary_within r n c.requires.ranked)

pub insert-requires-clause-room : goal.insert-requires-clause-room
insert-requires-clause-room c =
    let r = c.args.book.now in
    let n = c.args.claim.name in
    let mine : c.claims_at-mine.result.now ≡ ranks r n = there_in c.claims_at-mine.result.now c.claims.result.now r n c.args.span c.requires.ranked c.requires.span c.claims_at-mine.ensures c.claims.ensures in
    let place : None ≡ position (is_claim_of c.args.claim.id) (ranks r n) = c.in-None.ensures ∙ ap (position (is_claim_of c.args.claim.id)) mine in
    omega (arith, c.requires.room, counts_none r c.args.claim.id n place)

pub returns-in-Some-clause-items : goal.returns-in-Some-clause-items
returns-in-Some-clause-items c =
    let r = c.args.book.now in
    let n = c.args.claim.name in
    let start = c.requires.span.start in
    let mine : c.claims_at-mine.result.now ≡ ranks r n = there_in c.claims_at-mine.result.now c.claims.result.now r n c.args.span c.requires.ranked c.requires.span c.claims_at-mine.ensures c.claims.ensures in
    let place : Some c.in-Some.rank ≡ position (is_claim_of c.args.claim.id) (ranks r n) = c.in-Some.ensures ∙ ap (position (is_claim_of c.args.claim.id)) mine in
    c.replace.ensures ∙ queues_again r n c.args.claim c.args.span.start c.in-Some.rank c.requires.ranked start place

pub returns-in-Some-clause-len : goal.returns-in-Some-clause-len
returns-in-Some-clause-len c =
    let r = c.args.book.now in
    let n = c.args.claim.name in
    let mine : c.claims_at-mine.result.now ≡ ranks r n = there_in c.claims_at-mine.result.now c.claims.result.now r n c.args.span c.requires.ranked c.requires.span c.claims_at-mine.ensures c.claims.ensures in
    let place : Some c.in-Some.rank ≡ position (is_claim_of c.args.claim.id) (ranks r n) = c.in-Some.ensures ∙ ap (position (is_claim_of c.args.claim.id)) mine in
    omega (arith, ap length c.replace.ensures, length-set r (c.args.span.start + c.in-Some.rank) c.args.claim, counts_one r c.args.claim.id n c.in-Some.rank c.requires.ranked place)

pub returns-in-None-clause-items : goal.returns-in-None-clause-items
returns-in-None-clause-items c =
    let r = c.args.book.now in
    let n = c.args.claim.name in
    let start = c.requires.span.start in
    let mine : c.claims_at-mine.result.now ≡ ranks r n = there_in c.claims_at-mine.result.now c.claims.result.now r n c.args.span c.requires.ranked c.requires.span c.claims_at-mine.ensures c.claims.ensures in
    let place : None ≡ position (is_claim_of c.args.claim.id) (ranks r n) = c.in-None.ensures ∙ ap (position (is_claim_of c.args.claim.id)) mine in
    let count = c.ordinary_count.ensures ∙ ap (λ z. length (those is_ordinary_claim z)) mine in
    c.insert.ensures ∙ ap (λ k. insert r (c.args.span.start + k) c.args.claim) count ∙ queues_behind r n c.args.claim c.args.span.start c.requires.ranked start place

pub returns-in-None-clause-len : goal.returns-in-None-clause-len
returns-in-None-clause-len c =
    let r = c.args.book.now in
    let n = c.args.claim.name in
    let start = c.requires.span.start in
    let mine : c.claims_at-mine.result.now ≡ ranks r n = there_in c.claims_at-mine.result.now c.claims.result.now r n c.args.span c.requires.ranked c.requires.span c.claims_at-mine.ensures c.claims.ensures in
    let place : None ≡ position (is_claim_of c.args.claim.id) (ranks r n) = c.in-None.ensures ∙ ap (position (is_claim_of c.args.claim.id)) mine in
    let count = c.ordinary_count.ensures ∙ ap (λ z. length (those is_ordinary_claim z)) mine in
    omega (arith, ap length c.insert.ensures, length-insert r (c.args.span.start + c.ordinary_count.result) c.args.claim (omega (arith, start, count, ordinary_within r n c.requires.ranked)), counts_none r c.args.claim.id n place)
