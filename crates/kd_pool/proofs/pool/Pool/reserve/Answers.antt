-- Each answer of the book is a case of the definition, and a placed slot goes into the table at its
-- place.
use Rattle.std.specs.Prelude.{◌≡◌, Err, None, Result, Some, map, refl, vec_capacity}
use Rattle.std.proofs.Common.{ap, arith, sym, ◌∙◌}
use Rattle.kd_model.specs.Slices.{Book, place, unused_number}
use Rattle.kd_model.specs.declared.book.NoPlace.{NoPlace}
use Rattle.kd_model.specs.declared.book.NoPlace.TheVariants.{Full, Spent}
use Rattle.kd_pool.proofs.Kept.{book_shown, fewer_slots, finds_reserved, free_number, kept_put, same_view, view}
use Rattle.kd_pool.proofs.Offers.{reserves, reserves_none, reserves_nowhere}
use Rattle.kd_pool.proofs.Sharing.{none_new, seen_put, shared_put}
use Rattle.kd_pool.proofs.Views.{reserved_seen, slots_shown}
use Rattle.kd_acts.specs.State.{Answer, Pool}
use Rattle.kd_pool.proofs.Queued.{queued_put}
use Rattle.kd_pool.specs.Table.{slice_shown}
use Rattle.kd_pool.proofs.pool.Pool.reserve.Goals as goal

abbrev first : Pool × Answer → Pool
first s = s.0

abbrev second : Pool × Answer → Answer
second s = s.1

-- no book is spent and full at once
clash : {T : Type 0} (r : Result T NoPlace) → r ≡ Err Spent → r ≡ Err Full → ⊥
clash r a b = cc

pub put-requires : goal.put-requires
put-requires c = record { room = omega (arith, fewer_slots c.self.inside.memory.items c.self.inside.book c.self.inside.slots.items (vec_capacity c.self.inside.slots) _ c.self.invariant.kept c.in-Ok.ensures.number, c.self.invariant.kept.enough) }

pub invariant_of-self-in-Ok : goal.invariant_of-self-in-Ok
invariant_of-self-in-Ok c = rw c.put.ensures.items (record {
  kept = kept_put c.self.inside.memory.items c.self.inside.book _ c.self.inside.slots.items _ (vec_capacity c.self.inside.slots) _ c.self.invariant.kept c.in-Ok.ensures.placed c.place.ensures.sound c.put.ensures.room;
  queued = queued_put _ c.self.inside.slots.items c.self.inside.queue c.self.inside.next_arrival refl c.self.invariant.queued;
  shared = shared_put _ c.self.inside.slots.items c.self.inside.shares.items refl c.self.invariant.shared;
})

pub returns-in-Err-Spent-clause-state : goal.returns-in-Err-Spent-clause-state
returns-in-Err-Spent-clause-state c =
    let m = c.self.inside.memory.items in
    let h = c.self.inside.shares.items in
    let b = c.self.inside.book in
    let ss = c.self.inside.slots.items in
    let spent : unused_number b ≡ None = c.place.ensures.spent.0 (c.in-Err-Spent.is ∙ ap Err c.in-Err-Spent.field-0-is) in
    rw (← c.self.view_is) (same_view m _ _ _ _ c.self.inside.next_arrival c.self.inside.dropped c.self.inside.offered (ap (λ (b : Book). b.size) c.in-Err-Spent.ensures.err) refl ∙ sym (ap first (reserves_none (view m h b ss c.self.inside.next_arrival c.self.inside.dropped c.self.inside.offered) b c.args.len c.args.source c.args.user (book_shown m h b ss (vec_capacity c.self.inside.slots) c.self.inside.next_arrival c.self.inside.dropped c.self.inside.offered c.self.invariant.kept) spent)))

pub returns-in-Err-Spent-clause-answer : goal.returns-in-Err-Spent-clause-answer
returns-in-Err-Spent-clause-answer c =
    let m = c.self.inside.memory.items in
    let h = c.self.inside.shares.items in
    let b = c.self.inside.book in
    let ss = c.self.inside.slots.items in
    let spent : unused_number b ≡ None = c.place.ensures.spent.0 (c.in-Err-Spent.is ∙ ap Err c.in-Err-Spent.field-0-is) in
    rw (← c.self.view_is) (sym (ap second (reserves_none (view m h b ss c.self.inside.next_arrival c.self.inside.dropped c.self.inside.offered) b c.args.len c.args.source c.args.user (book_shown m h b ss (vec_capacity c.self.inside.slots) c.self.inside.next_arrival c.self.inside.dropped c.self.inside.offered c.self.invariant.kept) spent)))

pub returns-in-Err-Full-clause-state : goal.returns-in-Err-Full-clause-state
returns-in-Err-Full-clause-state c =
    let m = c.self.inside.memory.items in
    let h = c.self.inside.shares.items in
    let b = c.self.inside.book in
    let ss = c.self.inside.slots.items in
    let full : place b c.args.len ≡ None = c.place.ensures.full (c.in-Err-Full.is ∙ ap Err c.in-Err-Full.field-0-is) in
    let unspent : unused_number b ≡ None → ⊥ = λ h. clash _ (c.place.ensures.spent.1 h) (c.in-Err-Full.is ∙ ap Err c.in-Err-Full.field-0-is) in
    rw (← c.self.view_is) (same_view m _ _ _ _ c.self.inside.next_arrival c.self.inside.dropped c.self.inside.offered (ap (λ (b : Book). b.size) c.in-Err-Full.ensures.err) refl ∙ sym (ap first (reserves_nowhere (view m h b ss c.self.inside.next_arrival c.self.inside.dropped c.self.inside.offered) b c.args.len c.args.source c.args.user (book_shown m h b ss (vec_capacity c.self.inside.slots) c.self.inside.next_arrival c.self.inside.dropped c.self.inside.offered c.self.invariant.kept) unspent full)))

pub returns-in-Err-Full-clause-answer : goal.returns-in-Err-Full-clause-answer
returns-in-Err-Full-clause-answer c =
    let m = c.self.inside.memory.items in
    let h = c.self.inside.shares.items in
    let b = c.self.inside.book in
    let ss = c.self.inside.slots.items in
    let full : place b c.args.len ≡ None = c.place.ensures.full (c.in-Err-Full.is ∙ ap Err c.in-Err-Full.field-0-is) in
    let unspent : unused_number b ≡ None → ⊥ = λ h. clash _ (c.place.ensures.spent.1 h) (c.in-Err-Full.is ∙ ap Err c.in-Err-Full.field-0-is) in
    rw (← c.self.view_is) (sym (ap second (reserves_nowhere (view m h b ss c.self.inside.next_arrival c.self.inside.dropped c.self.inside.offered) b c.args.len c.args.source c.args.user (book_shown m h b ss (vec_capacity c.self.inside.slots) c.self.inside.next_arrival c.self.inside.dropped c.self.inside.offered c.self.invariant.kept) unspent full)))

pub returns-in-Ok-clause-state : goal.returns-in-Ok-clause-state
returns-in-Ok-clause-state c =
    let m = c.self.inside.memory.items in
    let h = c.self.inside.shares.items in
    let b = c.self.inside.book in
    let ss = c.self.inside.slots.items in
    rw (← c.self.view_is) (same_view m _ _ _ _ c.self.inside.next_arrival c.self.inside.dropped c.self.inside.offered (ap (λ (b : Book). b.size) c.in-Ok.ensures.placed) (ap (map (slice_shown m h)) c.put.ensures.items ∙ seen_put m h ss _ (none_new _ ss h (free_number m b ss (vec_capacity c.self.inside.slots) _ c.self.invariant.kept c.in-Ok.ensures.number) c.self.invariant.shared))
    ∙ sym (ap first (reserves (view m h b ss c.self.inside.next_arrival c.self.inside.dropped c.self.inside.offered) b c.args.len c.args.source _ _ c.args.user (book_shown m h b ss (vec_capacity c.self.inside.slots) c.self.inside.next_arrival c.self.inside.dropped c.self.inside.offered c.self.invariant.kept) c.in-Ok.ensures.number c.in-Ok.ensures.offset)))

pub returns-in-Ok-clause-answer : goal.returns-in-Ok-clause-answer
returns-in-Ok-clause-answer c =
    let m = c.self.inside.memory.items in
    let h = c.self.inside.shares.items in
    let b = c.self.inside.book in
    let ss = c.self.inside.slots.items in
    rw (← c.self.view_is) (sym (ap second (reserves (view m h b ss c.self.inside.next_arrival c.self.inside.dropped c.self.inside.offered) b c.args.len c.args.source _ _ c.args.user (book_shown m h b ss (vec_capacity c.self.inside.slots) c.self.inside.next_arrival c.self.inside.dropped c.self.inside.offered c.self.invariant.kept) c.in-Ok.ensures.number c.in-Ok.ensures.offset)))

pub returns-in-Ok-clause-reserved : goal.returns-in-Ok-clause-reserved
returns-in-Ok-clause-reserved c =
    let m = c.self.inside.memory.items in
    let h = c.self.inside.shares.items in
    rw c.put.ensures.items (reserved_seen _ _ _ (Some _) (slots_shown m h _) (finds_reserved m c.self.inside.book c.self.inside.slots.items (vec_capacity c.self.inside.slots) _ _ c.self.invariant.kept c.in-Ok.ensures.number refl))
