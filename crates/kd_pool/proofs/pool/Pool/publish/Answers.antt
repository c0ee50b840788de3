-- The slot of the number is there and holds the message, and no other slice's bytes change.
use Rattle.std.specs.Prelude.{◌≡◌, ◌<◌, ◌≤◌, ◌+◌, ◌++◌, List, None, Option, Some, length, set, vec_capacity, ℕ}
use Rattle.std.specs.List.{find}
use Rattle.std.proofs.Common.{ap, arith, length-append, sym, ◌∙◌}
use Rattle.std.proofs.lemmas.Bool.Decides.{nat_tests}
use Rattle.std.proofs.lemmas.Int.{to_z-of_z}
use Rattle.kd_model.proofs.Lists.{all_of_found, found_passes}
use Rattle.kd_pool.proofs.Kept.{ends_inside, fills, kept_apart, kept_below, kept_change, queue_stays, view}
use Rattle.kd_pool.proofs.Queued.{queued_more, reserved_has_none}
use Rattle.kd_pool.proofs.Sharing.{shared_queued}
use Rattle.kd_pool.specs.Sealed.{Shares}
use Rattle.kd_pool.proofs.Views.{reserved_is, reserved_seen, reserved_takes, slots_shown}
use Rattle.kd_pool.proofs.Writes.{length_written}
use Rattle.kd_acts.specs.State.{Pool, slot_numbered}
use Rattle.kd_acts.specs.Steps.{reserved_length, written}
use Rattle.kd_acts.specs.declared.slot.Slot.{Slot}
use mir.Syntax.{w64}
use Rattle.kd_pool.proofs.pool.Pool.publish.Goals as goal

missing : {n : ℕ} → (let o : Option ℕ = None in o) ≡ Some n → ⊥
missing h = cc

pub unreachable-requires : goal.unreachable-requires
unreachable-requires c =
    let m = c.self.inside.memory.items in
    let h = c.self.inside.shares.items in
    let ss = c.self.inside.slots.items in
    let none : find (slot_numbered c.args.number) ss ≡ None = rw (← c.deref.ensures.value) (sym c.find.ensures ∙ c.in_default.is) in
    let told : reserved_length c.args.number (view m h c.self.inside.book ss c.self.inside.next_arrival c.self.inside.dropped c.self.inside.offered) ≡ Some (length c.args.prefix.now + length c.args.payload.now) = rw (← c.self.view_is) at c.requires.reserved in
    missing (sym (reserved_seen _ ss c.args.number None (slots_shown m h ss) none) ∙ told)

pub write-requires : goal.write-requires
write-requires c =
    let m = c.self.inside.memory.items in
    let h = c.self.inside.shares.items in
    let b = c.self.inside.book in
    let ss = c.self.inside.slots.items in
    let some : find (slot_numbered c.args.number) ss ≡ Some c.in-Some.slot = rw (← c.deref.ensures.value) (sym c.find.ensures ∙ c.in-Some.is) in
    let told : reserved_length c.args.number (view m h b ss c.self.inside.next_arrival c.self.inside.dropped c.self.inside.offered) ≡ Some (length c.args.prefix.now + length c.args.payload.now) = rw (← c.self.view_is) at c.requires.reserved in
    let fits : length c.args.prefix.now + length c.args.payload.now ≡ c.in-Some.slot.len = sym (reserved_takes c.in-Some.slot _ (sym (reserved_seen _ ss c.args.number (Some c.in-Some.slot) (slots_shown m h ss) some) ∙ told)) in
    let inside = all_of_found _ (slot_numbered c.args.number) ss c.in-Some.slot (ends_inside m b ss (vec_capacity c.self.inside.slots) c.self.invariant.kept) some in
    record { inside = omega (arith, inside, fits) }

pub push-requires-clause-below : goal.push-requires-clause-below
push-requires-clause-below c =
    let ss = c.self.inside.slots.items in
    let some : find (slot_numbered c.args.number) ss ≡ Some c.in-Some.slot = rw (← c.deref.ensures.value) (sym c.find.ensures ∙ c.in-Some.is) in
    let low = all_of_found _ (slot_numbered c.args.number) ss c.in-Some.slot (kept_below c.self.inside.memory.items c.self.inside.book ss (vec_capacity c.self.inside.slots) c.self.invariant.kept) some in
    let number = found_passes (slot_numbered c.args.number) ss c.in-Some.slot some in
    grind (arith, nat_tests)

pub push-requires-clause-new : goal.push-requires-clause-new
push-requires-clause-new c =
    let m = c.self.inside.memory.items in
    let h = c.self.inside.shares.items in
    let b = c.self.inside.book in
    let ss = c.self.inside.slots.items in
    let some : find (slot_numbered c.args.number) ss ≡ Some c.in-Some.slot = rw (← c.deref.ensures.value) (sym c.find.ensures ∙ c.in-Some.is) in
    let told : reserved_length c.args.number (view m h b ss c.self.inside.next_arrival c.self.inside.dropped c.self.inside.offered) ≡ Some (length c.args.prefix.now + length c.args.payload.now) = rw (← c.self.view_is) at c.requires.reserved in
    let reserved = reserved_is c.in-Some.slot _ (sym (reserved_seen _ ss c.args.number (Some c.in-Some.slot) (slots_shown m h ss) some) ∙ told) in
    reserved_has_none c.args.number ss c.self.inside.queue c.in-Some.slot c.self.inside.next_arrival (kept_apart m b ss (vec_capacity c.self.inside.slots) c.self.invariant.kept) some reserved c.self.invariant.queued

pub invariant_of-self : goal.invariant_of-self
invariant_of-self c =
    let m = c.self.inside.memory.items in
    let h = c.self.inside.shares.items in
    let b = c.self.inside.book in
    let ss = c.self.inside.slots.items in
    let room = (vec_capacity c.self.inside.slots) in
    let some : find (slot_numbered c.args.number) ss ≡ Some c.in-Some.slot = rw (← c.deref.ensures.value) (sym c.find.ensures ∙ c.in-Some.is) in
    let told : reserved_length c.args.number (view m h b ss c.self.inside.next_arrival c.self.inside.dropped c.self.inside.offered) ≡ Some (length c.args.prefix.now + length c.args.payload.now) = rw (← c.self.view_is) at c.requires.reserved in
    let fits : length c.args.prefix.now + length c.args.payload.now ≡ c.in-Some.slot.len = sym (reserved_takes c.in-Some.slot _ (sym (reserved_seen _ ss c.args.number (Some c.in-Some.slot) (slots_shown m h ss) some) ∙ told)) in
    let inside = all_of_found _ (slot_numbered c.args.number) ss c.in-Some.slot (ends_inside m b ss room c.self.invariant.kept) some in
    let reach : c.in-Some.slot.offset + length (c.args.prefix.now ++ c.args.payload.now) ≤ length m = omega (arith, inside, fits, length-append c.args.prefix.now c.args.payload.now) in
    let reserved = reserved_is c.in-Some.slot _ (sym (reserved_seen _ ss c.args.number (Some c.in-Some.slot) (slots_shown m h ss) some) ∙ told) in
    rw (c.set_queued.ensures.items, c.put.ensures) (record {
      kept = kept_change m _ b ss _ room _ (queue_stays c.args.number _ c.self.inside.next_arrival) c.self.invariant.kept (ap length c.write.ensures ∙ length_written m (c.args.prefix.now ++ c.args.payload.now) c.in-Some.slot.offset reach) c.set_queued.ensures.room;
      queued = queued_more c.args.number _ ss c.self.inside.queue _ c.in-Some.slot c.self.inside.next_arrival (kept_apart m b ss room c.self.invariant.kept) some reserved c.push.ensures.last c.self.invariant.queued;
      shared = shared_queued c.args.number _ c.self.inside.next_arrival ss c.in-Some.slot h c.args.share some c.self.invariant.shared;
    })

pub returns : goal.returns
returns c =
    let m = c.self.inside.memory.items in
    let h = c.self.inside.shares.items in
    let b = c.self.inside.book in
    let ss = c.self.inside.slots.items in
    let room = (vec_capacity c.self.inside.slots) in
    let some : find (slot_numbered c.args.number) ss ≡ Some c.in-Some.slot = rw (← c.deref.ensures.value) (sym c.find.ensures ∙ c.in-Some.is) in
    let told : reserved_length c.args.number (view m h b ss c.self.inside.next_arrival c.self.inside.dropped c.self.inside.offered) ≡ Some (length c.args.prefix.now + length c.args.payload.now) = rw (← c.self.view_is) at c.requires.reserved in
    let fits : length c.args.prefix.now + length c.args.payload.now ≡ c.in-Some.slot.len = sym (reserved_takes c.in-Some.slot _ (sym (reserved_seen _ ss c.args.number (Some c.in-Some.slot) (slots_shown m h ss) some) ∙ told)) in
    let inside = all_of_found _ (slot_numbered c.args.number) ss c.in-Some.slot (ends_inside m b ss room c.self.invariant.kept) some in
    let whole : length (c.args.prefix.now ++ c.args.payload.now) ≡ c.in-Some.slot.len = length-append c.args.prefix.now c.args.payload.now ∙ fits in
    let P : List ℕ → Shares → List Slot → Pool = λ m h ss. view m h b ss (c.self.inside.next_arrival + 1) c.self.inside.dropped c.self.inside.offered in
    let after : List ℕ = written m c.in-Some.slot.offset (c.args.prefix.now ++ c.args.payload.now) in
    let below = all_of_found _ (slot_numbered c.args.number) ss c.in-Some.slot (kept_below m b ss room c.self.invariant.kept) some in
    let number = found_passes (slot_numbered c.args.number) ss c.in-Some.slot some in
    let wide = c.self.invariant.shared.room in
    let low : c.args.number < length h = grind (arith, nat_tests) in
    let queued = simp (to_z-of_z w64 c.args.priority c.ranges.priority) at c.set_queued.ensures.items in
    rw (← c.self.view_is) (ap (λ m. P m c.put.new.shares.items c.set_queued.new.slots.items) c.write.ensures ∙ ap (λ k. P after k c.set_queued.new.slots.items) c.put.ensures ∙ ap (P after (set h c.args.number c.args.share)) queued
    ∙ fills m h b ss room c.self.inside.next_arrival c.self.inside.dropped c.self.inside.offered c.args.number (c.args.prefix.now ++ c.args.payload.now) c.args.share c.args.priority c.in-Some.slot c.self.invariant.kept low some whole)
