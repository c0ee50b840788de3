-- The slot that may be read has its bytes in memory.
use Rattle.std.specs.Prelude.{◌≡◌, ◌&&◌, ℕ, List, None, Some, false, option_map, refl, true, vec_capacity}
use Rattle.std.specs.Borrow.{Bor}
use Rattle.std.specs.List.{find}
use Rattle.std.proofs.Common.{ap, sym, ◌∙◌}
use Rattle.kd_model.proofs.Lists.{all_of_found}
use Rattle.kd_pool.proofs.Kept.{ends_inside}
use Rattle.kd_pool.proofs.Views.{read_seen}
use Rattle.kd_acts.specs.State.{Answer, bytes_of, slot_numbered, is_readable}
use Rattle.kd_acts.specs.Sound.{slot_range}
use Rattle.kd_acts.specs.Steps.{share_answer}
use Rattle.kd_pool.specs.Sealed.{share_at}
use Rattle.kd_acts.specs.declared.slot.Slot.{Slot}
use Rattle.kd_pool.proofs.pool.Pool.read.Goals as goal

pub returns-in_default-clause-refused : goal.returns-in_default-clause-refused
returns-in_default-clause-refused c =
    let ss = c.self.inside.slots.items in
    let none : find (λ (s : Slot). slot_numbered c.args.number s && is_readable s) ss ≡ None = rw (← c.deref.ensures.value) (sym c.find_readable.ensures ∙ c.in_default.is) in
    λ _. rw (← c.self.view_is) (read_seen c.self.inside.memory.items c.self.inside.shares.items _ ss c.args.number c.args.sealed None refl none)

pub copy-requires : goal.copy-requires
copy-requires c =
    let ss = c.self.inside.slots.items in
    let some : find (λ (s : Slot). slot_numbered c.args.number s && is_readable s) ss ≡ Some c.in-Some.slot = rw (← c.deref.ensures.value) (sym c.find_readable.ensures ∙ c.in-Some.is) in
    record { inside = rw c.deref-2.ensures.value (all_of_found _ _ ss c.in-Some.slot (ends_inside c.self.inside.memory.items c.self.inside.book ss (vec_capacity c.self.inside.slots) c.self.invariant.kept) some) }

pub returns-clause-bytes : goal.returns-clause-bytes
returns-clause-bytes c =
    let ss = c.self.inside.slots.items in
    let some : find (λ (s : Slot). slot_numbered c.args.number s && is_readable s) ss ≡ Some c.in-Some.slot = rw (← c.deref.ensures.value) (sym c.find_readable.ensures ∙ c.in-Some.is) in
    rw (← c.self.view_is) (read_seen c.self.inside.memory.items c.self.inside.shares.items _ ss c.args.number c.args.sealed (Some c.in-Some.slot) refl some ∙ ap (λ b. elim b as (λ b. Answer) [ true ↦ share_answer (share_at c.self.inside.shares.items c.in-Some.slot.number) | false ↦ bytes_of (slot_range c.self.inside.memory.items c.in-Some.slot) ]) c.if-sealed.false ∙ ap bytes_of (rw (← c.deref-2.ensures.value) (sym c.in_ok-copy.ensures)))

pub returns-in_default-bytes-clause-refused : goal.returns-in_default-bytes-clause-refused
returns-in_default-bytes-clause-refused c =
    let m = c.self.inside.memory.items in
    let h = c.self.inside.shares.items in
    let ss = c.self.inside.slots.items in
    let n = c.in-Some.slot.number in
    let some : find (λ (s : Slot). slot_numbered c.args.number s && is_readable s) ss ≡ Some c.in-Some.slot = rw (← c.deref.ensures.value) (sym c.find_readable.ensures ∙ c.in-Some.is) in
    let none : share_at h n ≡ None = sym (ap (λ k. share_at k n) c.deref-then-sealed.ensures.value) ∙ sym c.bytes.ensures ∙ ap (option_map (λ (b : Bor (List ℕ)). b.now)) c.in_default-bytes.is in
    λ _. rw (← c.self.view_is) (read_seen m h _ ss c.args.number c.args.sealed (Some c.in-Some.slot) refl some ∙ ap (λ b. elim b as (λ b. Answer) [ true ↦ share_answer (share_at h n) | false ↦ bytes_of (slot_range m c.in-Some.slot) ]) c.if-sealed.true ∙ ap share_answer none)

pub returns-then-sealed-clause-bytes : goal.returns-then-sealed-clause-bytes
returns-then-sealed-clause-bytes c =
    let m = c.self.inside.memory.items in
    let h = c.self.inside.shares.items in
    let ss = c.self.inside.slots.items in
    let n = c.in-Some.slot.number in
    let some : find (λ (s : Slot). slot_numbered c.args.number s && is_readable s) ss ≡ Some c.in-Some.slot = rw (← c.deref.ensures.value) (sym c.find_readable.ensures ∙ c.in-Some.is) in
    let held : share_at h n ≡ Some c.in-Some-bytes.bytes.now = sym (ap (λ k. share_at k n) c.deref-then-sealed.ensures.value) ∙ sym c.bytes.ensures ∙ ap (option_map (λ (b : Bor (List ℕ)). b.now)) c.in-Some-bytes.is in
    rw (← c.self.view_is) (read_seen m h _ ss c.args.number c.args.sealed (Some c.in-Some.slot) refl some ∙ ap (λ b. elim b as (λ b. Answer) [ true ↦ share_answer (share_at h n) | false ↦ bytes_of (slot_range m c.in-Some.slot) ]) c.if-sealed.true ∙ ap share_answer held ∙ ap bytes_of (sym c.in_ok-from_slice.ensures.items))
