-- What is published goes behind all that waits.
use Rattle.std.specs.Prelude.{◌≡◌, ◌++◌, ℕ, Bool, true, false, List, [], ◌∷◌, map, refl}
use Rattle.std.proofs.Common.{ap, arith, ◌∙◌}
use Rattle.std.proofs.lemmas.List.{map-append}
use Rattle.std.proofs.lemmas.Bool.Decides.{nat_tests}
use Rattle.kd_queue.specs.declared.entry.Entry.{Entry}
use Rattle.kd_model.proofs.Lists.{found_passes}
use Rattle.kd_acts.specs.Arriving.{PublishesLast}
use Rattle.kd_acts.specs.State.{Content, Slice, entry_of, queue_of, slot_numbered, slots, waiting_slots}
use Rattle.kd_acts.specs.Steps.{filled, now_queued, queued_slot, with_content}
use Rattle.kd_acts.specs.declared.slot.Slot.{Slot}
use Rattle.kd_acts.proofs.Apart.{slot_of, slots_apart}
use Rattle.kd_acts.proofs.Arrivals.{waiting_of_queued}
use Rattle.kd_acts.proofs.Handed.{reserved_found}

-- the table after a publishing
queued_slots : (n : ℕ) (c : Content) (now : ℕ) (xs : List Slice) → map slot_of (map (with_content n c now) xs) ≡ map (now_queued n c.priority now) (map slot_of xs)
queued_slots n c now [] = refl
queued_slots n c now (x ∷ xs) = ap (λ s. s ∷ map slot_of (map (with_content n c now) xs)) (go (slot_numbered n x.slot)) ∙ ap (now_queued n c.priority now x.slot ∷◌) (queued_slots n c now xs)
  where
    go : (b : Bool) → (elim b as (λ b. Slice) [ true ↦ record { slot = queued_slot c.priority now x.slot; bytes = c.image; shared = c.shared } | false ↦ x ]).slot ≡ elim b as (λ b. Slot) [ true ↦ queued_slot c.priority now x.slot | false ↦ x.slot ]
    go true = refl
    go false = refl

pub publishes_last : PublishesLast
unfolding filled
publishes_last p n c d a r =
    let t = reserved_found n c p r in
    let number : t.0.number ≡ n = let found = found_passes (slot_numbered n) (slots p) t.0 t.1.found in grind (arith, nat_tests) in
    ap queue_of (queued_slots n c p.next_arrival p.slices)
    ∙ ap (map entry_of) (waiting_of_queued n c.priority p.next_arrival (slots p) t.0 (slots_apart p d) a t.1.found t.1.reserved)
    ∙ map-append entry_of (waiting_slots (slots p)) (queued_slot c.priority p.next_arrival t.0 ∷ [])
    ∙ ap (λ k. queue_of (slots p) ++ (let e : Entry = record { number = k; priority = c.priority } in e) ∷ []) number
