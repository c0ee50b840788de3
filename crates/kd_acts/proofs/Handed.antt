-- Which slices are received and not freed after any act, by its answer.
use Rattle.std.specs.Prelude.{◌≡◌, ◌<◌, ◌==◌, ◌&&◌, ◌||◌, ℕ, Bool, true, false, List, length, map, not, Option, Some, None, refl}
use Rattle.std.specs.List.{AllByRecursion, find}
use Rattle.std.proofs.Common.{ap, arith, sym, ◌∙◌}
use Rattle.std.proofs.lemmas.Bool.{and_parts, and_right, false≢true}
use Rattle.std.proofs.lemmas.Bool.Decides.{nat_tests}
use Rattle.kd_model.proofs.Lists.{all_follow, all_of_put}
use Rattle.kd_model.specs.Words.{least, put_in_order, some_of, those}
use Rattle.kd_model.specs.declared.slice_no.TheConstants.{SLICES}
use Rattle.kd_types.specs.declared.refusal.Refusal.{Refusal}
use Rattle.kd_acts.specs.declared.receive.RecvMode.{RecvMode}
use Rattle.kd_acts.specs.declared.slot.Phase.TheVariants.{Freed, Handed, Peeked}
use Rattle.kd_acts.specs.declared.slot.Slot.{Slot}
use Rattle.kd_acts.specs.Lasting.{AreNumbered, HandedFollows, ReceivesWaiting, handed_after, is_handed, is_handed_in}
use Rattle.kd_acts.specs.State.{Act, Content, Pool, Slice, Visit, by_desk, close, drain, free, got, slot_numbered, idle, is_freed, is_reserved, is_waiting, offer, post, publish, raise, read, receive, settle, slots}
use Rattle.kd_acts.specs.Steps.{closed_answer, drain_step, filled, free_refusal, is_awaited, is_reserved_for, length_reserved, next, of_lower_number, open_step, pool_step, receive_step, reserved_length, stands_lower, visit_step, with_content, with_phase, pool_without, without_handed}
use Rattle.kd_acts.proofs.Added.{IsKeptByAdding, offer_keeps, post_keeps, settle_keeps}
use Rattle.kd_acts.proofs.Apart.{IsNew, slots_apart, slots_below}
use Rattle.kd_acts.proofs.Cases.{acted_by, drained_by, freed_by, hold, none_received_by, published_by, received_by, taken_by}
use Rattle.kd_acts.proofs.Changes.{content_is_of_one, now_in, now_with, phase_is_of_one}
use Rattle.kd_acts.proofs.Handing.{by_number, refused_isn't, begins_by_phase, ends_by_filter, ends_by_map, handed_stays, hands, hands_found, hands_one, is_found_handed, next_isn't_handed, reserved_isn't, stays_by_filter, stays_by_map, stays_by_put, stays_elsewhere}
use Rattle.kd_acts.proofs.Lasting.{closes}
use Rattle.kd_acts.proofs.Receives.{all_of_next, next_among}

-- ---- what is put into a pool

-- a slice with a content isn't handed, if it wasn't before
content_keeps : (n : ℕ) (c : Content) (arrival : ℕ) (x : Slice) → is_handed x.slot ≡ false → is_handed (with_content n c arrival x).slot ≡ false
content_keeps n c arrival x h = go (slot_numbered n x.slot) refl
  where
    go : (b : Bool) → slot_numbered n x.slot ≡ b → is_handed (with_content n c arrival x).slot ≡ false
    go true e = ap (λ (y : Slice). is_handed y.slot) ((content_is_of_one n c arrival).own x e)
    go false e = ap (λ (y : Slice). is_handed y.slot) ((content_is_of_one n c arrival).others x e) ∙ h

-- a new slice that gets its content at once isn't handed, and all others stay
filled_keeps : (n : ℕ) (xs : List Slice) (s : Slice) (c : Content) (arrival : ℕ) → IsNew s xs
    → hands_one n (map (with_content s.slot.number c arrival) (put_in_order stands_lower s xs)) ≡ hands_one n xs
filled_keeps n xs s c arrival new =
    stays_by_map n fill (put_in_order stands_lower s xs) (all_of_put Stays stands_lower s xs here others) ∙ stays_by_put n s xs out
  where
    fill : Slice → Slice
    fill = with_content s.slot.number c arrival

    Stays : Slice → Type 0
    Stays x = hands n (fill x).slot ≡ hands n x.slot

    isn't : is_handed s.slot ≡ false
    isn't = reserved_isn't s.slot new.reserved

    out : hands n s.slot ≡ false
    out = and_right (slot_numbered n s.slot) (is_handed s.slot) isn't

    here : Stays s
    here = and_right (slot_numbered n (fill s).slot) (is_handed (fill s).slot) (content_keeps s.slot.number c arrival s isn't) ∙ sym out

    others : AllByRecursion Stays xs
    others = all_follow _ Stays xs (λ x e. ap (λ (y : Slice). hands n y.slot) ((content_is_of_one s.slot.number c arrival).others x e)) new.free

-- what is put into a pool hands nothing over
handed_kept_by_adding : (n : ℕ) (was : Bool) → IsKeptByAdding (λ xs. hands_one n xs ≡ was)
handed_kept_by_adding n was = record {
  sweeping = λ xs e. stays_by_filter n is_freed xs (λ s h. (handed_stays s (and_parts (slot_numbered n s) (is_handed s) h).1).0) ∙ e;
  reserving = λ xs s new e. stays_by_put n s xs (and_right (slot_numbered n s.slot) _ (reserved_isn't s.slot new.reserved)) ∙ e;
  filling = λ xs s c arrival new e. filled_keeps n xs s c arrival new ∙ e;
}

-- ---- what is drained, freed and published

drain_hands : (n : ℕ) (p : Pool) → hands_one n (drain_step p).0.slices ≡ hands_one n p.slices
unfolding drain_step
drain_hands n p = go (least of_lower_number (those is_reserved (slots p)))
  where
    go : (o : Option Slot) → hands_one n (drained_by p o).0.slices ≡ hands_one n p.slices
    go None = stays_by_filter n is_waiting p.slices (λ s h. (handed_stays s (and_parts (slot_numbered n s) (is_handed s) h).1).1)
    go (Some s) = refl

-- what is freed isn't handed after it
free_ends : (n : ℕ) (p : Pool) → AreNumbered (Some p) → hands_one n (without_handed n p).slices ≡ false
unfolding free_refusal
free_ends n p d = go (free_refusal n (slots p)) refl
  where
    go : (o : Option Refusal) → free_refusal n (slots p) ≡ o → hands_one n (freed_by n p o).slices ≡ false
    go None e = ends_by_map n _ (now_in Freed) (phase_is_of_one Freed n) (λ x. refl) p.slices
    go (Some why) e = hands_found n (slots p) (slots_apart p d) ∙ refused_isn't (find (slot_numbered n) (slots p)) why e

free_hands : (m n : ℕ) (p : Pool) → AreNumbered (Some p) → hands_one n (without_handed m p).slices ≡ (not (m == n) && hands_one n p.slices)
free_hands m n p d = go (m == n) refl
  where
    other : (o : Option Refusal) → (m == n) ≡ false → hands_one n (freed_by m p o).slices ≡ hands_one n p.slices
    other None e = stays_elsewhere m n _ (now_in Freed) (phase_is_of_one Freed m) e p.slices
    other (Some why) e = refl

    go : (b : Bool) → (m == n) ≡ b → hands_one n (without_handed m p).slices ≡ (not b && hands_one n p.slices)
    go true e = let same : n ≡ m = grind (arith, nat_tests) in ap (λ k. hands_one k (without_handed m p).slices) same ∙ free_ends m p d
    go false e = other (free_refusal m (slots p)) e

-- a slot that is found by a number, and reserved
pub record IsReservedSlot (n : ℕ) (ss : List Slot) (t : Slot) : Type 0 where
  pub found : find (slot_numbered n) ss ≡ Some t
  pub reserved : is_reserved t ≡ true

-- what a content can be published into is reserved
pub reserved_found : (n : ℕ) (c : Content) (p : Pool) → is_reserved_for n c p ≡ true → (t : Slot) × IsReservedSlot n (slots p) t
unfolding reserved_length
reserved_found n c p h = go (find (slot_numbered n) (slots p)) refl h
  where
    fits : Option ℕ → Bool
    fits o = elim o [ None ↦ false | Some len ↦ len == length c.image ]

    inner : (t : Slot) (b : Bool) → is_reserved t ≡ b → fits (elim b [ true ↦ Some t.len | false ↦ None ]) ≡ true → is_reserved t ≡ true
    inner t true e h = e
    inner t false e h = absurd (false≢true h)

    go : (o : Option Slot) → find (slot_numbered n) (slots p) ≡ o → fits (length_reserved o) ≡ true → (t : Slot) × IsReservedSlot n (slots p) t
    go None e h = absurd (false≢true h)
    go (Some t) e h = (t, record { found = e; reserved = inner t (is_reserved t) refl h })

-- a publishing hands nothing over
fill_hands : (m n : ℕ) (c : Content) (p : Pool) → AreNumbered (Some p) → is_reserved_for m c p ≡ true → hands_one n (filled m c p).slices ≡ hands_one n p.slices
unfolding filled
fill_hands m n c p d h =
    let one = content_is_of_one m c p.next_arrival in
    let t = reserved_found m c p h in
    let wasn't : hands_one m p.slices ≡ false = hands_found m (slots p) (slots_apart p d) ∙ ap is_found_handed t.1.found ∙ reserved_isn't t.0 t.1.reserved in
    by_number m n p.slices (map (with_content m c p.next_arrival) p.slices)
    (ends_by_map m _ (now_with c p.next_arrival) one (λ x. refl) p.slices ∙ sym wasn't)
    (λ e. stays_elsewhere m n _ (now_with c p.next_arrival) one e p.slices)

publish_hands : (m n : ℕ) (c : Content) (p : Pool) (own : Bool) → AreNumbered (Some p)
    → hands_one n (published_by m c p (own && is_reserved_for m c p)).0.slices ≡ hands_one n p.slices
publish_hands m n c p own d = go (own && is_reserved_for m c p) refl
  where
    go : (b : Bool) → (own && is_reserved_for m c p) ≡ b → hands_one n (published_by m c p b).0.slices ≡ hands_one n p.slices
    go true e = fill_hands m n c p d (and_parts own (is_reserved_for m c p) e).1
    go false e = refl

-- ---- what is received

-- a slice that is dropped
drop_hands : (m n : ℕ) (p : Pool) → hands_one m p.slices ≡ false → hands_one n (pool_without m p).slices ≡ hands_one n p.slices
drop_hands m n p wasn't =
    by_number m n p.slices (pool_without m p).slices
    (ends_by_filter m (slot_numbered m) p.slices (λ s h. (and_parts (slot_numbered m s) (is_handed s) h).0) ∙ sym wasn't)
    (λ e. stays_by_filter n (slot_numbered m) p.slices (λ s h. other_number m n s e (and_parts (slot_numbered n s) (is_handed s) h).0))
  where
    other_number : (m n : ℕ) (s : Slot) → (m == n) ≡ false → slot_numbered n s ≡ true → slot_numbered m s ≡ false
    other_number m n s e h = grind (arith, nat_tests)

-- a slice that is only looked at
peek_hands : (m n : ℕ) (p : Pool) → hands_one m p.slices ≡ false → hands_one n (with_phase Peeked m p).slices ≡ hands_one n p.slices
peek_hands m n p wasn't =
    by_number m n p.slices (with_phase Peeked m p).slices
    (ends_by_map m _ (now_in Peeked) (phase_is_of_one Peeked m) (λ x. refl) p.slices ∙ sym wasn't)
    (λ e. stays_elsewhere m n _ (now_in Peeked) (phase_is_of_one Peeked m) e p.slices)

-- a slice that is handed over
hand_hands : (m n : ℕ) (p : Pool) → some_of (slot_numbered m) (slots p) ≡ true → hands_one n (with_phase Handed m p).slices ≡ ((m == n) || hands_one n p.slices)
hand_hands m n p there = go (m == n) refl
  where
    go : (b : Bool) → (m == n) ≡ b → hands_one n (with_phase Handed m p).slices ≡ (b || hands_one n p.slices)
    go true e = let same : n ≡ m = grind (arith, nat_tests) in ap (λ k. hands_one k (with_phase Handed m p).slices) same ∙ begins_by_phase m p.slices there
    go false e = stays_elsewhere m n _ (now_in Handed) (phase_is_of_one Handed m) e p.slices

taking_hands : (drops peeks : Bool) (m n : ℕ) (p : Pool) → hands_one m p.slices ≡ false → some_of (slot_numbered m) (slots p) ≡ true
    → hands_one n (taken_by drops peeks m p).slices ≡ (((m == n) && (not peeks && not drops)) || hands_one n p.slices)
taking_hands true true m n p wasn't there = drop_hands m n p wasn't ∙ sym (ap (λ b. b || hands_one n p.slices) (and_right (m == n) false refl))
taking_hands true false m n p wasn't there = drop_hands m n p wasn't ∙ sym (ap (λ b. b || hands_one n p.slices) (and_right (m == n) false refl))
taking_hands false true m n p wasn't there = peek_hands m n p wasn't ∙ sym (ap (λ b. b || hands_one n p.slices) (and_right (m == n) false refl))
taking_hands false false m n p wasn't there = hand_hands m n p there ∙ sym (ap (λ b. b || hands_one n p.slices) (and_true (m == n)))
  where
    and_true : (b : Bool) → (b && true) ≡ b
    and_true true = refl
    and_true false = refl

receive_hands : (mode : RecvMode) (n : ℕ) (p : Pool) → AreNumbered (Some p)
    → hands_one n (receive_step mode p).0.slices ≡ handed_after (receive mode) (receive_step mode p).1 n (hands_one n p.slices)
unfolding receive_step
receive_hands mode n p d = go (next (slots p) mode.limit) refl
  where
    none : (b : Bool) → (let s = none_received_by p b in hands_one n s.0.slices ≡ handed_after (receive mode) s.1 n (hands_one n p.slices))
    none true = refl
    none false = refl

    go : (o : Option Slot) → next (slots p) mode.limit ≡ o
        → (let s = received_by mode p o in hands_one n s.0.slices ≡ handed_after (receive mode) s.1 n (hands_one n p.slices))
    go (Some s) e =
        let wasn't = next_isn't_handed (slots p) mode.limit s (slots_apart p d) e in
        taking_hands mode.drop_it mode.peek s.number n p wasn't (next_among (slots p) mode.limit s e)
    go None e = none (some_of is_waiting (slots p))

-- ---- any act

visit_hands : (p : Pool) (v : Visit) (n : ℕ) → hands_one n (visit_step p v).0.slices ≡ hands_one n p.slices
unfolding visit_step
visit_hands p (offer user len source must content) n = offer_keeps _ (handed_kept_by_adding n (hands_one n p.slices)) user len source must p refl
visit_hands p (post image) n = post_keeps _ (handed_kept_by_adding n (hands_one n p.slices)) image p refl
visit_hands p drain n = drain_hands n p
visit_hands p (settle images) n = settle_keeps _ (handed_kept_by_adding n (hands_one n p.slices)) images p refl
visit_hands p (raise size) n = refl
visit_hands p (close force) n = refl

-- whether the slice of a number is handed after an act is as it is told
abbrev FollowsBy : ℕ → Option Pool → Act → ℕ → Type 0
FollowsBy g o a n = is_handed_in n (acted_by g o a).0 ≡ handed_after a (acted_by g o a).1 n (is_handed_in n (hold g o))

visit_follows : (g : ℕ) (o : Option Pool) (v : Visit) (n : ℕ) → is_handed_in n (acted_by g o (by_desk v)).0 ≡ is_handed_in n (hold g o)
unfolding open_step
visit_follows g None v n = refl
visit_follows g (Some p) v n = visit_hands p v n

publish_follows : (g : ℕ) (o : Option Pool) (generation m : ℕ) (c : Content) (n : ℕ) → AreNumbered o → FollowsBy g o (publish generation m c) n
unfolding open_step
publish_follows g None generation m c n d = refl
publish_follows g (Some p) generation m c n d = publish_hands m n c p (generation == g) d

receive_follows : (g : ℕ) (o : Option Pool) (mode : RecvMode) (n : ℕ) → AreNumbered o → FollowsBy g o (receive mode) n
unfolding open_step closed_answer
receive_follows g None mode n d = refl
receive_follows g (Some p) mode n d = receive_hands mode n p d

free_follows : (g : ℕ) (o : Option Pool) (m n : ℕ) → AreNumbered o → FollowsBy g o (free m) n
unfolding open_step
free_follows g None m n d = sym (and_right (not (m == n)) false refl)
free_follows g (Some p) m n d = free_hands m n p d

read_follows : (g : ℕ) (o : Option Pool) (m : ℕ) (sealed : Bool) (n : ℕ) → FollowsBy g o (read m sealed) n
unfolding open_step
read_follows g None m sealed n = refl
read_follows g (Some p) m sealed n = refl

idle_follows : (g : ℕ) (o : Option Pool) (n : ℕ) → FollowsBy g o idle n
unfolding open_step
idle_follows g None n = refl
idle_follows g (Some p) n = refl

-- which slices are handed follows from the acts and their answers
pub handed_follows : HandedFollows
unfolding pool_step
handed_follows h (by_desk (raise size)) n d = refl
handed_follows h (by_desk (close force)) n d = closes (is_handed_in n) (λ g. refl) h force (is_awaited h)
handed_follows h (by_desk (offer user len source must content)) n d = visit_follows h.generation h.pool (offer user len source must content) n
handed_follows h (by_desk (post image)) n d = visit_follows h.generation h.pool (post image) n
handed_follows h (by_desk drain) n d = visit_follows h.generation h.pool drain n
handed_follows h (by_desk (settle images)) n d = visit_follows h.generation h.pool (settle images) n
handed_follows h (publish generation m c) n d = publish_follows h.generation h.pool generation m c n d
handed_follows h (receive mode) n d = receive_follows h.generation h.pool mode n d
handed_follows h (read m sealed) n d = read_follows h.generation h.pool m sealed n
handed_follows h (free m) n d = free_follows h.generation h.pool m n d
handed_follows h idle n d = idle_follows h.generation h.pool n

-- ---- what a receive tells

told_waits : (mode : RecvMode) (p : Pool) (n offset len dropped : ℕ) → AreNumbered (Some p)
    → (receive_step mode p).1 ≡ got n offset len dropped → (n < SLICES) × (hands_one n p.slices ≡ false)
unfolding receive_step
told_waits mode p n offset len dropped d e = go (next (slots p) mode.limit) refl e
  where
    none : (b : Bool) → (none_received_by p b).1 ≡ got n offset len dropped → (n < SLICES) × (hands_one n p.slices ≡ false)
    none true e = absurd cc
    none false e = absurd cc

    go : (o : Option Slot) → next (slots p) mode.limit ≡ o
        → (received_by mode p o).1 ≡ got n offset len dropped
        → (n < SLICES) × (hands_one n p.slices ≡ false)
    go (Some s) f e =
        let same : s.number ≡ n = cc in
        let low : s.number < SLICES = all_of_next (λ (s : Slot). s.number < SLICES) (slots p) mode.limit s (slots_below p d) f in
        (omega arith, ap (λ k. hands_one k p.slices) (sym same) ∙ next_isn't_handed (slots p) mode.limit s (slots_apart p d) f)
    go None f e = none (some_of is_waiting (slots p)) e

told_by : (g : ℕ) (o : Option Pool) (mode : RecvMode) (n offset len dropped : ℕ) → AreNumbered o
    → (acted_by g o (receive mode)).1 ≡ got n offset len dropped → (n < SLICES) × (is_handed_in n (hold g o) ≡ false)
unfolding open_step closed_answer
told_by g None mode n offset len dropped d e = absurd cc
told_by g (Some p) mode n offset len dropped d e = told_waits mode p n offset len dropped d e

-- what a receive tells waited
pub receives_waiting : ReceivesWaiting
unfolding pool_step
receives_waiting h mode n offset len dropped d e = told_by h.generation h.pool mode n offset len dropped d e
