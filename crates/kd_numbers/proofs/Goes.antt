-- Act by act: the one way that a number goes.
use Rattle.std.specs.Prelude.{◌≡◌, ◌⊎◌, ◌==◌, ◌&&◌, ℕ, Bool, true, false, cond, List, [], ◌∷◌, map, not, Option, Some, None, option_map, refl}
use Rattle.std.specs.List.{AllByRecursion, find}
use Rattle.std.proofs.Common.{ap, inl, inr, subst, sym, ◌∙◌, eqb-true}
use Rattle.std.proofs.lemmas.Bool.{and_parts, false≢true}
use Rattle.kd_model.specs.Words.{but_those, least, put_in_order, some_of, those}
use Rattle.kd_types.specs.declared.refusal.Refusal.{Refusal}
use Rattle.kd_acts.specs.declared.receive.RecvMode.{RecvMode}
use Rattle.kd_acts.specs.declared.slot.Phase.{Phase}
use Rattle.kd_acts.specs.declared.slot.Phase.TheVariants.{Reserved, Queued, Peeked, Handed, Freed}
use Rattle.kd_acts.specs.declared.slot.Slot.{Slot}
use Rattle.kd_acts.specs.Lasting.{AreNumbered}
use Rattle.kd_acts.specs.State.{Content, Hold, Pool, Slice, Visit, by_desk, close, drain, free, idle, is_freed, is_reserved, is_waiting, offer, post, publish, raise, read, receive, settle, slot_numbered, slots}
use Rattle.kd_acts.specs.Steps.{drain_step, filled, free_refusal, is_awaited, is_reserved_for, next, of_lower_number, open_step, pool_step, receive_step, set_phase, stands_lower, visit_step, with_content}
use Rattle.kd_acts.proofs.Added.{IsKeptByAdding, offer_keeps, post_keeps, settle_keeps}
use Rattle.kd_acts.proofs.Apart.{HaveNumbers, IsNew, each_found, numbered_of_filter, numbered_of_map, numbered_of_put, slices_numbered, slot_of, slots_apart}
use Rattle.kd_acts.proofs.Cases.{acted_by, closed_by, drained_by, freed_by, none_received_by, phase_by, published_by, received_by, refused_by}
use Rattle.kd_acts.proofs.Cases as cases
use Rattle.kd_acts.proofs.Changes.{IsOfOne, content_is_of_one, now_in, now_with, phase_is_of_one}
use Rattle.kd_acts.proofs.Handed.{reserved_found}
use Rattle.kd_acts.proofs.Handing.{next_waits}
use Rattle.kd_acts.proofs.Receives.{all_of_next}
use Rattle.kd_numbers.specs.Ways.{GoesOn, MayBegin, NumbersGoOneWay, is_begun, is_spent, phase_among, phase_in, waits}
use Rattle.kd_numbers.proofs.Finds.{Fate, NoneHas, added_other, added_own, changed_other, changed_own, fate, gone, has, here, later, none_has, same}

-- ---- phases

abbrev slot_in : Slot → Phase → Slot
slot_in s phase = record s { phase = phase }

freed_is : (s : Slot) → is_freed s ≡ true → s.phase ≡ Freed
freed_is s e = go s.phase e
  where
    go : (phase : Phase) → is_freed (slot_in s phase) ≡ true → phase ≡ Freed
    go Reserved e = absurd (false≢true e)
    go Queued e = absurd (false≢true e)
    go Peeked e = absurd (false≢true e)
    go Handed e = absurd (false≢true e)
    go Freed e = refl

reserved_is : (s : Slot) → is_reserved s ≡ true → s.phase ≡ Reserved
reserved_is s e = go s.phase e
  where
    go : (phase : Phase) → is_reserved (slot_in s phase) ≡ true → phase ≡ Reserved
    go Reserved e = refl
    go Queued e = absurd (false≢true e)
    go Peeked e = absurd (false≢true e)
    go Handed e = absurd (false≢true e)
    go Freed e = absurd (false≢true e)

waiting_is : (s : Slot) → is_waiting s ≡ true → waits (Some s.phase) ≡ true
waiting_is s e = go s.phase e
  where
    go : (phase : Phase) → is_waiting (slot_in s phase) ≡ true → waits (Some phase) ≡ true
    go Reserved e = absurd (false≢true e)
    go Queued e = refl
    go Peeked e = refl
    go Handed e = absurd (false≢true e)
    go Freed e = absurd (false≢true e)

-- ---- what is put into a pool

-- from what is spent it may begin
spent_before : (was now : Option Phase) → is_spent now ≡ true → MayBegin was now → is_spent was ≡ true
spent_before was now s (inl e) = sym (ap is_spent e) ∙ s
spent_before was now s (inr x) = x.0

module _ (n : ℕ) (was : Option Phase) where
  abbrev Kept : List Slice → Type 0
  Kept xs = HaveNumbers xs × MayBegin was (phase_among n xs)

  abbrev filter_freed : List Slice → List Slice
  filter_freed xs = but_those (λ (s : Slice). is_freed s.slot) xs

  swept_kept : (xs : List Slice) → Kept xs → Kept (filter_freed xs)
  swept_kept xs k = (numbered_of_filter _ xs k.0, go (fate n (λ (s : Slice). is_freed s.slot) xs k.0.apart))
    where
      go : Fate n (λ (s : Slice). is_freed s.slot) xs → MayBegin was (phase_among n (filter_freed xs))
      go (same s) = subst (MayBegin was) (sym s) k.1
      go (gone x h g p q) =
          let freed : phase_among n xs ≡ Some Freed = p ∙ ap (λ f. Some f) (freed_is x.slot g) in
          inr (spent_before was (phase_among n xs) (ap is_spent freed) k.1, ap is_begun q)

  -- of a new slice
  free_here : (xs : List Slice) (s : Slice) → IsNew s xs → has n s ≡ true → NoneHas n xs
  free_here xs s new e =
      let number : s.slot.number ≡ n = eqb-true s.slot.number n e in
      subst (λ m. AllByRecursion (λ (x : Slice). slot_numbered m x.slot ≡ false) xs) number new.free

  begun : (xs : List Slice) (s : Slice) (now : Option Phase) → IsNew s xs → has n s ≡ true → is_begun now ≡ true → MayBegin was (phase_among n xs) → MayBegin was now
  begun xs s now new e b m = inr (spent_before was (phase_among n xs) (ap is_spent (none_has n xs (free_here xs s new e))) m, b)

  reserved_kept : (xs : List Slice) (s : Slice) → IsNew s xs → Kept xs → Kept (put_in_order stands_lower s xs)
  reserved_kept xs s new k = (numbered_of_put s xs new k.0, go (has n s) refl)
    where
      go : (b : Bool) → has n s ≡ b → MayBegin was (phase_among n (put_in_order stands_lower s xs))
      go true e =
          let now : phase_among n (put_in_order stands_lower s xs) ≡ Some Reserved = added_own n s xs e (free_here xs s new e) ∙ ap (λ p. Some p) (reserved_is s.slot new.reserved) in
          begun xs s _ new e (ap is_begun now) k.1
      go false e = subst (MayBegin was) (sym (added_other n s xs e)) k.1

  filled_kept : (xs : List Slice) (s : Slice) (c : Content) (arrival : ℕ) → IsNew s xs → Kept xs → Kept (map (with_content s.slot.number c arrival) (put_in_order stands_lower s xs))
  filled_kept xs s c arrival new k = (numbered_of_map fill one.number ys (numbered_of_put s xs new k.0), go (has n s) refl)
    where
      ys : List Slice
      ys = put_in_order stands_lower s xs

      fill : Slice → Slice
      fill = with_content s.slot.number c arrival

      one : IsOfOne s.slot.number fill (now_with c arrival)
      one = content_is_of_one s.slot.number c arrival

      go : (b : Bool) → has n s ≡ b → MayBegin was (phase_among n (map fill ys))
      go true e =
          let number : s.slot.number ≡ n = eqb-true s.slot.number n e in
          let now : phase_among n (map fill ys) ≡ Some Queued =
          ap (λ m. phase_among n (map (with_content m c arrival) ys)) number
          ∙ changed_own n (with_content n c arrival) (now_with c arrival) Queued (content_is_of_one n c arrival) (λ x. refl) ys
          ∙ ap (option_map (λ (p : Phase). Queued)) (added_own n s xs e (free_here xs s new e)) in
          begun xs s _ new e (ap is_begun now) k.1
      go false e = subst (MayBegin was) (sym (changed_other s.slot.number n fill (now_with c arrival) one e ys ∙ added_other n s xs e)) k.1

  pub kept : IsKeptByAdding Kept
  kept = record { sweeping = swept_kept; reserving = reserved_kept; filling = filled_kept }

-- ---- of an open pool

module _ (n : ℕ) (p : Pool) (d : AreNumbered (Some p)) where
  abbrev before : Option Phase
  before = phase_among n p.slices

  numbers : HaveNumbers p.slices
  numbers = slices_numbered p d

  start : Kept n before p.slices
  start = (numbers, inl refl)

  drained : (phase_among n (drain_step p).0.slices ≡ before) ⊎ ((waits before ≡ true) × (phase_among n (drain_step p).0.slices ≡ None))
  unfolding drain_step
  drained = go (least of_lower_number (those is_reserved (slots p)))
    where
      by_fate : Fate n (λ (s : Slice). is_waiting s.slot) p.slices → (phase_among n (drained_by p None).0.slices ≡ before) ⊎ ((waits before ≡ true) × (phase_among n (drained_by p None).0.slices ≡ None))
      by_fate (same s) = inl s
      by_fate (gone x h g f q) = inr (ap waits f ∙ waiting_is x.slot g, q)

      go : (o : Option Slot) → (phase_among n (drained_by p o).0.slices ≡ before) ⊎ ((waits before ≡ true) × (phase_among n (drained_by p o).0.slices ≡ None))
      go (Some s) = inl refl
      go None = by_fate (fate n (λ (s : Slice). is_waiting s.slot) p.slices numbers.apart)

  -- the slot that a number finds has the phase
  by_slot : (m : ℕ) (xs : List Slice) → option_map (λ (s : Slot). s.phase) (find (slot_numbered m) (map slot_of xs)) ≡ phase_among m xs
  by_slot m [] = refl
  by_slot m (x ∷ xs) = go (by_slot m xs) (has m x) refl
    where
      go : option_map (λ (s : Slot). s.phase) (find (slot_numbered m) (map slot_of xs)) ≡ phase_among m xs → (b : Bool) → has m x ≡ b → option_map (λ (s : Slot). s.phase) (find (slot_numbered m) (map slot_of (x ∷ xs))) ≡ phase_among m (x ∷ xs)
      go rest true e = ap (λ t. option_map (λ (s : Slot). s.phase) (cond t (Some x.slot) (find (slot_numbered m) (map slot_of xs)))) e ∙ sym (here m x xs e)
      go rest false e = ap (λ t. option_map (λ (s : Slot). s.phase) (cond t (Some x.slot) (find (slot_numbered m) (map slot_of xs)))) e ∙ rest ∙ sym (later m x xs e)

  found_phase : (m : ℕ) (t : Slot) → find (slot_numbered m) (slots p) ≡ Some t → phase_among m p.slices ≡ Some t.phase
  found_phase m t f = sym (by_slot m p.slices) ∙ ap (option_map (λ (s : Slot). s.phase)) f

  -- ---- a publishing

  abbrev Published : ℕ → Option Phase → Type 0
  Published m now = (now ≡ before) ⊎ ((m ≡ n) × (before ≡ Some Reserved) × (now ≡ Some Queued))

  published_goes : (m : ℕ) (c : Content) (own : Bool) → Published m (phase_among n (published_by m c p (own && is_reserved_for m c p)).0.slices)
  unfolding filled
  published_goes m c own = go (own && is_reserved_for m c p) refl
    where
      filled_goes : is_reserved_for m c p ≡ true → (b : Bool) → (m == n) ≡ b → Published m (phase_among n (filled m c p).slices)
      filled_goes h true e =
          let number : m ≡ n = eqb-true m n e in
          let t = reserved_found m c p h in
          let was : before ≡ Some Reserved = sym (ap (λ k. phase_among k p.slices) number) ∙ found_phase m t.0 t.1.found ∙ ap (λ f. Some f) (reserved_is t.0 t.1.reserved) in
          inr (
            number,
            was,
            ap (λ k. phase_among n (map (with_content k c p.next_arrival) p.slices)) number
                ∙ changed_own n (with_content n c p.next_arrival) (now_with c p.next_arrival) Queued (content_is_of_one n c p.next_arrival) (λ x. refl) p.slices
                ∙ ap (option_map (λ (f : Phase). Queued)) was,
          )
      filled_goes h false e = inl (changed_other m n (with_content m c p.next_arrival) (now_with c p.next_arrival) (content_is_of_one m c p.next_arrival) e p.slices)

      go : (b : Bool) → (own && is_reserved_for m c p) ≡ b → Published m (phase_among n (published_by m c p b).0.slices)
      go true e = filled_goes (and_parts own (is_reserved_for m c p) e).1 (m == n) refl
      go false e = inl refl

  -- ---- a free

  handed_slot : (o : Option Slot) → refused_by o ≡ None → (t : Slot) × (o ≡ Some t) × (t.phase ≡ Handed)
  handed_slot None e = absurd cc
  handed_slot (Some s) e = (s, refl, go s.phase e)
    where
      go : (phase : Phase) → refused_by (Some (slot_in s phase)) ≡ None → phase ≡ Handed
      go Reserved e = absurd cc
      go Queued e = absurd cc
      go Peeked e = absurd cc
      go Handed e = refl
      go Freed e = absurd cc

  abbrev FreedSo : ℕ → Option Phase → Type 0
  FreedSo m now = (now ≡ before) ⊎ ((m ≡ n) × (before ≡ Some Handed) × (now ≡ Some Freed))

  freed_goes : (m : ℕ) → FreedSo m (phase_among n (freed_by m p (free_refusal m (slots p))).slices)
  unfolding free_refusal
  freed_goes m = go (free_refusal m (slots p)) refl
    where
      marked : free_refusal m (slots p) ≡ None → (b : Bool) → (m == n) ≡ b → FreedSo m (phase_among n (freed_by m p None).slices)
      marked none true e =
          let number : m ≡ n = eqb-true m n e in
          let t = handed_slot (find (slot_numbered m) (slots p)) none in
          let was : before ≡ Some Handed = sym (ap (λ k. phase_among k p.slices) number) ∙ found_phase m t.0 t.1 ∙ ap (λ f. Some f) t.2 in
          inr (
            number,
            was,
            ap (λ k. phase_among n (map (set_phase Freed k) p.slices)) number
                ∙ changed_own n (set_phase Freed n) (now_in Freed) Freed (phase_is_of_one Freed n) (λ x. refl) p.slices ∙ ap (option_map (λ (f : Phase). Freed)) was,
          )
      marked none false e = inl (changed_other m n (set_phase Freed m) (now_in Freed) (phase_is_of_one Freed m) e p.slices)

      go : (o : Option Refusal) → free_refusal m (slots p) ≡ o → FreedSo m (phase_among n (freed_by m p o).slices)
      go None e = marked e (m == n) refl
      go (Some why) e = inl refl

  -- ---- a receive

  abbrev taken : Bool → Bool → Option Phase
  taken drops peeks = elim drops [ true ↦ None | false ↦ Some (elim peeks [ true ↦ Peeked | false ↦ Handed ]) ]

  abbrev TakenSo : Bool → Bool → Option Phase → Type 0
  TakenSo drops peeks now = (now ≡ before) ⊎ ((waits before ≡ true) × (now ≡ taken drops peeks))

  -- the slice of a number that waits comes into a phase
  phase_goes : (m : ℕ) (phase : Phase) → (m ≡ n → waits before ≡ true) → (phase_among n (map (set_phase phase m) p.slices) ≡ before) ⊎ ((waits before ≡ true) × (phase_among n (map (set_phase phase m) p.slices) ≡ Some phase))
  phase_goes m phase waiting = go (m == n) refl
    where
      own : (o : Option Phase) → waits o ≡ true → option_map (λ (f : Phase). phase) o ≡ Some phase
      own None e = absurd (false≢true e)
      own (Some f) e = refl

      go : (b : Bool) → (m == n) ≡ b → (phase_among n (map (set_phase phase m) p.slices) ≡ before) ⊎ ((waits before ≡ true) × (phase_among n (map (set_phase phase m) p.slices) ≡ Some phase))
      go true e =
          let number : m ≡ n = eqb-true m n e in
          inr (
            waiting number,
            ap (λ k. phase_among n (map (set_phase phase k) p.slices)) number
                ∙ changed_own n (set_phase phase n) (now_in phase) phase (phase_is_of_one phase n) (λ x. refl) p.slices ∙ own before (waiting number),
          )
      go false e = inl (changed_other m n (set_phase phase m) (now_in phase) (phase_is_of_one phase m) e p.slices)

  -- or goes
  drop_goes : (m : ℕ) → (m ≡ n → waits before ≡ true) → (phase_among n (cases.taken_by true true m p).slices ≡ before) ⊎ ((waits before ≡ true) × (phase_among n (cases.taken_by true true m p).slices ≡ None))
  drop_goes m waiting = go (fate n (has m) p.slices numbers.apart)
    where
      go : Fate n (has m) p.slices → (phase_among n (cases.taken_by true true m p).slices ≡ before) ⊎ ((waits before ≡ true) × (phase_among n (cases.taken_by true true m p).slices ≡ None))
      go (same s) = inl s
      go (gone x h g f q) = inr (waiting (sym (eqb-true x.slot.number m g) ∙ eqb-true x.slot.number n h), q)

  taken_goes : (drops peeks : Bool) (m : ℕ) → (m ≡ n → waits before ≡ true) → TakenSo drops peeks (phase_among n (cases.taken_by drops peeks m p).slices)
  taken_goes true peeks m waiting = drop_goes m waiting
  taken_goes false true m waiting = phase_goes m Peeked waiting
  taken_goes false false m waiting = phase_goes m Handed waiting

  received_goes : (mode : RecvMode) → TakenSo mode.drop_it mode.peek (phase_among n (receive_step mode p).0.slices)
  unfolding receive_step
  received_goes mode = go (next (slots p) mode.limit) refl
    where
      none : (b : Bool) → TakenSo mode.drop_it mode.peek (phase_among n (none_received_by p b).0.slices)
      none true = inl refl
      none false = inl refl

      go : (o : Option Slot) → next (slots p) mode.limit ≡ o → TakenSo mode.drop_it mode.peek (phase_among n (received_by mode p o).0.slices)
      go (Some s) e =
          let found = all_of_next (λ (x : Slot). find (slot_numbered x.number) (slots p) ≡ Some x) (slots p) mode.limit s (each_found (slots p) (slots_apart p d)) e in
          taken_goes mode.drop_it mode.peek s.number (λ number.
          sym (ap (λ k. waits (phase_among k p.slices)) number) ∙ ap waits (found_phase s.number s found) ∙ waiting_is s (next_waits (slots p) mode.limit s e))
      go None e = none (some_of is_waiting (slots p))

-- ---- any act

visit_goes : (g : ℕ) (o : Option Pool) (v : Visit) (n : ℕ) → AreNumbered o → ((p : Pool) → AreNumbered (Some p) → GoesOn (by_desk v) n (phase_among n p.slices) (phase_among n (visit_step p v).0.slices))
    → GoesOn (by_desk v) n None None → GoesOn (by_desk v) n (phase_in n (cases.hold g o)) (phase_in n (acted_by g o (by_desk v)).0)
unfolding open_step
visit_goes g None v n d by_open closed = closed
visit_goes g (Some p) v n d by_open closed = by_open p d

publish_goes : (g : ℕ) (o : Option Pool) (generation m : ℕ) (c : Content) (n : ℕ) → AreNumbered o → GoesOn (publish generation m c) n (phase_in n (cases.hold g o)) (phase_in n (acted_by g o (publish generation m c)).0)
unfolding open_step
publish_goes g None generation m c n d = inl refl
publish_goes g (Some p) generation m c n d = published_goes n p d m c (generation == g)

receive_goes : (g : ℕ) (o : Option Pool) (mode : RecvMode) (n : ℕ) → AreNumbered o → GoesOn (receive mode) n (phase_in n (cases.hold g o)) (phase_in n (acted_by g o (receive mode)).0)
unfolding open_step
receive_goes g None mode n d = inl refl
receive_goes g (Some p) mode n d = received_goes n p d mode

free_goes : (g : ℕ) (o : Option Pool) (m n : ℕ) → AreNumbered o → GoesOn (free m) n (phase_in n (cases.hold g o)) (phase_in n (acted_by g o (free m)).0)
unfolding open_step
free_goes g None m n d = inl refl
free_goes g (Some p) m n d = freed_goes n p d m

read_goes : (g : ℕ) (o : Option Pool) (m : ℕ) (sealed : Bool) (n : ℕ) → phase_in n (acted_by g o (read m sealed)).0 ≡ phase_in n (cases.hold g o)
unfolding open_step
read_goes g None m sealed n = refl
read_goes g (Some p) m sealed n = refl

idle_goes : (g : ℕ) (o : Option Pool) (n : ℕ) → phase_in n (acted_by g o idle).0 ≡ phase_in n (cases.hold g o)
unfolding open_step
idle_goes g None n = refl
idle_goes g (Some p) n = refl

closed_goes : (h : Hold) (n : ℕ) (b : Bool) → (phase_in n (closed_by h b).0 ≡ phase_in n h) ⊎ (phase_in n (closed_by h b).0 ≡ None)
closed_goes h n true = inl refl
closed_goes h n false = inr refl

pub numbers_go_one_way : NumbersGoOneWay
unfolding pool_step visit_step
numbers_go_one_way h (by_desk (raise size)) n d = refl
numbers_go_one_way h (by_desk (close force)) n d = closed_goes h n (not force && is_awaited h)
numbers_go_one_way h (by_desk (offer user len source must content)) n d =
    visit_goes h.generation h.pool (offer user len source must content) n d
    (λ p d. (offer_keeps (Kept n (phase_among n p.slices)) (kept n (phase_among n p.slices)) user len source must p (start n p d)).1) (inl refl)
numbers_go_one_way h (by_desk (post image)) n d =
    visit_goes h.generation h.pool (post image) n d (λ p d. (post_keeps (Kept n (phase_among n p.slices)) (kept n (phase_among n p.slices)) image p (start n p d)).1) (inl refl)
numbers_go_one_way h (by_desk drain) n d = visit_goes h.generation h.pool drain n d (λ p d. drained n p d) (inl refl)
numbers_go_one_way h (by_desk (settle images)) n d =
    visit_goes h.generation h.pool (settle images) n d (λ p d. (settle_keeps (Kept n (phase_among n p.slices)) (kept n (phase_among n p.slices)) images p (start n p d)).1) (inl refl)
numbers_go_one_way h (publish generation m c) n d = publish_goes h.generation h.pool generation m c n d
numbers_go_one_way h (receive mode) n d = receive_goes h.generation h.pool mode n d
numbers_go_one_way h (read m sealed) n d = read_goes h.generation h.pool m sealed n
numbers_go_one_way h (free m) n d = free_goes h.generation h.pool m n d
numbers_go_one_way h idle n d = idle_goes h.generation h.pool n
