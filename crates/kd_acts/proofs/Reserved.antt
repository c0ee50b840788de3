-- A slice that is reserved stays just as it is until its message is published, or its pool is of
-- another generation.
use Rattle.std.specs.Prelude.{◌≡◌, ◌≤◌, ◌+◌, ◌==◌, ◌&&◌, ℕ, Bool, true, false, List, [], ◌∷◌, length, map, not, Option, Some, None, refl}
use Rattle.std.specs.List.{AllByRecursion, find}
use Rattle.std.proofs.Common.{ap, arith, inl, inr, subst, sym, ◌∙◌, eq-eqb, eqb-true}
use Rattle.std.proofs.lemmas.Bool.{false≢true, not_from_false}
use Rattle.std.proofs.lemmas.Bool.Decides.{nat_tests}
use Rattle.std.proofs.lemmas.Option.{same_Some}
use Rattle.kd_model.specs.Slices.{place, unused_number}
use Rattle.kd_model.specs.Words.{AnyOf, least, put_in_order, some_of, those}
use Rattle.kd_types.specs.declared.refusal.Refusal.{Refusal}
use Rattle.kd_types.specs.declared.refusal.Refusal.TheVariants.{Quota}
use Rattle.kd_acts.specs.declared.receive.RecvMode.{RecvMode}
use Rattle.kd_acts.specs.declared.slot.Phase.{Phase}
use Rattle.kd_acts.specs.declared.slot.Phase.TheVariants.{Freed, Handed, Peeked, Queued, Reserved}
use Rattle.kd_acts.specs.declared.slot.Slot.{Slot}
use Rattle.kd_acts.specs.Lasting.{AreNumbered, is_open}
use Rattle.kd_acts.specs.State.{Act, Answer, Content, Hold, Pool, Slice, Visit, book_of, by_desk, bytes_of, close, done, drain, drained, free, freed, gone, got, slot_numbered, idle, is_freed, is_reserved, is_waiting, offer, placed, post, publish, raise, read, receive, refused, settle, slice, slots}
use Rattle.kd_acts.specs.Steps.{after, answer, closed_answer, drop_counted, drain_step, filled, free_refusal, is_awaited, is_reserved_for, length_reserved, must_offer_step, next, of_lower_number, offer_step, open_step, over_quota, pool_step, receive_step, reserve_at, reserve_step, reserved_length, set_phase, stands_lower, swept, visit_step, with_content, with_phase, without_handed}
use Rattle.kd_acts.proofs.Added.{is_new, new_slice, offer_keeps, post_keeps, settle_keeps}
use Rattle.kd_acts.proofs.Apart.{each_found, slots_apart}
use Rattle.kd_acts.proofs.Cases.{acted_by, closed_by, drained_by, freed_by, hold, none_received_by, phase_by, published_by, received_by, refused_by, taken_by}
use Rattle.kd_acts.proofs.Changes.{content_is_of_one, phase_is_of_one}
use Rattle.kd_acts.proofs.Handing.{next_waits}
use Rattle.kd_acts.proofs.Receives.{all_of_next}
use Rattle.kd_acts.proofs.Stays.{IsIn, all_in, any_of_filter, any_of_map, there_kept_by_adding}

-- the slice is one of these
abbrev pub Among : Slice → List Slice → Type 0
Among x xs = AnyOf (λ (y : Slice). y ≡ x) xs

-- what holds of each holds of one of them
pub of_one : {X : Type 0} (P : X → Type 0) (x : X) (xs : List X) → AllByRecursion P xs → AnyOf (λ y. y ≡ x) xs → P x
of_one P x [] a i = absurd i
of_one P x (y ∷ ys) a (inl e) = subst P e a.0
of_one P x (y ∷ ys) a (inr i) = of_one P x ys a.1 i

-- a slice of the pool that is reserved under a number for as many bytes
pub record IsReservedIn (n len : ℕ) (p : Pool) : Type 0 where
  pub one : Slice
  pub there : Among one p.slices
  pub reserved : is_reserved one.slot ≡ true
  pub number : one.slot.number ≡ n
  pub long : one.slot.len ≡ len

abbrev pub IsReservedAt : ℕ → ℕ → Option Pool → Type 0
IsReservedAt n len None = ⊥
IsReservedAt n len (Some p) = IsReservedIn n len p

-- what was reserved in a generation: while the pool has that generation, the slice is reserved
pub record IsOwed (g n len : ℕ) (h : Hold) : Type 0 where
  pub past : g ≤ h.generation
  pub there : g ≡ h.generation → IsReservedAt n len h.pool

-- the act publishes into the slice of that number of that generation
abbrev pub takes : ℕ → ℕ → Act → Bool
takes g n (publish generation m c) = generation == g && m == n
takes g n _ = false

-- ---- by its phase no slot is two things

abbrev slot_in : Slot → Phase → Slot
slot_in s phase = record s { phase = phase }

-- what is reserved isn't freed and doesn't wait
reserved_stays : (s : Slot) → is_reserved s ≡ true → (is_freed s ≡ false) × (is_waiting s ≡ false)
reserved_stays s e = go s.phase e
  where
    go : (phase : Phase) → is_reserved (slot_in s phase) ≡ true → (is_freed (slot_in s phase) ≡ false) × (is_waiting (slot_in s phase) ≡ false)
    go Reserved e = (refl, refl)
    go Queued e = absurd (false≢true e)
    go Peeked e = absurd (false≢true e)
    go Handed e = absurd (false≢true e)
    go Freed e = absurd (false≢true e)

-- where a free isn't refused, the slice of the number isn't reserved
free_isn't : (o : Option Slot) → refused_by o ≡ None → (t : Slot) × (o ≡ Some t) × (is_reserved t ≡ false)
free_isn't None e = absurd cc
free_isn't (Some s) e = (s, refl, go s.phase e)
  where
    go : (phase : Phase) → refused_by (Some (slot_in s phase)) ≡ None → is_reserved (slot_in s phase) ≡ false
    go Reserved e = absurd cc
    go Queued e = refl
    go Peeked e = refl
    go Handed e = refl
    go Freed e = refl

turned : (a b : ℕ) → (b == a) ≡ (a == b)
turned a b = grind (arith, nat_tests)

-- ---- a reserved slice of a pool

module _ (g : ℕ) (p : Pool) (x : Slice) (i : IsIn p x) (r : is_reserved x.slot ≡ true) where
  -- it hasn't the number of a slot that isn't reserved
  apart : (n : ℕ) (t : Slot) → find (slot_numbered n) (slots p) ≡ Some t → is_reserved t ≡ false → slot_numbered n x.slot ≡ false
  apart n t found isn't = go (slot_numbered n x.slot) refl
    where
      go : (b : Bool) → slot_numbered n x.slot ≡ b → b ≡ false
      go false e = refl
      go true e =
          let same : x.slot.number ≡ n = eqb-true x.slot.number n e in
          let it : x.slot ≡ t = same_Some x.slot t (sym i.found ∙ ap (λ k. find (slot_numbered k) (slots p)) same ∙ found) in
          absurd (false≢true (sym isn't ∙ ap is_reserved (sym it) ∙ r))

  by_filter : (goes : Slot → Bool) → goes x.slot ≡ false → Among x (those (λ (y : Slice). not (goes y.slot)) p.slices)
  by_filter goes out =
      any_of_filter (λ (y : Slice). y ≡ x) (λ (y : Slice). not (goes y.slot)) p.slices
      (λ y e. not_from_false (goes y.slot) (ap (λ (s : Slice). goes s.slot) e ∙ out)) i.there

  by_map : (f : Slice → Slice) → f x ≡ x → Among x (map f p.slices)
  by_map f same = any_of_map (λ (y : Slice). y ≡ x) (λ (y : Slice). y ≡ x) f p.slices (λ y e. ap f e ∙ same) i.there

  by_phase : (phase : Phase) (n : ℕ) → slot_numbered n x.slot ≡ false → Among x (with_phase phase n p).slices
  by_phase phase n out = by_map (set_phase phase n) ((phase_is_of_one phase n).others x out)

  drain_leaves : Among x (drain_step p).0.slices
  unfolding drain_step
  drain_leaves = go (least of_lower_number (those is_reserved (slots p)))
    where
      go : (o : Option Slot) → Among x (drained_by p o).0.slices
      go None = by_filter is_waiting (reserved_stays x.slot r).1
      go (Some s) = i.there

  receive_leaves : (mode : RecvMode) → AreNumbered (Some p) → Among x (receive_step mode p).0.slices
  unfolding receive_step
  receive_leaves mode d = go (next (slots p) mode.limit) refl
    where
      none : (b : Bool) → Among x (none_received_by p b).0.slices
      none true = i.there
      none false = i.there

      taken : (drops : Bool) (n : ℕ) → slot_numbered n x.slot ≡ false → Among x (taken_by drops mode.peek n p).slices
      taken true n out = by_filter (slot_numbered n) out
      taken false n out = by_phase (phase_by mode.peek) n out

      isn't : (s : Slot) → is_waiting s ≡ true → (b : Bool) → is_reserved s ≡ b → b ≡ false
      isn't s e false f = refl
      isn't s e true f = absurd (false≢true (sym (reserved_stays s f).1 ∙ e))

      go : (o : Option Slot) → next (slots p) mode.limit ≡ o → Among x (received_by mode p o).0.slices
      go (Some s) e =
          let each = each_found (slots p) (slots_apart p d) in
          let found = all_of_next (λ (s : Slot). find (slot_numbered s.number) (slots p) ≡ Some s) (slots p) mode.limit s each e in
          taken mode.drop_it s.number (apart s.number s found (isn't s (next_waits (slots p) mode.limit s e) (is_reserved s) refl))
      go None e = none (some_of is_waiting (slots p))

  free_leaves : (n : ℕ) → Among x (without_handed n p).slices
  unfolding free_refusal
  free_leaves n = go (free_refusal n (slots p)) refl
    where
      go : (o : Option Refusal) → free_refusal n (slots p) ≡ o → Among x (freed_by n p o).slices
      go None e = let t = free_isn't (find (slot_numbered n) (slots p)) e in by_phase Freed n (apart n t.0 t.1 t.2)
      go (Some why) e = i.there

  publish_leaves : (generation n : ℕ) (c : Content) → (generation == g && n == x.slot.number) ≡ false
      → Among x (published_by n c p (generation == g && is_reserved_for n c p)).0.slices
  unfolding filled
  publish_leaves generation n c e = go (generation == g) (is_reserved_for n c p) e
    where
      go : (own fits : Bool) → (own && n == x.slot.number) ≡ false → Among x (published_by n c p (own && fits)).0.slices
      go false fits e = i.there
      go true false e = i.there
      go true true e = by_map (with_content n c p.next_arrival) ((content_is_of_one n c p.next_arrival).others x (turned n x.slot.number ∙ e))

  visit_leaves : (v : Visit) → Among x (visit_step p v).0.slices
  unfolding visit_step
  visit_leaves (offer user len source must content) = offer_keeps _ (there_kept_by_adding x (reserved_stays x.slot r).0) user len source must p i.there
  visit_leaves (post image) = post_keeps _ (there_kept_by_adding x (reserved_stays x.slot r).0) image p i.there
  visit_leaves drain = drain_leaves
  visit_leaves (settle images) = settle_keeps _ (there_kept_by_adding x (reserved_stays x.slot r).0) images p i.there
  visit_leaves (raise size) = i.there
  visit_leaves (close force) = i.there

  -- it stays as it is through any act that doesn't publish into it
  act_leaves : (a : Act) → AreNumbered (Some p) → takes g x.slot.number a ≡ false → Among x (open_step g p a).0.slices
  unfolding open_step
  act_leaves (by_desk v) d e = visit_leaves v
  act_leaves (publish generation n c) d e = publish_leaves generation n c e
  act_leaves (receive mode) d e = receive_leaves mode d
  act_leaves (read n sealed) d e = i.there
  act_leaves (free n) d e = free_leaves n
  act_leaves idle d e = i.there

-- ---- any act at a pool with its generation

acted : (k : ℕ) (o : Option Pool) (a : Act) (g n len : ℕ) → AreNumbered o → takes g n a ≡ false → IsOwed g n len (hold k o) → IsOwed g n len (acted_by k o a).0
acted k None a g n len d e w = record { past = w.past; there = w.there }
acted k (Some p) a g n len d e w = record {
  past = w.past;
  there = λ same.
      let s = w.there same in
      let is : takes k s.one.slot.number a ≡ false = ap (λ (t : ℕ × ℕ). takes t.0 t.1 a) (λ i. (sym same i, s.number i)) ∙ e in
      record {
        one = s.one;
        there = act_leaves k p s.one (of_one (IsIn p) s.one p.slices (all_in p d) s.there) s.reserved a d is;
        reserved = s.reserved;
        number = s.number;
        long = s.long;
      };
}

-- a pool of the next generation has nothing that was owed
next_one : (g n len : ℕ) (h : Hold) (o : Option Pool) → IsOwed g n len h → IsOwed g n len (hold (h.generation + 1) o)
next_one g n len h o w = let past = w.past in record { past = omega (arith, past); there = λ e. absurd (omega (arith, past, e)) }

closed : (g n len : ℕ) (h : Hold) (b : Bool) → IsOwed g n len h → IsOwed g n len (closed_by h b).0
closed g n len h true w = w
closed g n len h false w = next_one g n len h None w

-- what is owed stays so until it is published
pub owed_stays : (h : Hold) (a : Act) (g n len : ℕ) → AreNumbered h.pool → takes g n a ≡ false → IsOwed g n len h → IsOwed g n len (after h a)
unfolding pool_step
owed_stays h (by_desk (raise size)) g n len d e w = next_one g n len h _ w
owed_stays h (by_desk (close force)) g n len d e w = closed g n len h (not force && is_awaited h) w
owed_stays h (by_desk (offer user bytes source must content)) g n len d e w =
    acted h.generation h.pool (by_desk (offer user bytes source must content)) g n len d e w
owed_stays h (by_desk (post image)) g n len d e w = acted h.generation h.pool (by_desk (post image)) g n len d e w
owed_stays h (by_desk drain) g n len d e w = acted h.generation h.pool (by_desk drain) g n len d e w
owed_stays h (by_desk (settle images)) g n len d e w = acted h.generation h.pool (by_desk (settle images)) g n len d e w
owed_stays h (publish generation m c) g n len d e w = acted h.generation h.pool (publish generation m c) g n len d e w
owed_stays h (receive mode) g n len d e w = acted h.generation h.pool (receive mode) g n len d e w
owed_stays h (read m sealed) g n len d e w = acted h.generation h.pool (read m sealed) g n len d e w
owed_stays h (free m) g n len d e w = acted h.generation h.pool (free m) g n len d e w
owed_stays h idle g n len d e w = acted h.generation h.pool idle g n len d e w

-- ---- generations

-- only these end a generation
abbrev pub turns : Act → Bool
turns (by_desk (raise size)) = true
turns (by_desk (close force)) = true
turns _ = false

same_generation : (g : ℕ) (o : Option Pool) (a : Act) → (acted_by g o a).0.generation ≡ g
same_generation g None a = refl
same_generation g (Some p) a = refl

pub generation_stays : (h : Hold) (a : Act) → turns a ≡ false → (after h a).generation ≡ h.generation
unfolding pool_step
generation_stays h (by_desk (raise size)) e = absurd (false≢true (sym e))
generation_stays h (by_desk (close force)) e = absurd (false≢true (sym e))
generation_stays h (by_desk (offer user len source must content)) e = same_generation h.generation h.pool (by_desk (offer user len source must content))
generation_stays h (by_desk (post image)) e = same_generation h.generation h.pool (by_desk (post image))
generation_stays h (by_desk drain) e = same_generation h.generation h.pool (by_desk drain)
generation_stays h (by_desk (settle images)) e = same_generation h.generation h.pool (by_desk (settle images))
generation_stays h (publish generation m c) e = same_generation h.generation h.pool (publish generation m c)
generation_stays h (receive mode) e = same_generation h.generation h.pool (receive mode)
generation_stays h (read m sealed) e = same_generation h.generation h.pool (read m sealed)
generation_stays h (free m) e = same_generation h.generation h.pool (free m)
generation_stays h idle e = same_generation h.generation h.pool idle

-- ---- an offer that is placed

-- a number that none of a pool's reserved slices has
abbrev IsUnused : ℕ → Pool → Type 0
IsUnused n p = (x : Slice) → Among x p.slices → is_reserved x.slot ≡ true → x.slot.number ≡ n → ⊥

put_there : (x : Slice) (xs : List Slice) → Among x (put_in_order stands_lower x xs)
put_there x [] = inl refl
put_there x (y ∷ ys) = go (stands_lower x y) (put_there x ys)
  where
    go : (b : Bool) → Among x (put_in_order stands_lower x ys)
        → Among x (elim b as (λ b. List Slice) [ true ↦ x ∷ y ∷ ys | false ↦ y ∷ put_in_order stands_lower x ys ])
    go true later = inl refl
    go false later = inr later

reserves : (len source n : ℕ) (user : Option ℕ) (p : Pool) → (reserve_step len user source p).1 ≡ slice n
    → IsReservedIn n len (reserve_step len user source p).0 × IsUnused n p
unfolding reserve_step
reserves len source n user p e = go (unused_number (book_of p)) refl (place (book_of p) len) e
  where
    go : (m : Option ℕ) → unused_number (book_of p) ≡ m → (at : Option ℕ) → (reserve_at m at len user source p).1 ≡ slice n
        → IsReservedIn n len (reserve_at m at len user source p).0 × IsUnused n p
    go None f at e = absurd cc
    go (Some m) f None e = absurd cc
    go (Some m) f (Some at) e =
        let same : m ≡ n = cc in
        let x : Slice = new_slice m at len user source p in
        let new = is_new p m at len source user f in (
          record { one = x; there = put_there x p.slices; reserved = refl; number = same; long = refl },
          λ x i r z. false≢true (sym (of_one (λ (y : Slice). slot_numbered m y.slot ≡ false) x p.slices new.free i) ∙ eq-eqb x.slot.number m (z ∙ sym same)),
        )

bound_reserves : (user len source n : ℕ) (p : Pool) → (must_offer_step user len source p).1 ≡ slice n
    → IsReservedIn n len (must_offer_step user len source p).0 × IsUnused n p
unfolding must_offer_step
bound_reserves user len source n p e = go (over_quota q.size (slots q) user len) e
  where
    q : Pool
    q = swept (record p { offered = p.offered + 1 })

    by_quota : Bool → Pool × Answer
    by_quota b = elim b as (λ b. Pool × Answer) [ true ↦ (q, refused Quota) | false ↦ reserve_step len (Some user) source q ]

    go : (b : Bool) → (by_quota b).1 ≡ slice n → IsReservedIn n len (by_quota b).0 × IsUnused n p
    go true e = absurd cc
    go false e =
        let s = reserves len source n (Some user) q e in (
          s.0,
          λ x i r z. s.1 x (any_of_filter (λ (y : Slice). y ≡ x) (λ (y : Slice). not (is_freed y.slot)) p.slices
              (λ y f. not_from_false (is_freed y.slot) (ap (λ (s : Slice). is_freed s.slot) f ∙ (reserved_stays x.slot r).0)) i) r z,
        )

offer_reserves : (user len source n : ℕ) (must : Bool) (p : Pool) → (offer_step user len source must p).1 ≡ slice n
    → IsReservedIn n len (offer_step user len source must p).0 × IsUnused n p
unfolding offer_step
offer_reserves user len source n must p e =
    let s = must_offer_step user len source p in
    go must s.0 s.1 (bound_reserves user len source n p) e
  where
    go : (must : Bool) (q : Pool) (a : Answer) → (a ≡ slice n → IsReservedIn n len q × IsUnused n p) → (drop_counted must (q, a)).1 ≡ slice n
        → IsReservedIn n len (drop_counted must (q, a)).0 × IsUnused n p
    go true q a f e = f e
    go false q (refused why) f e = absurd cc
    go false q done f e = absurd cc
    go false q placed f e = absurd cc
    go false q gone f e = absurd cc
    go false q freed f e = absurd cc
    go false q (slice m) f e = f e
    go false q (drained images) f e = absurd cc
    go false q (got m offset len dropped) f e = absurd cc
    go false q (bytes_of bytes) f e = absurd cc

-- what an offer places is owed from then on, and nothing was owed under its number in this
-- generation
pub owed_begins : (h : Hold) (user len source n : ℕ) (must : Bool) (c : Content) → answer h (by_desk (offer user len source must c)) ≡ slice n
    → IsOwed h.generation n len (after h (by_desk (offer user len source must c))) × ((size : ℕ) → IsOwed h.generation n size h → ⊥)
unfolding pool_step open_step visit_step closed_answer
owed_begins h user len source n must c e = go h.generation h.pool e
  where
    go : (g : ℕ) (o : Option Pool) → (acted_by g o (by_desk (offer user len source must c))).1 ≡ slice n
        → IsOwed g n len (acted_by g o (by_desk (offer user len source must c))).0 × ((size : ℕ) → IsOwed g n size (hold g o) → ⊥)
    go g None e = absurd cc
    go g (Some p) e =
        let s = offer_reserves user len source n must p e in
        (record { past = omega arith; there = λ z. s.0 }, λ size w. let x = w.there refl in s.1 x.one x.there x.reserved x.number)

-- ---- a publishing

-- what is reserved for the content's length can be published into
fits : (n : ℕ) (c : Content) (p : Pool) → AreNumbered (Some p) → IsReservedIn n (length c.image) p → is_reserved_for n c p ≡ true
unfolding reserved_length
fits n c p d s =
    let i = of_one (IsIn p) s.one p.slices (all_in p d) s.there in
    ap (λ o. of_length (length_reserved o)) (ap (λ k. find (slot_numbered k) (slots p)) (sym s.number) ∙ i.found)
    ∙ ap (λ b. of_length (elim b as (λ b. Option ℕ) [ true ↦ Some s.one.slot.len | false ↦ None ])) s.reserved
    ∙ eq-eqb s.one.slot.len (length c.image) s.long
  where
    of_length : Option ℕ → Bool
    of_length o = elim o [ None ↦ false | Some len ↦ len == length c.image ]

-- what is owed is placed while its pool has the generation, and else gone
pub owed_arrives : (h : Hold) (g n : ℕ) (c : Content) → AreNumbered h.pool → IsOwed g n (length c.image) h
    → answer h (publish g n c) ≡ elim (is_open h && h.generation == g) [ true ↦ placed | false ↦ gone ]
unfolding pool_step open_step closed_answer
owed_arrives h g n c d w = go h.pool d w.there
  where
    told : Bool → Answer
    told b = elim b [ true ↦ placed | false ↦ gone ]

    by_generation : (p : Pool) (b : Bool) → (b ≡ true → is_reserved_for n c p ≡ true) → (published_by n c p (b && is_reserved_for n c p)).1 ≡ told b
    by_generation p false f = refl
    by_generation p true f = ap (λ b. (published_by n c p b).1) (f refl)

    go : (o : Option Pool) → AreNumbered o → (g ≡ h.generation → IsReservedAt n (length c.image) o)
        → (acted_by h.generation o (publish g n c)).1 ≡ told (is_open (hold h.generation o) && h.generation == g)
    go None d there = refl
    go (Some p) d there = by_generation p (g == h.generation) (λ e. fits n c p d (there (eqb-true g h.generation e))) ∙ ap told (turned h.generation g)
