-- What each act makes of a sound pool.
use Rattle.std.specs.Prelude.{◌≡◌, ◌≤◌, ◌+◌, ◌%◌, ◌==◌, ◌&&◌, ℕ, Bool, true, false, IfSome, List, [], ◌∷◌, drop, length, map, not, Option, Some, None, refl, take, pos}
use Rattle.std.specs.List.{AllByRecursion, find}
use Rattle.std.proofs.Common.{ap, arith, subst, sym, ◌∙◌, eqb-true}
use Rattle.std.proofs.lemmas.Bool.{and_parts}
use Rattle.std.proofs.lemmas.List.{length-replicate}
use Rattle.std.proofs.lemmas.Option.{same_Some}
use Rattle.kd_model.proofs.Lists.{all_both, all_follow, all_of_found, all_of_put, all_over, all_under}
use Rattle.kd_model.proofs.Places.{sound_empty, sound_with}
use Rattle.kd_model.specs.Slices.{IsSound, place, unused_number}
use Rattle.kd_model.specs.Words.{least, some_of, those}
use Rattle.kd_types.specs.declared.refusal.Refusal.{Refusal}
use Rattle.kd_types.specs.declared.refusal.Refusal.TheVariants.{Quota}
use Rattle.kd_acts.specs.declared.receive.RecvMode.{RecvMode}
use Rattle.kd_acts.specs.declared.slot.Phase.{Phase}
use Rattle.kd_acts.specs.declared.slot.Phase.TheVariants.{Freed}
use Rattle.kd_acts.specs.declared.slot.Slot.{Slot}
use Rattle.kd_acts.specs.Sound.{IsKept, IsSoundPool, slot_range}
use Rattle.kd_acts.specs.State.{Act, Answer, Content, Hold, Image, Pool, Slice, book_of, by_desk, close, drain, free, idle, is_freed, is_reserved, is_waiting, offer, placed_of, post, publish, raise, read, receive, refused, settle, slot_numbered, slots}
use Rattle.kd_acts.specs.Steps.{drain_step, drop_counted, fill_reserved, fill_step, filled, free_refusal, is_awaited, is_reserved_for, length_reserved, must_offer_step, new_pool, next, offset_of, of_lower_number, offer_step, open_step, over_quota, pool_step, post_step, receive_step, reserve_at, reserve_step, reserved_length, set_phase, settled, stands_lower, swept, visit_step, with_content, with_dropped, with_phase, with_reserved, without_handed, written}
use Rattle.kd_acts.proofs.Added.{new_slice}
use Rattle.kd_acts.proofs.Apart.{each_found, slot_of, slots_apart}
use Rattle.kd_acts.proofs.Cases.{acted_by, closed_by, drained_by, freed_by, none_received_by, phase_by, published_by, received_by, taken_by}
use Rattle.kd_acts.proofs.Changes.{IsOfOne, content_is_of_one, now_with}
use Rattle.kd_acts.proofs.Handed.{reserved_found}
use Rattle.kd_sound.specs.Lengths.{HasLengths, HaveLengths, IsLength}
use Rattle.kd_sound.specs.Staying.{ActsKeepPoolsSound}
use Rattle.kd_sound.proofs.Books.{IsAsideOf, IsAway, LiesIn, all_aside, all_inside, book_stays, book_with, made, numbered, of_put, sound_of_those}
use Rattle.kd_sound.proofs.Written.{length_written, written_elsewhere, written_there}

-- other counts leave a pool sound
counted : (arrival dropped offered : ℕ) (p : Pool) → IsSoundPool p → IsSoundPool (record p { next_arrival = arrival; dropped = dropped; offered = offered })
counted arrival dropped offered p s = record { memory = s.memory; book = s.book; whole = s.whole; bytes = s.bytes }

-- ---- phases

phased : (phase : Phase) (n : ℕ) (p : Pool) → IsSoundPool p → IsSoundPool (with_phase phase n p)
phased phase n p s =
    made (with_phase phase n p) s.memory (subst IsSound (sym (book_stays (set_phase phase n) stays p)) s.book)
    (all_over (IsKept p.memory) (set_phase phase n) p.slices (each p.slices s.bytes))
  where
    in_phase : Slice → Bool → Slice
    in_phase x b = elim b [ true ↦ record x { slot = record x.slot { phase = phase } } | false ↦ x ]

    stays : (x : Slice) → placed_of (set_phase phase n x).slot ≡ placed_of x.slot
    stays x = go (slot_numbered n x.slot)
      where
        go : (b : Bool) → placed_of (in_phase x b).slot ≡ placed_of x.slot
        go true = refl
        go false = refl

    keeps : (x : Slice) → IsKept p.memory x → (b : Bool) → IsKept p.memory (in_phase x b)
    keeps x k true = k
    keeps x k false = k

    each : (xs : List Slice) → AllByRecursion (IsKept p.memory) xs → AllByRecursion (λ (x : Slice). IsKept p.memory (set_phase phase n x)) xs
    each [] a = tt
    each (x ∷ xs) a = (keeps x a.0 (slot_numbered n x.slot), each xs a.1)

-- ---- contents

-- a slice stays where it is with its content
pub content_stays : (n : ℕ) (c : Content) (arrival : ℕ) (x : Slice) → placed_of (with_content n c arrival x).slot ≡ placed_of x.slot
content_stays n c arrival x = go (slot_numbered n x.slot) refl
  where
    go : (b : Bool) → slot_numbered n x.slot ≡ b → placed_of (with_content n c arrival x).slot ≡ placed_of x.slot
    go true e = ap (λ (y : Slice). placed_of y.slot) ((content_is_of_one n c arrival).own x e)
    go false e = ap (λ (y : Slice). placed_of y.slot) ((content_is_of_one n c arrival).others x e)

-- what is found by its number and has a content's length is filled with it
module _ (n : ℕ) (c : Content) (p : Pool) (t : Slot) (s : IsSoundPool p) (found : find (slot_numbered n) (slots p) ≡ Some t) (long : t.len ≡ length c.image) where
  within : t.offset + length c.image ≤ length p.memory
  within =
      let lies = all_of_found (LiesIn 0 (length p.memory)) (slot_numbered n) (slots p) t (all_inside p s) found in
      omega (arith, lies.inside, long)

  abbrev memory : List ℕ
  memory = written p.memory t.offset c.image

  abbrev fill : Slice → Slice
  fill = with_content n c p.next_arrival

  -- what is known of each slice
  record IsThere (x : Slice) : Type 0 where
    own : find (slot_numbered x.slot.number) (slots p) ≡ Some x.slot
    aside : IsAsideOf n t x.slot
    kept : IsKept p.memory x

  there : AllByRecursion IsThere p.slices
  there =
      let own = all_under _ slot_of p.slices (each_found (slots p) (slots_apart p (numbered p s.book))) in
      let aside = all_under (IsAsideOf n t) slot_of p.slices (all_aside n 0 p.size t (slots p) s.book.order found) in
      all_both _ _ IsThere p.slices (λ (x : Slice) f (g : IsAsideOf n t x.slot × IsKept p.memory x). record { own = f; aside = g.0; kept = g.1 }) own
      (all_both _ _ (λ (x : Slice). IsAsideOf n t x.slot × IsKept p.memory x) p.slices (λ x a k. (a, k)) aside s.bytes)

  one : IsOfOne n fill (now_with c p.next_arrival)
  one = content_is_of_one n c p.next_arrival

  keeps : (x : Slice) → IsThere x → IsKept memory (fill x)
  keeps x k = go (slot_numbered n x.slot) refl
    where
      go : (b : Bool) → slot_numbered n x.slot ≡ b → IsKept memory (fill x)
      go true e =
          let same : x.slot ≡ t = same_Some x.slot t (sym k.own ∙ ap (λ m. find (slot_numbered m) (slots p)) (eqb-true x.slot.number n e) ∙ found) in
          let stands : slot_range memory x.slot ≡ c.image =
          ap (slot_range memory) same ∙ ap (λ len. take len (drop t.offset memory)) long ∙ written_there p.memory c.image t.offset within in
          subst (IsKept memory) (sym (one.own x e)) stands
      go false e =
          let far = k.aside e in
          let stays = written_elsewhere p.memory c.image t.offset within x.slot.offset x.slot.len (subst (λ len. IsAway t.offset len x.slot) long far) in
          subst (IsKept memory) (sym (one.others x e)) (stays ∙ k.kept)

  filling : IsSoundPool (filled n c p)
  unfolding filled
  filling =
      let P : ℕ → Pool = λ at. record p { memory = written p.memory at c.image; slices = map fill p.slices; next_arrival = p.next_arrival + 1 } in
      let at : offset_of n p ≡ t.offset = ap (λ (o : Option Slot). elim o [ None ↦ 0 | Some x ↦ x.offset ]) found in
      subst (λ k. IsSoundPool (P k)) (sym at)
      (made (P t.offset) (length_written p.memory c.image t.offset within ∙ s.memory) (subst IsSound (sym (book_stays fill (content_stays n c p.next_arrival) p)) s.book)
      (all_over (IsKept memory) fill p.slices (all_follow _ _ p.slices keeps there)))

-- a slice that is reserved for a content is found, and has its length
reserved_for : (n : ℕ) (c : Content) (p : Pool) → is_reserved_for n c p ≡ true → (t : Slot) × (find (slot_numbered n) (slots p) ≡ Some t) × (t.len ≡ length c.image)
unfolding reserved_length
reserved_for n c p h =
    let t = reserved_found n c p h in
    let lasts : length_reserved (Some t.0) ≡ Some t.0.len = ap (λ b. elim b as (λ b. Option ℕ) [ true ↦ Some t.0.len | false ↦ None ]) t.1.reserved in
    let same : (t.0.len == length c.image) ≡ true = sym (ap fits (ap length_reserved t.1.found ∙ lasts)) ∙ h in
    (t.0, t.1.found, eqb-true t.0.len (length c.image) same)
  where
    fits : Option ℕ → Bool
    fits o = elim o [ None ↦ false | Some len ↦ len == length c.image ]

publishes : (n : ℕ) (c : Content) (p : Pool) (own : Bool) → IsSoundPool p → IsSoundPool (published_by n c p (own && is_reserved_for n c p)).0
publishes n c p own s = go (own && is_reserved_for n c p) refl
  where
    go : (b : Bool) → (own && is_reserved_for n c p) ≡ b → IsSoundPool (published_by n c p b).0
    go true e = let t = reserved_for n c p (and_parts own (is_reserved_for n c p) e).1 in filling n c p t.0 s t.1 t.2
    go false e = s

-- ---- what is put into a pool

-- a slice is reserved
with_one : (n at len source : ℕ) (user : Option ℕ) (p : Pool) → IsLength len → unused_number (book_of p) ≡ Some n → place (book_of p) len ≡ Some at
    → IsSoundPool p → IsSoundPool (with_reserved n at len user source p)
with_one n at len source user p l e f s =
    let x : Slice = new_slice n at len user source p in
    made (with_reserved n at len user source p) s.memory (subst IsSound (sym (book_with x p)) (sound_with (book_of p) n at len s.book l.0 l.1 e f))
    (all_of_put (IsKept p.memory) stands_lower x p.slices refl s.bytes)

reserves : (len source : ℕ) (user : Option ℕ) (p : Pool) → IsLength len → IsSoundPool p → IsSoundPool (reserve_step len user source p).0
unfolding reserve_step
reserves len source user p l s = go (unused_number (book_of p)) refl (place (book_of p) len) refl
  where
    go : (n : Option ℕ) → unused_number (book_of p) ≡ n → (at : Option ℕ) → place (book_of p) len ≡ at → IsSoundPool (reserve_at n at len user source p).0
    go None e at f = s
    go (Some n) e None f = s
    go (Some n) e (Some at) f = with_one n at len source user p l e f s

fills : (c : Content) (source : ℕ) (user : Option ℕ) (p : Pool) → IsLength (length c.image) → IsSoundPool p → IsSoundPool (fill_step c user source p).0
unfolding fill_step reserve_step
fills c source user p l s = go (unused_number (book_of p)) refl (place (book_of p) len) refl
  where
    len : ℕ
    len = length c.image

    go : (n : Option ℕ) → unused_number (book_of p) ≡ n → (at : Option ℕ) → place (book_of p) len ≡ at
        → IsSoundPool (fill_reserved c (reserve_at n at len user source p)).0
    go None e at f = counted p.next_arrival (p.dropped + 1) p.offered p s
    go (Some n) e None f = counted p.next_arrival (p.dropped + 1) p.offered p s
    go (Some n) e (Some at) f =
        let x : Slice = new_slice n at len user source p in
        let q : Pool = with_reserved n at len user source p in
        let now : IsSoundPool q = with_one n at len source user p l e f s in
        let each = all_under _ slot_of q.slices (each_found (slots q) (slots_apart q (numbered q now.book))) in
        filling n c q x.slot now (of_put (λ (y : Slice). find (slot_numbered y.slot.number) (slots q) ≡ Some y.slot) stands_lower x p.slices each) refl

sweeps : (p : Pool) → IsSoundPool p → IsSoundPool (swept p)
sweeps p s = sound_of_those p (λ (x : Slice). not (is_freed x.slot)) s

posts : (image : List ℕ) (p : Pool) → IsLength (length image) → IsSoundPool p → IsSoundPool (post_step image p).0
unfolding post_step
posts image p l s = fills (record { image = image; shared = None; priority = pos 0 }) 0 None (swept p) l (sweeps p s)

settles : (is : List Image) (p : Pool) → HaveLengths is → IsSoundPool p → IsSoundPool (settled is p)
settles [] p l s = s
settles (i ∷ is) p l s = settles is (fill_step i.content i.user i.source p).0 l.1 (fills i.content i.source i.user p l.0 s)

must_offers : (user len source : ℕ) (p : Pool) → IsLength len → IsSoundPool p → IsSoundPool (must_offer_step user len source p).0
unfolding must_offer_step
must_offers user len source p l s = go (over_quota q.size (slots q) user len)
  where
    q : Pool
    q = swept (record p { offered = p.offered + 1 })

    now : IsSoundPool q
    now = sweeps (record p { offered = p.offered + 1 }) (counted p.next_arrival p.dropped (p.offered + 1) p s)

    go : (b : Bool) → IsSoundPool ((elim b as (λ b. Pool × Answer) [ true ↦ (q, refused Quota) | false ↦ reserve_step len (Some user) source q ]).0)
    go true = now
    go false = reserves len source (Some user) q l now

missed : (must : Bool) (p : Pool) (a : Answer) → IsSoundPool p → IsSoundPool (drop_counted must (p, a)).0
missed true p a s = s
missed false p (refused why) s = counted p.next_arrival (p.dropped + 1) p.offered p s
missed false p a s = s

offers : (user len source : ℕ) (must : Bool) (p : Pool) → IsLength len → IsSoundPool p → IsSoundPool (offer_step user len source must p).0
unfolding offer_step
offers user len source must p l s =
    missed must (must_offer_step user len source p).0 (must_offer_step user len source p).1 (must_offers user len source p l s)

-- ---- other acts

drains : (p : Pool) → IsSoundPool p → IsSoundPool (drain_step p).0
unfolding drain_step
drains p s = go (least of_lower_number (those is_reserved (slots p)))
  where
    go : (o : Option Slot) → IsSoundPool (drained_by p o).0
    go None = sound_of_those p (λ (x : Slice). not (is_waiting x.slot)) s
    go (Some x) = s

receives : (mode : RecvMode) (p : Pool) → IsSoundPool p → IsSoundPool (receive_step mode p).0
unfolding receive_step
receives mode p s = go (next (slots p) mode.limit)
  where
    told : (q : Pool) → IsSoundPool q → IsSoundPool (with_dropped 0 q)
    told q t = counted q.next_arrival 0 q.offered q t

    taken : (drops : Bool) (n : ℕ) → IsSoundPool (taken_by drops mode.peek n p)
    taken true n = sound_of_those p (λ (x : Slice). not (slot_numbered n x.slot)) s
    taken false n = phased (phase_by mode.peek) n p s

    none : (b : Bool) → IsSoundPool (none_received_by p b).0
    none true = s
    none false = told p s

    go : (o : Option Slot) → IsSoundPool (received_by mode p o).0
    go (Some x) = told (taken_by mode.drop_it mode.peek x.number p) (taken mode.drop_it x.number)
    go None = none (some_of is_waiting (slots p))

frees : (n : ℕ) (p : Pool) → IsSoundPool p → IsSoundPool (without_handed n p)
frees n p s = go (free_refusal n (slots p))
  where
    go : (o : Option Refusal) → IsSoundPool (freed_by n p o)
    go None = phased Freed n p s
    go (Some why) = s

-- ---- any act

acts : (g : ℕ) (p : Pool) (a : Act) → HasLengths a → IsSoundPool p → IsSoundPool (open_step g p a).0
unfolding open_step visit_step
acts g p (by_desk (raise size)) l s = s
acts g p (by_desk (close force)) l s = s
acts g p (by_desk (offer user len source must content)) l s = offers user len source must p l s
acts g p (by_desk (post image)) l s = posts image p l s
acts g p (by_desk drain) l s = drains p s
acts g p (by_desk (settle images)) l s = settles images (swept p) l (sweeps p s)
acts g p (publish generation n c) l s = publishes n c p (generation == g) s
acts g p (receive mode) l s = receives mode p s
acts g p (read n sealed) l s = s
acts g p (free n) l s = frees n p s
acts g p idle l s = s

either : (g : ℕ) (o : Option Pool) (a : Act) → HasLengths a → IfSome o IsSoundPool → IfSome (acted_by g o a).0.pool IsSoundPool
either g None a l s = tt
either g (Some p) a l s = acts g p a l s

closed : (h : Hold) (b : Bool) → IfSome h.pool IsSoundPool → IfSome (closed_by h b).0.pool IsSoundPool
closed h true s = s
closed h false s = tt

-- a pool that is raised
pub raised : (size : ℕ) → size % 8 ≡ 0 → IsSoundPool (new_pool size)
raised size l = made (new_pool size) (length-replicate size 0) (sound_empty size l) tt

pub acts_keep_pools_sound : ActsKeepPoolsSound
unfolding pool_step
acts_keep_pools_sound h (by_desk (raise size)) l s = raised size l
acts_keep_pools_sound h (by_desk (close force)) l s = closed h (not force && is_awaited h) s
acts_keep_pools_sound h (by_desk (offer user len source must content)) l s =
    either h.generation h.pool (by_desk (offer user len source must content)) l s
acts_keep_pools_sound h (by_desk (post image)) l s = either h.generation h.pool (by_desk (post image)) l s
acts_keep_pools_sound h (by_desk drain) l s = either h.generation h.pool (by_desk drain) l s
acts_keep_pools_sound h (by_desk (settle images)) l s = either h.generation h.pool (by_desk (settle images)) l s
acts_keep_pools_sound h (publish generation n c) l s = either h.generation h.pool (publish generation n c) l s
acts_keep_pools_sound h (receive mode) l s = either h.generation h.pool (receive mode) l s
acts_keep_pools_sound h (read n sealed) l s = either h.generation h.pool (read n sealed) l s
acts_keep_pools_sound h (free n) l s = either h.generation h.pool (free n) l s
acts_keep_pools_sound h idle l s = either h.generation h.pool idle l s
