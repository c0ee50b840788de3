-- What a pool keeps through each change of its table.
use Rattle.std.specs.Prelude.{◌≡◌, ◌<◌, ◌≤◌, ◌%◌, ◌||◌, ℕ, Bool, true, false, List, [], ◌∷◌, length, map, not, refl, IsTrue, Option, Some, None, ◌+◌, set, sum_by, ℤ}
use Rattle.kd_model.specs.declared.placed.Gap.{Gap}
use Rattle.kd_model.specs.declared.placed.Placed.{Placed}
use Rattle.std.specs.List.{AllByRecursion, IsDistinct, find}
use Rattle.std.proofs.Common.{ap, arith, sym, ◌∙◌}
use Rattle.std.proofs.lemmas.List.{length-map}
use Rattle.std.proofs.lemmas.Bool.Decides.{nat_tests}
use Rattle.kd_model.proofs.Lists.{all_follow, all_of_found, all_under, distinct_under, map_of_filter, map_of_put}
use Rattle.kd_model.proofs.Places.{at_most_numbers, fewer_than_numbers, order_is_whole, unused_is_free}
use Rattle.kd_model.specs.Slices as model
use Rattle.kd_model.specs.Slices.{AreInOrder, Book, IsEven, IsSound, gaps}
use Rattle.kd_model.specs.declared.slice_no.TheConstants.{SLICES}
use Rattle.kd_model.specs.Words.{but_those, put_in_order, some_of}
use Rattle.kd_acts.specs.State.{Pool, Slice, book_of, slot_numbered, lies_lower, placed_of}
use Rattle.kd_acts.specs.Sound.{IsKept, IsSoundPool}
use Rattle.kd_acts.specs.Steps.{filled, in_phase, now_queued, offset_of, queued_slot, with_content, written}
use Rattle.kd_pool.specs.Sealed.{Shares}
use Rattle.kd_pool.specs.Table.{AreKept, IsCarried, slice_shown}
use Rattle.kd_acts.specs.declared.slot.Phase.{Phase}
use Rattle.kd_acts.specs.declared.slot.Slot.{Slot}
use Rattle.kd_acts.proofs.Apart.{AreApart}
use Rattle.kd_pool.proofs.Publishes.{all_behind, all_stand, all_published}
use Rattle.kd_pool.proofs.Views.{finds_put, slots_shown}

size_of : Book → ℕ
size_of b = b.size

-- with a slot more
pub kept_put : (m : List ℕ) (b after : Book) (ss : List Slot) (t : Slot) (room now : ℕ) → AreKept m b ss room → after ≡ model.with_slice (placed_of t) b → IsSound after → room ≤ now → AreKept m after (put_in_order lies_lower t ss) now
kept_put m b after ss t room now k e sound more =
    let same : after.size ≡ b.size = ap (λ (x : Book). x.size) e in
    record {
      tied = ap (λ (x : Book). x.slices) e ∙ ap (put_in_order model.is_lower (placed_of t)) k.tied ∙ sym (map_of_put placed_of lies_lower model.is_lower (λ a b. refl) t ss);
      sound = sound;
      whole = k.whole ∙ sym same;
      fits = omega (arith, k.fits);
      enough = omega (arith, k.enough);
    }

-- without the slot of a number
pub kept_without : (m : List ℕ) (b after : Book) (ss : List Slot) (n room now : ℕ) → AreKept m b ss room → after ≡ model.without_slice n b → IsSound after → now ≡ room → AreKept m after (but_those (slot_numbered n) ss) now
kept_without m b after ss n room now k e sound same_room =
    let same : after.size ≡ b.size = ap (λ (x : Book). x.size) e in
    record {
      tied = ap (λ (x : Book). x.slices) e ∙ ap (but_those (model.has_number n)) k.tied ∙ sym (map_of_filter placed_of (λ s. not (slot_numbered n s)) (λ s. not (model.has_number n s)) (λ s. refl) ss);
      sound = sound;
      whole = k.whole ∙ sym same;
      fits = omega (arith, k.fits);
      enough = omega (arith, k.enough);
    }

-- with other slots in the book and in the table
pub kept_these : (m : List ℕ) (b after : Book) (ss those : List Slot) (room now : ℕ) → AreKept m b ss room → after ≡ record b { slices = map placed_of those } → IsSound after → room ≤ now → AreKept m after those now
kept_these m b after ss those room now k e sound more =
    let same : after.size ≡ b.size = ap (λ (x : Book). x.size) e in
    record {
      tied = ap (λ (x : Book). x.slices) e;
      sound = sound;
      whole = k.whole ∙ sym same;
      fits = omega (arith, k.fits);
      enough = omega (arith, k.enough);
    }

-- with a change of slots that stay where they are, and of the memory
pub kept_change : (m after : List ℕ) (b : Book) (ss : List Slot) (f : Slot → Slot) (room now : ℕ) → ((s : Slot) → placed_of (f s) ≡ placed_of s) → AreKept m b ss room → length after ≡ length m → now ≡ room → AreKept after b (map f ss) now
kept_change m after b ss f room now stays k e same_room =
    record {
      tied = k.tied ∙ sym (same_places ss);
      sound = k.sound;
      whole = e ∙ k.whole;
      fits = k.fits;
      enough = omega (arith, k.enough);
    }
  where
    same_places : (ts : List Slot) → map placed_of (map f ts) ≡ map placed_of ts
    same_places [] = refl
    same_places (t ∷ ts) = ap (λ x. x ∷ map placed_of (map f ts)) (stays t) ∙ ap (λ xs. placed_of t ∷ xs) (same_places ts)

pub phase_stays : (ph : Phase) (n : ℕ) (s : Slot) → placed_of (in_phase ph n s) ≡ placed_of s
phase_stays ph n s = go (slot_numbered n s)
  where
    go : (b : Bool) → placed_of (elim b [ true ↦ record s { phase = ph } | false ↦ s ]) ≡ placed_of s
    go true = refl
    go false = refl

pub queue_stays : (n : ℕ) (priority : ℤ) (arrival : ℕ) (s : Slot) → placed_of (now_queued n priority arrival s) ≡ placed_of s
queue_stays n priority arrival s = go (slot_numbered n s)
  where
    go : (b : Bool) → placed_of (elim b [ true ↦ queued_slot priority arrival s | false ↦ s ]) ≡ placed_of s
    go true = refl
    go false = refl

-- no two slots of the table have one number, and each is below 256
pub kept_apart : (m : List ℕ) (b : Book) (ss : List Slot) (room : ℕ) → AreKept m b ss room → AreApart ss
kept_apart m b ss room k = distinct_under placed_of model.has_same_number ss (rw (sym k.tied) k.sound.distinct)

pub kept_below : (m : List ℕ) (b : Book) (ss : List Slot) (room : ℕ) → AreKept m b ss room → AllByRecursion (λ (s : Slot). s.number < SLICES) ss
kept_below m b ss room k = all_under (λ (p : Placed). p.number < SLICES) placed_of ss (rw (sym k.tied) k.sound.numbers)

-- the slots of the table lie inside the memory
pub ends_inside : (m : List ℕ) (b : Book) (ss : List Slot) (room : ℕ) → AreKept m b ss room → AllByRecursion (λ (s : Slot). s.offset + s.len ≤ length m) ss
ends_inside m b ss room k =
    let order : AreInOrder 0 b.size (map placed_of ss) = rw (sym k.tied) k.sound.order in
    let whole = k.whole in
    all_follow _ _ ss (λ x p. omega (arith, p.1)) (all_behind 0 b.size ss order)

-- the slots of the table can be carried
pub all_carried : (m : List ℕ) (b : Book) (ss : List Slot) (room : ℕ) → AreKept m b ss room → AllByRecursion (IsCarried (length m)) ss
all_carried m b ss room k = each 0 b.size (length m) ss (rw (sym k.tied) k.sound.order) (rw (sym k.tied) k.sound.even) (ends_inside m b ss room k)
  where
    each : (at size n : ℕ) (ts : List Slot) → AreInOrder at size (map placed_of ts) → AllByRecursion IsEven (map placed_of ts) → AllByRecursion (λ (s : Slot). s.offset + s.len ≤ n) ts → AllByRecursion (IsCarried n) ts
    each at size n [] o e i = tt
    each at size n (t ∷ ts) o e i = (record { inside = i.0; some = o.1; eights = e.0.1 }, each (t.offset + t.len) size n ts o.2 e.1 i.1)

-- there are at most as many slots as numbers, and fewer while a number is unused
pub few_slots : (m : List ℕ) (b : Book) (ss : List Slot) (room : ℕ) → AreKept m b ss room → length ss ≤ SLICES
few_slots m b ss room k = omega (arith, at_most_numbers b k.sound, ap length k.tied, length-map ss placed_of)

pub fewer_slots : (m : List ℕ) (b : Book) (ss : List Slot) (room n : ℕ) → AreKept m b ss room → model.unused_number b ≡ Some n → length ss < SLICES
fewer_slots m b ss room n k h = omega (arith, fewer_than_numbers b n k.sound h, ap length k.tied, length-map ss placed_of)

-- the slots of the table are in the book
pub in_book : (m : List ℕ) (b : Book) (ss : List Slot) (n room : ℕ) → AreKept m b ss room → IsTrue (some_of (slot_numbered n) ss) → IsTrue (model.is_placed n b)
in_book m b ss n room k h = rw (k.tied) (any_placed ss ∙ h)
  where
    any_placed : (ts : List Slot) → some_of (model.has_number n) (map placed_of ts) ≡ some_of (slot_numbered n) ts
    any_placed [] = refl
    any_placed (t ∷ ts) = ap (λ b. slot_numbered n t || b) (any_placed ts)

-- the book under the view
pub book_shown : (m : List ℕ) (h : Shares) (b : Book) (ss : List Slot) (room arrival dropped offered : ℕ) → AreKept m b ss room → book_of (record { size = b.size; memory = m; slices = map (slice_shown m h) ss; next_arrival = arrival; dropped = dropped; offered = offered }) ≡ b
book_shown m h b ss room arrival dropped offered k =
    ap (λ xs. record { size = b.size; slices = map placed_of xs }) (slots_shown m h ss) ∙ ap (λ xs. record { size = b.size; slices = xs }) (sym k.tied)

-- what a pool keeps makes it sound
pub pool_is_sound : (m : List ℕ) (h : Shares) (b : Book) (ss : List Slot) (room arrival dropped offered : ℕ) → AreKept m b ss room → IsSoundPool (record { size = b.size; memory = m; slices = map (slice_shown m h) ss; next_arrival = arrival; dropped = dropped; offered = offered })
unfolding gaps
pool_is_sound m h b ss room arrival dropped offered k =
    let seen = sym (book_shown m h b ss room arrival dropped offered k) in
    let made_up : model.used b + sum_by (λ (g : Gap). g.len) (model.gaps_from 0 b.size b.slices) ≡ b.size = omega (arith, order_is_whole 0 b.size b.slices k.sound.order) in
    record {
      memory = k.whole;
      book = rw seen at k.sound;
      whole = ap (λ (x : Book). model.used x + sum_by (λ (g : Gap). g.len) (model.gaps_from 0 x.size x.slices)) (book_shown m h b ss room arrival dropped offered k) ∙ made_up;
      bytes = bytes ss;
    }
  where
    bytes : (ts : List Slot) → AllByRecursion (IsKept m) (map (slice_shown m h) ts)
    bytes [] = tt
    bytes (t ∷ ts) = (refl, bytes ts)

-- the value of a pool
abbrev pub view : List ℕ → Shares → Book → List Slot → ℕ → ℕ → ℕ → Pool
view m h b ss arrival dropped offered = record { size = b.size; memory = m; slices = map (slice_shown m h) ss; next_arrival = arrival; dropped = dropped; offered = offered }

-- pools of one size with the same slices
pub same_view : (m : List ℕ) (n k : ℕ) (xs ys : List Slice) (arrival dropped offered : ℕ) → n ≡ k → xs ≡ ys
    → (let x : Pool = record { size = n; memory = m; slices = xs; next_arrival = arrival; dropped = dropped; offered = offered } in x) ≡ record { size = k; memory = m; slices = ys; next_arrival = arrival; dropped = dropped; offered = offered }
same_view m n k xs ys arrival dropped offered e f =
    let P : ℕ → List Slice → Pool = λ i zs. record { size = i; memory = m; slices = zs; next_arrival = arrival; dropped = dropped; offered = offered } in
    ap (λ i. P i xs) e ∙ ap (λ zs. P k zs) f

-- publishing fills the slice of the number
pub fills : (m : List ℕ) (h : Shares) (b : Book) (ss : List Slot) (room arrival dropped offered n : ℕ) (image : List ℕ) (share : Option (List ℕ)) (priority : ℤ) (t : Slot) → AreKept m b ss room → n < length h → find (slot_numbered n) ss ≡ Some t → length image ≡ t.len
    → (let x : Pool = view (written m t.offset image) (set h n share) b (map (now_queued n priority arrival) ss) (arrival + 1) dropped offered in x) ≡ filled n (record { image = image; shared = share; priority = priority }) (view m h b ss arrival dropped offered)
unfolding filled
fills m h b ss room arrival dropped offered n image share priority t k low found fits =
    let order : AreInOrder 0 b.size (map placed_of ss) = rw (sym k.tied) k.sound.order in
    let distinct : IsDistinct model.has_same_number (map placed_of ss) = rw (sym k.tied) k.sound.distinct in
    let inside : t.offset + t.len ≤ b.size = omega (arith, all_of_found _ (slot_numbered n) ss t (ends_inside m b ss room k) found, k.whole) in
    let stand = all_stand n 0 b.size t ss order distinct found in
    let all = all_published n image share priority arrival b.size m h t ss k.whole fits inside low stand in
    let at : t.offset ≡ offset_of n (view m h b ss arrival dropped offered) = ap place_of (sym (ap (find (slot_numbered n)) (slots_shown m h ss) ∙ found)) in
    let P : ℕ → List Slice → Pool = λ i zs. record { size = b.size; memory = written m i image; slices = zs; next_arrival = arrival + 1; dropped = dropped; offered = offered } in
    ap (λ zs. P t.offset zs) all ∙ ap (λ i. P i (map (with_content n (record { image = image; shared = share; priority = priority }) arrival) (map (slice_shown m h) ss))) at
  where
    place_of : Option Slot → ℕ
    place_of o = elim o [ None ↦ 0 | Some s ↦ s.offset ]

-- a slot with an unused number is found once it is in the table
pub finds_reserved : (m : List ℕ) (b : Book) (ss : List Slot) (room n : ℕ) (t : Slot) → AreKept m b ss room → model.unused_number b ≡ Some n → t.number ≡ n → find (slot_numbered n) (put_in_order lies_lower t ss) ≡ Some t
finds_reserved m b ss room n t k h e = finds_put n t ss (grind (arith, nat_tests)) (all_under (λ p. model.has_number n p ≡ false) placed_of ss (rw k.tied at (unused_is_free b n h)))

-- no slot of the table has an unused number
pub free_number : (m : List ℕ) (b : Book) (ss : List Slot) (room n : ℕ) → AreKept m b ss room → model.unused_number b ≡ Some n → AllByRecursion (λ (s : Slot). slot_numbered n s ≡ false) ss
free_number m b ss room n k h = all_under (λ p. model.has_number n p ≡ false) placed_of ss (rw k.tied at (unused_is_free b n h))

-- an empty book is sound
pub none_sound : (size : ℕ) → size % 8 ≡ 0 → IsSound (record { size = size; slices = [] })
unfolding IsDistinct
none_sound size e = record { eights = e; order = omega arith; even = tt; numbers = tt; distinct = tt }
