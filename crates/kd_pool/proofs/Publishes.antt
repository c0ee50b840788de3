-- Publishing writes the bytes of one slice and of no other.
use Rattle.std.specs.Prelude.{◌≡◌, ◌<◌, ◌≤◌, ◌+◌, ◌⊎◌, ℕ, Bool, true, false, List, [], ◌∷◌, cond, length, map, Option, Some, refl, set, ℤ}
use Rattle.std.specs.List.{AllByRecursion, IsDistinct, find}
use Rattle.std.proofs.Common.{ap, arith, inl, inr, sym, ◌∙◌, ⊎_elim}
use Rattle.std.proofs.lemmas.Bool.{false≢true}
use Rattle.std.proofs.lemmas.Bool.Decides.{nat_tests}
use Rattle.kd_model.proofs.Lists.{all_follow, all_of_found}
use Rattle.kd_model.specs.Slices.{AreInOrder, has_same_number}
use Rattle.kd_acts.specs.State.{Content, slot_numbered, placed_of}
use Rattle.kd_acts.specs.Sound.{slot_range}
use Rattle.kd_acts.specs.Steps.{now_queued, queued_slot, with_content, written}
use Rattle.kd_pool.specs.Sealed.{Shares, share_at}
use Rattle.kd_pool.specs.Table.{slice_shown}
use Rattle.kd_pool.proofs.Sharing.{other_share, own_share}
use Rattle.kd_acts.specs.declared.slot.Slot.{Slot}
use Rattle.kd_pool.proofs.Writes.{written_elsewhere, written_there}

-- a slot of a table beside the slot of a number: it is that one, or lies apart from it
pub record Stands (n size : ℕ) (t s : Slot) : Type 0 where
  pub it : slot_numbered n s ≡ true → s ≡ t
  pub other : slot_numbered n s ≡ false → (s.offset + s.len ≤ t.offset) ⊎ (t.offset + t.len ≤ s.offset)
  pub inside : s.offset + s.len ≤ size

-- slots in order from a place on lie behind it, and inside
pub all_behind : (from size : ℕ) (ss : List Slot) → AreInOrder from size (map placed_of ss) → AllByRecursion (λ (s : Slot). (from ≤ s.offset) × (s.offset + s.len ≤ size)) ss
all_behind from size [] o = tt
all_behind from size (s ∷ ss) o =
    let rest = all_behind (s.offset + s.len) size ss o.2 in
    ((o.0, ends s ss o.2), all_follow _ _ ss (λ x p. (omega (arith, p.0, o.0), p.1)) rest)
  where
    ends : (s : Slot) (ss : List Slot) → AreInOrder (s.offset + s.len) size (map placed_of ss) → s.offset + s.len ≤ size
    ends s [] o = o
    ends s (t ∷ ts) o = let more = ends t ts o.2 in omega (arith, o.0, more)

others : (s : Slot) (ss : List Slot) → AllByRecursion (λ y. has_same_number (placed_of s) y ≡ false) (map placed_of ss) → AllByRecursion (λ (x : Slot). slot_numbered s.number x ≡ false) ss
others s [] a = tt
others s (t ∷ ts) a = (grind (arith, nat_tests), others s ts a.1)

after_it : (n size : ℕ) (s t : Slot) (ss : List Slot) → slot_numbered n s ≡ true → s ≡ t → AllByRecursion (λ (x : Slot). slot_numbered s.number x ≡ false) ss → AllByRecursion (λ (x : Slot). (s.offset + s.len ≤ x.offset) × (x.offset + x.len ≤ size)) ss → AllByRecursion (Stands n size t) ss
after_it n size s t [] e same o b = tt
after_it n size s t (x ∷ xs) e same o b =
    let out : slot_numbered n x ≡ false = grind (arith, nat_tests) in
    let behind : t.offset + t.len ≤ x.offset = rw (sym same) b.0.0 in
    (record { it = λ h. absurd (false≢true (sym out ∙ h)); other = λ h. inr behind; inside = b.0.1 }, after_it n size s t xs e same o.1 b.1)

-- each slot is the one of the number or lies apart from it
pub all_stand : (n from size : ℕ) (t : Slot) (ss : List Slot) → AreInOrder from size (map placed_of ss) → IsDistinct has_same_number (map placed_of ss) → find (slot_numbered n) ss ≡ Some t → AllByRecursion (Stands n size t) ss
unfolding IsDistinct
all_stand n from size t [] o d f = tt
all_stand n from size t (s ∷ ss) o d f = go (slot_numbered n s) refl f (all_stand n (s.offset + s.len) size t ss o.2 d.1)
  where
    go : (b : Bool) → slot_numbered n s ≡ b → cond b (Some s) (find (slot_numbered n) ss) ≡ Some t → (find (slot_numbered n) ss ≡ Some t → AllByRecursion (Stands n size t) ss) → AllByRecursion (Stands n size t) (s ∷ ss)
    go true e g ih =
        let same : s ≡ t = cc in
        let behind = all_behind (s.offset + s.len) size ss o.2 in
        let inside : s.offset + s.len ≤ size = (all_behind from size (s ∷ ss) o).0.1 in
        (record { it = λ h. same; other = λ h. absurd (false≢true (sym h ∙ e)); inside = inside }, after_it n size s t ss e same (others s ss d.0) behind)
    go false e g ih =
        let behind = all_behind (s.offset + s.len) size ss o.2 in
        let found = all_of_found (λ (x : Slot). (s.offset + s.len ≤ x.offset) × (x.offset + x.len ≤ size)) (slot_numbered n) ss t behind g in
        let inside : s.offset + s.len ≤ size = (all_behind from size (s ∷ ss) o).0.1 in
        (record { it = λ h. absurd (false≢true (sym e ∙ h)); other = λ h. inl found.0; inside = inside }, ih g)

published : (n : ℕ) (image : List ℕ) (share : Option (List ℕ)) (priority : ℤ) (arrival size : ℕ) (m : List ℕ) (h : Shares) (t s : Slot) → length m ≡ size → length image ≡ t.len → t.offset + t.len ≤ size → n < length h → Stands n size t s → slice_shown (written m t.offset image) (set h n share) (now_queued n priority arrival s) ≡ with_content n (record { image = image; shared = share; priority = priority }) arrival (slice_shown m h s)
published n image share priority arrival size m h t s whole fits inside low a = go (slot_numbered n s) refl
  where
    go : (b : Bool) → slot_numbered n s ≡ b → slice_shown (written m t.offset image) (set h n share) (elim b [ true ↦ queued_slot priority arrival s | false ↦ s ]) ≡ elim b [ true ↦ record { slot = queued_slot priority arrival s; bytes = image; shared = share } | false ↦ slice_shown m h s ]
    go true e =
        let place : s ≡ t = a.it e in
        let there : slot_range (written m t.offset image) s ≡ image = ap (slot_range (written m t.offset image)) place ∙ written_there m image t.offset t.len (omega arith) fits in
        let own : share_at (set h n share) s.number ≡ share = own_share h n s share low e in
        ap (λ xs. record { slot = queued_slot priority arrival s; bytes = xs; shared = share_at (set h n share) s.number }) there ∙ ap (λ x. record { slot = queued_slot priority arrival s; bytes = image; shared = x }) own
    go false e =
        let apart = a.other e in
        let stays : slot_range (written m t.offset image) s ≡ slot_range m s = written_elsewhere m image t.offset s.offset s.len (omega arith) (⊎_elim (λ l. inl l) (λ r. inr (omega arith)) apart) in
        let other : share_at (set h n share) s.number ≡ share_at h s.number = other_share h n s share e in
        ap (λ xs. record { slot = s; bytes = xs; shared = share_at (set h n share) s.number }) stays ∙ ap (λ x. record { slot = s; bytes = slot_range m s; shared = x }) other

-- the table is seen with the content in the slice of the number, and all others as they were
pub all_published : (n : ℕ) (image : List ℕ) (share : Option (List ℕ)) (priority : ℤ) (arrival size : ℕ) (m : List ℕ) (h : Shares) (t : Slot) (ss : List Slot) → length m ≡ size → length image ≡ t.len → t.offset + t.len ≤ size → n < length h → AllByRecursion (Stands n size t) ss
    → map (slice_shown (written m t.offset image) (set h n share)) (map (now_queued n priority arrival) ss) ≡ map (with_content n (record { image = image; shared = share; priority = priority }) arrival) (map (slice_shown m h) ss)
all_published n image share priority arrival size m h t [] whole fits inside low a = refl
all_published n image share priority arrival size m h t (s ∷ ss) whole fits inside low a =
    let c : Content = record { image = image; shared = share; priority = priority } in
    ap (λ x. x ∷ map (slice_shown (written m t.offset image) (set h n share)) (map (now_queued n priority arrival) ss)) (published n image share priority arrival size m h t s whole fits inside low a.0)
    ∙ ap (λ xs. with_content n c arrival (slice_shown m h s) ∷ xs) (all_published n image share priority arrival size m h t ss whole fits inside low a.1)
