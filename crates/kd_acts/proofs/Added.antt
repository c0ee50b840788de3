-- What the slices of a pool keep through all that is put into it: offers, notices and messages that
-- settle.
use Rattle.std.specs.Prelude.{◌≡◌, ◌+◌, ℕ, Bool, true, false, List, [], ◌∷◌, drop, length, map, Option, Some, None, refl, take, pos}
use Rattle.kd_model.proofs.Lists.{all_under}
use Rattle.kd_model.proofs.Places.{unused_below, unused_is_free}
use Rattle.kd_model.specs.Slices as model
use Rattle.kd_model.specs.Slices.{place, unused_number}
use Rattle.kd_model.specs.Words.{but_those, put_in_order}
use Rattle.kd_types.specs.declared.refusal.Refusal.TheVariants.{Quota}
use Rattle.kd_acts.specs.State.{Answer, Content, Image, Pool, Slice, book_of, bytes_of, done, drained, freed, gone, got, slot_numbered, is_freed, placed, placed_of, refused, slice, slots}
use Rattle.kd_acts.specs.Steps.{drop_counted, fill_reserved, fill_step, filled, must_offer_step, new_slot, offer_step, over_quota, post_step, reserve_at, reserve_step, settled, stands_lower, swept, with_content}
use Rattle.kd_acts.specs.declared.slot.Slot.{Slot}
use Rattle.kd_acts.proofs.Apart.{IsNew, slot_of}

-- a fact of slices that lasts through a sweep, through a new slice, and through a new slice that
-- has its content at once
pub record IsKeptByAdding (R : List Slice → Type 0) : Type 0 where
  pub sweeping : (xs : List Slice) → R xs → R (but_those (λ (s : Slice). is_freed s.slot) xs)
  pub reserving : (xs : List Slice) (s : Slice) → IsNew s xs → R xs → R (put_in_order stands_lower s xs)
  pub filling : (xs : List Slice) (s : Slice) (c : Content) (arrival : ℕ) → IsNew s xs → R xs
      → R (map (with_content s.slot.number c arrival) (put_in_order stands_lower s xs))

-- the slice that is reserved under a number and at a place
abbrev pub new_slice : ℕ → ℕ → ℕ → Option ℕ → ℕ → Pool → Slice
new_slice n at len user source p = record { slot = new_slot n at len user source; bytes = take len (drop at p.memory); shared = None }

-- under an unused number it is new
pub is_new : (p : Pool) (n at len source : ℕ) (user : Option ℕ) → unused_number (book_of p) ≡ Some n → IsNew (new_slice n at len user source p) p.slices
is_new p n at len source user e = record {
  reserved = refl;
  low = unused_below (book_of p) n e;
  free =
      all_under (λ (s : Slot). slot_numbered n s ≡ false) slot_of p.slices
      (all_under (λ s. model.has_number n s ≡ false) placed_of (slots p) (unused_is_free (book_of p) n e));
}

reserving_keeps : (R : List Slice → Type 0) → IsKeptByAdding R → (len source : ℕ) (user : Option ℕ) (p : Pool) → R p.slices
    → R (reserve_step len user source p).0.slices
unfolding reserve_step
reserving_keeps R k len source user p r = go (unused_number (book_of p)) refl (place (book_of p) len)
  where
    go : (n : Option ℕ) → unused_number (book_of p) ≡ n → (at : Option ℕ) → R (reserve_at n at len user source p).0.slices
    go None e at = r
    go (Some n) e None = r
    go (Some n) e (Some at) = k.reserving p.slices (new_slice n at len user source p) (is_new p n at len source user e) r

filling_keeps : (R : List Slice → Type 0) → IsKeptByAdding R → (c : Content) (user : Option ℕ) (source : ℕ) (p : Pool) → R p.slices
    → R (fill_step c user source p).0.slices
unfolding fill_step reserve_step filled
filling_keeps R k c user source p r = go (unused_number (book_of p)) refl (place (book_of p) (length c.image))
  where
    go : (n : Option ℕ) → unused_number (book_of p) ≡ n → (at : Option ℕ) → R (fill_reserved c (reserve_at n at (length c.image) user source p)).0.slices
    go None e at = r
    go (Some n) e None = r
    go (Some n) e (Some at) =
        k.filling p.slices (new_slice n at (length c.image) user source p) c p.next_arrival (is_new p n at (length c.image) source user e) r

-- a count of a miss leaves the slices
counted_slices : (must : Bool) (p : Pool) (a : Answer) → (drop_counted must (p, a)).0.slices ≡ p.slices
counted_slices true p a = refl
counted_slices false p (refused why) = refl
counted_slices false p done = refl
counted_slices false p placed = refl
counted_slices false p gone = refl
counted_slices false p freed = refl
counted_slices false p (slice n) = refl
counted_slices false p (drained images) = refl
counted_slices false p (got n offset len dropped) = refl
counted_slices false p (bytes_of bytes) = refl

bound_offer_keeps : (R : List Slice → Type 0) → IsKeptByAdding R → (user len source : ℕ) (p : Pool) → R p.slices
    → R (must_offer_step user len source p).0.slices
unfolding must_offer_step
bound_offer_keeps R k user len source p r = go (over_quota q.size (slots q) user len)
  where
    q : Pool
    q = swept (record p { offered = p.offered + 1 })

    go : (b : Bool) → R (elim b as (λ b. Pool × Answer) [ true ↦ (q, refused Quota) | false ↦ reserve_step len (Some user) source q ]).0.slices
    go true = k.sweeping p.slices r
    go false = reserving_keeps R k len source (Some user) q (k.sweeping p.slices r)

-- an offer keeps what is kept by adding
pub offer_keeps : (R : List Slice → Type 0) → IsKeptByAdding R → (user len source : ℕ) (must : Bool) (p : Pool) → R p.slices
    → R (offer_step user len source must p).0.slices
unfolding offer_step
offer_keeps R k user len source must p r =
    let s = must_offer_step user len source p in
    rw (counted_slices must s.0 s.1) (bound_offer_keeps R k user len source p r)

-- so does a notice
pub post_keeps : (R : List Slice → Type 0) → IsKeptByAdding R → (image : List ℕ) (p : Pool) → R p.slices → R (post_step image p).0.slices
unfolding post_step
post_keeps R k image p r = filling_keeps R k (record { image = image; shared = None; priority = pos 0 }) None 0 (swept p) (k.sweeping p.slices r)

-- so do messages that settle
pub settle_keeps : (R : List Slice → Type 0) → IsKeptByAdding R → (images : List Image) (p : Pool) → R p.slices → R (settled images (swept p)).slices
settle_keeps R k images p r = each images (swept p) (k.sweeping p.slices r)
  where
    each : (is : List Image) (q : Pool) → R q.slices → R (settled is q).slices
    each [] q r = r
    each (i ∷ is) q r = each is (fill_step i.content i.user i.source q).0 (filling_keeps R k i.content i.user i.source q r)
