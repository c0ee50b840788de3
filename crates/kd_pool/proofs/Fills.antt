-- What placing and queuing at once comes to.
use Rattle.std.specs.Prelude.{◌≡◌, ◌<◌, ◌+◌, ◌≤◌, ℕ, Bool, true, false, List, length, nat_lt, pos, Option, Some, None, refl}
use Rattle.std.proofs.Common.{ap, arith, sym, ◌∙◌}
use Rattle.std.proofs.lemmas.Bool.Decides.{nat_tests}
use Rattle.kd_model.specs.Slices.{place, unused_number}
use Rattle.kd_types.specs.declared.refusal.Refusal.{Refusal}
use Rattle.kd_acts.specs.State.{Content, Pool, book_of, refused, slice}
use Rattle.kd_acts.specs.Steps.{after_miss, fill_reserved, fill_step, filled, post_step, reserve_at, reserve_step, swept}

-- a pair is its two parts
pair_of : {A B : Type 0} (s : A × B) (a : A) (b : B) → a ≡ s.0 → b ≡ s.1 → s ≡ (a, b)
pair_of (x, y) a b e f = ap (λ z. (z, y)) (sym e) ∙ ap (λ z. (a, z)) (sym f)

-- where nothing was reserved, a miss is counted
pub fills_none : (c : Content) (user : Option ℕ) (source len : ℕ) (p q : Pool) (why : Refusal) → length c.image ≡ len → q ≡ (reserve_step len user source p).0 → refused why ≡ (reserve_step len user source p).1 → fill_step c user source p ≡ (after_miss q, refused why)
unfolding fill_step
fills_none c user source len p q why l e f = ap (λ n. fill_reserved c (reserve_step n user source p)) l ∙ ap (fill_reserved c) (pair_of (reserve_step len user source p) q (refused why) e f)

-- the same where the reservation is refused
pub fills_refused : (c : Content) (user : Option ℕ) (source : ℕ) (p : Pool) (why : Refusal) → reserve_step (length c.image) user source p ≡ (p, refused why) → fill_step c user source p ≡ (after_miss p, refused why)
unfolding fill_step
fills_refused c user source p why e = ap (fill_reserved c) e

-- where a slice was reserved, it has the content
pub fills_one : (c : Content) (user : Option ℕ) (source len n : ℕ) (p q : Pool) → length c.image ≡ len → q ≡ (reserve_step len user source p).0 → slice n ≡ (reserve_step len user source p).1 → fill_step c user source p ≡ (filled n c q, slice n)
unfolding fill_step
fills_one c user source len n p q l e f = ap (λ n. fill_reserved c (reserve_step n user source p)) l ∙ ap (fill_reserved c) (pair_of (reserve_step len user source p) q (slice n) e f)

-- a pool with the counts of another one
pub record HasCountsOf (p q : Pool) : Type 0 where
  pub arrivals : q.next_arrival ≡ p.next_arrival
  pub misses : q.dropped ≡ p.dropped

-- a reservation leaves the counts
pub reserving_counts : (len source : ℕ) (user : Option ℕ) (p q : Pool) → q ≡ (reserve_step len user source p).0 → HasCountsOf p q
unfolding reserve_step
reserving_counts len source user p q e = rw e (go (unused_number (book_of p)) (place (book_of p) len))
  where
    go : (n at : Option ℕ) → HasCountsOf p (reserve_at n at len user source p).0
    go None at = record { arrivals = refl; misses = refl }
    go (Some n) None = record { arrivals = refl; misses = refl }
    go (Some n) (Some at) = record { arrivals = refl; misses = refl }

-- a content counts as one more arrival
pub filling_counts : (n : ℕ) (c : Content) (q after : Pool) → after ≡ filled n c q → (after.next_arrival ≡ q.next_arrival + 1) × (after.dropped ≡ q.dropped)
unfolding filled
filling_counts n c q after e = (ap (λ (x : Pool). x.next_arrival) e, ap (λ (x : Pool). x.dropped) e)

-- a notice is placed in the pool after its sweep
pub posts : (image : List ℕ) (before p : Pool) → p ≡ swept before → post_step image before ≡ fill_step (record { image = image; shared = None; priority = pos 0 }) None 0 p
unfolding post_step
posts image before p e = ap (fill_step (record { image = image; shared = None; priority = pos 0 }) None 0) (sym e)

-- what is not less is at least as much
pub at_least : (n limit : ℕ) → (n < limit → ⊥) → limit ≤ n
at_least n limit h = go (nat_lt n limit) refl
  where
    go : (b : Bool) → nat_lt n limit ≡ b → limit ≤ n
    go true e = let less : n < limit = grind (arith, nat_tests) in absurd (h less)
    go false e = grind (arith, nat_tests)
