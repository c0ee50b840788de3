-- What an offer comes to, case by case.
use Rattle.std.specs.Prelude.{◌≡◌, ◌+◌, ℕ, Bool, true, false, List, Option, Some, None, refl}
use Rattle.std.proofs.Common.{ap, ◌∙◌, sym}
use Rattle.kd_types.specs.declared.refusal.Refusal.TheVariants.{PoolFull, Quota, SlicesSpent}
use Rattle.kd_model.specs.Slices.{Book, place, unused_number}
use Rattle.kd_acts.specs.State.{Answer, Pool, book_of, refused, slice, slots}
use Rattle.kd_acts.specs.Steps.{must_offer_step, over_quota, reserve_at, reserve_step, with_reserved, swept}
use Rattle.kd_acts.specs.declared.slot.Slot.{Slot}

-- all numbers are in use
pub reserves_none : (p : Pool) (b : Book) (len source : ℕ) (user : Option ℕ) → book_of p ≡ b → unused_number b ≡ None → reserve_step len user source p ≡ (p, refused SlicesSpent)
unfolding reserve_step
reserves_none p b len source user e u = ap (λ (x : Book). reserve_at (unused_number x) (place x len) len user source p) e ∙ ap (λ o. reserve_at o (place b len) len user source p) u

-- a number is unused, and no gap holds the length
pub reserves_nowhere : (p : Pool) (b : Book) (len source : ℕ) (user : Option ℕ) → book_of p ≡ b → (unused_number b ≡ None → ⊥) → place b len ≡ None → reserve_step len user source p ≡ (p, refused PoolFull)
unfolding reserve_step
reserves_nowhere p b len source user e u l = ap (λ (x : Book). reserve_at (unused_number x) (place x len) len user source p) e ∙ ap (λ o. reserve_at (unused_number b) o len user source p) l ∙ go (unused_number b) u
  where
    go : (o : Option ℕ) → (o ≡ None → ⊥) → reserve_at o None len user source p ≡ (p, refused PoolFull)
    go None u = absurd (u refl)
    go (Some n) u = refl

-- a slice is reserved
pub reserves : (p : Pool) (b : Book) (len source n at : ℕ) (user : Option ℕ) → book_of p ≡ b → unused_number b ≡ Some n → place b len ≡ Some at → reserve_step len user source p ≡ (with_reserved n at len user source p, slice n)
unfolding reserve_step
reserves p b len source n at user e u l = ap (λ (x : Book). reserve_at (unused_number x) (place x len) len user source p) e ∙ ap (λ o. reserve_at o (place b len) len user source p) u ∙ ap (λ o. reserve_at (Some n) o len user source p) l

-- by the quota's test of the pool after its sweep
pub offers_by : (user len source size : ℕ) (before p : Pool) (ss : List Slot) (b : Bool) → p ≡ swept (record before { offered = before.offered + 1 }) → p.size ≡ size → slots p ≡ ss → over_quota size ss user len ≡ b
    → must_offer_step user len source before ≡ elim b [ true ↦ (p, refused Quota) | false ↦ reserve_step len (Some user) source p ]
unfolding must_offer_step
offers_by user len source size before p ss b e s t o =
    ap (λ (q : Pool). elim (over_quota q.size (slots q) user len) [ true ↦ (q, refused Quota) | false ↦ reserve_step len (Some user) source q ]) (sym e)
    ∙ ap told (ap (λ n. over_quota n (slots p) user len) s ∙ ap (λ xs. over_quota size xs user len) t ∙ o)
  where
    told : Bool → Pool × Answer
    told b = elim b [ true ↦ (p, refused Quota) | false ↦ reserve_step len (Some user) source p ]
