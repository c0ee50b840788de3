-- The filter of one digit passes the mask of another as their bits say.
use Rattle.std.proofs.Common.{◌≡◌, ◌⊎◌, inl, inr, ℕ, Bool, true, List, [], ◌∷◌, refl, ap, sym, ◌∙◌, arith}
use Rattle.std.proofs.lemmas.List.{append-nil}
use Rattle.std.proofs.lemmas.Bool.{eqb-true, or_cases, or_left, or_right, false≢true}
use Rattle.std.specs.Prelude.{◌==◌}
use Rattle.kd_model.specs.Words.{all_of, contains}
use Rattle.kd_model.proofs.Truth.{both_true}
use Rattle.kd_bloom.specs.Bits.{bit_is_set, passes}
use Rattle.kd_bloom.specs.Bloom.{IsFilter}
use Rattle.kd_bloom.proofs.Sets.{passes_each, passes_true, same_bool}
use Rattle.kd_load.specs.Counts.{tag, tag_bits, tag_passes}

-- what holds of all in a list holds of each
each_of : (p : ℕ → Bool) (xs : List ℕ) → all_of p xs ≡ true → (b : ℕ) → contains b xs ≡ true → p b ≡ true
each_of p [] all b found = absurd (false≢true found)
each_of p (x ∷ xs) all b found =
    let both = both_true (p x) (all_of p xs) all in
    go both.0 (or_cases _ _ found) (each_of p xs both.1 b)
  where
    go : p x ≡ true → ((b == x) ≡ true) ⊎ (contains b xs ≡ true) → (contains b xs ≡ true → p b ≡ true) → p b ≡ true
    go first (inl here) later = ap p (eqb-true b x here) ∙ first
    go first (inr there) later = later there

all_there : (p : ℕ → Bool) (xs : List ℕ) → ((b : ℕ) → contains b xs ≡ true → p b ≡ true) → all_of p xs ≡ true
all_there p [] each = refl
all_there p (x ∷ xs) each =
    let first : p x ≡ true = each x (or_left (x == x) (contains x xs) (grind arith)) in
    let rest = all_there p xs (λ b found. each b (or_right (b == x) (contains b xs) found)) in
    grind (arith, first, rest)

set_as_tag : (d : ℕ) (filter : List ℕ) → IsFilter 64 8 0 (tag d ∷ []) filter → (b : ℕ) → bit_is_set filter b ≡ contains b (tag_bits d)
unfolding tag_bits
set_as_tag d filter f b = f.bits b ∙ ap (contains b) (append-nil (tag_bits d))

pub passes_as_tags : (d e : ℕ) (filter mask : List ℕ) → IsFilter 64 8 0 (tag d ∷ []) filter → IsFilter 64 8 0 (tag e ∷ []) mask → passes filter mask ≡ tag_passes d e
unfolding tag_passes
passes_as_tags d e filter mask f m =
    let of_filter = set_as_tag d filter f in
    let of_mask = set_as_tag e mask m in
    same_bool (passes filter mask) (all_of (λ b. contains b (tag_bits d)) (tag_bits e))
    (λ pass. all_there (λ b. contains b (tag_bits d)) (tag_bits e) (λ b found. sym (of_filter b) ∙ passes_each filter mask pass b (of_mask b ∙ found)))
    (λ all. passes_true filter mask (λ b found. of_filter b ∙ each_of (λ b. contains b (tag_bits d)) (tag_bits e) all b (sym (of_mask b) ∙ found)))
