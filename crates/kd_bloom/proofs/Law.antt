-- A filter of all strings of a mask meets it.
use Rattle.std.proofs.Common.{◌≡◌, ℕ, zero, suc, ◌+◌, ◌-◌, ◌<◌, ◌≤◌, ◌==◌, true, ◌⊎◌, inl, inr, List, [], ◌∷◌, length, get_or, map, min, refl, ap, sym, ◌∙◌, arith}
use Rattle.std.specs.List.{range_with_len, flat_map, Contains}
use Rattle.kd_model.specs.Words.{contains}
use Rattle.kd_bloom.specs.Bits.{bit_is_set, meets, tested}
use Rattle.kd_bloom.specs.Bloom.{hash_count, digest_bit, string_bits, IsFilter, IsMask, AreAmong}
use Rattle.std.specs.Prelude.{slice_index_or}
use Rattle.std.proofs.lemmas.Bool.{or_cases, or_left, or_right, false≢true}
use Rattle.std.proofs.lemmas.List.Elements.{Contains-append_right}
use Rattle.sha2.specs.Sha256.{sha256}
use Rattle.kd_bloom.proofs.Marks.{contains-append}
use Rattle.kd_bloom.proofs.Sets.{passes_true}

-- a number of joined lists is one of a list
from_flat : (b : ℕ) (f : List ℕ → List ℕ) (xs : List (List ℕ)) → contains b (flat_map f xs) ≡ true → (s : List ℕ) × Contains xs s × (contains b (f s) ≡ true)
from_flat b f [] here = absurd (false≢true here)
from_flat b f (x ∷ xs) here = go (or_cases _ _ (sym (contains-append b (f x) (flat_map f xs)) ∙ here)) (from_flat b f xs)
  where
    go : (contains b (f x) ≡ true) ⊎ (contains b (flat_map f xs) ≡ true) → (contains b (flat_map f xs) ≡ true → (s : List ℕ) × Contains xs s × (contains b (f s) ≡ true)) → (s : List ℕ) × Contains (x ∷ xs) s × (contains b (f s) ≡ true)
    go (inl first) later = (x, (0, omega arith, refl), first)
    go (inr rest) later = let found = later rest in (found.0, Contains-append_right (x ∷ []) xs found.0 found.1, found.2)

-- and the other way round
to_flat : (b : ℕ) (f : List ℕ → List ℕ) (xs : List (List ℕ)) (s : List ℕ) (k : ℕ) → k < length xs → slice_index_or xs k s ≡ s → contains b (f s) ≡ true → contains b (flat_map f xs) ≡ true
to_flat b f [] s k lt e here = absurd (omega arith)
to_flat b f (x ∷ xs) s zero lt e here = contains-append b (f x) (flat_map f xs) ∙ or_left _ _ (ap (λ (l : List ℕ). contains b (f l)) e ∙ here)
to_flat b f (x ∷ xs) s (suc k) lt e here = contains-append b (f x) (flat_map f xs) ∙ or_right _ _ (to_flat b f xs s k (omega arith) e here)

-- more hashes have the bits of fewer
more_hashes : (b : ℕ) (h : ℕ → ℕ) (a m n : ℕ) → m ≤ n → contains b (map h (range_with_len a m)) ≡ true → contains b (map h (range_with_len a n)) ≡ true
more_hashes b h a zero n le here = absurd (false≢true here)
more_hashes b h a (suc m) zero le here = absurd (omega arith)
more_hashes b h a (suc m) (suc n) le here = go (or_cases _ _ here) (more_hashes b h (a + 1) m n (omega arith))
  where
    go : ((b == h a) ≡ true) ⊎ (contains b (map h (range_with_len (a + 1) m)) ≡ true) → (contains b (map h (range_with_len (a + 1) m)) ≡ true → contains b (map h (range_with_len (a + 1) n)) ≡ true) → contains b (map h (range_with_len a (suc n))) ≡ true
    go (inl first) later = or_left _ _ first
    go (inr rest) later = or_right _ _ (later rest)

later_generation : (size hashes i g b : ℕ) (s : List ℕ) → i ≤ g → contains b (string_bits size hashes i s) ≡ true → contains b (string_bits size hashes g s) ≡ true
unfolding string_bits
later_generation size hashes i g b s le here = more_hashes b (digest_bit size (sha256 s)) 0 (hash_count hashes i) (hash_count hashes g) (omega arith) here

pub never_lost : (size hashes g : ℕ) (strings asked : List (List ℕ)) (filter : List ℕ) (mask : List (List ℕ)) → 0 < length mask → IsFilter size hashes g strings filter → IsMask size hashes asked mask → AreAmong asked strings → meets filter g mask ≡ true
never_lost size hashes g strings asked filter mask some f m among =
    passes_true filter (tested g mask) set
  where
    set : (b : ℕ) → bit_is_set (get_or mask (min g (length mask - 1)) []) b ≡ true → bit_is_set filter b ≡ true
    set b here =
        let p = m.each (min g (length mask - 1)) (omega arith) in
        let found = from_flat b (string_bits size hashes (min g (length mask - 1))) asked (sym (p.bits b) ∙ here) in
        let there = among found.0 found.1 in
        f.bits b ∙ to_flat b (string_bits size hashes g) strings found.0 there.0 there.1 there.2 (later_generation size hashes (min g (length mask - 1)) g b found.0 (omega arith) found.2)
