-- Filters as they are built, one after the other.
use Rattle.std.proofs.Common.{◌≡◌, ◌<◌, ◌≤◌, ◌⊎◌, inl, inr, ℕ, zero, suc, ◌+◌, get_or, List, [], ◌∷◌, ◌++◌, length, refl, ap, sym, subst, ◌∙◌, arith}
use Rattle.std.specs.List.{flat_map}
use Rattle.std.proofs.lemmas.Bool.{cases_lt}
use Rattle.kd_model.specs.Words.{contains}
use Rattle.kd_bloom.specs.Bits.{bit_is_set}
use Rattle.kd_bloom.specs.Bloom.{IsFilter, string_bits}
use Rattle.kd_bloom.specs.Building.{FilterSoFar, HasStrings}
use Rattle.kd_load.specs.Counts.{tag}

pub filter_is : (f : FilterSoFar) (strings : List (List ℕ)) (bytes : List ℕ) → HasStrings f strings → f.size ≡ 64 → f.hashes ≡ 8 → f.generation ≡ 0 → bytes ≡ f.bytes → IsFilter 64 8 0 strings bytes
filter_is f strings bytes has size hashes generation same = record {
  sized = ap (λ (xs : List ℕ). length xs) same ∙ (has.sized ∙ size);
  bits = λ b. ap (λ (xs : List ℕ). bit_is_set xs b) same ∙ (has.bits b ∙ (λ t. contains b (flat_map (string_bits (size t) (hashes t) (generation t)) strings)));
}

at_left : (xs ys : List (List ℕ)) (d : ℕ) → d < length xs → get_or (xs ++ ys) d [] ≡ get_or xs d []
at_left [] ys d lt = absurd (omega arith)
at_left (x ∷ xs) ys zero lt = refl
at_left (x ∷ xs) ys (suc d) lt = at_left xs ys d (omega arith)

at_end : (xs : List (List ℕ)) (x : List ℕ) (d : ℕ) → d ≡ length xs → get_or (xs ++ x ∷ []) d [] ≡ x
at_end [] x zero e = refl
at_end [] x (suc d) e = absurd (omega arith)
at_end (y ∷ xs) x zero e = absurd (omega arith)
at_end (y ∷ xs) x (suc d) e = at_end xs x d (omega arith)

-- the filters of the first digits
abbrev pub AreFirst : ℕ → List (List ℕ) → Type 0
AreFirst n filters = (d : ℕ) → d < n → IsFilter 64 8 0 (tag d ∷ []) (get_or filters d [])

pub one_more : (n : ℕ) (xs : List (List ℕ)) (x : List ℕ) → length xs ≡ n → AreFirst n xs → IsFilter 64 8 0 (tag n ∷ []) x → AreFirst (n + 1) (xs ++ x ∷ [])
one_more n xs x long first last d lt = go (cases_lt d n)
  where
    go : (d < n) ⊎ (n ≤ d) → IsFilter 64 8 0 (tag d ∷ []) (get_or (xs ++ x ∷ []) d [])
    go (inl low) = subst (IsFilter 64 8 0 (tag d ∷ [])) (sym (at_left xs (x ∷ []) d (omega arith))) (first d low)
    go (inr high) =
        let e : n ≡ d = omega arith in
        subst (IsFilter 64 8 0 (tag d ∷ [])) (sym (at_end xs x d (omega arith))) (subst (λ (q : ℕ). IsFilter 64 8 0 (tag q ∷ []) x) e last)
