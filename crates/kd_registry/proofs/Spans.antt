-- Where the claims on a name stand, and what a call that found them there answers.
use Rattle.std.proofs.Common.{◌≡◌, ℕ, suc, ◌+◌, ◌-◌, ◌≤◌, Bool, true, false, List, [], ◌∷◌, ◌++◌, length, take, drop, Some, None, Result, Ok, Err, refl, sym, ap, ◌∙◌, arith, cond, eqb-true}
use Rattle.std.specs.Prelude.{IfErr, IsErrAnd, not, ◌&&◌, ◌==◌, nat_lt, nat_le, is_some, unwrap_or}
use Rattle.std.specs.List.{position, position_or_len, remove}
use Rattle.std.proofs.lemmas.Bool.{true≢false, and_parts, not-true, ltb-false}
use Rattle.std.proofs.lemmas.List.{take_at, drop_at}
use Rattle.std.proofs.lemmas.List.Sums.{prefix_len-le-length}
use Rattle.kd_model.specs.Words.{all_of, first_that_holds, is_empty, text_below, some_of, those, but_those}
use Rattle.kd_types.specs.declared.flags.NameFlags.{NameFlags}
use Rattle.kd_types.specs.declared.refusal.Refusal.{Refusal}
use Rattle.kd_types.specs.declared.refusal.Refusal.TheVariants.{BadName, NameTaken, NoSuchName, NotOwner}
use Rattle.kd_name.specs.Names.{is_name}
use Rattle.kd_model.proofs.Texts.{not_same_above}
use Rattle.kd_registry.specs.declared.claim.Claim.{Claim}
use Rattle.kd_registry.specs.declared.claim.Verdict.{Verdict}
use Rattle.kd_registry.specs.declared.search.Span.{Span}
use Rattle.kd_registry.specs.Claims.{activator_answer, asked, held, higher, is_claim_of, is_on, is_placeholder, judged, lower, owner_id, ranked, ranks, release_answer, released}
use Rattle.kd_registry.specs.Spans.{IsSpanOf}
use Rattle.kd_registry.proofs.Filters.{all_kept, all_weaker}
use Rattle.kd_registry.proofs.Ranked.{parts}
use Rattle.kd_registry.proofs.Places.{place_within, lower_released, ranks_released, removes_one, counts_both, counts_one}

-- a claim on another name
abbrev off : List ℕ → Claim → Bool
off n c = not (is_on n c)

-- Finding the end

pub found_at : (p : Claim → Bool) (xs : List Claim) (k : ℕ) → Some k ≡ position p xs → k ≡ position_or_len p xs
found_at p xs k e = go (nat_lt (position_or_len p xs) (length xs)) e
  where
    go : (b : Bool) → Some k ≡ cond b (Some (position_or_len p xs)) None → k ≡ position_or_len p xs
    go true f = ap (λ o. unwrap_or o 0) f
    go false f = absurd (true≢false (ap is_some f))

pub found_nowhere : (p : Claim → Bool) (xs : List Claim) → None ≡ position p xs → length xs ≡ position_or_len p xs
found_nowhere p xs e = go (nat_lt (position_or_len p xs) (length xs)) refl e
  where
    go : (b : Bool) → nat_lt (position_or_len p xs) (length xs) ≡ b → None ≡ cond b (Some (position_or_len p xs)) None → length xs ≡ position_or_len p xs
    go true h f = absurd (true≢false (sym (ap is_some f)))
    go false h f = omega (arith, ltb-false (position_or_len p xs) (length xs) h, prefix_len-le-length (λ x. not (p x)) xs)

counts_front : (n : List ℕ) (xs ys : List Claim) → all_of (is_on n) xs ≡ true → all_of (off n) ys ≡ true → position_or_len (off n) (xs ++ ys) ≡ length xs
counts_front n [] [] h g = refl
counts_front n [] (y ∷ ys) h g = let g' = and_parts (off n y) (all_of (off n) ys) g in rw (not-true (is_on n y) g'.0) refl
counts_front n (x ∷ xs) ys h g = let h' = and_parts (is_on n x) (all_of (is_on n) xs) h in rw (h'.0) (omega (arith, counts_front n xs ys h'.1 g))

-- what stands from the first claim of the name on
from_start : (r : List Claim) (n : List ℕ) → ranked r ≡ true → drop (length (lower r n)) r ≡ ranks r n ++ higher r n
from_start r n h = ap (drop (length (lower r n))) (parts r n h) ∙ drop_at (lower r n) (ranks r n ++ higher r n) (length (lower r n)) refl

pub counted : (r : List Claim) (n : List ℕ) (s : ℕ) → ranked r ≡ true → s ≡ length (lower r n) → position_or_len (off n) (drop s r) ≡ length (ranks r n)
counted r n s h e =
    ap (λ k. position_or_len (off n) (drop k r)) e
    ∙ ap (position_or_len (off n)) (from_start r n h)
    ∙ counts_front n (ranks r n) (higher r n) (all_kept (is_on n) r) (all_weaker (λ (c : Claim). text_below n c.name) (off n) (λ c t. ap not (not_same_above n c.name t)) (higher r n) (all_kept (λ (c : Claim). text_below n c.name) r))

-- What stands at a span

pub span_within : (r : List Claim) (n : List ℕ) (s : Span) → ranked r ≡ true → IsSpanOf r n s → s.start + s.count ≤ length r
span_within r n s h i = omega (arith, i.start, i.count, place_within r n (length (ranks r n)) h (omega arith))

pub there : (r : List Claim) (n : List ℕ) (s : Span) → ranked r ≡ true → IsSpanOf r n s → take s.count (drop s.start r) ≡ ranks r n
there r n s h i =
    ap (λ k. take s.count (drop k r)) i.start
    ∙ ap (take s.count) (from_start r n h)
    ∙ ap (λ k. take k (ranks r n ++ higher r n)) i.count
    ∙ take_at (ranks r n) (higher r n) (length (ranks r n)) refl

pub span_within_in : (z r : List Claim) (n : List ℕ) (s : Span) → ranked r ≡ true → IsSpanOf r n s → z ≡ r → s.start + s.count ≤ length z
span_within_in z r n s h i e = omega (arith, span_within r n s h i, ap length e)

-- the claims there, where they were read from an equal list
pub there_in : (q z r : List Claim) (n : List ℕ) (s : Span) → ranked r ≡ true → IsSpanOf r n s → q ≡ take s.count (drop s.start z) → z ≡ r → q ≡ ranks r n
there_in q z r n s h i e f = e ∙ ap (λ y. take s.count (drop s.start y)) f ∙ there r n s h i

-- one of them went
pub span_left_in : (z r : List Claim) (id : ℕ) (n : List ℕ) (k : ℕ) (s : Span) → ranked r ≡ true → IsSpanOf r n s → Some k ≡ position (is_claim_of id) (ranks r n) → z ≡ remove r (length (lower r n) + k) → IsSpanOf z n (record { start = s.start; count = s.count - 1 })
span_left_in z r id n k s h i e f =
    let left : z ≡ released r id n = f ∙ removes_one r id n k h e in
    record {
      start = i.start ∙ sym (ap length (ap (λ y. lower y n) left ∙ lower_released r id n));
      count = omega (arith, i.count, ap length (ap (λ y. ranks y n) left ∙ ranks_released r id n), counts_both (is_claim_of id) (ranks r n), counts_one r id n k h e);
    }

-- What is answered

pub asked_there : (r mine : List Claim) (id : ℕ) (n : List ℕ) (flags : NameFlags) (over : Bool) (a : Result Verdict Refusal) → is_name n ≡ true → mine ≡ ranks r n → over ≡ (not (some_of (is_claim_of id) mine) && nat_le 64 (held r id)) → a ≡ judged id flags over mine → a ≡ asked r id n flags
asked_there r mine id n flags over a named m o e =
    e
    ∙ ap (λ b. judged id flags b mine) o
    ∙ ap (λ z. judged id flags (not (some_of (is_claim_of id) z) && nat_le 64 (held r id)) z) m
    ∙ sym (rw named refl)

pub activated_there : (r mine : List Claim) (n : List ℕ) (has : Bool) → is_name n ≡ true → mine ≡ ranks r n → has ≡ some_of is_placeholder mine → cond has (Err NameTaken) (Ok tt) ≡ activator_answer r n
activated_there r mine n has named m e = go has (e ∙ ap (some_of is_placeholder) m)
  where
    go : (b : Bool) → b ≡ some_of is_placeholder (ranks r n) → cond b (Err NameTaken) (Ok tt) ≡ activator_answer r n
    go true f = rw (named, sym f) refl
    go false f = rw (named, sym f) refl

released_by : (r : List Claim) (id : ℕ) (n : List ℕ) (a b c : Bool) → a ≡ is_name n → b ≡ is_empty (ranks r n) → c ≡ some_of (is_claim_of id) (ranks r n) → unwrap_or (first_that_holds ((not a, Err BadName) ∷ (b, Err NoSuchName) ∷ (not c, Err NotOwner) ∷ [])) (Ok (owner_id (released r id n) n)) ≡ release_answer r id n
released_by r id n a b c p q s = rw (p, q, s) refl

-- a refusal is handed on
pub refused_as : {X : Type 0} (r : Result X Refusal) (e : Refusal) (a : Result Verdict Refusal) → IsErrAnd r (λ f. f ≡ e) → Err e ≡ a → IfErr r (λ f. Err f ≡ a)
refused_as (Ok x) e a is same = tt
refused_as (Err f) e a is same = ap Err is ∙ same

pub nobody_there : (r mine : List Claim) (id : ℕ) (n : List ℕ) → is_name n ≡ true → mine ≡ ranks r n → (length mine == 0) ≡ true → Err NoSuchName ≡ release_answer r id n
nobody_there r mine id n named m e = released_by r id n true true (some_of (is_claim_of id) (ranks r n)) (sym named) (sym (empty (ranks r n) (ap (λ z. length z == 0) (sym m) ∙ e))) refl
  where
    empty : (xs : List Claim) → (length xs == 0) ≡ true → is_empty xs ≡ true
    empty [] t = refl
    empty (x ∷ xs) t = absurd (omega (arith, eqb-true (length (x ∷ xs)) 0 t))

pub no_holder_there : (r mine : List Claim) (id : ℕ) (n : List ℕ) → is_name n ≡ true → mine ≡ ranks r n → (length mine == 0) ≡ false → some_of (is_claim_of id) mine ≡ false → Err NotOwner ≡ release_answer r id n
no_holder_there r mine id n named m e none = released_by r id n true false false (sym named) (sym (some (ranks r n) (ap (λ z. length z == 0) (sym m) ∙ e))) (sym none ∙ ap (some_of (is_claim_of id)) m)
  where
    some : (xs : List Claim) → (length xs == 0) ≡ false → is_empty xs ≡ false
    some [] t = absurd (true≢false t)
    some (x ∷ xs) t = refl
