-- The phase of the slice of a number, where slices are filtered, changed and added.
use Rattle.std.specs.Prelude.{◌≡◌, ◌==◌, ℕ, Bool, true, false, cond, List, [], ◌∷◌, map, not, Option, Some, None, option_map, refl}
use Rattle.std.specs.List.{AllByRecursion, IsDistinct, find}
use Rattle.std.proofs.Common.{ap, arith, sym, ◌∙◌}
use Rattle.std.proofs.lemmas.Bool.Decides.{nat_tests}
use Rattle.kd_model.specs.Words.{but_those, put_in_order}
use Rattle.kd_acts.specs.State.{Slice, slot_numbered}
use Rattle.kd_acts.specs.Steps.{stands_lower}
use Rattle.kd_acts.specs.declared.slot.Phase.{Phase}
use Rattle.kd_acts.proofs.Apart.{LieApart}
use Rattle.kd_acts.proofs.Changes.{IsOfOne}
use Rattle.kd_numbers.specs.Ways.{phase_among}

abbrev pub has : ℕ → Slice → Bool
has n x = slot_numbered n x.slot

-- none of these has it
abbrev pub NoneHas : ℕ → List Slice → Type 0
NoneHas n xs = AllByRecursion (λ (x : Slice). has n x ≡ false) xs

-- by whether the first one has it
abbrev by_first : Bool → Slice → List Slice → ℕ → Option Phase
by_first b x xs n = elim b [ true ↦ Some x.slot.phase | false ↦ phase_among n xs ]

first_is : (n : ℕ) (x : Slice) (xs : List Slice) (b : Bool) → has n x ≡ b → phase_among n (x ∷ xs) ≡ by_first b x xs n
first_is n x xs true e = ap (λ t. option_map (λ (s : Slice). s.slot.phase) (cond t (Some x) (find (has n) xs))) e
first_is n x xs false e = ap (λ t. option_map (λ (s : Slice). s.slot.phase) (cond t (Some x) (find (has n) xs))) e

pub here : (n : ℕ) (x : Slice) (xs : List Slice) → has n x ≡ true → phase_among n (x ∷ xs) ≡ Some x.slot.phase
here n x xs e = first_is n x xs true e

pub later : (n : ℕ) (x : Slice) (xs : List Slice) → has n x ≡ false → phase_among n (x ∷ xs) ≡ phase_among n xs
later n x xs e = first_is n x xs false e

pub none_has : (n : ℕ) (xs : List Slice) → NoneHas n xs → phase_among n xs ≡ None
none_has n [] a = refl
none_has n (x ∷ xs) a = later n x xs a.0 ∙ none_has n xs a.1

-- behind the one that has it none has
others_none : (n : ℕ) (x : Slice) (xs : List Slice) → has n x ≡ true → AllByRecursion (λ (y : Slice). (x.slot.number == y.slot.number) ≡ false) xs → NoneHas n xs
others_none n x [] e a = tt
others_none n x (y ∷ ys) e a = (let f = a.0 in grind (arith, nat_tests), others_none n x ys e a.1)

-- ---- filtered

-- what stays where those go
abbrev pub Stays : (Slice → Bool) → List Slice → List Slice
Stays goes xs = but_those goes xs

kept_or_not : (goes : Slice → Bool) (x : Slice) (xs : List Slice) (b : Bool) → goes x ≡ b → but_those goes (x ∷ xs) ≡ elim b [ true ↦ but_those goes xs | false ↦ x ∷ but_those goes xs ]
kept_or_not goes x xs true e = ap (λ t. cond (not t) (x ∷ but_those goes xs) (but_those goes xs)) e
kept_or_not goes x xs false e = ap (λ t. cond (not t) (x ∷ but_those goes xs) (but_those goes xs)) e

none_still : (n : ℕ) (goes : Slice → Bool) (xs : List Slice) → NoneHas n xs → NoneHas n (but_those goes xs)
none_still n goes [] a = tt
none_still n goes (x ∷ xs) a = go (none_still n goes xs a.1) (goes x) refl
  where
    go : NoneHas n (but_those goes xs) → (b : Bool) → goes x ≡ b → NoneHas n (but_those goes (x ∷ xs))
    go rest true e = rw (kept_or_not goes x xs true e) rest
    go rest false e = rw (kept_or_not goes x xs false e) (a.0, rest)

-- the slice of the number stays or goes, as the test says
pub data Fate (n : ℕ) (goes : Slice → Bool) (xs : List Slice) : Type 0 where
  same : phase_among n (but_those goes xs) ≡ phase_among n xs → Fate n goes xs
  gone : (x : Slice) → has n x ≡ true → goes x ≡ true → phase_among n xs ≡ Some x.slot.phase → phase_among n (but_those goes xs) ≡ None → Fate n goes xs

pub fate : (n : ℕ) (goes : Slice → Bool) (xs : List Slice) → LieApart xs → Fate n goes xs
unfolding IsDistinct
fate n goes [] d = same refl
fate n goes (x ∷ xs) d = go (fate n goes xs d.1) (has n x) (goes x) refl refl
  where
    tail : has n x ≡ false → (b : Bool) → goes x ≡ b → phase_among n (but_those goes (x ∷ xs)) ≡ phase_among n (but_those goes xs)
    tail e true f = ap (phase_among n) (kept_or_not goes x xs true f)
    tail e false f = ap (phase_among n) (kept_or_not goes x xs false f) ∙ later n x (but_those goes xs) e

    on : has n x ≡ false → Fate n goes xs → (b : Bool) → goes x ≡ b → Fate n goes (x ∷ xs)
    on e (same s) b f = same (tail e b f ∙ s ∙ sym (later n x xs e))
    on e (gone y h g p q) b f = gone y h g (later n x xs e ∙ p) (tail e b f ∙ q)

    go : Fate n goes xs → (a b : Bool) → has n x ≡ a → goes x ≡ b → Fate n goes (x ∷ xs)
    go rest true true e f = gone x e f (here n x xs e) (ap (phase_among n) (kept_or_not goes x xs true f) ∙ none_has n (but_those goes xs) (none_still n goes xs (others_none n x xs e d.0)))
    go rest true false e f = same (ap (phase_among n) (kept_or_not goes x xs false f) ∙ here n x (but_those goes xs) e ∙ sym (here n x xs e))
    go rest false b e f = on e rest b f

-- ---- changed

-- a change of the slice of one number: the phase of another stays, and its own is the changed one's
pub changed_other : (m n : ℕ) (f change : Slice → Slice) → IsOfOne m f change → (m == n) ≡ false → (xs : List Slice) → phase_among n (map f xs) ≡ phase_among n xs
changed_other m n f change one ne [] = refl
changed_other m n f change one ne (x ∷ xs) = go (changed_other m n f change one ne xs) (has n x) refl
  where
    number : has n (f x) ≡ has n x
    number = ap (λ k. k == n) (one.number x)

    go : phase_among n (map f xs) ≡ phase_among n xs → (b : Bool) → has n x ≡ b → phase_among n (f x ∷ map f xs) ≡ phase_among n (x ∷ xs)
    go rest true e =
        let out : slot_numbered m x.slot ≡ false = grind (arith, nat_tests) in
        here n (f x) (map f xs) (number ∙ e) ∙ ap (λ (y : Slice). Some y.slot.phase) (one.others x out) ∙ sym (here n x xs e)
    go rest false e = later n (f x) (map f xs) (number ∙ e) ∙ rest ∙ sym (later n x xs e)

-- to a phase, where the number has a slice
pub changed_own : (n : ℕ) (f change : Slice → Slice) (phase : Phase) → IsOfOne n f change → ((x : Slice) → (change x).slot.phase ≡ phase) → (xs : List Slice)
    → phase_among n (map f xs) ≡ option_map (λ (was : Phase). phase) (phase_among n xs)
changed_own n f change phase one to [] = refl
changed_own n f change phase one to (x ∷ xs) = go (changed_own n f change phase one to xs) (has n x) refl
  where
    number : has n (f x) ≡ has n x
    number = ap (λ k. k == n) (one.number x)

    go : phase_among n (map f xs) ≡ option_map (λ (was : Phase). phase) (phase_among n xs) → (b : Bool) → has n x ≡ b → phase_among n (f x ∷ map f xs) ≡ option_map (λ (was : Phase). phase) (phase_among n (x ∷ xs))
    go rest true e =
        here n (f x) (map f xs) (number ∙ e) ∙ ap (λ (y : Slice). Some y.slot.phase) (one.own x e) ∙ ap (λ p. Some p) (to x)
        ∙ sym (ap (option_map (λ (was : Phase). phase)) (here n x xs e))
    go rest false e = later n (f x) (map f xs) (number ∙ e) ∙ rest ∙ sym (ap (option_map (λ (was : Phase). phase)) (later n x xs e))

-- ---- added

put_or_on : (s x : Slice) (xs : List Slice) (b : Bool) → stands_lower s x ≡ b → put_in_order stands_lower s (x ∷ xs) ≡ elim b [ true ↦ s ∷ x ∷ xs | false ↦ x ∷ put_in_order stands_lower s xs ]
put_or_on s x xs true e = ap (λ t. elim t as (λ t. List Slice) [ true ↦ s ∷ x ∷ xs | false ↦ x ∷ put_in_order stands_lower s xs ]) e
put_or_on s x xs false e = ap (λ t. elim t as (λ t. List Slice) [ true ↦ s ∷ x ∷ xs | false ↦ x ∷ put_in_order stands_lower s xs ]) e

-- one of another number
pub added_other : (n : ℕ) (s : Slice) (xs : List Slice) → has n s ≡ false → phase_among n (put_in_order stands_lower s xs) ≡ phase_among n xs
added_other n s [] e = later n s [] e
added_other n s (x ∷ xs) e = go (added_other n s xs e) (stands_lower s x) refl
  where
    beside : phase_among n (put_in_order stands_lower s xs) ≡ phase_among n xs → (b : Bool) → has n x ≡ b → phase_among n (x ∷ put_in_order stands_lower s xs) ≡ phase_among n (x ∷ xs)
    beside rest true f = here n x (put_in_order stands_lower s xs) f ∙ sym (here n x xs f)
    beside rest false f = later n x (put_in_order stands_lower s xs) f ∙ rest ∙ sym (later n x xs f)

    go : phase_among n (put_in_order stands_lower s xs) ≡ phase_among n xs → (b : Bool) → stands_lower s x ≡ b → phase_among n (put_in_order stands_lower s (x ∷ xs)) ≡ phase_among n (x ∷ xs)
    go rest true f = ap (phase_among n) (put_or_on s x xs true f) ∙ later n s (x ∷ xs) e
    go rest false f = ap (phase_among n) (put_or_on s x xs false f) ∙ beside rest (has n x) refl

-- one of this number, where none has it
pub added_own : (n : ℕ) (s : Slice) (xs : List Slice) → has n s ≡ true → NoneHas n xs → phase_among n (put_in_order stands_lower s xs) ≡ Some s.slot.phase
added_own n s [] e a = here n s [] e
added_own n s (x ∷ xs) e a = go (added_own n s xs e a.1) (stands_lower s x) refl
  where
    go : phase_among n (put_in_order stands_lower s xs) ≡ Some s.slot.phase → (b : Bool) → stands_lower s x ≡ b → phase_among n (put_in_order stands_lower s (x ∷ xs)) ≡ Some s.slot.phase
    go rest true f = ap (phase_among n) (put_or_on s x xs true f) ∙ here n s (x ∷ xs) e
    go rest false f = ap (phase_among n) (put_or_on s x xs false f) ∙ later n x (put_in_order stands_lower s xs) a.0 ∙ rest
