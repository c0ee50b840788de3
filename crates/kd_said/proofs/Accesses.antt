-- The entries of a policy, item by item.
use Rattle.std.proofs.Common.{◌≡◌, ◌<◌, ◌+◌, ℕ, zero, suc, false, not, ◌&&◌, List, [], ◌∷◌, ◌++◌, length, take, get_or, refl, sym, ap, ◌∙◌, arith}
use Rattle.std.specs.Prelude.{◌||◌, nat_lt, nat_le}
use Rattle.std.specs.List.{list_any}
use Rattle.std.proofs.lemmas.List.{take_more}
use Rattle.kd_model.proofs.Truth.{left_false, right_false}
use Rattle.kd_wire.specs.declared.item.WireItem.{WireItem}
use Rattle.kd_wire.specs.declared.item.WireItem.TheVariants as item
use Rattle.kd_wire.specs.Refusals.{is_bad_access}
use Rattle.kd_policy.specs.declared.entry.Entry.{Entry}
use Rattle.kd_commands.specs.Items.{entries_for, entries_in, level_named, subject_named}

-- the name that the accesses behind some items are to
abbrev pub name_from : List ℕ → List WireItem → List ℕ
name_from n [] = n
name_from n (item.Name m ∷ is) = name_from m is
name_from n (_ ∷ is) = name_from n is

abbrev pub name_said : List WireItem → List ℕ
name_said is = name_from [] is

name_more : (n : List ℕ) (xs ys : List WireItem) → name_from n (xs ++ ys) ≡ name_from (name_from n xs) ys
name_more n [] ys = refl
name_more n (item.Name m ∷ xs) ys = name_more m xs ys
name_more n (x ∷ xs) ys = name_more n xs ys

entries_more : (n : List ℕ) (xs ys : List WireItem) → entries_for n (xs ++ ys) ≡ entries_for n xs ++ entries_for (name_from n xs) ys
entries_more n [] ys = refl
entries_more n (item.Name m ∷ xs) ys = entries_more m xs ys
entries_more n (item.Access subject level id ∷ xs) ys = ap (λ es. record { pattern = n; subject = subject_named subject id; level = level_named level } ∷ es) (entries_more n xs ys)
entries_more n (x ∷ xs) ys = entries_more n xs ys

-- what some items say up to a place
pub record AreSaid (is : List WireItem) (i : ℕ) (es : List Entry) (n : List ℕ) : Type 0 where
  pub entries : es ≡ entries_in (take i is)
  pub name : n ≡ name_said (take i is)

-- one item more
pub said_more : (is : List WireItem) (i : ℕ) (x : WireItem) (es fs : List Entry) (n m : List ℕ) → i < length is → x ≡ get_or is i x → AreSaid is i es n
    → fs ≡ es ++ entries_for n (x ∷ []) → m ≡ name_from n (x ∷ []) → AreSaid is (i + 1) fs m
said_more is i x es fs n m lt here a e f =
    let more : take (i + 1) is ≡ take i is ++ x ∷ [] = take_more is i x lt ∙ ap (λ (y : WireItem). take i is ++ y ∷ []) (sym here) in
    record {
      entries = e ∙ ap (λ l. l ++ entries_for n (x ∷ [])) a.entries ∙ ap (λ k. entries_in (take i is) ++ entries_for k (x ∷ [])) a.name ∙ sym (entries_more [] (take i is) (x ∷ [])) ∙ sym (ap entries_in more);
      name = f ∙ ap (λ k. name_from k (x ∷ [])) a.name ∙ sym (name_more [] (take i is) (x ∷ [])) ∙ sym (ap name_said more);
    }

-- an item of another kind says nothing
pub no_entry : (n : List ℕ) (x : WireItem) → ((m : List ℕ) → x ≡ item.Name m → ⊥) → ((subject level id : ℕ) → x ≡ item.Access subject level id → ⊥) → entries_for n (x ∷ []) ≡ []
no_entry n (item.Name m) name access = absurd (name m refl)
no_entry n (item.Access subject level id) name access = absurd (access subject level id refl)
no_entry n x name access = refl

pub no_name_said : (n : List ℕ) (x : WireItem) → ((m : List ℕ) → x ≡ item.Name m → ⊥) → n ≡ name_from n (x ∷ [])
no_name_said n (item.Name m) name = absurd (name m refl)
no_name_said n x name = refl

-- each access has a number of its kind
access_at : (is : List WireItem) (i : ℕ) (x : WireItem) → list_any is_bad_access is ≡ false → i < length is → x ≡ get_or is i x → is_bad_access x ≡ false
access_at [] i x none lt here = absurd (omega (arith, lt))
access_at (y ∷ is) zero x none lt here = ap is_bad_access here ∙ left_false (is_bad_access y) (list_any is_bad_access is) none
access_at (y ∷ is) (suc i) x none lt here = access_at is i x (right_false (is_bad_access y) (list_any is_bad_access is) none) (omega (arith, lt)) here

pub number_at : (is : List WireItem) (i : ℕ) (x : WireItem) (subject level id : ℕ) → list_any is_bad_access is ≡ false → i < length is → x ≡ get_or is i x → x ≡ item.Access subject level id → nat_lt subject 3 && nat_lt 4294967295 id ≡ false
number_at is i x subject level id none lt here e =
    right_false (not (nat_le 1 subject && nat_le subject 3) || not (nat_le 1 level && nat_le level 3)) (nat_lt subject 3 && nat_lt 4294967295 id)
    (sym (ap is_bad_access e) ∙ access_at is i x none lt here)
