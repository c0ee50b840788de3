-- Filters, and tests of all members.
use Rattle.std.proofs.Common.{◌≡◌, ℕ, zero, suc, ◌<◌, ◌≤◌, Bool, true, false, List, [], ◌∷◌, ◌++◌, length, get_or, Some, None, refl, sym, ap, ◌∙◌, arith, cond}
use Rattle.std.specs.Prelude.{not, ◌&&◌, filter, nat_lt, is_some}
use Rattle.std.specs.List.{list_all, list_any, position, position_or_len}
use Rattle.std.proofs.lemmas.Bool.{true≢false, and_parts, and_from, and_right, or_parts, or_from, or_left, or_right, not_from_false, not-true, ltb-false}
use Rattle.std.proofs.lemmas.List.Elements.{filter_agree}
use Rattle.std.proofs.lemmas.List.Sums.{fails_before_first}

module _ {X : Type 0} where
  -- each member that a filter keeps passes
  pub all_kept : (p : X → Bool) (xs : List X) → list_all p (filter p xs) ≡ true
  all_kept p [] = refl
  all_kept p (x ∷ xs) = go (p x) refl (all_kept p xs)
    where
      go : (b : Bool) → p x ≡ b → list_all p (filter p xs) ≡ true → list_all p (cond b (x ∷ filter p xs) (filter p xs)) ≡ true
      go true e rest = and_from (p x) (list_all p (filter p xs)) e rest
      go false e rest = rest

  -- what holds of all holds of those that are kept
  pub all_filter : (p q : X → Bool) (xs : List X) → list_all p xs ≡ true → list_all p (filter q xs) ≡ true
  all_filter p q [] h = refl
  all_filter p q (x ∷ xs) h = let h' = and_parts (p x) (list_all p xs) h in go (q x) h'.0 (all_filter p q xs h'.1)
    where
      go : (b : Bool) → p x ≡ true → list_all p (filter q xs) ≡ true → list_all p (cond b (x ∷ filter q xs) (filter q xs)) ≡ true
      go true first rest = and_from (p x) (list_all p (filter q xs)) first rest
      go false first rest = rest

  pub all_append : (p : X → Bool) (xs ys : List X) → list_all p xs ≡ true → list_all p ys ≡ true → list_all p (xs ++ ys) ≡ true
  all_append p [] ys h g = g
  all_append p (x ∷ xs) ys h g = let h' = and_parts (p x) (list_all p xs) h in and_from (p x) _ h'.0 (all_append p xs ys h'.1 g)

  pub all_weaker : (p q : X → Bool) → ((x : X) → p x ≡ true → q x ≡ true) → (xs : List X) → list_all p xs ≡ true → list_all q xs ≡ true
  all_weaker p q w [] h = refl
  all_weaker p q w (x ∷ xs) h = let h' = and_parts (p x) (list_all p xs) h in and_from (q x) _ (w x h'.0) (all_weaker p q w xs h'.1)

  pub all_both : (p q : X → Bool) (xs : List X) → list_all p xs ≡ true → list_all q xs ≡ true → list_all (λ x. p x && q x) xs ≡ true
  all_both p q [] h g = refl
  all_both p q (x ∷ xs) h g =
      let h' = and_parts (p x) (list_all p xs) h in
      let g' = and_parts (q x) (list_all q xs) g in
      and_from (p x && q x) _ (and_from (p x) (q x) h'.0 g'.0) (all_both p q xs h'.1 g'.1)

  -- none passes
  pub none_any : (p : X → Bool) (xs : List X) → list_any p xs ≡ false → list_all (λ x. not (p x)) xs ≡ true
  none_any p [] h = refl
  none_any p (x ∷ xs) h = let h' = or_parts (p x) (list_any p xs) h in and_from (not (p x)) _ (not_from_false (p x) h'.0) (none_any p xs h'.1)

  pub all_at : (p : X → Bool) (xs : List X) (k : ℕ) (d : X) → list_all p xs ≡ true → k < length xs → p (get_or xs k d) ≡ true
  all_at p [] k d h lt = absurd (omega (arith, lt))
  all_at p (x ∷ xs) zero d h lt = (and_parts (p x) (list_all p xs) h).0
  all_at p (x ∷ xs) (suc k) d h lt = all_at p xs k d (and_parts (p x) (list_all p xs) h).1 (omega (arith, lt))

  -- a filter that all pass keeps all; one that none passes keeps none
  pub keeps_all : (p : X → Bool) (xs : List X) → list_all p xs ≡ true → filter p xs ≡ xs
  keeps_all p [] h = refl
  keeps_all p (x ∷ xs) h = let h' = and_parts (p x) (list_all p xs) h in rw (h'.0, keeps_all p xs h'.1) refl

  pub keeps_none : (p : X → Bool) (xs : List X) → list_all (λ x. not (p x)) xs ≡ true → filter p xs ≡ []
  keeps_none p [] h = refl
  keeps_none p (x ∷ xs) h = let h' = and_parts (not (p x)) (list_all (λ y. not (p y)) xs) h in rw (not-true (p x) h'.0) (keeps_none p xs h'.1)

  -- one filter after another
  pub filter_twice : (p q : X → Bool) (xs : List X) → filter p (filter q xs) ≡ filter (λ x. q x && p x) xs
  filter_twice p q [] = refl
  filter_twice p q (x ∷ xs) = go (q x) (filter_twice p q xs)
    where
      go : (b : Bool) → filter p (filter q xs) ≡ filter (λ y. q y && p y) xs → filter p (cond b (x ∷ filter q xs) (filter q xs)) ≡ cond (b && p x) (x ∷ filter (λ y. q y && p y) xs) (filter (λ y. q y && p y) xs)
      go true rest = ap (λ l. cond (p x) (x ∷ l) l) rest
      go false rest = rest

  -- where a list's members change from passing to failing
  pub point_is_count : (p : X → Bool) (xs : List X) (k : ℕ) → k ≤ length xs → ((i : ℕ) (d : X) → 0 ≤ i → i < k → p (get_or xs i d) ≡ true) → ((i : ℕ) (d : X) → k ≤ i → i < length xs → p (get_or xs i d) ≡ false) → k ≡ length (filter p xs)
  point_is_count p [] k le before after = omega (arith, le)
  point_is_count p (x ∷ xs) zero le before after = rw (after 0 x (omega arith) (omega arith)) (point_is_count p xs 0 (omega arith) (λ i d z lt. absurd (omega (arith, lt))) (λ i d z lt. after (suc i) d (omega arith) (omega (arith, lt))))
  point_is_count p (x ∷ xs) (suc k) le before after = rw (before 0 x (omega arith) (omega arith)) (ap suc (point_is_count p xs k (omega (arith, le)) (λ i d z lt. before (suc i) d (omega arith) (omega (arith, lt))) (λ i d z lt. after (suc i) d (omega (arith, z)) (omega (arith, lt)))))

  -- two filters that agree on all members
  pub filter_agree_on : (t p q : X → Bool) → ((x : X) → t x ≡ true → p x ≡ q x) → (xs : List X) → list_all t xs ≡ true → filter p xs ≡ filter q xs
  filter_agree_on t p q f [] h = refl
  filter_agree_on t p q f (x ∷ xs) h =
      let h' = and_parts (t x) (list_all t xs) h in
      rw (f x h'.0, filter_agree_on t p q f xs h'.1) refl

  -- a later filter that is stronger
  pub filter_after : (p q : X → Bool) → ((x : X) → p x ≡ true → q x ≡ true) → (xs : List X) → filter p (filter q xs) ≡ filter p xs
  filter_after p q f xs = filter_twice p q xs ∙ filter_agree (λ x. q x && p x) p (λ x. go x (p x) refl) xs
    where
      go : (x : X) (b : Bool) → p x ≡ b → (q x && p x) ≡ p x
      go x true e = rw (f x e, e) refl
      go x false e = and_right (q x) (p x) e ∙ sym e

  pub any_from_at : (p : X → Bool) (xs : List X) → ((k : ℕ) (d : X) → k < length xs → p (get_or xs k d) ≡ false) → list_any p xs ≡ false
  any_from_at p [] f = refl
  any_from_at p (x ∷ xs) f = or_from (p x) (list_any p xs) (f 0 x (omega arith)) (any_from_at p xs (λ k d lt. f (suc k) d (omega (arith, lt))))

  pub any_at : (p : X → Bool) (xs : List X) (k : ℕ) (d : X) → k < length xs → p (get_or xs k d) ≡ true → list_any p xs ≡ true
  any_at p [] k d lt h = absurd (omega (arith, lt))
  any_at p (x ∷ xs) zero d lt h = or_left (p x) (list_any p xs) h
  any_at p (x ∷ xs) (suc k) d lt h = or_right (p x) (list_any p xs) (any_at p xs k d (omega (arith, lt)) h)

  pub position_none : (p : X → Bool) (xs : List X) → position p xs ≡ None → list_any p xs ≡ false
  position_none p xs e = any_from_at p xs (λ k d lt. fails_before_first p xs k d (omega (arith, lt, go (nat_lt (position_or_len p xs) (length xs)) refl e)))
    where
      go : (b : Bool) → nat_lt (position_or_len p xs) (length xs) ≡ b → cond b (Some (position_or_len p xs)) None ≡ None → length xs ≤ position_or_len p xs
      go true h f = absurd (true≢false (ap is_some f))
      go false h f = ltb-false (position_or_len p xs) (length xs) h
