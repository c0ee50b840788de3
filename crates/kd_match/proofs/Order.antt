-- The table's order: the rules of a connection lie together, and a new one is put behind them.
use Rattle.std.proofs.Common.{◌≡◌, ℕ, zero, suc, ◌+◌, ◌<◌, ◌≤◌, Bool, true, false, ltb, leb, List, [], ◌∷◌, length, get_or, take, drop, filter, refl, ap, sym, ◌∙◌, arith, eqb}
use Rattle.std.specs.List.{insert}
use Rattle.std.specs.List.Sorted.{IsNonDecreasingBy, IsPartitionPoint}
use Rattle.std.proofs.lemmas.Bool.{ltb-true, ltb-false, leb-true, leb-false, lt-ltb, le-ltb, eq-eqb, ne_eqb}
use Rattle.std.proofs.lemmas.List.{take-append-drop, get_or-drop, get_or-take, length-take-le, length-drop, append-nil}
use Rattle.std.proofs.lemmas.List.Elements.{filter-append}
use Rattle.std.proofs.lemmas.List.Sorted.{IsNonDecreasingBy-drop, IsNonDecreasingBy-insert}
use Rattle.kd_model.specs.Words.{put_in_order}
use Rattle.kd_match.specs.declared.rule.Rule.{Rule}
use Rattle.kd_match.specs.Rules.{comes_before, rules_of}

-- a list of which nothing passes, and one of which all does
filter_nothing : (p : Rule → Bool) (xs : List Rule) → ((k : ℕ) (d : Rule) → k < length xs → p (get_or xs k d) ≡ false) → filter p xs ≡ []
filter_nothing p [] h = refl
filter_nothing p (x ∷ xs) h = rw (h 0 x (omega arith)) (filter_nothing p xs (λ k d lt. h (suc k) d (omega arith)))

filter_all : (p : Rule → Bool) (xs : List Rule) → ((k : ℕ) (d : Rule) → k < length xs → p (get_or xs k d) ≡ true) → filter p xs ≡ xs
filter_all p [] h = refl
filter_all p (x ∷ xs) h = rw (h 0 x (omega arith)) (ap (x ∷◌) (filter_all p xs (λ k d lt. h (suc k) d (omega arith))))

-- what a search for the first element that fails a test gives
abbrev Parts : (Rule → Bool) → List Rule → ℕ → Type 0
Parts p rules i = IsPartitionPoint (λ y. p y ≡ true) (λ y. p y ≡ false) rules i

-- the rest of an ordered list is in order
pub in_order_rest : (i : ℕ) (rules : List Rule) → IsNonDecreasingBy (λ (r : Rule). r.id) rules → IsNonDecreasingBy (λ (r : Rule). r.id) (drop i rules)
in_order_rest i rules h = IsNonDecreasingBy-drop (λ (r : Rule). r.id) i rules h

own_front : (id : ℕ) (from : List Rule) (j : ℕ) → j ≤ length from → ((k : ℕ) (d : Rule) → k < length from → id ≤ (get_or from k d).id) → Parts (λ r. leb r.id id) from j → filter (λ (r : Rule). eqb r.id id) from ≡ take j from
own_front id from j le least parts =
    ap (filter (λ (r : Rule). eqb r.id id)) (sym (take-append-drop j from)) ∙ filter-append (λ (r : Rule). eqb r.id id) (take j from) (drop j from)
    ∙ rw (filter_all (λ r. eqb r.id id) (take j from) equal, filter_nothing (λ r. eqb r.id id) (drop j from) above) (append-nil (take j from))
  where
    equal : (k : ℕ) (d : Rule) → k < length (take j from) → eqb (get_or (take j from) k d).id id ≡ true
    equal k d lt =
        let within : k < j = omega (arith, length-take-le j from le) in
        let low = least k d (omega arith) in
        let high = leb-true _ _ (parts.0 k d (omega arith) within) in
        rw (get_or-take j from k d within) (eq-eqb _ _ (omega arith))

    above : (k : ℕ) (d : Rule) → k < length (drop j from) → eqb (get_or (drop j from) k d).id id ≡ false
    above k d lt =
        let over = leb-false _ _ (parts.1 (j + k) d (omega arith) (omega (arith, length-drop j from))) in
        rw (get_or-drop j from k d) (ne_eqb _ _ (λ e. omega arith))

-- two searches find the rules of a connection
pub own_part : (id : ℕ) (rules : List Rule) (i j : ℕ) → i ≤ length rules → Parts (λ r. ltb r.id id) rules i → j ≤ length (drop i rules) → Parts (λ r. leb r.id id) (drop i rules) j → take j (drop i rules) ≡ rules_of id rules
own_part id rules i j le below le' upto =
    sym (ap (filter (λ (r : Rule). eqb r.id id)) (sym (take-append-drop i rules)) ∙ filter-append (λ (r : Rule). eqb r.id id) (take i rules) (drop i rules)
    ∙ rw (filter_nothing (λ r. eqb r.id id) (take i rules) less) (own_front id (drop i rules) j le' least upto))
  where
    less : (k : ℕ) (d : Rule) → k < length (take i rules) → eqb (get_or (take i rules) k d).id id ≡ false
    less k d lt =
        let within : k < i = omega (arith, length-take-le i rules le) in
        let under = ltb-true _ _ (below.0 k d (omega arith) within) in
        rw (get_or-take i rules k d within) (ne_eqb _ _ (λ e. omega arith))

    least : (k : ℕ) (d : Rule) → k < length (drop i rules) → id ≤ (get_or (drop i rules) k d).id
    least k d lt =
        rw (get_or-drop i rules k d) (ltb-false _ _ (below.1 (i + k) d (omega arith) (omega (arith, length-drop i rules))))

-- behind the last rule whose id isn't above the new one's is the new one's place
pub put_at : (rule : Rule) (rules : List Rule) (i : ℕ) → i ≤ length rules → Parts (λ r. leb r.id rule.id) rules i → put_in_order comes_before rule rules ≡ insert rules i rule
put_at rule [] zero le parts = refl
put_at rule [] (suc i) le parts = absurd (omega arith)
put_at rule (x ∷ rules) zero le parts = rw (lt-ltb _ _ (leb-false x.id rule.id (parts.1 0 x (omega arith) (omega arith))), put_in_order) refl
put_at rule (x ∷ rules) (suc i) le parts =
    rw (le-ltb _ _ (leb-true x.id rule.id (parts.0 0 x (omega arith) (omega arith))), put_in_order)
    (ap (x ∷◌) (put_at rule rules i (omega arith) (λ k d low lt. parts.0 (suc k) d (omega arith) (omega arith), λ k d low lt. parts.1 (suc k) d (omega arith) (omega arith))))

-- and the table stays in order
pub put_in_place : (rule : Rule) (rules : List Rule) (i : ℕ) → i ≤ length rules → Parts (λ r. leb r.id rule.id) rules i → IsNonDecreasingBy (λ (r : Rule). r.id) rules → IsNonDecreasingBy (λ (r : Rule). r.id) (insert rules i rule)
put_in_place rule rules i le parts h =
    IsNonDecreasingBy-insert (λ (r : Rule). r.id) rules i rule h le (λ k d lt. leb-true _ _ (parts.0 k d (omega arith) lt)) (λ k d low lt. let over = leb-false _ _ (parts.1 k d low lt) in omega arith)
