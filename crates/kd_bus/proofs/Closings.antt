-- All passes came back.
use Rattle.std.specs.Prelude.{◌≡◌, ◌+◌, ℕ, zero, suc, All, Any, List, [], ◌∷◌, ◌++◌, drop, get_or, length, map, Option, refl}
use Rattle.std.specs.List.{AllByRecursion}
use Rattle.std.proofs.Common.{sym, ap, ◌∙◌, subst, arith, append_assoc}
use Rattle.std.proofs.lemmas.List.{append-nil, drop_more}
use mathlib.Core.Option.{some}
use lib.ListN.{get_elem?}
use Rattle.atomic_table.specs.Seated.{TableId}
use Rattle.kd_acts.specs.State.{Hold}
use Rattle.kd_turn.specs.Sight.{Sight}
use Rattle.kd_histories.specs.Turns.{Turn}
use Rattle.kd_histories.specs.Slots.{Slot, slot_of}
use Rattle.kd_bus.specs.declared.locked.Locked.{Locked}
use Rattle.kd_bus.specs.declared.locked.Locked.TheVariants as locked
use Rattle.kd_bus.specs.Closing.{IsPool, IsWhole, aimed, aims_of, bare, joined, pools_as_values}
use Rattle.kd_bus.specs.Sight.{BusSight, Rests}
use Rattle.kd_bus.specs.Values.{stands}

-- ---- the values

-- behind the locks of the pools are pools
pools_only : (lists : ℕ → List (ℕ × Turn)) (n : ℕ) (xs : List Locked) → ((l : ℕ) (x : Locked) → get_elem? xs l ≡ some x → stands (suc (n + l)) (lists (suc (n + l))) x)
    → AllByRecursion IsPool xs
pools_only lists n [] f = tt
pools_only lists n (x ∷ xs) f = (
  subst IsPool (sym (f zero x refl).0) tt,
  pools_only lists (suc n) xs (λ l y e. subst (λ k. stands (suc k) (lists (suc k)) y) (let same : n + suc l ≡ suc n + l = omega arith in same) (f (suc l) y e)),
)

pub whole : (lists : ℕ → List (ℕ × Turn)) (xs : List Locked) → length xs ≡ 65 → ((l : ℕ) (x : Locked) → get_elem? xs l ≡ some x → stands l (lists l) x) → IsWhole xs
whole lists [] long f = absurd (omega (arith, long))
whole lists (x ∷ xs) long f = record {
  slot = slot_of (lists 0);
  rest = xs;
  are = ap (λ y. y ∷ xs) (f zero x refl);
  pools = pools_only lists 0 xs (λ l y e. subst (λ k. stands (suc k) (lists (suc k)) y) (let same : l ≡ 0 + l = omega arith in same) (f (suc l) y e));
  count = omega (arith, long);
}

-- the pools among values, one by one
pub record Emptying (values rest : List Locked) (pools : List Hold) : Type 0 where
  pub made : pools_as_values pools ++ rest ≡ values
  pub only : AllByRecursion IsPool rest

as_values_more : (hs : List Hold) (h : Hold) → pools_as_values (hs ++ h ∷ []) ≡ pools_as_values hs ++ locked.Pool h ∷ []
as_values_more [] h = refl
as_values_more (x ∷ hs) h = ap (λ ys. locked.Pool x ∷ ys) (as_values_more hs h)

pub empties_more : (values was rest : List Locked) (pools : List Hold) (h : Hold) → was ≡ locked.Pool h ∷ rest → Emptying values was pools → Emptying values rest (pools ++ h ∷ [])
empties_more values was rest pools h cut it = record {
  made = ap (λ ys. ys ++ rest) (as_values_more pools h) ∙ (append_assoc (pools_as_values pools) (locked.Pool h ∷ []) rest ∙ (ap (λ ys. pools_as_values pools ++ ys) (sym cut) ∙ it.made));
  only = (subst (AllByRecursion IsPool) cut it.only).1;
}

pub no_desk : (values was rest : List Locked) (pools : List Hold) (s : Slot) → was ≡ locked.Desk s ∷ rest → Emptying values was pools → ⊥
no_desk values was rest pools s cut it = (subst (AllByRecursion IsPool) cut it.only).0

pub empties_all : (values rest : List Locked) (pools : List Hold) → rest ≡ [] → Emptying values rest pools → pools_as_values pools ≡ values
empties_all values rest pools none it = sym (append-nil (pools_as_values pools)) ∙ (ap (λ ys. pools_as_values pools ++ ys) (sym none) ∙ it.made)

-- ---- the passes

pub gates : (id : TableId) (xs : List BusSight) → All (λ (p : BusSight). p.gate ≡ id) xs → All (λ (p : Sight Turn). p.gate ≡ id) (map bare xs)
gates id [] a k d lt = absurd (omega (arith, lt))
gates id (x ∷ xs) a zero d lt = a zero x (omega arith)
gates id (x ∷ xs) a (suc k) d lt = gates id xs (λ i e l. a (suc i) e (omega (arith, l))) k d (omega (arith, lt))

pub nothing_held : (xs : List BusSight) → All (λ (p : Sight Turn). p.held ≡ []) (map bare xs)
nothing_held [] k d lt = absurd (omega (arith, lt))
nothing_held (x ∷ xs) zero d lt = refl
nothing_held (x ∷ xs) (suc k) d lt = nothing_held xs k d (omega (arith, lt))

bare_at : (xs : List BusSight) (k : ℕ) (d : BusSight) → get_or (map bare xs) k (bare d) ≡ bare (get_or xs k d)
bare_at [] k d = refl
bare_at (x ∷ xs) zero d = refl
bare_at (x ∷ xs) (suc k) d = bare_at xs k d

bare_long : (xs : List BusSight) → length (map bare xs) ≡ length xs
bare_long [] = refl
bare_long (x ∷ xs) = ap suc (bare_long xs)

pub named : (j : ℕ) (xs : List BusSight) → Any (λ (p : BusSight). p.view.name ≡ j) xs → Any (λ (p : Sight Turn). p.view.name ≡ j) (map bare xs)
named j xs a = let lt = a.2 in let long = bare_long xs in (a.0, bare a.1, omega (arith, lt, long), bare_at xs a.0 a.1 ∙ ap bare a.3, a.4)

pub views_same : (xs : List BusSight) → map (λ (p : Sight Turn). p.view) (map bare xs) ≡ map (λ (p : BusSight). p.view) xs
views_same [] = refl
views_same (x ∷ xs) = ap (λ vs. x.view ∷ vs) (views_same xs)

pub joined_same : (xs : List BusSight) → joined (map bare xs) (aims_of xs) ≡ xs
joined_same [] = refl
joined_same (x ∷ xs) = ap (λ ys. x ∷ ys) (joined_same xs)

-- the passes are parted one by one
pub record Parting (initial rest : List BusSight) (bares : List (Sight Turn)) (aims : List (Option ℕ)) : Type 0 where
  pub passes : bares ++ map bare rest ≡ map bare initial
  pub aims_are : aims ++ aims_of rest ≡ aims_of initial
  pub rests : AllByRecursion Rests bares

more_rests : (xs : List (Sight Turn)) (p : Sight Turn) → AllByRecursion Rests xs → Rests p → AllByRecursion Rests (xs ++ p ∷ [])
more_rests [] p a r = (r, tt)
more_rests (x ∷ xs) p a r = (a.0, more_rests xs p a.1 r)

pub parts_more : (initial was rest : List BusSight) (bares : List (Sight Turn)) (aims : List (Option ℕ)) (x : BusSight) (p : Sight Turn) (a : Option ℕ) → was ≡ x ∷ rest → p ≡ bare x → a ≡ x.aim → Rests p → Parting initial was bares aims
    → Parting initial rest (bares ++ p ∷ []) (aims ++ a ∷ [])
parts_more initial was rest bares aims x p a cut is aim r it = record {
  passes = append_assoc bares (p ∷ []) (map bare rest) ∙ (ap (λ q. bares ++ q ∷ map bare rest) is ∙ (ap (λ ys. bares ++ map bare ys) (sym cut) ∙ it.passes));
  aims_are = append_assoc aims (a ∷ []) (aims_of rest) ∙ (ap (λ q. aims ++ q ∷ aims_of rest) aim ∙ (ap (λ ys. aims ++ aims_of ys) (sym cut) ∙ it.aims_are));
  rests = more_rests bares p it.rests r;
}

pub parts_none : (initial rest : List BusSight) → rest ≡ initial → Parting initial rest [] []
parts_none initial rest same = record { passes = ap (map bare) same; aims_are = ap aims_of same; rests = tt }

pub parts_all : (initial rest : List BusSight) (bares : List (Sight Turn)) (aims : List (Option ℕ)) → rest ≡ [] → Parting initial rest bares aims → (bares ≡ map bare initial) × (aims ≡ aims_of initial)
parts_all initial rest bares aims none it = (
  sym (append-nil bares) ∙ (ap (λ ys. bares ++ map bare ys) (sym none) ∙ it.passes),
  sym (append-nil aims) ∙ (ap (λ ys. aims ++ aims_of ys) (sym none) ∙ it.aims_are),
)

-- and get their aims again
pub record Joining (initial rest : List (Sight Turn)) (aims : List (Option ℕ)) (all : List BusSight) (place : ℕ) : Type 0 where
  pub made : all ++ joined rest (drop place aims) ≡ joined initial aims
  pub left : place + length rest ≡ length aims
  pub rests : AllByRecursion Rests rest

pub joins_none : (initial rest : List (Sight Turn)) (aims : List (Option ℕ)) → rest ≡ initial → length initial ≡ length aims → AllByRecursion Rests initial → Joining initial rest aims [] 0
joins_none initial rest aims same long r = record {
  made = ap (λ ys. joined ys aims) same;
  left = let e = ap (λ (ys : List (Sight Turn)). length ys) same in omega (arith, e, long);
  rests = subst (AllByRecursion Rests) (sym same) r;
}

pub joins_more : (initial was rest : List (Sight Turn)) (aims : List (Option ℕ)) (all : List BusSight) (place : ℕ) (p : Sight Turn) (a : Option ℕ) → was ≡ p ∷ rest → a ≡ get_or aims place a → Joining initial was aims all place
    → Joining initial rest aims (all ++ aimed p a ∷ []) (place + 1)
joins_more initial was rest aims all place p a cut at it =
    let count = it.left in
    let long = ap (λ (ys : List (Sight Turn)). length ys) cut in
    let here : drop place aims ≡ a ∷ drop (place + 1) aims = drop_more aims place a (omega (arith, count, long)) ∙ ap (λ x. x ∷ drop (place + 1) aims) (sym at) in
    record {
      made = append_assoc all (aimed p a ∷ []) (joined rest (drop (place + 1) aims))
          ∙ (ap (λ xs. all ++ joined (p ∷ rest) xs) (sym here) ∙ (ap (λ ys. all ++ joined ys (drop place aims)) (sym cut) ∙ it.made));
      left = omega (arith, count, long);
      rests = (subst (AllByRecursion Rests) cut it.rests).1;
    }

pub this_rests : (was rest : List (Sight Turn)) (p : Sight Turn) → was ≡ p ∷ rest → AllByRecursion Rests was → Rests p
this_rests was rest p cut r = (subst (AllByRecursion Rests) cut r).0

pub joins_all : (initial rest : List (Sight Turn)) (aims : List (Option ℕ)) (all : List BusSight) (place : ℕ) → rest ≡ [] → Joining initial rest aims all place → all ≡ joined initial aims
joins_all initial rest aims all place none it = sym (append-nil all) ∙ (ap (λ ys. all ++ joined ys (drop place aims)) (sym none) ∙ it.made)
