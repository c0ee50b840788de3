-- Passes that went into threads and came back.
use Rattle.std.proofs.Common.{◌≡◌, ℕ, zero, suc, ◌<◌, List, [], ◌∷◌, ◌++◌, length, length-append, get_or, subst, sym, refl, ap, ◌∙◌, arith}
use Rattle.std.specs.Prelude.{All, Any}
use mathlib.Core.Option.{some, some-injective, some-ne-none}
use lib.ListN.{get_elem?}
use Rattle.kd_hands.specs.declared.views.Part.{Part}
use Rattle.kd_turn.specs.Sight.{GateSight, Sight}
use Rattle.kd_toy_bus.specs.Rests.{AreBack, AreNew, IsNew, Rests}

-- an element at each place
pub found : {A : Type 0} (xs : List A) (j : ℕ) → j < length xs → (x : A) × (get_or xs j x ≡ x)
found [] j lt = absurd (omega arith)
found (x ∷ xs) zero lt = (x, refl)
found (x ∷ xs) (suc j) lt = found xs j (omega arith)

at_index : {A : Type 0} (xs : List A) (i : ℕ) (a : A) → i < length xs → a ≡ get_or xs i a → get_elem? xs i ≡ some a
at_index [] i a lt is = absurd (omega arith)
at_index (x ∷ xs) zero a lt is = ap some (sym is)
at_index (x ∷ xs) (suc i) a lt is = at_index xs i a (omega arith) is

pub new_rests : {E : Type 0} (gate : GateSight) (k : ℕ) (p : Sight E) → IsNew gate k p → Rests gate p
new_rests {E} gate k p new = record { same = new.same; held = new.held; holds = λ l. ap (λ (q : Part E). q.holds) (new.fresh.parts l) }

module _ {E : Type 0} (gate : GateSight) (passes : List (Sight E)) where
  pub new_at : AreNew gate passes → (i : ℕ) (x : Sight E) → i < length passes → x ≡ get_or passes i x → IsNew gate i x
  new_at new i x lt is = new.each i x (at_index passes i x lt is)

  module _ (back : AreBack gate passes) where
    pub same_gate : All (λ p. p.gate ≡ gate.id) passes
    same_gate k d lt = (back.each k d lt).0.same

    pub all_idle : All (λ p. p.held ≡ []) passes
    all_idle k d lt = (back.each k d lt).0.held

    pub every : (j : ℕ) → j < gate.passes → Any (λ p. p.view.name ≡ j) passes
    every j lt =
        let long = back.count in
        let near : j < length passes = omega arith in
        let f = found passes j near in
        (j, f.0, near, f.1, ap (λ (p : Sight E). p.view.name) (sym f.1) ∙ (back.each j f.0 near).1)

-- what holds of all holds at each place
pub each_at : {A : Type 0} (P : A → Type 0) (xs : List A) → All P xs → (k : ℕ) (x : A) → get_elem? xs k ≡ some x → P x
each_at P [] all k x is = absurd (some-ne-none x (sym is))
each_at P (y ∷ ys) all zero x is = subst P (some-injective y x is) (all 0 y (omega arith))
each_at P (y ∷ ys) all (suc k) x is = each_at P ys (λ i d lt. all (suc i) d (omega arith)) k x is

-- the last element, and the one before
at_last : {A : Type 0} (xs : List A) (x : A) (n : ℕ) → length xs ≡ n → get_elem? (xs ++ x ∷ []) n ≡ some x
at_last [] x zero e = refl
at_last [] x (suc n) e = absurd (omega arith)
at_last (y ∷ ys) x zero e = absurd (omega arith)
at_last (y ∷ ys) x (suc n) e = at_last ys x n (omega arith)

at_longer : {A : Type 0} (xs ys : List A) (k : ℕ) (x : A) → get_elem? xs k ≡ some x → get_elem? (xs ++ ys) k ≡ some x
at_longer [] ys k x is = absurd (some-ne-none x (sym is))
at_longer (y ∷ xs) ys zero x is = is
at_longer (y ∷ xs) ys (suc k) x is = at_longer xs ys k x is

module _ {E : Type 0} (gate : GateSight) where
  pub last_new : (all before : List (Sight E)) (x : Sight E) (n : ℕ) → all ≡ before ++ x ∷ [] → length all ≡ suc n → AreNew gate all → IsNew gate n x
  last_new all before x n is count new =
      let long = ap length is ∙ length-append before (x ∷ []) in
      new.each n x (ap (λ (l : List (Sight E)). get_elem? l n) is ∙ at_last before x n (omega arith))

  pub before_last : (all before less : List (Sight E)) (x y : Sight E) (n : ℕ) → all ≡ before ++ x ∷ [] → before ≡ less ++ y ∷ [] → length all ≡ suc (suc n) → AreNew gate all → IsNew gate n y
  before_last all before less x y n is was count new =
      let long = ap length is ∙ length-append before (x ∷ []) in
      let short = ap length was ∙ length-append less (y ∷ []) in
      new.each n y (ap (λ (l : List (Sight E)). get_elem? l n) is ∙ at_longer before (x ∷ []) n y (ap (λ (l : List (Sight E)). get_elem? l n) was ∙ at_last less y n (omega arith)))

  pub two_back : (a b : Sight E) → gate.passes ≡ 2 → Rests gate a → a.view.name ≡ 0 → Rests gate b → b.view.name ≡ 1 → AreBack gate (a ∷ b ∷ [])
  two_back a b two ra na rb nb = record { count = sym two; each = each }
    where
      each : (k : ℕ) (d : Sight E) → k < 2 → Rests gate (get_or (a ∷ b ∷ []) k d) × ((get_or (a ∷ b ∷ []) k d).view.name ≡ k)
      each zero d lt = (ra, na)
      each (suc zero) d lt = (rb, nb)
      each (suc (suc k)) d lt = absurd (omega arith)
