-- From what each call of a pass told to what they tell together.
use Rattle.std.proofs.Common.{◌≡◌, ℕ, ◌/◌, ◌<◌, ◌≢◌, ◌==◌, ◌||◌, Bool, true, false, List, [], ◌∷◌, ◌++◌, eq-eqb, ne_eqb, sym, refl, ap, ◌∙◌, arith}
use mathlib.Core.Logic.{dite}
use native.Mathlib.Decide.{ℕ_discrete}
use Rattle.kd_hands.specs.declared.views.Part.{Part}
use Rattle.kd_hands.specs.declared.views.View.{View}
use Rattle.kd_hands.specs.Views.{part}
use Rattle.kd_hands.specs.Lists.{is_word_of, was_swept, has_mark}
use Rattle.kd_hands.specs.Locks.{Locks}
use Rattle.kd_turn.specs.Told.{Took, Passed, DidSweep}
use Rattle.kd_hands.proofs.Entries.{opened_on}
use Rattle.kd_toy_bus.specs.declared.act.Slip.{Slip}
use Rattle.kd_toy_bus.specs.declared.locked.Locked.{Locked}
use Rattle.kd_toy_bus.specs.declared.act.Act.{Act}
use Rattle.kd_toy_bus.specs.Bus.{Adds, slip_act, sits, is_seated}
use Rattle.kd_toy_bus.proofs.Laws.{seated_snoc}

abbrev rest_of : List ℕ → List ℕ
rest_of [] = []
rest_of (x ∷ xs) = xs

-- two locks were taken, and put back
pub none_held : (l : ℕ) (h h₁ h₂ h₃ h₄ h₅ : List ℕ) → h ≡ [] → h₁ ≡ 0 ∷ h → h₂ ≡ l ∷ h₁ → h₃ ≡ h₂ → h₃ ≡ l ∷ h₄ → h₄ ≡ 0 ∷ h₅ → h₅ ≡ []
none_held l h h₁ h₂ h₃ h₄ h₅ a b c d e f =
    let four : h₄ ≡ h₁ = ap rest_of (sym e ∙ (d ∙ c)) in
    ap rest_of (sym f ∙ (four ∙ b)) ∙ a

-- the four words of a sweep have the word of each number
pub each_word : (p : Part Slip) (q : Part Slip) (a b c d : ℕ) → p ≡ record q { swept = q.swept ++ (0, a) ∷ (1, b) ∷ (2, c) ∷ (3, d) ∷ [] } → q.swept ≡ [] → (n : ℕ) → n < 256 → is_word_of n p.swept ≡ true
each_word p q a b c d is bare n lt =
    let swept : p.swept ≡ (0, a) ∷ (1, b) ∷ (2, c) ∷ (3, d) ∷ [] = ap (λ (z : Part Slip). z.swept) is ∙ ap (λ xs. xs ++ (0, a) ∷ (1, b) ∷ (2, c) ∷ (3, d) ∷ []) bare in
    ap (is_word_of n) swept ∙ one (n / 64) (omega arith)
  where
    one : (k : ℕ) → k < 4 → ((0 == k) || ((1 == k) || ((2 == k) || ((3 == k) || false)))) ≡ true
    one k small = dite (ℕ_discrete 0 k) (λ z. ap (λ t. t || ((1 == k) || ((2 == k) || ((3 == k) || false)))) (eq-eqb 0 k z))
        (λ z. ap (λ t. t || ((1 == k) || ((2 == k) || ((3 == k) || false)))) (ne_eqb 0 k z) ∙ dite (ℕ_discrete 1 k) (λ y. ap (λ t. t || ((2 == k) || ((3 == k) || false))) (eq-eqb 1 k y))
        (λ y. ap (λ t. t || ((2 == k) || ((3 == k) || false))) (ne_eqb 1 k y) ∙ dite (ℕ_discrete 2 k) (λ x. ap (λ t. t || ((3 == k) || false)) (eq-eqb 2 k x))
        (λ x. ap (λ t. t || ((3 == k) || false)) (ne_eqb 2 k x) ∙ ap (λ t. t || false) (eq-eqb 3 k (omega arith)))))

-- number 200 stands in the last of the four words
pub last_word : (p : Part Slip) (q : Part Slip) (a b c d : ℕ) → p ≡ record q { swept = q.swept ++ (0, a) ∷ (1, b) ∷ (2, c) ∷ (3, d) ∷ [] } → q.swept ≡ [] → was_swept 200 p.swept ≡ has_mark 200 d
last_word p q a b c d is bare =
    let swept : p.swept ≡ (0, a) ∷ (1, b) ∷ (2, c) ∷ (3, d) ∷ [] = ap (λ (z : Part Slip). z.swept) is ∙ ap (λ xs. xs ++ (0, a) ∷ (1, b) ∷ (2, c) ∷ (3, d) ∷ []) bare in
    ap (was_swept 200) swept ∙ alone (has_mark 200 d)
  where
    alone : (b : Bool) → (b || false) ≡ b
    alone true = refl
    alone false = refl

-- the desk and the lock l are taken, the pool is swept and put, and the desk is put
module _ (stands : ℕ → List (ℕ × Slip) → Locked → Type 0) (fact : Locks Slip → Type 0) (after : ℕ → Slip → (ℕ → List ℕ) → ℕ → List ℕ) (l : ℕ) (far : l ≢ 0) (x y : Locked) (e f : Slip) (found : List ℕ) (v v₁ v₂ v₃ v₄ v₅ : View Slip)
    (one : Took stands fact 0 v v₁ x) (two : Took stands fact l v₁ v₂ y) (swept : DidSweep l found v₂ v₃) (put : Passed after l e v₃ v₄) (idle : (k : ℕ) → (part v k).holds ≡ false) where
  near : 0 ≢ l
  near z = far (sym z)

  pub desk_after : part v₃ 0 ≡ part v₁ 0
  desk_after = swept.others 0 near ∙ two.others 0 near

  pub desk_held : (part v₃ 0).holds ≡ true
  desk_held = ap (λ (p : Part Slip). p.holds) desk_after ∙ one.holds

  pub desk_put : part v₄ 0 ≡ part v₁ 0
  desk_put = put.others 0 near ∙ desk_after

  pub pool_held : (part v₃ l).holds ≡ true
  pool_held = ap (λ (p : Part Slip). p.holds) swept.here ∙ two.holds

  pub opened_is : v₄.opened ≡ (l, v₃.name, e) ∷ []
  opened_is = put.opened ∙ (opened_on l (v₃.name, e) (part v₃ 0).holds v₃.opened far desk_held ∙ ap (λ xs. xs ++ (l, v₃.name, e) ∷ []) (swept.opened ∙ (two.opened ∙ one.shut (idle 0))))

  module _ (left : Passed after 0 f v₄ v₅) where
    pub idle_again : (k : ℕ) → (part v₅ k).holds ≡ false
    idle_again k = dite (ℕ_discrete k 0)
        (λ z. ap (λ (i : ℕ). (part v₅ i).holds) z ∙ ap (λ (p : Part Slip). p.holds) left.here)
        (λ n. ap (λ (p : Part Slip). p.holds) (left.others k n) ∙ dite (ℕ_discrete k l)
        (λ z. ap (λ (i : ℕ). (part v₄ i).holds) z ∙ ap (λ (p : Part Slip). p.holds) put.here)
        (λ m. ap (λ (p : Part Slip). p.holds) (put.others k m ∙ (swept.others k m ∙ (two.others k m ∙ one.others k n))) ∙ idle k))

    pub own_is : (part v₅ 0).own ≡ (part v 0).own ++ (v₄.name, f) ∷ []
    own_is = ap (λ (p : Part Slip). p.own) left.here ∙ ap (λ xs. xs ++ (v₄.name, f) ∷ []) (ap (λ (p : Part Slip). p.own) desk_put ∙ one.own)

    pub seen_is : (part v₅ 0).seen ≡ (part v₁ 0).seen ++ (v₄.name, f) ∷ []
    seen_is = ap (λ (p : Part Slip). p.seen) left.here ∙ ap (λ xs. xs ++ (v₄.name, f) ∷ []) (ap (λ (p : Part Slip). p.seen) desk_put)

    pub desk_adds : (a : Act) → slip_act f ≡ a → Adds 0 a v v₅
    desk_adds a says = record { entry = f; says = says; own = own_is ∙ ap (λ (n : ℕ). (part v 0).own ++ (n, f) ∷ []) (put.name ∙ (swept.name ∙ (two.name ∙ one.name))) }

    pub pool_adds : (a : Act) → slip_act e ≡ a → Adds l a v v₅
    pool_adds a says = record {
      entry = e;
      says = says;
      own = ap (λ (p : Part Slip). p.own) (left.others l far ∙ put.here) ∙ (ap (λ xs. xs ++ (v₃.name, e) ∷ []) (ap (λ (p : Part Slip). p.own) swept.here ∙ (two.own ∙ ap (λ (p : Part Slip). p.own) (one.others l far)))
          ∙ ap (λ (n : ℕ). (part v l).own ++ (n, e) ∷ []) (swept.name ∙ (two.name ∙ one.name)));
    }

-- the desk and the lock l are taken, the pool is put, and the desk is put
module _ (stands : ℕ → List (ℕ × Slip) → Locked → Type 0) (fact : Locks Slip → Type 0) (after : ℕ → Slip → (ℕ → List ℕ) → ℕ → List ℕ) (l : ℕ) (far : l ≢ 0) (x y : Locked) (e f : Slip) (v v₁ v₂ v₃ v₄ : View Slip)
    (one : Took stands fact 0 v v₁ x) (two : Took stands fact l v₁ v₂ y) (put : Passed after l e v₂ v₃) (idle : (k : ℕ) → (part v k).holds ≡ false) where
  pub desk_still : part v₃ 0 ≡ part v₁ 0
  desk_still = put.others 0 (λ z. far (sym z)) ∙ two.others 0 (λ z. far (sym z))

  pub opened_by : v₃.opened ≡ (l, v₂.name, e) ∷ []
  opened_by =
      let held : (part v₂ 0).holds ≡ true = ap (λ (p : Part Slip). p.holds) (two.others 0 (λ z. far (sym z))) ∙ one.holds in
      put.opened ∙ (opened_on l (v₂.name, e) (part v₂ 0).holds v₂.opened far held ∙ ap (λ xs. xs ++ (l, v₂.name, e) ∷ []) (two.opened ∙ one.shut (idle 0)))

  module _ (left : Passed after 0 f v₃ v₄) where
    pub idle_left : (k : ℕ) → (part v₄ k).holds ≡ false
    idle_left k = dite (ℕ_discrete k 0)
        (λ z. ap (λ (i : ℕ). (part v₄ i).holds) z ∙ ap (λ (p : Part Slip). p.holds) left.here)
        (λ n. ap (λ (p : Part Slip). p.holds) (left.others k n) ∙ dite (ℕ_discrete k l)
        (λ z. ap (λ (i : ℕ). (part v₃ i).holds) z ∙ ap (λ (p : Part Slip). p.holds) put.here)
        (λ m. ap (λ (p : Part Slip). p.holds) (put.others k m ∙ (two.others k m ∙ one.others k n)) ∙ idle k))

    pub own_left : (part v₄ 0).own ≡ (part v 0).own ++ (v₃.name, f) ∷ []
    own_left = ap (λ (p : Part Slip). p.own) left.here ∙ ap (λ xs. xs ++ (v₃.name, f) ∷ []) (ap (λ (p : Part Slip). p.own) desk_still ∙ one.own)

    pub desk_gave : (a : Act) → slip_act f ≡ a → Adds 0 a v v₄
    desk_gave a says = record { entry = f; says = says; own = own_left ∙ ap (λ (n : ℕ). (part v 0).own ++ (n, f) ∷ []) (put.name ∙ (two.name ∙ one.name)) }

    pub pool_gave : (a : Act) → slip_act e ≡ a → Adds l a v v₄
    pool_gave a says = record {
      entry = e;
      says = says;
      own = ap (λ (p : Part Slip). p.own) (left.others l far ∙ put.here) ∙ (ap (λ xs. xs ++ (v₂.name, e) ∷ []) (two.own ∙ ap (λ (p : Part Slip). p.own) (one.others l far)) ∙ ap (λ (n : ℕ). (part v l).own ++ (n, e) ∷ []) (two.name ∙ one.name));
    }

-- one entry on the desk more
pub seated_after : (c : ℕ) (own own' : List (ℕ × Slip)) (x : ℕ × Slip) → own' ≡ own ++ x ∷ [] → is_seated c own' ≡ sits c (slip_act x.1) (is_seated c own)
seated_after c own own' x is = ap (is_seated c) is ∙ seated_snoc c false own x

-- a lock was taken, and put back
pub put_back : (l : ℕ) (h before now : List ℕ) → h ≡ l ∷ before → h ≡ l ∷ now → now ≡ before
put_back l h before now was is = ap rest_of (sym is ∙ was)

-- one lock is taken and put
pub alone_adds : (stands : ℕ → List (ℕ × Slip) → Locked → Type 0) (fact : Locks Slip → Type 0) (after : ℕ → Slip → (ℕ → List ℕ) → ℕ → List ℕ) (l : ℕ) (a : Act) (x : Locked) (e : Slip) (v v₁ v₂ : View Slip) → Took stands fact l v v₁ x → Passed after l e v₁ v₂ → slip_act e ≡ a → Adds l a v v₂
alone_adds stands fact after l a x e v v₁ v₂ took put says = record {
  entry = e;
  says = says;
  own = ap (λ (p : Part Slip). p.own) put.here ∙ (ap (λ xs. xs ++ (v₁.name, e) ∷ []) took.own ∙ ap (λ (n : ℕ). (part v l).own ++ (n, e) ∷ []) took.name);
}
