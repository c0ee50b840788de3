-- A connection that has sealed has a counter, and counts on.
use Rattle.std.proofs.Common.{◌≡◌, ℕ, ◌+◌, Bool, true, false, not, ◌||◌, cond, List, [], ◌∷◌, ◌++◌, Option, Some, None, refl, ap, ◌∙◌}
use Rattle.std.specs.List.{find, list_any}
use Rattle.std.proofs.lemmas.Bool.{eq-eqb}
use Rattle.kd_model.specs.Words.{but_those}
use Rattle.kd_seal.specs.declared.seals.Counter.{Counter}
use Rattle.kd_seal.specs.Book.{SealBook, counts, has_counted, next_in, next_number, with_seal}

-- what went behind the others is the first to pass
found_behind : {X : Type 0} (test : X → Bool) (x : X) (xs : List X) → test x ≡ true → find test (but_those test xs ++ x ∷ []) ≡ Some x
found_behind test x [] h = rw h refl
found_behind test x (y ∷ ys) h = one (found_behind test x ys h) (test y) refl
  where
    one : find test (but_those test ys ++ x ∷ []) ≡ Some x → (t : Bool) → test y ≡ t → find test (cond (not t) (y ∷ but_those test ys) (but_those test ys) ++ x ∷ []) ≡ Some x
    one rest true e = rest
    one rest false e = rw e rest

passes_behind : {X : Type 0} (test : X → Bool) (x : X) (xs : List X) → test x ≡ true → list_any test (xs ++ x ∷ []) ≡ true
passes_behind test x [] h = rw h refl
passes_behind test x (y ∷ ys) h = one (passes_behind test x ys h) (test y)
  where
    one : list_any test (ys ++ x ∷ []) ≡ true → (t : Bool) → (t || list_any test (ys ++ x ∷ [])) ≡ true
    one rest true = refl
    one rest false = rest

-- the number behind the one that was given
pub next_behind : (before after : List Counter) (id next : ℕ) → after ≡ but_those (counts id) before ++ record { id = id; next = next } ∷ [] → next_in after id ≡ next
next_behind before after id next is = ap (λ (cs : List Counter). next_in cs id) is ∙ ap (λ (o : Option Counter). elim o [ Some c ↦ c.next | None ↦ 1 ]) (found_behind (counts id) (record { id = id; next = next }) before (eq-eqb id id refl))

pub has_counter : (b : SealBook) (id : ℕ) (bytes : List ℕ) → has_counted (with_seal b id bytes) id ≡ true
has_counter b id bytes = passes_behind (counts id) (record { id = id; next = next_number b id + 1 }) (but_those (counts id) b.counters) (eq-eqb id id refl)
