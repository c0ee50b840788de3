-- Who lives among some connections: after one comes, after some go, and where one is found.
use Rattle.std.proofs.Common.{◌≡◌, ℕ, ◌<◌, Bool, true, false, cond, List, [], ◌∷◌, Some, None, refl, sym, ap, ◌∙◌}
use Rattle.std.specs.Prelude.{◌==◌, ◌||◌, ◌&&◌, not, filter}
use Rattle.std.specs.List.{AllByRecursion, IsDistinct}
use Rattle.std.proofs.lemmas.Bool.{and_from, and_left, and_parts, eq-eqb, eqb-true, not-true, or_left, or_right}
use Rattle.std.proofs.lemmas.Map.Views.{any-filter_same}
use Rattle.kd_model.specs.Words.{first, put_in_order, some_of}
use Rattle.kd_model.proofs.Lists.{all_follow}
use Rattle.kd_replies.specs.Requests.{is_among}
use Rattle.kd_commands.specs.declared.conn.Conn.{Conn}
use Rattle.kd_commands.specs.State.{has_id, sits_before}
use Rattle.kd_commands.proofs.Finds.{all_that_pass, passes_none, some_of_put}
use Rattle.kd_settled.specs.Owners.{lives}

-- ---- one more

pub lives_on : (test : Conn → Bool) (c : Conn) (cs : List Conn) (id : ℕ) → lives test cs id ≡ true → lives test (put_in_order sits_before c cs) id ≡ true
lives_on test c cs id h =
    some_of_put (λ (x : Conn). has_id id x && test x) sits_before c cs ∙ or_right (has_id id c && test c) (lives test cs id) h

pub lives_then : (test : Conn → Bool) (c : Conn) (cs : List Conn) → test c ≡ true → lives test (put_in_order sits_before c cs) c.id ≡ true
lives_then test c cs h =
    some_of_put (λ (x : Conn). has_id c.id x && test x) sits_before c cs
    ∙ or_left (has_id c.id c && test c) (lives test cs c.id) (and_from (has_id c.id c) (test c) (eq-eqb c.id c.id refl) h)

-- ---- some fewer

-- those that aren't among some
abbrev pub staying : List ℕ → List Conn → List Conn
staying ids cs = filter (λ (c : Conn). not (is_among ids c.id)) cs

pub lives_without : (test : Conn → Bool) (ids : List ℕ) (cs : List Conn) (id : ℕ) → lives test (staying ids cs) id ≡ (not (is_among ids id) && lives test cs id)
lives_without test ids cs id =
    any-filter_same (λ (c : Conn). has_id id c && test c) (λ (c : Conn). not (is_among ids c.id)) (not (is_among ids id))
    (λ c e. ap (λ n. not (is_among ids n)) (eqb-true c.id id (and_parts (has_id id c) (test c) e).0)) cs

pub lives_still : (test : Conn → Bool) (ids : List ℕ) (cs : List Conn) (id : ℕ) → lives test cs id ≡ true → is_among ids id ≡ false → lives test (staying ids cs) id ≡ true
lives_still test ids cs id h other = lives_without test ids cs id ∙ and_from (not (is_among ids id)) (lives test cs id) (ap not other) h

-- ---- who is found

-- what holds of the ids of all holds of whoever lives
pub lives_holds : (P : ℕ → Type 0) (test : Conn → Bool) (cs : List Conn) (id : ℕ) → AllByRecursion (λ (c : Conn). P c.id) cs → lives test cs id ≡ true → P id
lives_holds P test [] id a h = absurd cc
lives_holds P test (c ∷ cs) id a h = go (has_id id c && test c) refl h (λ m. lives_holds P test cs id a.1 m)
  where
    go : (b : Bool) → (has_id id c && test c) ≡ b → (b || lives test cs id) ≡ true → (lives test cs id ≡ true → P id) → P id
    go true e more ih = rw (eqb-true c.id id (and_parts (has_id id c) (test c) e).0) at a.0
    go false e more ih = ih more

-- whoever is found lives, and passes what it passes
pub found_lives : (test p : Conn → Bool) (cs : List Conn) (c : Conn) → first p cs ≡ Some c → test c ≡ true → lives test cs c.id ≡ true
found_lives test p [] c e h = absurd cc
found_lives test p (x ∷ xs) c e h = go (p x) e (λ m. found_lives test p xs c m h)
  where
    go : (b : Bool) → cond b (Some x) (first p xs) ≡ Some c → (first p xs ≡ Some c → lives test xs c.id ≡ true) → lives test (x ∷ xs) c.id ≡ true
    go true same ih =
        let one : x ≡ c = cc in
        or_left (has_id c.id x && test x) (lives test xs c.id) (rw one (and_from (has_id c.id c) (test c) (eq-eqb c.id c.id refl) h))
    go false more ih = or_right (has_id c.id x && test x) (lives test xs c.id) (ih more)

-- nobody else has the id of one
none_again : (test : Conn → Bool) (x : Conn) (xs : List Conn) (id : ℕ) → has_id id x ≡ true → AllByRecursion (λ (y : Conn). (x.id == y.id) ≡ false) xs → lives test xs id ≡ false
none_again test x xs id is a =
    passes_none (λ (y : Conn). has_id id y && test y) xs
    (all_follow (λ (y : Conn). (x.id == y.id) ≡ false) (λ (y : Conn). (has_id id y && test y) ≡ false) xs
    (λ y h. and_left (has_id id y) (test y) (go y h (has_id id y) refl)) a)
  where
    go : (y : Conn) → (x.id == y.id) ≡ false → (b : Bool) → has_id id y ≡ b → has_id id y ≡ false
    go y h false e = e
    go y h true e = absurd (let same : (x.id == y.id) ≡ true = eq-eqb x.id y.id (eqb-true x.id id is ∙ sym (eqb-true y.id id e)) in cc)

-- where ids are those of one connection each
pub lives_found :
    (test : Conn → Bool) (cs : List Conn) (id : ℕ) → IsDistinct (λ (a b : Conn). a.id == b.id) cs → lives test cs id ≡ true
    → (c : Conn) × (first (has_id id) cs ≡ Some c) × (test c ≡ true)
unfolding IsDistinct
lives_found test [] id own h = absurd cc
lives_found test (x ∷ xs) id own h = go (has_id id x) refl h (λ m. lives_found test xs id own.1 m)
  where
    here : (b : Bool) → (b || false) ≡ true → b ≡ true
    here true e = refl
    here false e = e

    go : (b : Bool) → has_id id x ≡ b → ((b && test x) || lives test xs id) ≡ true
        → (lives test xs id ≡ true → (c : Conn) × (first (has_id id) xs ≡ Some c) × (test c ≡ true))
        → (c : Conn) × (cond b (Some x) (first (has_id id) xs) ≡ Some c) × (test c ≡ true)
    go true is e ih = (x, refl, here (test x) (ap (λ b. test x || b) (sym (none_again test x xs id is own.0)) ∙ e))
    go false is e ih = ih e

-- whoever is found passes
pub found_is :
    (test : Conn → Bool) (cs : List Conn) (id : ℕ) (c : Conn) → IsDistinct (λ (a b : Conn). a.id == b.id) cs → first (has_id id) cs ≡ Some c
    → lives test cs id ≡ true → test c ≡ true
found_is test cs id c own e h =
    let f = lives_found test cs id own h in
    let same : f.0 ≡ c = cc in
    ap test (sym same) ∙ f.2

pub lives_weaker : (test other : Conn → Bool) → ((c : Conn) → test c ≡ true → other c ≡ true) → (cs : List Conn) (id : ℕ) → lives test cs id ≡ true → lives other cs id ≡ true
lives_weaker test other more [] id h = h
lives_weaker test other more (c ∷ cs) id h = go (has_id id c && test c) refl h (λ m. lives_weaker test other more cs id m)
  where
    go : (b : Bool) → (has_id id c && test c) ≡ b → (b || lives test cs id) ≡ true
        → (lives test cs id ≡ true → lives other cs id ≡ true) → lives other (c ∷ cs) id ≡ true
    go true e rest ih =
        let p = and_parts (has_id id c) (test c) e in
        or_left (has_id id c && other c) (lives other cs id) (and_from (has_id id c) (other c) p.0 (more c p.1))
    go false e rest ih = or_right (has_id id c && other c) (lives other cs id) (ih rest)
