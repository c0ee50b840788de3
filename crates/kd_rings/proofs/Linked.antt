-- What stays linked where a number is put behind another, or taken out.
use Rattle.std.specs.Prelude.{◌≡◌, ◌≢◌, ◌≤◌, ◌==◌, ◌||◌, ℕ, Bool, true, false, not, List, [], ◌∷◌, length, nat_eq, cond, refl}
use Rattle.std.specs.List.{AllByRecursion}
use Rattle.std.proofs.Common.{ap, arith, sym, ◌∙◌, subst, suc, zero}
use Rattle.std.proofs.lemmas.Bool.{true≢false}
use Rattle.std.proofs.lemmas.Bool.Decides.{nat_tests}
use Rattle.kd_model.specs.Words.{but_those, contains}
use Rattle.kd_rings.specs.Rings.{AllBut, Apart, Linked, before, put_behind, walk}

pub differ : (a b : ℕ) → nat_eq a b ≡ false → a ≢ b
differ a b e = λ same. grind (arith, nat_tests)

pub equal : (a b : ℕ) → nat_eq a b ≡ true → a ≡ b
equal a b e = grind (arith, nat_tests)

pub tested : (a b : ℕ) → a ≢ b → nat_eq a b ≡ false
tested a b h = grind (arith, nat_tests)

pub itself : (a : ℕ) → nat_eq a a ≡ true
itself a = grind (arith, nat_tests)

-- what isn't among some numbers differs from each
pub all_but : (n : ℕ) (xs : List ℕ) → contains n xs ≡ false → AllBut n xs
all_but n [] e = tt
all_but n (x ∷ xs) e = go (nat_eq n x) refl (all_but n xs) e
  where
    go : (b : Bool) → nat_eq n x ≡ b → (contains n xs ≡ false → AllBut n xs) → (b || contains n xs) ≡ false → AllBut n (x ∷ xs)
    go true e f h = absurd (true≢false h)
    go false e f h = (λ same. differ n x e (sym same), f h)

-- and what differs from each isn't among them
pub not_in : (n : ℕ) (xs : List ℕ) → AllBut n xs → contains n xs ≡ false
not_in n [] a = refl
not_in n (x ∷ xs) a = let e : nat_eq n x ≡ false = tested n x (λ same. a.0 (sym same)) in rw e (not_in n xs a.1)

-- what is among some numbers is none that differs from each
pub other_than : (n k : ℕ) (xs : List ℕ) → contains n xs ≡ true → AllBut k xs → k ≢ n
other_than n k xs h a = λ same. true≢false (sym h ∙ not_in n xs (subst (λ m. AllBut m xs) same a))

-- a number put in: what is behind and before each number afterwards
pub record IsPut (f g f' g' : ℕ → ℕ) (place new : ℕ) : Type 0 where
  pub fresh : new ≢ place
  pub back : g (f place) ≡ place
  pub here : f' place ≡ new
  pub next : f' new ≡ f place
  pub previous : g' new ≡ place
  pub after : g' (f place) ≡ new
  pub others : (k : ℕ) → k ≢ place → k ≢ new → f' k ≡ f k
  pub before : (k : ℕ) → k ≢ f place → k ≢ new → g' k ≡ g k

-- what doesn't meet the place stays linked
put_apart : (f g f' g' : ℕ → ℕ) (p n from : ℕ) (xs : List ℕ) (upto : ℕ) → IsPut f g f' g' p n → Linked f g from xs upto → AllBut p (from ∷ xs) → AllBut n (from ∷ xs) → upto ≢ n → Linked f' g' from xs upto
put_apart f g f' g' p n from [] upto w l a b h =
    let other : upto ≢ f p = λ e. a.0 (sym l.1 ∙ ap g e ∙ w.back) in
    (w.others from a.0 b.0 ∙ l.0, w.before upto other h ∙ l.1)
put_apart f g f' g' p n from (x ∷ xs) upto w l a b h =
    let other : x ≢ f p = λ e. a.0 (sym l.1 ∙ ap g e ∙ w.back) in
    (w.others from a.0 b.0 ∙ l.0, w.before x other b.1.0 ∙ l.1, put_apart f g f' g' p n x xs upto w l.2 a.1 b.1 h)

put_here : (f g f' g' : ℕ → ℕ) (n from : ℕ) (xs : List ℕ) (upto : ℕ) → IsPut f g f' g' from n → Linked f g from xs upto → AllBut from xs → AllBut n xs → upto ≢ n → Linked f' g' from (n ∷ xs) upto
put_here f g f' g' n from [] upto w l a b h =
    (w.here, w.previous, (w.next ∙ l.0, ap g' (sym l.0) ∙ w.after))
put_here f g f' g' n from (x ∷ xs) upto w l a b h =
    (w.here, w.previous, (w.next ∙ l.0, ap g' (sym l.0) ∙ w.after, put_apart f g f' g' from n x xs upto w l.2 a b h))

-- numbers stay linked with one more
pub put_linked : (f g f' g' : ℕ → ℕ) (p n from : ℕ) (xs : List ℕ) (upto : ℕ) → IsPut f g f' g' p n → Linked f g from xs upto → Apart (from ∷ xs) → AllBut n (from ∷ xs) → upto ≢ n → Linked f' g' from (put_behind p n from xs) upto
put_linked f g f' g' p n from [] upto w l d b h = go (nat_eq from p) refl
  where
    go : (t : Bool) → nat_eq from p ≡ t → Linked f' g' from (elim t [ true ↦ n ∷ [] | false ↦ [] ]) upto
    go true e = put_here f g f' g' n from [] upto (subst (λ q. IsPut f g f' g' q n) (sym (equal from p e)) w) l tt tt h
    go false e = put_apart f g f' g' p n from [] upto w l (differ from p e, tt) b h
put_linked f g f' g' p n from (x ∷ xs) upto w l d b h =
    go (put_linked f g f' g' p n x xs upto w l.2 d.1 b.1 h) (nat_eq from p) refl
  where
    go : Linked f' g' x (put_behind p n x xs) upto → (t : Bool) → nat_eq from p ≡ t → Linked f' g' from (elim t [ true ↦ n ∷ x ∷ xs | false ↦ x ∷ put_behind p n x xs ]) upto
    go more true e = put_here f g f' g' n from (x ∷ xs) upto (subst (λ q. IsPut f g f' g' q n) (sym (equal from p e)) w) l d.0 b.1 h
    go more false e =
        let other : x ≢ f p = λ s. differ from p e (sym l.1 ∙ ap g s ∙ w.back) in
        (w.others from (differ from p e) b.0 ∙ l.0, w.before x other b.1.0 ∙ l.1, more)

-- a number taken out: what is behind and before each number afterwards
pub record IsTakenOut (f g f' g' : ℕ → ℕ) (gone : ℕ) : Type 0 where
  pub forth : f (g gone) ≡ gone
  pub back : g (f gone) ≡ gone
  pub here : f' (g gone) ≡ f gone
  pub after : g' (f gone) ≡ g gone
  pub others : (k : ℕ) → k ≢ g gone → k ≢ gone → f' k ≡ f k
  pub before : (k : ℕ) → k ≢ f gone → k ≢ gone → g' k ≡ g k

abbrev pub without : ℕ → List ℕ → List ℕ
without n xs = but_those (λ k. k == n) xs

pub all_stay : (n : ℕ) (xs : List ℕ) → AllBut n xs → without n xs ≡ xs
all_stay n [] a = refl
all_stay n (x ∷ xs) a = let e : nat_eq x n ≡ false = tested x n a.0 in rw e (ap (x ∷◌) (all_stay n xs a.1))

-- what doesn't meet the number before stays linked
out_apart : (f g f' g' : ℕ → ℕ) (n from : ℕ) (xs : List ℕ) (upto : ℕ) → IsTakenOut f g f' g' n → Linked f g from xs upto → AllBut (g n) (from ∷ xs) → AllBut n (from ∷ xs) → upto ≢ n → Linked f' g' from xs upto
out_apart f g f' g' n from [] upto w l a b h =
    let other : upto ≢ f n = λ e. b.0 (sym l.1 ∙ ap g e ∙ w.back) in
    (w.others from a.0 b.0 ∙ l.0, w.before upto other h ∙ l.1)
out_apart f g f' g' n from (x ∷ xs) upto w l a b h =
    let other : x ≢ f n = λ e. b.0 (sym l.1 ∙ ap g e ∙ w.back) in
    (w.others from a.0 b.0 ∙ l.0, w.before x other b.1.0 ∙ l.1, out_apart f g f' g' n x xs upto w l.2 a.1 b.1 h)

out_here : (f g f' g' : ℕ → ℕ) (n from : ℕ) (xs : List ℕ) (upto : ℕ) → IsTakenOut f g f' g' n → from ≡ g n → Linked f g n xs upto → AllBut from xs → AllBut n xs → upto ≢ n → Linked f' g' from xs upto
out_here f g f' g' n from [] upto w e l a b h = (ap f' e ∙ w.here ∙ l.0, ap g' (sym l.0) ∙ w.after ∙ sym e)
out_here f g f' g' n from (x ∷ xs) upto w e l a b h =
    (ap f' e ∙ w.here ∙ l.0, ap g' (sym l.0) ∙ w.after ∙ sym e, out_apart f g f' g' n x xs upto w l.2 (subst (λ m. AllBut m (x ∷ xs)) e a) b h)

-- numbers stay linked without one
pub out_linked : (f g f' g' : ℕ → ℕ) (n from : ℕ) (xs : List ℕ) (upto : ℕ) → IsTakenOut f g f' g' n → Linked f g from xs upto → Apart (from ∷ xs) → from ≢ n → upto ≢ n → Linked f' g' from (without n xs) upto
out_linked f g f' g' n from [] upto w l d a h =
    let here : from ≢ g n = λ e. h (sym l.0 ∙ ap f e ∙ w.forth) in
    let other : upto ≢ f n = λ e. a (sym l.1 ∙ ap g e ∙ w.back) in
    (w.others from here a ∙ l.0, w.before upto other h ∙ l.1)
out_linked f g f' g' n from (x ∷ xs) upto w l d a h =
    go (λ apart. out_linked f g f' g' n x xs upto w l.2 d.1 apart h) (nat_eq x n) refl
  where
    go : (x ≢ n → Linked f' g' x (without n xs) upto) → (t : Bool) → nat_eq x n ≡ t → Linked f' g' from (cond (not t) (x ∷ without n xs) (without n xs)) upto
    go more true e =
        let same : x ≡ n = equal x n e in
        let apart : AllBut n xs = subst (λ m. AllBut m xs) same d.1.0 in
        let linked : Linked f g n xs upto = subst (λ m. Linked f g m xs upto) same l.2 in
        rw (all_stay n xs apart) (out_here f g f' g' n from xs upto w (sym l.1 ∙ ap g same) linked d.0.1 apart h)
    go more false e =
        let apart : x ≢ n = differ x n e in
        let here : from ≢ g n = λ s. apart (sym l.0 ∙ ap f s ∙ w.forth) in
        let other : x ≢ f n = λ s. a (sym l.1 ∙ ap g s ∙ w.back) in
        (w.others from here a ∙ l.0, w.before x other apart ∙ l.1, more apart)

-- linked numbers are what a walk meets
pub walk_is : (fuel : ℕ) (f g : ℕ → ℕ) (head from : ℕ) (xs : List ℕ) → Linked f g from xs head → AllBut head xs → length xs ≤ fuel → walk fuel f head from ≡ xs
walk_is zero f g head from [] l a h = refl
walk_is zero f g head from (x ∷ xs) l a h = absurd (omega arith)
walk_is (suc n) f g head from [] l a h = rw (walk, l.0, itself head) refl
walk_is (suc n) f g head from (x ∷ xs) l a h =
    let e : nat_eq (f from) head ≡ false = ap (λ k. nat_eq k head) l.0 ∙ tested x head a.0 in
    rw (walk, e) (ap (λ k. k ∷ walk n f head k) l.0 ∙ ap (x ∷◌) (walk_is n f g head x xs l.2 a.1 (omega arith)))

-- the number behind another names it back
pub back_of : (f g : ℕ → ℕ) (p from : ℕ) (xs : List ℕ) (upto : ℕ) → Linked f g from xs upto → contains p (from ∷ xs) ≡ true → g (f p) ≡ p
back_of f g p from [] upto l h = go (nat_eq p from) refl h
  where
    go : (t : Bool) → nat_eq p from ≡ t → (t || false) ≡ true → g (f p) ≡ p
    go true e h = let same = equal p from e in ap (λ q. g (f q)) same ∙ ap g l.0 ∙ l.1 ∙ sym same
    go false e h = absurd (true≢false (sym h))
back_of f g p from (x ∷ xs) upto l h = go (back_of f g p x xs upto l.2) (nat_eq p from) refl h
  where
    go : (contains p (x ∷ xs) ≡ true → g (f p) ≡ p) → (t : Bool) → nat_eq p from ≡ t → (t || contains p (x ∷ xs)) ≡ true → g (f p) ≡ p
    go more true e h = let same = equal p from e in ap (λ q. g (f q)) same ∙ ap g l.0 ∙ l.1 ∙ sym same
    go more false e h = more h

-- the number before another names it
pub forth_of : (f g : ℕ → ℕ) (p from : ℕ) (xs : List ℕ) (upto : ℕ) → Linked f g from xs upto → contains p xs ≡ true → f (g p) ≡ p
forth_of f g p from [] upto l h = absurd (true≢false (sym h))
forth_of f g p from (x ∷ xs) upto l h = go (forth_of f g p x xs upto l.2) (nat_eq p x) refl h
  where
    go : (contains p xs ≡ true → f (g p) ≡ p) → (t : Bool) → nat_eq p x ≡ t → (t || contains p xs) ≡ true → f (g p) ≡ p
    go more true e h = let same = equal p x e in ap (λ q. f (g q)) same ∙ ap f l.1 ∙ l.0 ∙ sym same
    go more false e h = more h

-- what holds of the last and of each between holds of the number behind one of them
pub next_holds : (P : ℕ → Type 0) (f g : ℕ → ℕ) (p from : ℕ) (xs : List ℕ) (upto : ℕ) → Linked f g from xs upto → contains p (from ∷ xs) ≡ true → AllByRecursion P xs → P upto → P (f p)
next_holds P f g p from [] upto l h a q = go (nat_eq p from) refl h
  where
    go : (t : Bool) → nat_eq p from ≡ t → (t || false) ≡ true → P (f p)
    go true e h = subst P (sym (ap f (equal p from e) ∙ l.0)) q
    go false e h = absurd (true≢false (sym h))
next_holds P f g p from (x ∷ xs) upto l h a q = go (λ i. next_holds P f g p x xs upto l.2 i a.1 q) (nat_eq p from) refl h
  where
    go : (contains p (x ∷ xs) ≡ true → P (f p)) → (t : Bool) → nat_eq p from ≡ t → (t || contains p (x ∷ xs)) ≡ true → P (f p)
    go more true e h = subst P (sym (ap f (equal p from e) ∙ l.0)) a.0
    go more false e h = more h

-- what holds of the first and of each between holds of the number before one of them
pub previous_holds : (P : ℕ → Type 0) (f g : ℕ → ℕ) (p from : ℕ) (xs : List ℕ) (upto : ℕ) → Linked f g from xs upto → contains p xs ≡ true → AllByRecursion P xs → P from → P (g p)
previous_holds P f g p from [] upto l h a q = absurd (true≢false (sym h))
previous_holds P f g p from (x ∷ xs) upto l h a q = go (λ i. previous_holds P f g p x xs upto l.2 i a.1 a.0) (nat_eq p x) refl h
  where
    go : (contains p xs ≡ true → P (g p)) → (t : Bool) → nat_eq p x ≡ t → (t || contains p xs) ≡ true → P (g p)
    go more true e h = subst P (sym (ap g (equal p x e) ∙ l.1)) q
    go more false e h = more h

-- numbers that a change leaves as they were stay linked
pub linked_kept : (f g f' g' : ℕ → ℕ) (from : ℕ) (xs : List ℕ) (upto : ℕ) → Linked f g from xs upto → AllByRecursion (λ k. f' k ≡ f k) (from ∷ xs) → AllByRecursion (λ k. g' k ≡ g k) xs → g' upto ≡ g upto → Linked f' g' from xs upto
linked_kept f g f' g' from [] upto l a b e = (a.0 ∙ l.0, e ∙ l.1)
linked_kept f g f' g' from (x ∷ xs) upto l a b e = (a.0 ∙ l.0, b.0 ∙ l.1, linked_kept f g f' g' x xs upto l.2 a.1 b.1 e)

-- the number before one of them, and the last, which stands before the end
pub before_is : (f g : ℕ → ℕ) (p from : ℕ) (xs : List ℕ) (upto : ℕ) → Linked f g from xs upto → contains p xs ≡ true → g p ≡ before p from xs
before_is f g p from [] upto l h = absurd (true≢false (sym h))
before_is f g p from (x ∷ xs) upto l h = go (before_is f g p x xs upto l.2) (nat_eq x p) refl
  where
    go : (contains p xs ≡ true → g p ≡ before p x xs) → (t : Bool) → nat_eq x p ≡ t → g p ≡ elim t [ true ↦ from | false ↦ before p x xs ]
    go more true e = ap g (sym (equal x p e)) ∙ l.1
    go more false e = let other : nat_eq p x ≡ false = grind (arith, nat_tests) in more (rw other at h)

pub last_is : (f g : ℕ → ℕ) (from : ℕ) (xs : List ℕ) (upto : ℕ) → Linked f g from xs upto → AllBut upto xs → g upto ≡ before upto from xs
last_is f g from [] upto l a = l.1
last_is f g from (x ∷ xs) upto l a = let other : nat_eq x upto ≡ false = tested x upto a.0 in rw (before, other) (last_is f g x xs upto l.2 a.1)
