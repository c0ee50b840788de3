-- A ring stays one where a number is put behind another, or taken out.
use Rattle.std.specs.Prelude.{◌≡◌, ◌≢◌, ◌<◌, ◌≤◌, ◌||◌, ℕ, Bool, true, false, not, List, [], ◌∷◌, Option, None, Some, length, nat_eq, cond, refl, slice_index}
use Rattle.std.specs.List.{AllByRecursion, IsDistinct}
use Rattle.std.proofs.Common.{ap, arith, eqb, set, sym, ◌∙◌, subst}
use Rattle.std.proofs.lemmas.Bool.{true≢false}
use Rattle.std.proofs.lemmas.Bool.Decides.{nat_tests}
use Rattle.std.proofs.lemmas.List.{get_or-set_same, get_or-set_other, length-set}
use Rattle.std.proofs.lemmas.Map.Steps.{length-le_from_distinct_below}
use Rattle.kd_model.proofs.Lists.{all_follow, all_of_filter}
use Rattle.kd_model.specs.Words.{contains}
use Rattle.kd_rings.specs.Rings.{AllBut, Apart, IsRing, Linked, before, behind, foremost, order, put_behind}
use Rattle.kd_rings.proofs.Linked.{IsPut, IsTakenOut, all_but, back_of, before_is, equal, forth_of, last_is, linked_kept, next_holds, out_linked, previous_holds, put_linked, tested, walk_is, without}

-- a number that is among some has what each of them has
pub holds_in : (P : ℕ → Type 0) (n : ℕ) (xs : List ℕ) → AllByRecursion P xs → contains n xs ≡ true → P n
holds_in P n [] a h = absurd (true≢false (sym h))
holds_in P n (x ∷ xs) a h = go (holds_in P n xs a.1) (nat_eq n x) refl h
  where
    go : (contains n xs ≡ true → P n) → (t : Bool) → nat_eq n x ≡ t → (t || contains n xs) ≡ true → P n
    go more true e h = subst P (sym (equal n x e)) a.0
    go more false e h = more h

distinct : (xs : List ℕ) → Apart xs → IsDistinct eqb xs
unfolding IsDistinct
distinct [] d = tt
distinct (x ∷ xs) d = (all_follow (λ k. k ≢ x) (λ k. eqb x k ≡ false) xs (λ k h. tested x k (λ e. h (sym e))) d.0, distinct xs d.1)

-- numbers that differ and are below another are at most as many
few : (xs : List ℕ) (n : ℕ) → Apart xs → AllByRecursion (λ k. k < n) xs → length xs ≤ n
few xs n d a = length-le_from_distinct_below xs n (distinct xs d) (λ q h. holds_in (λ k. k < n) q xs a h)

-- numbers that are linked from the head on are its ring
pub ring_of : (head : ℕ) (fs gs xs : List ℕ) → head < length fs → length gs ≡ length fs → Linked (slice_index fs) (slice_index gs) head xs head → Apart (head ∷ xs) → AllByRecursion (λ k. k < length fs) xs → IsRing head fs gs × (order head fs ≡ xs)
unfolding order
ring_of head fs gs xs inside both linked apart below =
    let most : length (head ∷ xs) ≤ length fs = few (head ∷ xs) (length fs) apart (inside, below) in
    let fuel : length xs ≤ length fs = omega arith in
    let same : order head fs ≡ xs = walk_is (length fs) (slice_index fs) (slice_index gs) head head xs linked apart.0 fuel in
    (record { inside = inside; both = both; linked = rw same linked; apart = rw same apart; below = rw same below }, same)

pub all_put : (P : ℕ → Type 0) (p n from : ℕ) (xs : List ℕ) → P n → AllByRecursion P xs → AllByRecursion P (put_behind p n from xs)
all_put P p n from [] h a = go (nat_eq from p)
  where
    go : (t : Bool) → AllByRecursion P (elim t [ true ↦ n ∷ [] | false ↦ [] ])
    go true = (h, tt)
    go false = tt
all_put P p n from (x ∷ xs) h a = go (all_put P p n x xs h a.1) (nat_eq from p)
  where
    go : AllByRecursion P (put_behind p n x xs) → (t : Bool) → AllByRecursion P (elim t [ true ↦ n ∷ x ∷ xs | false ↦ x ∷ put_behind p n x xs ])
    go more true = (h, a)
    go more false = (a.0, more)

pub apart_put : (p n from : ℕ) (xs : List ℕ) → Apart (from ∷ xs) → AllBut n (from ∷ xs) → Apart (from ∷ put_behind p n from xs)
apart_put p n from [] d b = (all_put (λ k. k ≢ from) p n from [] (λ e. b.0 (sym e)) tt, go (nat_eq from p))
  where
    go : (t : Bool) → Apart (elim t [ true ↦ n ∷ [] | false ↦ [] ])
    go true = (tt, tt)
    go false = tt
apart_put p n from (x ∷ xs) d b =
    (all_put (λ k. k ≢ from) p n from (x ∷ xs) (λ e. b.0 (sym e)) d.0, go (apart_put p n x xs d.1 b.1) (nat_eq from p))
  where
    go : Apart (x ∷ put_behind p n x xs) → (t : Bool) → Apart (elim t [ true ↦ n ∷ x ∷ xs | false ↦ x ∷ put_behind p n x xs ])
    go more true = (b.1, d.1)
    go more false = more

pub apart_without : (n : ℕ) (xs : List ℕ) → Apart xs → Apart (without n xs)
apart_without n [] d = tt
apart_without n (x ∷ xs) d = go (apart_without n xs d.1) (nat_eq x n)
  where
    go : Apart (without n xs) → (t : Bool) → Apart (cond (not t) (x ∷ without n xs) (without n xs))
    go more true = more
    go more false = (all_of_filter (λ k. k ≢ x) _ xs d.0, more)

is_put : (fs gs : List ℕ) (p n : ℕ) → p < length fs → n < length fs → slice_index fs p < length gs → n < length gs → n ≢ p → n ≢ slice_index fs p → slice_index gs (slice_index fs p) ≡ p → IsPut (slice_index fs) (slice_index gs) (slice_index (set (set fs n (slice_index fs p)) p n)) (slice_index (set (set gs n p) (slice_index fs p) n)) p n
is_put fs gs p n a b c d ne nq back =
    let q = slice_index fs p in
    record {
      fresh = ne;
      back = back;
      here = get_or-set_same (set fs n q) p n 0 (omega (arith, length-set fs n q));
      next = get_or-set_other (set fs n q) p n n 0 ne ∙ get_or-set_same fs n q 0 b;
      previous = get_or-set_other (set gs n p) q n n 0 nq ∙ get_or-set_same gs n p 0 d;
      after = get_or-set_same (set gs n p) q n 0 (omega (arith, length-set gs n p));
      others = λ k kp kn. get_or-set_other (set fs n q) p k n 0 kp ∙ get_or-set_other fs n k q 0 kn;
      before = λ k kq kn. get_or-set_other (set gs n p) q k n 0 kq ∙ get_or-set_other gs n k p 0 kn;
    }

-- a ring that a change leaves as it was
pub ring_kept : (head : ℕ) (fs gs fs' gs' : List ℕ) → IsRing head fs gs → length fs' ≡ length fs → length gs' ≡ length gs → AllByRecursion (λ k. slice_index fs' k ≡ slice_index fs k) (head ∷ order head fs) → AllByRecursion (λ k. slice_index gs' k ≡ slice_index gs k) (head ∷ order head fs) → IsRing head fs' gs' × (order head fs' ≡ order head fs)
ring_kept head fs gs fs' gs' r lf lg a b =
    let inside : head < length fs' = omega (arith, r.inside) in
    ring_of head fs' gs' (order head fs) inside (lg ∙ r.both ∙ sym lf) (linked_kept (slice_index fs) (slice_index gs) (slice_index fs') (slice_index gs') head (order head fs) head r.linked a b.1 b.0) r.apart (rw lf r.below)

-- a ring with one number more
pub put_ring : (head : ℕ) (fs gs : List ℕ) (p n : ℕ) → IsRing head fs gs → contains p (head ∷ order head fs) ≡ true → contains n (head ∷ order head fs) ≡ false → n < length fs → IsRing head (set (set fs n (slice_index fs p)) p n) (set (set gs n p) (slice_index fs p) n) × (order head (set (set fs n (slice_index fs p)) p n) ≡ put_behind p n head (order head fs))
put_ring head fs gs p n r at new inside =
    let xs = order head fs in
    let f = slice_index fs in let g = slice_index gs in
    let apart : AllBut n (head ∷ xs) = all_but n (head ∷ xs) new in
    let pin : p < length fs = holds_in (λ k. k < length fs) p (head ∷ xs) (r.inside, r.below) at in
    let qin : f p < length fs = next_holds (λ k. k < length fs) f g p head xs head r.linked at r.below r.inside in
    let qn : f p ≢ n = next_holds (λ k. k ≢ n) f g p head xs head r.linked at apart.1 apart.0 in
    let pn : p ≢ n = holds_in (λ k. k ≢ n) p (head ∷ xs) apart at in
    let both : length gs ≡ length fs = r.both in
    let w = is_put fs gs p n pin inside (omega arith) (omega arith) (λ e. pn (sym e)) (λ e. qn (sym e)) (back_of f g p head xs head r.linked at) in
    let len : length (set (set fs n (f p)) p n) ≡ length fs = length-set (set fs n (f p)) p n ∙ length-set fs n (f p) in
    let len' : length (set (set gs n p) (f p) n) ≡ length gs = length-set (set gs n p) (f p) n ∙ length-set gs n p in
    let linked = put_linked f g (slice_index (set (set fs n (f p)) p n)) (slice_index (set (set gs n p) (f p) n)) p n head xs head w r.linked r.apart apart apart.0 in
    ring_of head (set (set fs n (f p)) p n) (set (set gs n p) (f p) n) (put_behind p n head xs) (rw len r.inside) (len' ∙ both ∙ sym len) linked (apart_put p n head xs r.apart apart) (rw len (all_put (λ k. k < length fs) p n head xs inside r.below))

is_out : (fs gs : List ℕ) (n : ℕ) → slice_index gs n < length fs → slice_index fs n < length gs → slice_index fs (slice_index gs n) ≡ n → slice_index gs (slice_index fs n) ≡ n → IsTakenOut (slice_index fs) (slice_index gs) (slice_index (set fs (slice_index gs n) (slice_index fs n))) (slice_index (set gs (slice_index fs n) (slice_index gs n))) n
is_out fs gs n a b forth back =
    let p = slice_index gs n in let q = slice_index fs n in
    record {
      forth = forth;
      back = back;
      here = get_or-set_same fs p q 0 a;
      after = get_or-set_same gs q p 0 b;
      others = λ k kp kn. get_or-set_other fs p k q 0 kp;
      before = λ k kq kn. get_or-set_other gs q k p 0 kq;
    }

-- a number of the ring is one of the head and those behind it
pub later_in : (n head : ℕ) (xs : List ℕ) → contains n xs ≡ true → contains n (head ∷ xs) ≡ true
later_in n head xs h = go (nat_eq n head)
  where
    go : (t : Bool) → (t || contains n xs) ≡ true
    go true = refl
    go false = h

-- a ring without one of its numbers
pub out_ring : (head : ℕ) (fs gs : List ℕ) (n : ℕ) → IsRing head fs gs → contains n (order head fs) ≡ true → IsRing head (set fs (slice_index gs n) (slice_index fs n)) (set gs (slice_index fs n) (slice_index gs n)) × (order head (set fs (slice_index gs n) (slice_index fs n)) ≡ without n (order head fs))
out_ring head fs gs n r at =
    let xs = order head fs in
    let f = slice_index fs in let g = slice_index gs in
    let among = later_in n head xs at in
    let pin : g n < length fs = previous_holds (λ k. k < length fs) f g n head xs head r.linked at r.below r.inside in
    let qin : f n < length fs = next_holds (λ k. k < length fs) f g n head xs head r.linked among r.below r.inside in
    let both : length gs ≡ length fs = r.both in
    let hn : head ≢ n = λ e. holds_in (λ k. k ≢ head) n xs r.apart.0 at (sym e) in
    let w = is_out fs gs n pin (omega arith) (forth_of f g n head xs head r.linked at) (back_of f g n head xs head r.linked among) in
    let len : length (set fs (g n) (f n)) ≡ length fs = length-set fs (g n) (f n) in
    let len' : length (set gs (f n) (g n)) ≡ length gs = length-set gs (f n) (g n) in
    let linked = out_linked f g (slice_index (set fs (g n) (f n))) (slice_index (set gs (f n) (g n))) n head xs head w r.linked r.apart hn hn in
    ring_of head (set fs (g n) (f n)) (set gs (f n) (g n)) (without n xs) (rw len r.inside) (len' ∙ both ∙ sym len) linked (all_of_filter (λ k. k ≢ head) _ xs r.apart.0, apart_without n xs r.apart.1) (rw len (all_of_filter (λ k. k < length fs) _ xs r.below))

-- what is among some numbers and isn't the first is among the others
pub later : (p from : ℕ) (xs : List ℕ) → contains p (from ∷ xs) ≡ true → nat_eq from p ≡ false → contains p xs ≡ true
later p from xs h e = let other : nat_eq p from ≡ false = grind (arith, nat_tests) in rw other at h

-- a number, or none where it is the end
abbrev pub unless : ℕ → ℕ → Option ℕ
unless upto n = elim (nat_eq n upto) [ true ↦ None | false ↦ Some n ]

-- the number behind another, none at the end
pub front_is : (f g : ℕ → ℕ) (p from : ℕ) (xs : List ℕ) (upto : ℕ) → Linked f g from xs upto → contains p (from ∷ xs) ≡ true → AllBut upto xs → unless upto (f p) ≡ foremost (behind p from xs)
front_is f g p from [] upto l h a = go (nat_eq from p) refl
  where
    go : (t : Bool) → nat_eq from p ≡ t → unless upto (f p) ≡ None
    go true e =
        let same : f p ≡ upto = ap f (sym (equal from p e)) ∙ l.0 in
        let test : nat_eq (f p) upto ≡ true = grind (arith, nat_tests) in rw (test, unless) refl
    go false e = absurd (true≢false (sym (later p from [] h e)))
front_is f g p from (x ∷ xs) upto l h a = go (λ i. front_is f g p x xs upto l.2 i a.1) (nat_eq from p) refl
  where
    go : (contains p (x ∷ xs) ≡ true → unless upto (f p) ≡ foremost (behind p x xs)) → (t : Bool) → nat_eq from p ≡ t → unless upto (f p) ≡ foremost (elim t [ true ↦ x ∷ xs | false ↦ behind p x xs ])
    go more true e =
        let same : f p ≡ x = ap f (sym (equal from p e)) ∙ l.0 in
        let test : nat_eq (f p) upto ≡ false = tested (f p) upto (λ s. a.0 (sym same ∙ s)) in rw (test, unless) (ap Some same)
    go more false e = more (later p from (x ∷ xs) h e)

pub behind_first : (y : ℕ) (ys : List ℕ) → behind y y ys ≡ ys
behind_first y [] = refl
behind_first y (z ∷ zs) = let e : nat_eq y y ≡ true = grind (arith, nat_tests) in rw (e, behind) refl

-- a step behind a number: the next one is among them, and behind it stands the rest
pub record IsStep (p from x : ℕ) (xs rest : List ℕ) : Type 0 where
  pub among : contains x xs ≡ true
  pub left : behind x from xs ≡ rest

pub behind_step : (p from x : ℕ) (xs rest : List ℕ) → Apart (from ∷ xs) → behind p from xs ≡ x ∷ rest → IsStep p from x xs rest
behind_step p from x [] rest d e = cc
behind_step p from x (y ∷ ys) rest d e = go (behind_step p y x ys rest d.1) (nat_eq from p) e
  where
    later_here : (contains x (y ∷ ys) ≡ true) → behind x y ys ≡ rest → IsStep p from x (y ∷ ys) rest
    later_here h b =
        let apart : from ≢ x = λ s. holds_in (λ k. k ≢ from) x (y ∷ ys) d.0 h (sym s) in
        let test : nat_eq from x ≡ false = tested from x apart in
        record { among = h; left = rw (test, behind) b }

    go : (behind p y ys ≡ x ∷ rest → IsStep p y x ys rest) → (t : Bool) → elim t [ true ↦ y ∷ ys | false ↦ behind p y ys ] ≡ x ∷ rest → IsStep p from x (y ∷ ys) rest
    go more true h =
        let same : y ≡ x = cc in
        let left : ys ≡ rest = cc in
        let test : nat_eq x y ≡ true = grind (arith, nat_tests) in
        later_here (rw test refl) (ap (λ k. behind x k ys) same ∙ behind_first x ys ∙ left)
    go more false h = let s = more h in later_here (later_in x y ys s.among) s.left

-- where the numbers of a ring and those beside them lie
pub ring_inside : (head : ℕ) (fs gs : List ℕ) (p : ℕ) → IsRing head fs gs → contains p (head ∷ order head fs) ≡ true → p < length fs
ring_inside head fs gs p r h = holds_in (λ k. k < length fs) p (head ∷ order head fs) (r.inside, r.below) h

pub next_inside : (head : ℕ) (fs gs : List ℕ) (p : ℕ) → IsRing head fs gs → contains p (head ∷ order head fs) ≡ true → slice_index fs p < length fs
next_inside head fs gs p r h = next_holds (λ k. k < length fs) (slice_index fs) (slice_index gs) p head (order head fs) head r.linked h r.below r.inside

pub previous_inside : (head : ℕ) (fs gs : List ℕ) (p : ℕ) → IsRing head fs gs → contains p (order head fs) ≡ true → slice_index gs p < length fs
previous_inside head fs gs p r h = previous_holds (λ k. k < length fs) (slice_index fs) (slice_index gs) p head (order head fs) head r.linked h r.below r.inside

-- a ring names the number behind each, none behind the last, and the one before each
pub ring_front : (head : ℕ) (fs gs : List ℕ) (p : ℕ) → IsRing head fs gs → contains p (head ∷ order head fs) ≡ true → unless head (slice_index fs p) ≡ foremost (behind p head (order head fs))
ring_front head fs gs p r h = front_is (slice_index fs) (slice_index gs) p head (order head fs) head r.linked h r.apart.0

pub ring_before : (head : ℕ) (fs gs : List ℕ) (p : ℕ) → IsRing head fs gs → contains p (order head fs) ≡ true → slice_index gs p ≡ before p head (order head fs)
ring_before head fs gs p r h = before_is (slice_index fs) (slice_index gs) p head (order head fs) head r.linked h

pub ring_last : (head : ℕ) (fs gs : List ℕ) → IsRing head fs gs → slice_index gs head ≡ before head head (order head fs)
ring_last head fs gs r = last_is (slice_index fs) (slice_index gs) head (order head fs) head r.linked r.apart.0

-- the number before one of a ring, the last before the head
pub ring_before_all : (head : ℕ) (fs gs : List ℕ) (p : ℕ) → IsRing head fs gs → contains p (head ∷ order head fs) ≡ true → slice_index gs p ≡ before p head (order head fs)
ring_before_all head fs gs p r h = go (nat_eq head p) refl
  where
    go : (t : Bool) → nat_eq head p ≡ t → slice_index gs p ≡ before p head (order head fs)
    go true e = subst (λ k. slice_index gs k ≡ before k head (order head fs)) (equal head p e) (ring_last head fs gs r)
    go false e = ring_before head fs gs p r (later p head (order head fs) h e)

-- a head that names itself is a ring of it alone
pub ring_alone : (head : ℕ) (fs gs : List ℕ) → head < length fs → length gs ≡ length fs → slice_index fs head ≡ head → slice_index gs head ≡ head → IsRing head fs gs × (order head fs ≡ [])
ring_alone head fs gs inside both f g = ring_of head fs gs [] inside both (f, g) (tt, tt) tt

-- a step from a number to the one behind it
pub record IsFurther (at next head : ℕ) (xs : List ℕ) : Type 0 where
  pub among : contains next xs ≡ true
  pub rest : List ℕ
  pub was : behind at head xs ≡ next ∷ rest
  pub is : behind next head xs ≡ rest

front_some : (xs : List ℕ) (x : ℕ) → foremost xs ≡ Some x → (rest : List ℕ) × (xs ≡ x ∷ rest)
front_some [] x e = cc
front_some (y ∷ ys) x e = (ys, cc)

pub further : (at next head : ℕ) (xs : List ℕ) → Apart (head ∷ xs) → foremost (behind at head xs) ≡ Some next → IsFurther at next head xs
further at next head xs apart e =
    let r = front_some (behind at head xs) next e in
    let s = behind_step at head next xs r.0 apart r.1 in
    record { among = s.among; rest = r.0; was = r.1; is = s.left }

pub nearer : (at next head : ℕ) (xs : List ℕ) → IsFurther at next head xs → length (behind next head xs) < length (behind at head xs)
nearer at next head xs s = let a = ap length s.was in let b = ap length s.is in omega arith

pub front_none : (xs : List ℕ) → foremost xs ≡ None → xs ≡ []
front_none [] e = refl
front_none (y ∷ ys) e = cc
