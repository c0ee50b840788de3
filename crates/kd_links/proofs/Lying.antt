-- The gaps that nodes have are those of the book, and stay so with one slice more or less.
use Rattle.std.specs.Prelude.{◌≡◌, ◌≢◌, ◌<◌, ◌≤◌, ◌+◌, ◌-◌, ◌||◌, ℕ, Bool, true, false, not, List, [], ◌∷◌, ◌++◌, Option, Some, None, cond, filter, map, nat_eq, nat_le, nat_lt, refl}
use Rattle.std.specs.List.{AllByRecursion, find}
use Rattle.std.proofs.Common.{ap, arith, inl, inr, sym, ◌∙◌, subst}
use Rattle.std.proofs.lemmas.Bool.{true≢false}
use Rattle.std.proofs.lemmas.Bool.Decides.{nat_tests}
use Rattle.kd_model.proofs.Least.{all_of_least}
use Rattle.kd_model.proofs.Lists.{all_follow, all_of_append, found_passes}
use Rattle.kd_model.specs.Slices.{AreInOrder, best_gap, between, gaps, gaps_from, is_better, slice_end}
use Rattle.kd_model.specs.Words.{AnyOf, contains, least, those}
use Rattle.kd_model.specs.declared.placed.Gap.{Gap}
use Rattle.kd_model.specs.declared.placed.Placed.{Placed}
use Rattle.kd_model.specs.declared.slice_no.TheConstants.{SLICES}
use Rattle.kd_rings.specs.Rings.{AllBut, Apart, before, put_behind}
use Rattle.kd_links.specs.Chains.{Chained}
use Rattle.kd_links.specs.Filed.{AreBehind, IsFiled, Rising, first_fit, fits, lying, no_gap, rank}
use Rattle.kd_links.specs.Kept.{IsBinned, IsKept, chain_book, slice_of, slices_of}
use Rattle.kd_rings.specs.declared.heads.TheConstants.{START}
use Rattle.kd_links.specs.declared.node.TheConstants.{GAPS, MARKS}
use Rattle.kd_links.proofs.Books.{numbers_below}
use Rattle.kd_links.proofs.Filed.{not_itself}
use Rattle.kd_rings.proofs.Linked.{all_stay, differ, equal, itself, without}
use Rattle.kd_rings.proofs.Ends.{before_among}
use Rattle.kd_rings.proofs.Rings.{holds_in, later, later_in}
use Rattle.kd_slices.proofs.Walks.{ends_within}

-- ---- gaps and nodes

-- a node among some has the gap
abbrev pub Has : (ℕ → Gap) → List ℕ → Gap → Type 0
Has r xs g = (n : ℕ) × (contains n xs ≡ true) × (r (GAPS + n) ≡ g)

has_later : (r : ℕ → Gap) (x : ℕ) (xs : List ℕ) (g : Gap) → Has r xs g → Has r (x ∷ xs) g
has_later r x xs g h = (h.0, later_in h.0 x xs h.1, h.2)

one_has : (r : ℕ → Gap) (n from upto : ℕ) (xs : List ℕ) → r (GAPS + n) ≡ lying from upto → AllByRecursion (Has r (n ∷ xs)) (between from upto)
one_has r n from upto xs h = go (nat_lt from upto) h
  where
    go : (t : Bool) → r (GAPS + n) ≡ elim t [ true ↦ record { start = from; len = upto - from } | false ↦ no_gap ] → AllByRecursion (Has r (n ∷ xs)) (elim t [ true ↦ record { start = from; len = upto - from } ∷ [] | false ↦ [] ])
    go true e = ((n, rw (itself n) refl, e), tt)
    go false e = tt

-- each gap of the book is that of a node
pub each_has : (r : ℕ → Gap) (f : ℕ → Placed) (size at n : ℕ) (xs : List ℕ) → AreBehind r f size at n xs → AllByRecursion (Has r (n ∷ xs)) (gaps_from at size (map f xs))
each_has r f size at n [] h = one_has r n at size [] h
each_has r f size at n (x ∷ xs) h =
    all_of_append (Has r (n ∷ x ∷ xs)) (between at (f x).offset) (gaps_from (slice_end (f x)) size (map f xs))
    (one_has r n at (f x).offset (x ∷ xs) h.0)
    (all_follow (Has r (x ∷ xs)) (Has r (n ∷ x ∷ xs)) (gaps_from (slice_end (f x)) size (map f xs)) (λ g k. has_later r n (x ∷ xs) g k) (each_has r f size (slice_end (f x)) x xs h.1))

any_left : (P : Gap → Type 0) (xs ys : List Gap) → AnyOf P xs → AnyOf P (xs ++ ys)
any_left P [] ys a = absurd a
any_left P (x ∷ xs) ys (inl p) = inl p
any_left P (x ∷ xs) ys (inr a) = inr (any_left P xs ys a)

any_right : (P : Gap → Type 0) (xs ys : List Gap) → AnyOf P ys → AnyOf P (xs ++ ys)
any_right P [] ys a = a
any_right P (x ∷ xs) ys a = inr (any_right P xs ys a)

one_is : (g : Gap) (from upto : ℕ) → g ≡ lying from upto → 0 < g.len → AnyOf (λ h. h ≡ g) (between from upto)
one_is g from upto e some = go (nat_lt from upto) e
  where
    go : (t : Bool) → g ≡ elim t [ true ↦ record { start = from; len = upto - from } | false ↦ no_gap ] → AnyOf (λ h. h ≡ g) (elim t [ true ↦ record { start = from; len = upto - from } ∷ [] | false ↦ [] ])
    go true e = inl (sym e)
    go false e = let none : g.len ≡ 0 = ap (λ (g : Gap). g.len) e in absurd (omega arith)

-- each node's gap of some bytes is one of the book
pub node_is : (r : ℕ → Gap) (f : ℕ → Placed) (size at n k : ℕ) (xs : List ℕ) → AreBehind r f size at n xs → contains k (n ∷ xs) ≡ true → 0 < (r (GAPS + k)).len → AnyOf (λ h. h ≡ r (GAPS + k)) (gaps_from at size (map f xs))
node_is r f size at n k [] h i some = go (nat_eq n k) refl
  where
    go : (t : Bool) → nat_eq n k ≡ t → AnyOf (λ h. h ≡ r (GAPS + k)) (between at size)
    go true e = one_is (r (GAPS + k)) at size (ap (λ m. r (GAPS + m)) (sym (equal n k e)) ∙ h) some
    go false e = absurd (true≢false (sym (later k n [] i e)))
node_is r f size at n k (x ∷ xs) h i some = go (λ j. node_is r f size (slice_end (f x)) x k xs h.1 j some) (nat_eq n k) refl
  where
    go : (contains k (x ∷ xs) ≡ true → AnyOf (λ h. h ≡ r (GAPS + k)) (gaps_from (slice_end (f x)) size (map f xs))) → (t : Bool) → nat_eq n k ≡ t → AnyOf (λ h. h ≡ r (GAPS + k)) (between at (f x).offset ++ gaps_from (slice_end (f x)) size (map f xs))
    go more true e = any_left (λ h. h ≡ r (GAPS + k)) (between at (f x).offset) _ (one_is (r (GAPS + k)) at (f x).offset (ap (λ m. r (GAPS + m)) (sym (equal n k e)) ∙ h.0) some)
    go more false e = any_right (λ h. h ≡ r (GAPS + k)) (between at (f x).offset) _ (more (later k n (x ∷ xs) i e))

-- ---- the best gap

-- gaps of one rank are one gap
same_rank : (g h : Gap) → is_better g h ≡ false → is_better h g ≡ false → g ≡ h
same_rank g h a b =
    let P : ℕ → ℕ → Gap = λ s l. record { start = s; len = l } in
    let len : g.len ≡ h.len = grind (arith, nat_tests) in
    let start : g.start ≡ h.start = grind (arith, nat_tests) in
    ap (λ s. P s g.len) start ∙ ap (P h.start) len

-- one of some gaps that no other ranks below is the least
least_is : (y : Gap) (xs : List Gap) → AllByRecursion (λ g. is_better g y ≡ false) xs → AnyOf (λ g. g ≡ y) xs → least is_better xs ≡ Some y
least_is y [] a h = absurd h
least_is y (x ∷ xs) a (inl e) = go (least is_better xs) refl
  where
    go : (o : Option Gap) → least is_better xs ≡ o → elim o [ None ↦ Some x | Some z ↦ elim (is_better z x) [ true ↦ Some z | false ↦ Some x ] ] ≡ Some y
    go None q = ap Some e
    go (Some z) q =
        let no_better : is_better z x ≡ false = ap (is_better z) e ∙ all_of_least (λ g. is_better g y ≡ false) is_better xs z a.1 q in
        rw no_better (ap Some e)
least_is y (x ∷ xs) a (inr h) = rw (least_is y xs a.1 h) (go (is_better y x) refl)
  where
    go : (t : Bool) → is_better y x ≡ t → elim t [ true ↦ Some y | false ↦ Some x ] ≡ Some y
    go true e = refl
    go false e = ap Some (same_rank x y a.0 e)

any_kept : (p : Gap → Bool) (y : Gap) (xs : List Gap) → p y ≡ true → AnyOf (λ g. g ≡ y) xs → AnyOf (λ g. g ≡ y) (filter p xs)
any_kept p y [] h a = absurd a
any_kept p y (x ∷ xs) h (inl e) = let passes : p x ≡ true = ap p e ∙ h in rw passes (inl e)
any_kept p y (x ∷ xs) h (inr a) = go (any_kept p y xs h a) (p x)
  where
    go : AnyOf (λ g. g ≡ y) (filter p xs) → (t : Bool) → AnyOf (λ g. g ≡ y) (cond t (x ∷ filter p xs) (filter p xs))
    go more true = inr more
    go more false = more

none_kept : (p : Gap → Bool) (xs : List Gap) → AllByRecursion (λ g. p g ≡ false) xs → filter p xs ≡ []
none_kept p [] a = refl
none_kept p (x ∷ xs) a = rw a.0 (none_kept p xs a.1)

all_kept : (P : Gap → Type 0) (p : Gap → Bool) (xs : List Gap) → AllByRecursion (λ g. p g ≡ true → P g) xs → AllByRecursion P (filter p xs)
all_kept P p [] a = tt
all_kept P p (x ∷ xs) a = go (all_kept P p xs a.1) (p x) refl
  where
    go : AllByRecursion P (filter p xs) → (t : Bool) → p x ≡ t → AllByRecursion P (cond t (x ∷ filter p xs) (filter p xs))
    go more true e = (a.0 e, more)
    go more false e = more

-- where none is found, each fails
none_found : (p : ℕ → Bool) (k : ℕ) (xs : List ℕ) → find p xs ≡ None → contains k xs ≡ true → p k ≡ false
none_found p k [] e h = absurd (true≢false (sym h))
none_found p k (x ∷ xs) e h = go (none_found p k xs) (p x) refl e
  where
    here : (find p xs ≡ None → contains k xs ≡ true → p k ≡ false) → p x ≡ false → find p xs ≡ None → (t : Bool) → nat_eq k x ≡ t → (t || contains k xs) ≡ true → p k ≡ false
    here more f n true q i = ap p (equal k x q) ∙ f
    here more f n false q i = more n i

    go : (find p xs ≡ None → contains k xs ≡ true → p k ≡ false) → (t : Bool) → p x ≡ t → cond t (Some x) (find p xs) ≡ None → p k ≡ false
    go more true f n = cc
    go more false f n = here more f n (nat_eq k x) refl h

-- what is found in order ranks above none that passes
found_is_least : (r : ℕ → Gap) (p : ℕ → Bool) (k j : ℕ) (xs : List ℕ) → Rising r xs → find p xs ≡ Some k → contains j xs ≡ true → p j ≡ true → is_better (r j) (r k) ≡ false
found_is_least r p k j [] s e h q = cc
found_is_least r p k j (x ∷ xs) s e h q = go (found_is_least r p k j xs s.1) (p x) refl e
  where
    first : x ≡ k → (t : Bool) → nat_eq j x ≡ t → (t || contains j xs) ≡ true → is_better (r j) (r k) ≡ false
    first same true a i = ap (λ m. is_better (r m) (r k)) (equal j x a ∙ same) ∙ not_itself (r k)
    first same false a i = ap (λ m. is_better (r j) (r m)) (sym same) ∙ holds_in (λ m. is_better (r m) (r x) ≡ false) j xs s.0 i

    further : (find p xs ≡ Some k → contains j xs ≡ true → p j ≡ true → is_better (r j) (r k) ≡ false) → p x ≡ false → find p xs ≡ Some k → (t : Bool) → nat_eq j x ≡ t → (t || contains j xs) ≡ true → is_better (r j) (r k) ≡ false
    further more f e true a i = absurd (true≢false (sym q ∙ ap p (equal j x a) ∙ f))
    further more f e false a i = more e i q

    go : (find p xs ≡ Some k → contains j xs ≡ true → p j ≡ true → is_better (r j) (r k) ≡ false) → (t : Bool) → p x ≡ t → cond t (Some x) (find p xs) ≡ Some k → is_better (r j) (r k) ≡ false
    go more true f e = let same : x ≡ k = cc in first same (nat_eq j x) refl h
    go more false f e = further more f e (nat_eq j x) refl h

abbrev holds : ℕ → Gap → Bool
holds len g = nat_le len g.len

-- a node of a gap stands in order of size
filed_in : (c : Chained) (n : ℕ) → IsFiled c → contains n (START ∷ c.order) ≡ true → AllByRecursion (λ k. k ≤ START) (START ∷ c.order) → contains (GAPS + n) c.gaps ≡ true
filed_in c n f h low = f.whole n (holds_in (λ k. k ≤ START) n (START ∷ c.order) low h)

is_gap_fit : (c : Chained) (len n : ℕ) → n ≤ START → fits c.spans len (GAPS + n) ≡ nat_le len (rank c.spans (GAPS + n)).len
is_gap_fit c len n low = let e : nat_lt (GAPS + n) MARKS ≡ true = grind (arith, nat_tests) in rw e refl

no_fit : (c : Chained) (len n : ℕ) → n ≤ START → IsFiled c → first_fit c len ≡ None → nat_le len (rank c.spans (GAPS + n)).len ≡ false
no_fit c len n low f e = sym (is_gap_fit c len n low) ∙ none_found (fits c.spans len) (GAPS + n) c.gaps e (f.whole n low)

pub low_numbers : (size : ℕ) (c : Chained) → IsKept size c → AllByRecursion (λ k. k ≤ START) (START ∷ c.order)
low_numbers size c k = (omega arith, all_follow (λ k. k < SLICES) (λ k. k ≤ START) c.order (λ k h. omega arith) (numbers_below c.spans c.order k.sound.numbers))

-- where no gap in order of size holds a length, none of the book does
pub none_best : (size : ℕ) (c : Chained) (len : ℕ) → IsKept size c → IsBinned size c → first_fit c len ≡ None → best_gap (chain_book size c) len ≡ None
unfolding best_gap gaps
none_best size c len k b e =
    let r = rank c.spans in
    let low = low_numbers size c k in
    let each = each_has r (slice_of c.spans) size 0 START c.order b.behind in
    let fail = all_follow (Has r (START ∷ c.order)) (λ g. holds len g ≡ false) (gaps_from 0 size (slices_of c)) (λ g h. ap (holds len) (sym h.2) ∙ no_fit c len h.0 (holds_in (λ n. n ≤ START) h.0 (START ∷ c.order) low h.1) b.filed e) each in
    ap (least is_better) (none_kept (holds len) (gaps_from 0 size (slices_of c)) fail)

-- the first that holds it is the best of the book, and lies behind the slice of its number
pub record IsBest (size len n : ℕ) (c : Chained) : Type 0 where
  pub best : best_gap (chain_book size c) len ≡ Some (rank c.spans (GAPS + n))
  pub enough : len ≤ (rank c.spans (GAPS + n)).len
  pub among : contains n (START ∷ c.order) ≡ true

-- a node that has a gap of some bytes is the start or a slice
pub owner : (size : ℕ) (c : Chained) (n : ℕ) → IsBinned size c → n ≤ START → 0 < (rank c.spans (GAPS + n)).len → contains n (START ∷ c.order) ≡ true
owner size c n b low some = go (contains n c.order) refl (nat_eq n START) refl
  where
    go : (t : Bool) → contains n c.order ≡ t → (u : Bool) → nat_eq n START ≡ u → (u || contains n c.order) ≡ true
    go t e true f = refl
    go true e false f = e
    go false e false f =
        let other : n ≢ START = differ n START f in
        let none : (rank c.spans (GAPS + n)).len ≡ 0 = ap (λ (g : Gap). g.len) (b.free n (omega arith) e) in
        absurd (omega arith)

pub is_best : (size len n : ℕ) (c : Chained) → IsKept size c → IsBinned size c → 0 < len → n ≤ START → first_fit c len ≡ Some (GAPS + n) → IsBest size len n c
unfolding best_gap gaps
is_best size len n c k b some low e =
    let r = rank c.spans in
    let y = r (GAPS + n) in
    let all = gaps_from 0 size (slices_of c) in
    let passes : holds len y ≡ true = sym (is_gap_fit c len n low) ∙ found_passes (fits c.spans len) c.gaps (GAPS + n) e in
    let enough : len ≤ y.len = grind (arith, nat_tests) in
    let bytes : 0 < y.len = omega arith in
    let among = owner size c n b low bytes in
    let numbers = low_numbers size c k in
    let least_of : (g : Gap) → Has r (START ∷ c.order) g → holds len g ≡ true → is_better g y ≡ false = λ g h p.
    let m_low = holds_in (λ m. m ≤ START) h.0 (START ∷ c.order) numbers h.1 in
    ap (λ g. is_better g y) (sym h.2) ∙ found_is_least r (fits c.spans len) (GAPS + n) (GAPS + h.0) c.gaps b.filed.ranked.rising.1 e (b.filed.whole h.0 m_low) (is_gap_fit c len h.0 m_low ∙ ap (holds len) h.2 ∙ p) in
    let each = all_follow (Has r (START ∷ c.order)) (λ g. holds len g ≡ true → is_better g y ≡ false) all (λ g h. least_of g h) (each_has r (slice_of c.spans) size 0 START c.order b.behind) in
    let any = node_is r (slice_of c.spans) size 0 START n c.order b.behind among bytes in
    record {
      best = least_is y (those (holds len) all) (all_kept (λ g. is_better g y ≡ false) (holds len) all each) (any_kept (holds len) y all passes any);
      enough = enough;
      among = among;
    }

-- ---- one slice more or less

-- nodes that keep their slices and gaps
behind_same : (r r' : ℕ → Gap) (f f' : ℕ → Placed) (size at n : ℕ) (xs : List ℕ) → AllByRecursion (λ k. r' (GAPS + k) ≡ r (GAPS + k)) (n ∷ xs) → AllByRecursion (λ k. f' k ≡ f k) xs → AreBehind r f size at n xs → AreBehind r' f' size at n xs
behind_same r r' f f' size at n [] a b h = a.0 ∙ h
behind_same r r' f f' size at n (x ∷ xs) a b h =
    (a.0 ∙ h.0 ∙ ap (λ (s : Placed). lying at s.offset) (sym b.0), rw b.0 (behind_same r r' f f' size (slice_end (f x)) x xs a.1 b.1 h.1))

-- what lies from a place on, and is not nothing, begins there
pub lies : (g : Gap) (from upto : ℕ) → g ≡ lying from upto → 0 < g.len → (g.start ≡ from) × (from + g.len ≡ upto)
lies g from upto e some = go (nat_lt from upto) refl e
  where
    go : (t : Bool) → nat_lt from upto ≡ t → g ≡ elim t [ true ↦ record { start = from; len = upto - from } | false ↦ no_gap ] → (g.start ≡ from) × (from + g.len ≡ upto)
    go true q e =
        let below : from < upto = grind (arith, nat_tests) in
        let len : g.len ≡ upto - from = ap (λ (g : Gap). g.len) e in
        (ap (λ (g : Gap). g.start) e, omega arith)
    go false q e = let none : g.len ≡ 0 = ap (λ (g : Gap). g.len) e in absurd (omega arith)

nothing : (from upto : ℕ) → upto ≤ from → lying from upto ≡ no_gap
nothing from upto h = let e : nat_lt from upto ≡ false = grind (arith, nat_tests) in rw (e, lying) refl

-- numbers of slices and the start
abbrev pub AreLow : List ℕ → Type 0
AreLow xs = AllByRecursion (λ k. k ≤ START) xs

-- a slice put at the front of a gap: it has what is left of the gap, and the one before it nothing
pub record ArePut (r r' : ℕ → Gap) (f f' : ℕ → Placed) (p n len : ℕ) : Type 0 where
  pub enough : len ≤ (r (GAPS + p)).len
  pub some : 0 < len
  pub offset : (f' n).offset ≡ (r (GAPS + p)).start
  pub bytes : (f' n).len ≡ len
  pub here : r' (GAPS + p) ≡ no_gap
  pub rest : r' (GAPS + n) ≡ lying ((r (GAPS + p)).start + len) ((r (GAPS + p)).start + (r (GAPS + p)).len)
  pub others : (k : ℕ) → k ≢ p → k ≢ n → r' (GAPS + k) ≡ r (GAPS + k)
  pub slices : (k : ℕ) → k ≤ START → k ≢ n → f' k ≡ f k

-- the rest of the nodes, behind the place
rest_same : (r r' : ℕ → Gap) (f f' : ℕ → Placed) (p n len : ℕ) (xs : List ℕ) → ArePut r r' f f' p n len → AllBut p xs → AllBut n xs → AllByRecursion (λ k. r' (GAPS + k) ≡ r (GAPS + k)) xs
rest_same r r' f f' p n len [] w a b = tt
rest_same r r' f f' p n len (x ∷ xs) w a b = (w.others x a.0 b.0, rest_same r r' f f' p n len xs w a.1 b.1)

put_at : (r r' : ℕ → Gap) (f f' : ℕ → Placed) (size at p n len : ℕ) (xs : List ℕ) → ArePut r r' f f' p n len → AreBehind r f size at p xs → AllBut p xs → AllBut n xs → AreLow xs → AreBehind r' f' size at p (n ∷ xs)
put_at r r' f f' size at p n len xs w h a b low = go xs h a b low
  where
    slices_same : (ys : List ℕ) → AllBut n ys → AreLow ys → AllByRecursion (λ k. f' k ≡ f k) ys
    slices_same [] b low = tt
    slices_same (y ∷ ys) b low = (w.slices y low.0 b.0, slices_same ys b.1 low.1)

    first : (upto : ℕ) → r (GAPS + p) ≡ lying at upto → (r' (GAPS + p) ≡ lying at (f' n).offset) × (r' (GAPS + n) ≡ lying (slice_end (f' n)) upto)
    first upto e =
        let l = lies (r (GAPS + p)) at upto e (omega (arith, w.some, w.enough)) in
        let begins : (f' n).offset ≡ at = w.offset ∙ l.0 in
        let low : (r (GAPS + p)).start + len ≡ slice_end (f' n) = omega (arith, w.offset, w.bytes) in
        let high : (r (GAPS + p)).start + (r (GAPS + p)).len ≡ upto = omega (arith, l.0, l.1) in
        (w.here ∙ sym (nothing at (f' n).offset (omega (arith, begins))), w.rest ∙ ap (λ k. lying k ((r (GAPS + p)).start + (r (GAPS + p)).len)) low ∙ ap (lying (slice_end (f' n))) high)

    go : (ys : List ℕ) → AreBehind r f size at p ys → AllBut p ys → AllBut n ys → AreLow ys → AreBehind r' f' size at p (n ∷ ys)
    go [] h a b low = first size h
    go (y ∷ ys) h a b low =
        let t = first (f y).offset h.0 in
        let same = w.slices y low.0 b.0 in
        (t.0, (t.1 ∙ ap (λ (s : Placed). lying (slice_end (f' n)) s.offset) (sym same), rw same (behind_same r r' f f' size (slice_end (f y)) y ys (rest_same r r' f f' p n len (y ∷ ys) w a b) (slices_same ys b.1 low.1) h.1)))

pub put_gaps : (r r' : ℕ → Gap) (f f' : ℕ → Placed) (size at p n len e : ℕ) (xs : List ℕ) → ArePut r r' f f' p n len → AreBehind r f size at e xs → contains p (e ∷ xs) ≡ true → Apart (e ∷ xs) → AllBut n (e ∷ xs) → AreLow xs → AreBehind r' f' size at e (put_behind p n e xs)
put_gaps r r' f f' size at p n len e [] w h i d b low = go (nat_eq e p) refl
  where
    go : (t : Bool) → nat_eq e p ≡ t → AreBehind r' f' size at e (elim t [ true ↦ n ∷ [] | false ↦ [] ])
    go true q =
        let same = equal e p q in
        subst (λ k. AreBehind r' f' size at k (n ∷ [])) (sym same) (put_at r r' f f' size at p n len [] w (subst (λ k. AreBehind r f size at k []) same h) tt tt tt)
    go false q = absurd (true≢false (sym (later p e [] i q)))
put_gaps r r' f f' size at p n len e (x ∷ xs) w h i d b low = go (λ j. put_gaps r r' f f' size (slice_end (f x)) p n len x xs w h.1 j d.1 b.1 low.1) (nat_eq e p) refl
  where
    go : (contains p (x ∷ xs) ≡ true → AreBehind r' f' size (slice_end (f x)) x (put_behind p n x xs)) → (t : Bool) → nat_eq e p ≡ t → AreBehind r' f' size at e (elim t [ true ↦ n ∷ x ∷ xs | false ↦ x ∷ put_behind p n x xs ])
    go more true q =
        let same = equal e p q in
        let apart : AllBut p (x ∷ xs) = subst (λ k. AllBut k (x ∷ xs)) same d.0 in
        subst (λ k. AreBehind r' f' size at k (n ∷ x ∷ xs)) (sym same) (put_at r r' f f' size at p n len (x ∷ xs) w (subst (λ k. AreBehind r f size at k (x ∷ xs)) same h) apart b.1 low)
    go more false q =
        let here : r' (GAPS + e) ≡ r (GAPS + e) = w.others e (differ e p q) b.0 in
        let same : f' x ≡ f x = w.slices x low.0 b.1.0 in
        (here ∙ h.0 ∙ ap (λ (s : Placed). lying at s.offset) (sym same), rw same (more (later p e (x ∷ xs) i q)))

long : (g : Gap) (from upto : ℕ) → g ≡ lying from upto → from ≤ upto → from + g.len ≡ upto
long g from upto e le = go (nat_lt from upto) refl e
  where
    go : (t : Bool) → nat_lt from upto ≡ t → g ≡ elim t [ true ↦ record { start = from; len = upto - from } | false ↦ no_gap ] → from + g.len ≡ upto
    go true q e = let len : g.len ≡ upto - from = ap (λ (g : Gap). g.len) e in omega arith
    go false q e = let len : g.len ≡ 0 = ap (λ (g : Gap). g.len) e in let not_below : upto ≤ from = grind (arith, nat_tests) in omega arith

-- a slice taken out: the one before it has what lay on both sides and the slice itself
pub record AreOut (r r' : ℕ → Gap) (f f' : ℕ → Placed) (p n : ℕ) : Type 0 where
  pub whole : r' (GAPS + p) ≡ lying ((f n).offset - (r (GAPS + p)).len) (slice_end (f n) + (r (GAPS + n)).len)
  pub others : (k : ℕ) → k ≢ p → k ≢ n → r' (GAPS + k) ≡ r (GAPS + k)
  pub slices : (k : ℕ) → k ≤ START → k ≢ n → f' k ≡ f k

-- what lies beside each slice stays within the pool
pub beside : (r : ℕ → Gap) (f : ℕ → Placed) (size at n e : ℕ) (xs : List ℕ) → AreBehind r f size at e xs → AreInOrder at size (map f xs) → contains n xs ≡ true → ((r (GAPS + before n e xs)).len ≤ (f n).offset) × (slice_end (f n) + (r (GAPS + n)).len ≤ size)
beside r f size at n e [] h o i = absurd (true≢false (sym i))
beside r f size at n e (x ∷ xs) h o i = go (λ j. beside r f size (slice_end (f x)) n x xs h.1 o.2 j) (nat_eq x n) refl
  where
    right_of : (ys : List ℕ) → AreBehind r f size (slice_end (f x)) x ys → AreInOrder (slice_end (f x)) size (map f ys) → slice_end (f x) + (r (GAPS + x)).len ≤ size
    right_of [] h o = let l = long (r (GAPS + x)) (slice_end (f x)) size h o in omega (arith, l)
    right_of (y ∷ ys) h o = let l = long (r (GAPS + x)) (slice_end (f x)) (f y).offset h.0 o.0 in let within = ends_within (slice_end (f y)) size (map f ys) o.2 in omega (arith, l, within)

    go : (contains n xs ≡ true → ((r (GAPS + before n x xs)).len ≤ (f n).offset) × (slice_end (f n) + (r (GAPS + n)).len ≤ size)) → (t : Bool) → nat_eq x n ≡ t → ((r (GAPS + elim t [ true ↦ e | false ↦ before n x xs ])).len ≤ (f n).offset) × (slice_end (f n) + (r (GAPS + n)).len ≤ size)
    go more true q =
        let left : at + (r (GAPS + e)).len ≡ (f x).offset = long (r (GAPS + e)) at (f x).offset h.0 o.0 in
        let right = right_of xs h.1 o.2 in
        let low : (r (GAPS + e)).len ≤ (f x).offset = omega arith in
        subst (λ k. ((r (GAPS + e)).len ≤ (f k).offset) × (slice_end (f k) + (r (GAPS + k)).len ≤ size)) (equal x n q) (low, right)
    go more false q = let other : nat_eq n x ≡ false = grind (arith, nat_tests) in more (rw other at i)

out_at : (r r' : ℕ → Gap) (f f' : ℕ → Placed) (size at p n : ℕ) (xs : List ℕ) → AreOut r r' f f' p n → AreBehind r f size at p (n ∷ xs) → AreInOrder at size (map f (n ∷ xs)) → AllBut p xs → AllBut n xs → AreLow xs → AreBehind r' f' size at p xs
out_at r r' f f' size at p n xs w h o a b low = go xs h.1 o.2 a b low
  where
    rest_of : (ys : List ℕ) → AllBut p ys → AllBut n ys → AllByRecursion (λ k. r' (GAPS + k) ≡ r (GAPS + k)) ys
    rest_of [] a b = tt
    rest_of (y ∷ ys) a b = (w.others y a.0 b.0, rest_of ys a.1 b.1)

    slices_same : (ys : List ℕ) → AllBut n ys → AreLow ys → AllByRecursion (λ k. f' k ≡ f k) ys
    slices_same [] b low = tt
    slices_same (y ∷ ys) b low = (w.slices y low.0 b.0, slices_same ys b.1 low.1)

    first : (upto : ℕ) → slice_end (f n) ≤ upto → r (GAPS + n) ≡ lying (slice_end (f n)) upto → r' (GAPS + p) ≡ lying at upto
    first upto le e =
        let left : at + (r (GAPS + p)).len ≡ (f n).offset = long (r (GAPS + p)) at (f n).offset h.0 o.0 in
        let right : slice_end (f n) + (r (GAPS + n)).len ≡ upto = long (r (GAPS + n)) (slice_end (f n)) upto e le in
        let low : (f n).offset - (r (GAPS + p)).len ≡ at = omega arith in
        w.whole ∙ ap (λ k. lying k (slice_end (f n) + (r (GAPS + n)).len)) low ∙ ap (lying at) right

    go : (ys : List ℕ) → AreBehind r f size (slice_end (f n)) n ys → AreInOrder (slice_end (f n)) size (map f ys) → AllBut p ys → AllBut n ys → AreLow ys → AreBehind r' f' size at p ys
    go [] h o a b low = first size o h
    go (y ∷ ys) h o a b low =
        let same = w.slices y low.0 b.0 in
        (first (f y).offset o.0 h.0 ∙ ap (λ (s : Placed). lying at s.offset) (sym same), rw same (behind_same r r' f f' size (slice_end (f y)) y ys (rest_of (y ∷ ys) a b) (slices_same ys b.1 low.1) h.1))

pub out_gaps : (r r' : ℕ → Gap) (f f' : ℕ → Placed) (size at n e : ℕ) (xs : List ℕ) → AreOut r r' f f' (before n e xs) n → AreBehind r f size at e xs → AreInOrder at size (map f xs) → contains n xs ≡ true → Apart (e ∷ xs) → AreLow xs → AreBehind r' f' size at e (without n xs)
out_gaps r r' f f' size at n e [] w h o i d low = absurd (true≢false (sym i))
out_gaps r r' f f' size at n e (x ∷ xs) w h o i d low = go (λ v j. out_gaps r r' f f' size (slice_end (f x)) n x xs v h.1 o.2 j d.1 low.1) (nat_eq x n) refl w
  where
    go : (AreOut r r' f f' (before n x xs) n → contains n xs ≡ true → AreBehind r' f' size (slice_end (f x)) x (without n xs)) → (t : Bool) → nat_eq x n ≡ t → AreOut r r' f f' (elim t [ true ↦ e | false ↦ before n x xs ]) n → AreBehind r' f' size at e (cond (not t) (x ∷ without n xs) (without n xs))
    go more true q v =
        let same = equal x n q in
        let apart : AllBut n xs = subst (λ k. AllBut k xs) same d.1.0 in
        let behind : AreBehind r f size at e (n ∷ xs) = subst (λ k. AreBehind r f size at e (k ∷ xs)) same h in
        let order : AreInOrder at size (map f (n ∷ xs)) = subst (λ k. AreInOrder at size (map f (k ∷ xs))) same o in
        rw (all_stay n xs apart) (out_at r r' f f' size at e n xs v behind order d.0.1 apart low.1)
    go more false q v =
        let apart : x ≢ n = differ x n q in
        let other : nat_eq n x ≡ false = grind (arith, nat_tests) in
        let among : contains n xs ≡ true = rw other at i in
        let before_in : contains (before n x xs) (x ∷ xs) ≡ true = before_among n x xs among in
        let not_e : e ≢ before n x xs = λ s. holds_in (λ k. k ≢ e) (before n x xs) (x ∷ xs) d.0 before_in (sym s) in
        let not_n : e ≢ n = λ s. holds_in (λ k. k ≢ e) n (x ∷ xs) d.0 i (sym s) in
        let same : f' x ≡ f x = v.slices x low.0 apart in
        (v.others e not_e not_n ∙ h.0 ∙ ap (λ (s : Placed). lying at s.offset) (sym same), rw same (more v among))
