-- The slices in a chain, with one more and without one.
use Rattle.std.specs.Prelude.{◌≡◌, ◌≢◌, ◌<◌, ◌≤◌, ◌+◌, ◌%◌, ◌^◌, ◌==◌, ◌||◌, ◌⊎◌, ℕ, Bool, true, false, not, List, [], ◌∷◌, None, Some, length, map, nat_eq, nat_lt, cond, is_some, option_map, refl, slice_index_or, sum_by}
use Rattle.std.specs.List.{AllByRecursion, IsDistinct, find, list_any}
use Rattle.std.proofs.Common.{ap, arith, inl, inr, set, sym, ◌∙◌}
use Rattle.std.proofs.lemmas.Bool.{true≢false}
use Rattle.std.proofs.lemmas.Bool.Decides.{nat_tests}
use Rattle.std.proofs.lemmas.List.{get_or-set_same, get_or-set_other, length-set}
use Rattle.std.proofs.lemmas.List.Sums.{sum_by-cons}
use Rattle.kd_model.proofs.Least.{all_of_least}
use Rattle.kd_model.proofs.Lists.{all_follow, all_under, map_of_filter}
use Rattle.kd_model.proofs.Places.{HasRoom, gaps_have_room, sound_empty, sound_with, sound_without, unused_below, unused_is_free}
use Rattle.kd_model.specs.Slices.{AreInOrder, best_gap, gaps, has_number, has_same_number, is_better, is_lower, place, slice_end, unused_number, used}
use Rattle.kd_model.specs.Words.{but_those, contains, put_in_order, some_of}
use Rattle.kd_model.specs.declared.placed.Gap.{Gap}
use Rattle.kd_model.specs.declared.placed.Placed.{Placed}
use Rattle.kd_model.specs.declared.slice_no.TheConstants.{SLICES}
use Rattle.kd_rings.specs.Rings.{AllBut, Apart, put_behind}
use Rattle.kd_links.specs.Chains.{Chained, no_span}
use Rattle.kd_links.specs.Kept.{IsBehind, IsKept, chain_book, slice_of, slices_of}
use Rattle.kd_links.specs.declared.node.Span.{Span}
use Rattle.kd_rings.specs.declared.heads.TheConstants.{START}
use Rattle.kd_links.specs.declared.node.TheConstants.{GAPS, NODES}
use Rattle.kd_rings.proofs.Linked.{all_but, differ, equal, itself, not_in, without}
use Rattle.kd_rings.proofs.Rings.{holds_in, later, later_in}

-- ---- what the slices in order tell of the numbers

-- each slice ends behind the place from which on they lie
ends_behind : (f : ℕ → Placed) (from size p : ℕ) (xs : List ℕ) → AreInOrder from size (map f xs) → contains p xs ≡ true → from < slice_end (f p)
ends_behind f from size p [] o h = absurd (true≢false (sym h))
ends_behind f from size p (x ∷ xs) o h = go (ends_behind f (slice_end (f x)) size p xs o.2) (nat_eq p x) refl h
  where
    go : (contains p xs ≡ true → slice_end (f x) < slice_end (f p)) → (t : Bool) → nat_eq p x ≡ t → (t || contains p xs) ≡ true → from < slice_end (f p)
    go more true e h = let first : from < slice_end (f x) = omega (arith, o.0, o.1) in rw (equal p x e) first
    go more false e h = let rest = more h in omega (arith, o.0, o.1)

room_above : (from size at len : ℕ) (ss : List Placed) → AreInOrder from size ss → HasRoom from size ss at len → from ≤ at
room_above from size at len [] o r = omega arith
room_above from size at len (s ∷ ss) o (inl r) = omega arith
room_above from size at len (s ∷ ss) o (inr r) = let above = room_above (slice_end s) size at len ss o.2 r in omega arith

same_map : (f f' : ℕ → Placed) (xs : List ℕ) → AllByRecursion (λ k. f' k ≡ f k) xs → map f' xs ≡ map f xs
same_map f f' [] a = refl
same_map f f' (x ∷ xs) a = ap (λ s. s ∷ map f' xs) a.0 ∙ ap (f x ∷◌) (same_map f f' xs a.1)

-- a slice that begins where the one before it ends stands behind that in order
put_slices : (f f' : ℕ → Placed) (p n e from size : ℕ) (xs : List ℕ) (new : Placed) → f' n ≡ new → AllByRecursion (λ k. f' k ≡ f k) xs → 0 < new.len → AreInOrder from size (map f xs) → slice_end (f e) ≡ from → contains p (e ∷ xs) ≡ true → slice_end (f p) ≡ new.offset → HasRoom from size (map f xs) new.offset new.len → map f' (put_behind p n e xs) ≡ put_in_order is_lower new (map f xs)
put_slices f f' p n e from size [] new is a some o ends among at room = go (nat_eq e p) refl
  where
    go : (t : Bool) → nat_eq e p ≡ t → map f' (elim t [ true ↦ n ∷ [] | false ↦ [] ]) ≡ new ∷ []
    go true h = ap (λ s. s ∷ []) is
    go false h = absurd (true≢false (sym (later p e [] among h)))
put_slices f f' p n e from size (x ∷ xs) new is a some o ends among at room =
    go (λ i r. put_slices f f' p n x (slice_end (f x)) size xs new is a.1 some o.2 refl i at r) (nat_eq e p) refl
  where
    low : slice_end (f e) ≡ new.offset → ((new.offset ≡ from) × (new.offset + new.len ≤ (f x).offset)) ⊎ HasRoom (slice_end (f x)) size (map f xs) new.offset new.len → is_lower new (f x) ≡ true
    low begins (inl r) = grind (arith, nat_tests)
    low begins (inr r) = let above = room_above (slice_end (f x)) size new.offset new.len (map f xs) o.2 r in absurd (omega (arith, o.0, o.1))

    high : slice_end (f x) ≤ new.offset → is_lower new (f x) ≡ false
    high h = let some_bytes : 0 < (f x).len = o.1 in grind (arith, nat_tests)

    further : slice_end (f x) ≤ new.offset → ((new.offset ≡ from) × (new.offset + new.len ≤ (f x).offset)) ⊎ HasRoom (slice_end (f x)) size (map f xs) new.offset new.len → HasRoom (slice_end (f x)) size (map f xs) new.offset new.len
    further h (inl r) = absurd (omega (arith, o.0, o.1))
    further h (inr r) = r

    beyond : contains p (x ∷ xs) ≡ true → (t : Bool) → nat_eq x p ≡ t → slice_end (f x) ≤ new.offset
    beyond h true s = let same : slice_end (f x) ≡ slice_end (f p) = ap (λ k. slice_end (f k)) (equal x p s) in omega arith
    beyond h false s = let behind = ends_behind f (slice_end (f x)) size p xs o.2 (later p x xs h s) in omega arith

    go : (contains p (x ∷ xs) ≡ true → HasRoom (slice_end (f x)) size (map f xs) new.offset new.len → map f' (put_behind p n x xs) ≡ put_in_order is_lower new (map f xs)) → (t : Bool) → nat_eq e p ≡ t → map f' (elim t [ true ↦ n ∷ x ∷ xs | false ↦ x ∷ put_behind p n x xs ]) ≡ put_in_order is_lower new (f x ∷ map f xs)
    go more true h =
        let here : slice_end (f e) ≡ new.offset = ap (λ k. slice_end (f k)) (equal e p h) ∙ at in
        let first : is_lower new (f x) ≡ true = low here room in
        rw (put_in_order, first) (ap (λ s. s ∷ map f' (x ∷ xs)) is ∙ ap (new ∷◌) (same_map f f' (x ∷ xs) a))
    go more false h =
        let among_rest : contains p (x ∷ xs) ≡ true = later p e (x ∷ xs) among h in
        let above = beyond among_rest (nat_eq x p) refl in
        let first : is_lower new (f x) ≡ false = high above in
        rw (put_in_order, first) (ap (λ s. s ∷ map f' (put_behind p n x xs)) a.0 ∙ ap (f x ∷◌) (more among_rest (further above room)))

-- ---- numbers

-- a slice has a number where the number is in the order
pub number_in : (sp : List Span) (n : ℕ) (xs : List ℕ) → list_any (has_number n) (map (slice_of sp) xs) ≡ contains n xs
number_in sp n [] = refl
number_in sp n (x ∷ xs) = let flip : nat_eq x n ≡ nat_eq n x = grind (arith, nat_tests) in ap (λ b. b || list_any (has_number n) (map (slice_of sp) xs)) flip ∙ ap (λ b. nat_eq n x || b) (number_in sp n xs)

pub numbers_below : (sp : List Span) (xs : List ℕ) → AllByRecursion (λ (s : Placed). s.number < SLICES) (map (slice_of sp) xs) → AllByRecursion (λ k. k < SLICES) xs
numbers_below sp xs a = all_under (λ (s : Placed). s.number < SLICES) (slice_of sp) xs a

-- the start is no slice
pub start_out : (size : ℕ) (c : Chained) → IsKept size c → AllBut START c.order
start_out size c k = all_follow (λ n. n < SLICES) (λ n. n ≢ START) c.order (λ n h e. omega arith) (numbers_below c.spans c.order k.sound.numbers)

apart_of : (sp : List Span) (xs : List ℕ) → IsDistinct has_same_number (map (slice_of sp) xs) → Apart xs
unfolding IsDistinct
apart_of sp [] d = tt
apart_of sp (x ∷ xs) d =
    (all_follow (λ k. nat_eq x k ≡ false) (λ k. k ≢ x) xs (λ k e s. differ x k e (sym s)) (all_under (λ (t : Placed). has_same_number (slice_of sp x) t ≡ false) (slice_of sp) xs d.0), apart_of sp xs d.1)

-- the start and the numbers in order differ from one another
pub kept_apart : (size : ℕ) (c : Chained) → IsKept size c → Apart (START ∷ c.order)
kept_apart size c k = (start_out size c k, apart_of c.spans c.order k.sound.distinct)

-- a slice has some bytes
filled : (f : ℕ → Placed) (from size n : ℕ) (xs : List ℕ) → AreInOrder from size (map f xs) → contains n xs ≡ true → 0 < (f n).len
filled f from size n [] o h = absurd (true≢false (sym h))
filled f from size n (x ∷ xs) o h = go (filled f (slice_end (f x)) size n xs o.2) (nat_eq n x) refl h
  where
    go : (contains n xs ≡ true → 0 < (f n).len) → (t : Bool) → nat_eq n x ≡ t → (t || contains n xs) ≡ true → 0 < (f n).len
    go more true e h = let some : 0 < (f x).len = o.1 in rw (equal n x e) some
    go more false e h = more h

-- a number is used where its span has some bytes
pub used_is : (size : ℕ) (c : Chained) (n : ℕ) → IsKept size c → n ≤ START → nat_lt 0 (slice_of c.spans n).len ≡ some_of (has_number n) (slices_of c)
used_is size c n k low = go (contains n c.order) refl ∙ sym (number_in c.spans n c.order)
  where
    go : (b : Bool) → contains n c.order ≡ b → nat_lt 0 (slice_of c.spans n).len ≡ contains n c.order
    go true e = let some = filled (slice_of c.spans) 0 size n c.order k.sound.order e in rw e (grind (arith, nat_tests))
    go false e = let none : (slice_index_or c.spans n no_span).len ≡ 0 = ap (λ (s : Span). s.len) (k.unused n low e) in rw e (grind (arith, nat_tests))

first_of : (sp : List Span) (n : ℕ) (xs : List ℕ) → find (has_number n) (map (slice_of sp) xs) ≡ cond (contains n xs) (Some (slice_of sp n)) None
first_of sp n [] = refl
first_of sp n (x ∷ xs) = go (first_of sp n xs) (nat_eq n x) refl
  where
    go : find (has_number n) (map (slice_of sp) xs) ≡ cond (contains n xs) (Some (slice_of sp n)) None → (t : Bool) → nat_eq n x ≡ t → cond (nat_eq x n) (Some (slice_of sp x)) (find (has_number n) (map (slice_of sp) xs)) ≡ cond (t || contains n xs) (Some (slice_of sp n)) None
    go more true e = let test : nat_eq x n ≡ true = grind (arith, nat_tests) in rw test (ap (λ k. Some (slice_of sp k)) (sym (equal n x e)))
    go more false e = let test : nat_eq x n ≡ false = grind (arith, nat_tests) in rw test more

-- no slice has a number beyond those of slices
pub none_at : (size : ℕ) (c : Chained) (n : ℕ) → IsKept size c → SLICES ≤ n → find (has_number n) (slices_of c) ≡ None
none_at size c n k h =
    let apart : AllBut n c.order = all_follow (λ m. m < SLICES) (λ m. m ≢ n) c.order (λ m lt e. omega arith) (numbers_below c.spans c.order k.sound.numbers) in
    first_of c.spans n c.order ∙ ap (λ b. cond b (Some (slice_of c.spans n)) None) (not_in n c.order apart)

-- the slice of a number with some bytes, none for one without
pub entry_is : (size : ℕ) (c : Chained) (n : ℕ) (b : Bool) → IsKept size c → n ≤ START → nat_lt 0 (slice_of c.spans n).len ≡ b → find (has_number n) (slices_of c) ≡ cond b (Some (slice_of c.spans n)) None
entry_is size c n b k low e =
    let same : contains n c.order ≡ b = sym (number_in c.spans n c.order) ∙ sym (used_is size c n k low) ∙ e in
    first_of c.spans n c.order ∙ ap (λ b. cond b (Some (slice_of c.spans n)) None) same

-- ---- one slice more

pub others_kept : (sp : List Span) (n : ℕ) (s : Span) (xs : List ℕ) → AllBut n xs → AllByRecursion (λ k. slice_of (set sp n s) k ≡ slice_of sp k) xs
others_kept sp n s xs a = all_follow (λ k. k ≢ n) (λ k. slice_of (set sp n s) k ≡ slice_of sp k) xs (λ k h. ap (λ (t : Span). record { number = k; offset = t.offset; len = t.len }) (get_or-set_other sp n k s no_span h)) a

pub still_out : (p n e k : ℕ) (xs : List ℕ) → AllBut k (put_behind p n e xs) → AllBut k xs
still_out p n e k [] a = tt
still_out p n e k (x ∷ xs) a = go (still_out p n x k xs) (nat_eq e p) a
  where
    go : (AllBut k (put_behind p n x xs) → AllBut k xs) → (t : Bool) → AllBut k (elim t [ true ↦ n ∷ x ∷ xs | false ↦ x ∷ put_behind p n x xs ]) → AllBut k (x ∷ xs)
    go more true a = a.1
    go more false a = (a.0, more a.1)

pub put_there : (p n e : ℕ) (xs : List ℕ) → contains p (e ∷ xs) ≡ true → contains n (put_behind p n e xs) ≡ true
put_there p n e [] h = go (nat_eq e p) refl
  where
    go : (t : Bool) → nat_eq e p ≡ t → contains n (elim t [ true ↦ n ∷ [] | false ↦ [] ]) ≡ true
    go true s = rw (itself n) refl
    go false s = absurd (true≢false (sym (later p e [] h s)))
put_there p n e (x ∷ xs) h = go (put_there p n x xs) (nat_eq e p) refl
  where
    go : (contains p (x ∷ xs) ≡ true → contains n (put_behind p n x xs) ≡ true) → (t : Bool) → nat_eq e p ≡ t → contains n (elim t [ true ↦ n ∷ x ∷ xs | false ↦ x ∷ put_behind p n x xs ]) ≡ true
    go more true s = rw (itself n) refl
    go more false s = later_in n x (put_behind p n x xs) (more (later p e (x ∷ xs) h s))

-- where a slice goes: an unused number, and the foremost of the best gap, which lies behind a number
pub record IsPlace (size : ℕ) (c : Chained) (p n len : ℕ) (g : Gap) : Type 0 where
  pub some : 0 < len
  pub even : len % 8 ≡ 0
  pub unused : unused_number (chain_book size c) ≡ Some n
  pub best : best_gap (chain_book size c) len ≡ Some g
  pub behind : IsBehind c p g

abbrev pub with_one : Chained → ℕ → ℕ → Span → Chained
with_one c p n s = record { order = put_behind p n START c.order; gaps = c.gaps; spans = set c.spans n s }

-- an unused number is neither the start nor in the order, and has a span
pub record IsFree (c : Chained) (n : ℕ) : Type 0 where
  pub below : n < SLICES
  pub other : AllBut n (START ∷ c.order)
  pub inside : n < length c.spans

pub free : (size : ℕ) (c : Chained) (n : ℕ) → IsKept size c → unused_number (chain_book size c) ≡ Some n → IsFree c n
free size c n k h =
    let below = unused_below (chain_book size c) n h in
    let apart = all_under (λ (s : Placed). has_number n s ≡ false) (slice_of c.spans) c.order (unused_is_free (chain_book size c) n h) in
    record {
      below = below;
      other = (λ e. omega arith, all_follow (λ k. nat_eq k n ≡ false) (λ k. k ≢ n) c.order (λ k e. differ k n e) apart);
      inside = omega (arith, k.count);
    }

-- the start has no bytes
pub start_ends : (size : ℕ) (c : Chained) → IsKept size c → slice_end (slice_of c.spans START) ≡ 0
start_ends size c k = ap (λ (s : Span). s.offset + s.len) (k.unused START (omega arith) (not_in START c.order (start_out size c k)))

-- a chain with one slice more
pub record IsOneMore (size : ℕ) (c : Chained) (new : Placed) (c' : Chained) : Type 0 where
  pub kept : IsKept size c'
  pub slices : slices_of c' ≡ put_in_order is_lower new (slices_of c)

pub kept_with : (size : ℕ) (c : Chained) (p n len : ℕ) (g : Gap) → IsKept size c → IsPlace size c p n len g → IsOneMore size c (record { number = n; offset = g.start; len = len }) (with_one c p n (record { offset = g.start; len = len }))
unfolding place best_gap gaps
kept_with size c p n len g k w =
    let b = chain_book size c in
    let span : Span = record { offset = g.start; len = len } in
    let new : Placed = record { number = n; offset = g.start; len = len } in
    let f = free size c n k w.unused in
    let room : HasRoom 0 size (slices_of c) g.start len = all_of_least (λ (g : Gap). HasRoom 0 size (slices_of c) g.start len) is_better _ g (gaps_have_room 0 size len (slices_of c) w.some) w.best in
    let is : slice_of (set c.spans n span) n ≡ new = ap (λ (t : Span). record { number = n; offset = t.offset; len = t.len }) (get_or-set_same c.spans n span no_span f.inside) in
    let slices = put_slices (slice_of c.spans) (slice_of (set c.spans n span)) p n START 0 size c.order new is (others_kept c.spans n span c.order f.other.1) w.some k.sound.order (start_ends size c k) w.behind.among w.behind.ends room in
    let sound = sound_with b n g.start len k.sound w.some w.even w.unused (ap (option_map (λ (g : Gap). g.start)) w.best) in
    let there = put_there p n START c.order w.behind.among in
    record {
      kept = record {
        fits = k.fits;
        sound = rw slices sound;
        count = length-set c.spans n span ∙ k.count;
        unused = λ m low h.
            let out : AllBut m (put_behind p n START c.order) = all_but m (put_behind p n START c.order) h in
            let other : m ≢ n = λ e. true≢false (sym there ∙ ap (λ i. contains i (put_behind p n START c.order)) (sym e) ∙ h) in
            get_or-set_other c.spans n m span no_span other ∙ k.unused m low (not_in m c.order (still_out p n START m c.order out));
      };
      slices = slices;
    }

-- ---- one slice less

abbrev pub without_one : Chained → ℕ → Chained
without_one c n = record { order = without n c.order; gaps = c.gaps; spans = set c.spans n no_span }

pub all_without : (n : ℕ) (xs : List ℕ) → AllBut n (without n xs)
all_without n [] = tt
all_without n (x ∷ xs) = go (all_without n xs) (nat_eq x n) refl
  where
    go : AllBut n (without n xs) → (t : Bool) → nat_eq x n ≡ t → AllBut n (cond (not t) (x ∷ without n xs) (without n xs))
    go more true e = more
    go more false e = (differ x n e, more)

pub out_before : (n m : ℕ) (xs : List ℕ) → m ≢ n → AllBut m (without n xs) → AllBut m xs
out_before n m [] h a = tt
out_before n m (x ∷ xs) h a = go (out_before n m xs h) (nat_eq x n) refl a
  where
    go : (AllBut m (without n xs) → AllBut m xs) → (t : Bool) → nat_eq x n ≡ t → AllBut m (cond (not t) (x ∷ without n xs) (without n xs)) → AllBut m (x ∷ xs)
    go more true e a = (λ s. h (sym s ∙ equal x n e), more a)
    go more false e a = (a.0, more a.1)

pub record IsOneLess (size : ℕ) (c : Chained) (n : ℕ) (c' : Chained) : Type 0 where
  pub kept : IsKept size c'
  pub slices : slices_of c' ≡ but_those (has_number n) (slices_of c)

pub kept_without : (size : ℕ) (c : Chained) (n : ℕ) → IsKept size c → contains n c.order ≡ true → IsOneLess size c n (without_one c n)
kept_without size c n k h =
    let below : n < SLICES = holds_in (λ k. k < SLICES) n c.order (numbers_below c.spans c.order k.sound.numbers) h in
    let inside : n < length c.spans = omega (arith, k.count) in
    let slices = same_map (slice_of c.spans) (slice_of (set c.spans n no_span)) (without n c.order) (others_kept c.spans n no_span (without n c.order) (all_without n c.order)) ∙ map_of_filter (slice_of c.spans) (λ k. not (k == n)) (λ (s : Placed). not (has_number n s)) (λ k. refl) c.order in
    let sound = sound_without (chain_book size c) n k.sound in
    record {
      kept = record {
        fits = k.fits;
        sound = rw slices sound;
        count = length-set c.spans n no_span ∙ k.count;
        unused = λ m low e. go m low (all_but m (without n c.order) e) (nat_eq m n) refl;
      };
      slices = slices;
    }
  where
    go : (m : ℕ) → m ≤ START → AllBut m (without n c.order) → (t : Bool) → nat_eq m n ≡ t → slice_index_or (set c.spans n no_span) m no_span ≡ no_span
    go m low a true e =
        let below : n < SLICES = holds_in (λ k. k < SLICES) n c.order (numbers_below c.spans c.order k.sound.numbers) h in
        let inside : n < length c.spans = omega (arith, k.count) in
        ap (λ i. slice_index_or (set c.spans n no_span) i no_span) (equal m n e) ∙ get_or-set_same c.spans n no_span no_span inside
    go m low a false e =
        get_or-set_other c.spans n m no_span no_span (differ m n e) ∙ k.unused m low (not_in m c.order (out_before n m c.order (differ m n e) a))

-- a chain of no slices
pub kept_empty : (size : ℕ) (c : Chained) → size < 2 ^ 32 → size % 8 ≡ 0 → c.order ≡ [] → length c.spans ≡ NODES → ((n : ℕ) → n ≤ START → slice_index_or c.spans n no_span ≡ no_span) → IsKept size c
kept_empty size c fits even none count unused =
    record {
      fits = fits;
      sound = rw none (sound_empty size even);
      count = count;
      unused = λ n low h. unused n low;
    }

abbrev chained : List ℕ → List ℕ → List Span → Chained
chained o g s = record { order = o; gaps = g; spans = s }

-- chains of the same order, gaps and spans
pub same_chain : (c d : Chained) → c.order ≡ d.order → c.gaps ≡ d.gaps → c.spans ≡ d.spans → c ≡ d
same_chain c d e f g = ap (λ o. chained o c.gaps c.spans) e ∙ ap (λ h. chained d.order h c.spans) f ∙ ap (chained d.order d.gaps) g

-- ---- how many bytes the slices take

pub sum_with : (s : Placed) (ss : List Placed) → sum_by (λ (t : Placed). t.len) (put_in_order is_lower s ss) ≡ s.len + sum_by (λ (t : Placed). t.len) ss
sum_with s [] = rw sum_by-cons refl
sum_with s (t ∷ ts) = go (sum_with s ts) (is_lower s t)
  where
    go : sum_by (λ (t : Placed). t.len) (put_in_order is_lower s ts) ≡ s.len + sum_by (λ (t : Placed). t.len) ts → (b : Bool) → sum_by (λ (t : Placed). t.len) (elim b [ true ↦ s ∷ t ∷ ts | false ↦ t ∷ put_in_order is_lower s ts ]) ≡ s.len + sum_by (λ (t : Placed). t.len) (t ∷ ts)
    go more true = sum_by-cons (λ (t : Placed). t.len) s (t ∷ ts)
    go more false = omega (arith, more, sum_by-cons (λ (t : Placed). t.len) t (put_in_order is_lower s ts), sum_by-cons (λ (t : Placed). t.len) t ts)

pub sum_without : (n : ℕ) (s : Placed) (ss : List Placed) → IsDistinct has_same_number ss → find (has_number n) ss ≡ Some s → sum_by (λ (t : Placed). t.len) (but_those (has_number n) ss) + s.len ≡ sum_by (λ (t : Placed). t.len) ss
unfolding IsDistinct
sum_without n s [] d h = cc
sum_without n s (t ∷ ts) d h = go (sum_without n s ts d.1) (has_number n t) refl h
  where
    right_of : (us : List Placed) → t.number ≡ n → AllByRecursion (λ u. has_same_number t u ≡ false) us → but_those (has_number n) us ≡ us
    right_of [] e a = refl
    right_of (u ∷ us) e a = let out : has_number n u ≡ false = grind (arith, nat_tests) in rw out (ap (u ∷◌) (right_of us e a.1))

    go : (find (has_number n) ts ≡ Some s → sum_by (λ (t : Placed). t.len) (but_those (has_number n) ts) + s.len ≡ sum_by (λ (t : Placed). t.len) ts) → (b : Bool) → has_number n t ≡ b → cond b (Some t) (find (has_number n) ts) ≡ Some s → sum_by (λ (t : Placed). t.len) (cond (not b) (t ∷ but_those (has_number n) ts) (but_those (has_number n) ts)) + s.len ≡ sum_by (λ (t : Placed). t.len) (t ∷ ts)
    go more true e h =
        let same : t ≡ s = cc in
        let len : t.len ≡ s.len = ap (λ (t : Placed). t.len) same in
        let rest = ap (sum_by (λ (t : Placed). t.len)) (right_of ts (equal t.number n e) d.0) in
        omega (arith, rest, len, sum_by-cons (λ (t : Placed). t.len) t ts)
    go more false e h = omega (arith, more h, sum_by-cons (λ (t : Placed). t.len) t (but_those (has_number n) ts), sum_by-cons (λ (t : Placed). t.len) t ts)

-- slices in order take no more bytes than there are
pub total_within : (from size : ℕ) (ss : List Placed) → AreInOrder from size ss → from + sum_by (λ (s : Placed). s.len) ss ≤ size
total_within from size [] o = omega arith
total_within from size (s ∷ ss) o = let rest = total_within (slice_end s) size ss o.2 in rw sum_by-cons (omega arith)

-- its bytes lie within the pool
pub bytes_within : (size : ℕ) (c : Chained) → IsKept size c → used (chain_book size c) ≤ size
bytes_within size c k = omega (arith, total_within 0 size (slices_of c) k.sound.order)

-- how many bytes the slices take with one more
pub bytes_with : (size : ℕ) (c : Chained) (new : Placed) (c' : Chained) → IsOneMore size c new c' → used (chain_book size c') ≡ used (chain_book size c) + new.len
bytes_with size c new c' m = let sum = ap (sum_by (λ (t : Placed). t.len)) m.slices ∙ sum_with new (slices_of c) in omega (arith, sum)

-- a number in the order has its slice
pub slice_in : (size : ℕ) (c : Chained) (n : ℕ) → IsKept size c → contains n c.order ≡ true → find (has_number n) (slices_of c) ≡ Some (slice_of c.spans n)
slice_in size c n k h = first_of c.spans n c.order ∙ ap (λ b. cond b (Some (slice_of c.spans n)) None) h

-- and with one less
pub bytes_without : (size : ℕ) (c : Chained) (n : ℕ) (c' : Chained) → IsKept size c → contains n c.order ≡ true → IsOneLess size c n c' → used (chain_book size c') + (slice_of c.spans n).len ≡ used (chain_book size c)
bytes_without size c n c' k h m =
    let sum = ap (sum_by (λ (t : Placed). t.len)) m.slices in
    omega (arith, sum, sum_without n (slice_of c.spans n) (slices_of c) k.sound.distinct (slice_in size c n k h))

-- ---- a gap's span is changed

-- a slice's span stands apart from those of gaps
pub slice_apart : (sp : List Span) (i : ℕ) (s : Span) (k : ℕ) → k ≤ START → slice_of (set sp (GAPS + i) s) k ≡ slice_of sp k
slice_apart sp i s k low = ap (λ (t : Span). record { number = k; offset = t.offset; len = t.len }) (get_or-set_other sp (GAPS + i) k s no_span (λ e. omega arith))

pub record IsSame (size : ℕ) (c c' : Chained) : Type 0 where
  pub kept : IsKept size c'
  pub slices : slices_of c' ≡ slices_of c

pub kept_refiled : (size : ℕ) (c c' : Chained) (i : ℕ) (s : Span) → IsKept size c → c'.order ≡ c.order → c'.spans ≡ set c.spans (GAPS + i) s → IsSame size c c'
kept_refiled size c c' i s k o e =
    let each : AllByRecursion (λ n. slice_of (set c.spans (GAPS + i) s) n ≡ slice_of c.spans n) c.order = all_follow (λ n. n < SLICES) (λ n. slice_of (set c.spans (GAPS + i) s) n ≡ slice_of c.spans n) c.order (λ n h. slice_apart c.spans i s n (omega arith)) (numbers_below c.spans c.order k.sound.numbers) in
    let slices : slices_of c' ≡ slices_of c = ap (λ l. map (slice_of l) c'.order) e ∙ ap (map (slice_of (set c.spans (GAPS + i) s))) o ∙ same_map (slice_of c.spans) (slice_of (set c.spans (GAPS + i) s)) c.order each in
    record {
      kept = record {
        fits = k.fits;
        sound = rw slices k.sound;
        count = ap length e ∙ length-set c.spans (GAPS + i) s ∙ k.count;
        unused = λ n low h. ap (λ l. slice_index_or l n no_span) e ∙ get_or-set_other c.spans (GAPS + i) n s no_span (λ same. omega arith) ∙ k.unused n low (ap (contains n) (sym o) ∙ h);
      };
      slices = slices;
    }

-- a number that has a slice is placed
pub found_is_placed : (f : Placed → ℕ × ℕ) (n : ℕ) (ss : List Placed) → is_some (option_map f (find (has_number n) ss)) ≡ true → some_of (has_number n) ss ≡ true
found_is_placed f n [] h = absurd (true≢false (sym h))
found_is_placed f n (s ∷ ss) h = go (has_number n s) (found_is_placed f n ss) h
  where
    go : (b : Bool) → (is_some (option_map f (find (has_number n) ss)) ≡ true → some_of (has_number n) ss ≡ true) → is_some (option_map f (cond b (Some s) (find (has_number n) ss))) ≡ true → (b || some_of (has_number n) ss) ≡ true
    go true more h = refl
    go false more h = more h
