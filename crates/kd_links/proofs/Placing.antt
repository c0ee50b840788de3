-- A chain of slices and gaps stays one with a slice more at its place, and with one less.
use Rattle.std.specs.Prelude.{◌≡◌, ◌≢◌, ◌<◌, ◌≤◌, ◌+◌, ◌-◌, ◌%◌, ◌^◌, ℕ, Bool, true, false, List, [], ◌∷◌, None, Some, length, map, nat_eq, nat_lt, nat_le, option_map, refl, slice_index_or}
use Rattle.std.proofs.Common.{ap, arith, set, sym, ◌∙◌, subst}
use Rattle.std.proofs.lemmas.Bool.{true≢false}
use Rattle.std.proofs.lemmas.Bool.Decides.{nat_tests}
use Rattle.std.proofs.lemmas.List.{get_or-set_same, get_or-set_other, length-set}
use Rattle.kd_model.proofs.Lists.{found_passes}
use Rattle.kd_model.proofs.Truth.{left_true}
use Rattle.kd_model.specs.Slices.{AreInOrder, has_number, is_lower, place, slice_end, unused_number, used}
use Rattle.kd_model.specs.Words.{but_those, contains, put_in_order}
use Rattle.kd_model.specs.declared.placed.Gap.{Gap}
use Rattle.kd_model.specs.declared.placed.Placed.{Placed}
use Rattle.kd_model.specs.declared.slice_no.TheConstants.{SLICES}
use Rattle.kd_rings.specs.Rings.{AllBut, before, put_behind}
use Rattle.kd_links.specs.Chains.{Chained, no_span}
use Rattle.kd_links.specs.Filed.{AreBehind, IsFiled, first_fit, fits, gap_from, lying, no_gap, rank}
use Rattle.kd_links.specs.Kept.{IsBinned, IsKept, IsLinked, chain_book, slice_of, slices_of}
use Rattle.kd_links.specs.declared.node.Span.{Span}
use Rattle.kd_rings.specs.declared.heads.TheConstants.{HEAD, START}
use Rattle.kd_links.specs.declared.node.TheConstants.{GAPS, MARKS, NODES}
use Rattle.kd_links.proofs.Books.{IsOneLess, IsOneMore, IsPlace, bytes_with, bytes_within, bytes_without, free, kept_apart, kept_empty, kept_refiled, kept_with, kept_without, numbers_below, out_before, put_there, same_chain, start_ends, still_out, with_one, without_one}
use Rattle.kd_links.proofs.Filed.{filed_beside}
use Rattle.kd_rings.proofs.Linked.{all_but, differ, equal, not_in, without}
use Rattle.kd_rings.proofs.Ends.{before_among}
use Rattle.kd_links.proofs.Lying.{AreOut, ArePut, IsBest, beside, is_best, lies, low_numbers, none_best, out_gaps, put_gaps}
use Rattle.kd_rings.proofs.Rings.{holds_in, later}
use Rattle.kd_slices.proofs.Walks.{ends_within}

-- what is found in order of size is a gap
pub fit_low : (c : Chained) (len p : ℕ) → first_fit c len ≡ Some (GAPS + p) → p ≤ START
fit_low c len p e =
    let passes = found_passes (fits c.spans len) c.gaps (GAPS + p) e in
    let test : nat_lt (GAPS + p) MARKS ≡ true = left_true (nat_lt (GAPS + p) MARKS) (nat_le len (rank c.spans (GAPS + p)).len) passes in
    let low : GAPS + p < MARKS = grind (arith, nat_tests) in
    omega arith

-- a gap of some bytes begins where the slice before it ends
begins_behind : (r : ℕ → Gap) (f : ℕ → Placed) (size at e p : ℕ) (xs : List ℕ) → AreBehind r f size at e xs → slice_end (f e) ≡ at → contains p (e ∷ xs) ≡ true → 0 < (r (GAPS + p)).len → slice_end (f p) ≡ (r (GAPS + p)).start
begins_behind r f size at e p [] h ends i some = go (nat_eq e p) refl
  where
    go : (t : Bool) → nat_eq e p ≡ t → slice_end (f p) ≡ (r (GAPS + p)).start
    go true q =
        let same = equal e p q in
        let l = lies (r (GAPS + p)) at size (ap (λ k. r (GAPS + k)) (sym same) ∙ h) some in
        ap (λ k. slice_end (f k)) (sym same) ∙ ends ∙ sym l.0
    go false q = absurd (true≢false (sym (later_of q)))
      where
        later_of : nat_eq e p ≡ false → false ≡ true
        later_of q = let other : nat_eq p e ≡ false = grind (arith, nat_tests) in rw other at i
begins_behind r f size at e p (x ∷ xs) h ends i some = go (λ j. begins_behind r f size (slice_end (f x)) x p xs h.1 refl j some) (nat_eq e p) refl
  where
    go : (contains p (x ∷ xs) ≡ true → slice_end (f p) ≡ (r (GAPS + p)).start) → (t : Bool) → nat_eq e p ≡ t → slice_end (f p) ≡ (r (GAPS + p)).start
    go more true q =
        let same = equal e p q in
        let l = lies (r (GAPS + p)) at (f x).offset (ap (λ k. r (GAPS + k)) (sym same) ∙ h.0) some in
        ap (λ k. slice_end (f k)) (sym same) ∙ ends ∙ sym l.0
    go more false q = let other : nat_eq p e ≡ false = grind (arith, nat_tests) in more (rw other at i)

-- a place that is changed three times, and one beside them
thrice : (sp : List Span) (a b d k : ℕ) (x y z : Span) → k ≢ a → k ≢ b → k ≢ d → slice_index_or (set (set (set sp a x) b y) d z) k no_span ≡ slice_index_or sp k no_span
thrice sp a b d k x y z na nb nd = get_or-set_other (set (set sp a x) b y) d k z no_span nd ∙ get_or-set_other (set sp a x) b k y no_span nb ∙ get_or-set_other sp a k x no_span na

-- what a placing knows: a number, and the gap that was found
pub record IsPlacing (size len p n : ℕ) (c : Chained) : Type 0 where
  pub kept : IsKept size c
  pub binned : IsBinned size c
  pub some : 0 < len
  pub even : len % 8 ≡ 0
  pub unused : unused_number (chain_book size c) ≡ Some n
  pub fit : first_fit c len ≡ Some (GAPS + p)

pub best_of : (size len p n : ℕ) (c : Chained) → IsPlacing size len p n c → IsBest size len p c
best_of size len p n c w = is_best size len p c w.kept w.binned w.some (fit_low c len p w.fit) w.fit

-- the new slice's span
abbrev pub new_span : Chained → ℕ → ℕ → Span
new_span c p len = record { offset = (rank c.spans (GAPS + p)).start; len = len }

pub is_place : (size len p n : ℕ) (c : Chained) → IsPlacing size len p n c → IsPlace size c p n len (rank c.spans (GAPS + p))
is_place size len p n c w =
    let b = best_of size len p n c w in
    let bytes : 0 < (rank c.spans (GAPS + p)).len = omega (arith, b.enough, w.some) in
    record {
      some = w.some;
      even = w.even;
      unused = w.unused;
      best = b.best;
      behind = record {
        among = b.among;
        ends = begins_behind (rank c.spans) (slice_of c.spans) size 0 START p c.order w.binned.behind (start_ends size c w.kept) b.among bytes;
      };
    }

-- what a placing leaves: the slice behind another, the gap before it without bytes, and the one
-- behind it with what is left
pub record IsPlaced (len p n : ℕ) (c c' : Chained) (rest : Span) : Type 0 where
  pub order : c'.order ≡ put_behind p n START c.order
  pub spans : c'.spans ≡ set (set (set c.spans n (new_span c p len)) (GAPS + p) no_span) (GAPS + n) rest
  pub filed : IsFiled c'
  pub left : gap_from rest ≡ lying ((rank c.spans (GAPS + p)).start + len) ((rank c.spans (GAPS + p)).start + (rank c.spans (GAPS + p)).len)

pub binned_with : (size len p n : ℕ) (c c' : Chained) (rest : Span) → IsPlacing size len p n c → IsPlaced len p n c c' rest → IsBinned size c'
binned_with size len p n c c' rest w d =
    let b = best_of size len p n c w in
    let f = free size c n w.kept w.unused in
    let below : n < SLICES = f.below in
    let low : p ≤ START = fit_low c len p w.fit in
    let count : length c.spans ≡ NODES = w.kept.count in
    let s = new_span c p len in
    let one = set c.spans n s in let two = set one (GAPS + p) no_span in
    let pn : p ≢ n = holds_in (λ k. k ≢ n) p (START ∷ c.order) f.other b.among in
    let at_n : slice_index_or c'.spans n no_span ≡ s = ap (λ l. slice_index_or l n no_span) d.spans ∙ get_or-set_other two (GAPS + n) n rest no_span (λ e. omega arith) ∙ get_or-set_other one (GAPS + p) n no_span no_span (λ e. omega arith) ∙ get_or-set_same c.spans n s no_span f.inside in
    let long_one : length one ≡ NODES = length-set c.spans n s ∙ count in
    let long_two : length two ≡ NODES = length-set one (GAPS + p) no_span ∙ long_one in
    let here : slice_index_or c'.spans (GAPS + p) no_span ≡ no_span = ap (λ l. slice_index_or l (GAPS + p) no_span) d.spans ∙ get_or-set_other two (GAPS + n) (GAPS + p) rest no_span (λ e. pn (omega arith)) ∙ get_or-set_same one (GAPS + p) no_span no_span (omega arith) in
    let last : slice_index_or c'.spans (GAPS + n) no_span ≡ rest = ap (λ l. slice_index_or l (GAPS + n) no_span) d.spans ∙ get_or-set_same two (GAPS + n) rest no_span (omega arith) in
    let put : ArePut (rank c.spans) (rank c'.spans) (slice_of c.spans) (slice_of c'.spans) p n len = record {
      enough = b.enough;
      some = w.some;
      offset = ap (λ (t : Span). t.offset) at_n;
      bytes = ap (λ (t : Span). t.len) at_n;
      here = ap gap_from here;
      rest = ap gap_from last ∙ d.left;
      others = λ k kp kn. ap (λ l. rank l (GAPS + k)) d.spans ∙ ap gap_from (thrice c.spans n (GAPS + p) (GAPS + n) (GAPS + k) s no_span rest (λ e. omega arith) (λ e. kp (omega arith)) (λ e. kn (omega arith)));
      slices = λ k le kn. ap (λ l. slice_of l k) d.spans ∙ ap (λ (t : Span). record { number = k; offset = t.offset; len = t.len }) (thrice c.spans n (GAPS + p) (GAPS + n) k s no_span rest kn (λ e. omega arith) (λ e. omega arith));
    } in
    let there = put_there p n START c.order b.among in
    record {
      filed = d.filed;
      behind = subst (λ xs. AreBehind (rank c'.spans) (slice_of c'.spans) size 0 START xs) (sym d.order) (put_gaps (rank c.spans) (rank c'.spans) (slice_of c.spans) (slice_of c'.spans) size 0 p n len START c.order put w.binned.behind b.among (kept_apart size c w.kept) f.other (low_numbers size c w.kept).1);
      free = λ m lt h.
          let out : contains m (put_behind p n START c.order) ≡ false = ap (contains m) (sym d.order) ∙ h in
          let mn : m ≢ n = λ e. true≢false (sym there ∙ ap (λ i. contains i (put_behind p n START c.order)) (sym e) ∙ out) in
          let apart : AllBut m c.order = still_out p n START m c.order (all_but m (put_behind p n START c.order) out) in
          let pm : p ≢ m = holds_in (λ k. k ≢ m) p (START ∷ c.order) ((λ e. omega arith), apart) b.among in
          put.others m (λ e. pm (sym e)) mn ∙ w.binned.free m lt (not_in m c.order apart);
    }

-- what two changes of gaps leave of the slices
twice_same : (size : ℕ) (c1 c2 c3 : Chained) (i j : ℕ) (s t : Span) → IsKept size c1 → c2.order ≡ c1.order → c2.spans ≡ set c1.spans (GAPS + i) s → c3.order ≡ c2.order → c3.spans ≡ set c2.spans (GAPS + j) t → IsKept size c3 × (slices_of c3 ≡ slices_of c1)
twice_same size c1 c2 c3 i j s t k o2 s2 o3 s3 =
    let a = kept_refiled size c1 c2 i s k o2 s2 in
    let b = kept_refiled size c2 c3 j t a.kept o3 s3 in
    (b.kept, b.slices ∙ a.slices)

-- the calls of a placing: the slice is put in, and the two gaps change
pub record Places (len p n : ℕ) (c c1 c2 c3 : Chained) (rest : Span) : Type 0 where
  pub order1 : c1.order ≡ put_behind p n START c.order
  pub gaps1 : c1.gaps ≡ c.gaps
  pub spans1 : c1.spans ≡ set c.spans n (new_span c p len)
  pub order2 : c2.order ≡ c1.order
  pub spans2 : c2.spans ≡ set c1.spans (GAPS + p) no_span
  pub order3 : c3.order ≡ c2.order
  pub filed3 : IsFiled c3
  pub spans3 : c3.spans ≡ set c2.spans (GAPS + n) rest
  pub left : gap_from rest ≡ lying ((rank c.spans (GAPS + p)).start + len) ((rank c.spans (GAPS + p)).start + (rank c.spans (GAPS + p)).len)

-- the chain with the slice put in
pub one_more : (size len p n : ℕ) (c c1 : Chained) → IsPlacing size len p n c → c1.order ≡ put_behind p n START c.order → c1.gaps ≡ c.gaps → c1.spans ≡ set c.spans n (new_span c p len) → IsOneMore size c (record { number = n; offset = (rank c.spans (GAPS + p)).start; len = len }) c1
one_more size len p n c c1 w o g s =
    let m = kept_with size c p n len (rank c.spans (GAPS + p)) w.kept (is_place size len p n c w) in
    let same : c1 ≡ with_one c p n (new_span c p len) = same_chain c1 (with_one c p n (new_span c p len)) o g s in
    subst (IsOneMore size c (record { number = n; offset = (rank c.spans (GAPS + p)).start; len = len })) (sym same) m

pub filed_one_more : (size len p n : ℕ) (c c1 : Chained) → IsPlacing size len p n c → c1.gaps ≡ c.gaps → c1.spans ≡ set c.spans n (new_span c p len) → IsFiled c1
filed_one_more size len p n c c1 w g s =
    let below : n < SLICES = (free size c n w.kept w.unused).below in
    filed_beside c c1 n (new_span c p len) w.binned.filed (omega arith) g s

-- a book after a placing
pub record IsAfter (size bytes : ℕ) (slices : List Placed) (c : Chained) : Type 0 where
  pub linked : IsLinked size bytes c
  pub slices_are : slices_of c ≡ slices

pub placed : (size bytes len p n : ℕ) (c c1 c2 c3 : Chained) (rest : Span) → IsPlacing size len p n c → bytes ≡ used (chain_book size c) → Places len p n c c1 c2 c3 rest → IsAfter size (bytes + len) (put_in_order is_lower (record { number = n; offset = (rank c.spans (GAPS + p)).start; len = len }) (slices_of c)) c3
placed size bytes len p n c c1 c2 c3 rest w total d =
    let m = one_more size len p n c c1 w d.order1 d.gaps1 d.spans1 in
    let k = twice_same size c1 c2 c3 p n no_span rest m.kept d.order2 d.spans2 d.order3 d.spans3 in
    let sum = bytes_with size c (record { number = n; offset = (rank c.spans (GAPS + p)).start; len = len }) c1 m in
    let same : used (chain_book size c3) ≡ used (chain_book size c1) = ap (λ ss. used (record { size = size; slices = ss })) k.1 in
    record {
      linked = record {
        kept = k.0;
        binned = binned_with size len p n c c3 rest w (record {
          order = d.order3 ∙ d.order2 ∙ d.order1;
          spans = d.spans3 ∙ ap (λ l. set l (GAPS + n) rest) (d.spans2 ∙ ap (λ l. set l (GAPS + p) no_span) d.spans1);
          filed = d.filed3;
          left = d.left;
        });
        total = omega (arith, sum, same, total);
      };
      slices_are = k.1 ∙ m.slices;
    }

-- ---- a slice less

before_other : (n e : ℕ) (xs : List ℕ) → e ≢ n → before n e xs ≢ n
before_other n e [] h = h
before_other n e (x ∷ xs) h = go (λ a. before_other n x xs a) (nat_eq x n) refl
  where
    go : (x ≢ n → before n x xs ≢ n) → (t : Bool) → nat_eq x n ≡ t → elim t [ true ↦ e | false ↦ before n x xs ] ≢ n
    go more true q = h
    go more false q = more (differ x n q)

-- the number before a slice
abbrev pub before_in : Chained → ℕ → ℕ
before_in c n = before n START c.order

-- the calls of a giving back: the slice is taken out, and the two gaps change
pub record GivesBack (n : ℕ) (c c1 c2 c3 : Chained) (whole : Span) : Type 0 where
  pub order1 : c1.order ≡ without n c.order
  pub gaps1 : c1.gaps ≡ c.gaps
  pub spans1 : c1.spans ≡ set c.spans n no_span
  pub order2 : c2.order ≡ c1.order
  pub spans2 : c2.spans ≡ set c1.spans (GAPS + n) no_span
  pub order3 : c3.order ≡ c2.order
  pub filed3 : IsFiled c3
  pub spans3 : c3.spans ≡ set c2.spans (GAPS + before_in c n) whole
  pub merged : gap_from whole ≡ lying ((slice_of c.spans n).offset - (rank c.spans (GAPS + before_in c n)).len) (slice_end (slice_of c.spans n) + (rank c.spans (GAPS + n)).len)

-- the number of a slice in the order, and of the one before it
pub low_of : (size : ℕ) (c : Chained) (n : ℕ) → IsKept size c → contains n c.order ≡ true → n < SLICES
low_of size c n k h = holds_in (λ m. m < SLICES) n c.order (numbers_below c.spans c.order k.sound.numbers) h

pub before_low : (size : ℕ) (c : Chained) (n : ℕ) → IsKept size c → contains n c.order ≡ true → before_in c n ≤ START
before_low size c n k h = holds_in (λ m. m ≤ START) (before_in c n) (START ∷ c.order) (low_numbers size c k) (before_among n START c.order h)

pub sides : (size : ℕ) (c : Chained) (n : ℕ) → IsKept size c → IsBinned size c → contains n c.order ≡ true → ((rank c.spans (GAPS + before_in c n)).len ≤ (slice_of c.spans n).offset) × (slice_end (slice_of c.spans n) + (rank c.spans (GAPS + n)).len ≤ size)
sides size c n k b h = beside (rank c.spans) (slice_of c.spans) size 0 n START c.order b.behind k.sound.order h

binned_without : (size n : ℕ) (c c1 c2 c3 : Chained) (whole : Span) → IsKept size c → IsBinned size c → contains n c.order ≡ true → GivesBack n c c1 c2 c3 whole → IsBinned size c3
binned_without size n c c1 c2 c3 whole k b h d =
    let p = before_in c n in
    let below : n < SLICES = low_of size c n k h in
    let low : p ≤ START = before_low size c n k h in
    let count : length c.spans ≡ NODES = k.count in
    let pn : p ≢ n = before_other n START c.order (λ e. omega arith) in
    let one = set c.spans n no_span in let two = set one (GAPS + n) no_span in
    let spans : c3.spans ≡ set two (GAPS + p) whole = d.spans3 ∙ ap (λ l. set l (GAPS + p) whole) (d.spans2 ∙ ap (λ l. set l (GAPS + n) no_span) d.spans1) in
    let order : c3.order ≡ without n c.order = d.order3 ∙ d.order2 ∙ d.order1 in
    let long_one : length one ≡ NODES = length-set c.spans n no_span ∙ count in
    let long_two : length two ≡ NODES = length-set one (GAPS + n) no_span ∙ long_one in
    let here : slice_index_or c3.spans (GAPS + p) no_span ≡ whole = ap (λ l. slice_index_or l (GAPS + p) no_span) spans ∙ get_or-set_same two (GAPS + p) whole no_span (omega arith) in
    let gone : slice_index_or c3.spans (GAPS + n) no_span ≡ no_span = ap (λ l. slice_index_or l (GAPS + n) no_span) spans ∙ get_or-set_other two (GAPS + p) (GAPS + n) whole no_span (λ e. pn (omega arith)) ∙ get_or-set_same one (GAPS + n) no_span no_span (omega arith) in
    let out : AreOut (rank c.spans) (rank c3.spans) (slice_of c.spans) (slice_of c3.spans) p n = record {
      whole = ap gap_from here ∙ d.merged;
      others = λ m mp mn. ap (λ l. rank l (GAPS + m)) spans ∙ ap gap_from (thrice c.spans n (GAPS + n) (GAPS + p) (GAPS + m) no_span no_span whole (λ e. omega arith) (λ e. mn (omega arith)) (λ e. mp (omega arith)));
      slices = λ m le mn. ap (λ l. slice_of l m) spans ∙ ap (λ (t : Span). record { number = m; offset = t.offset; len = t.len }) (thrice c.spans n (GAPS + n) (GAPS + p) m no_span no_span whole mn (λ e. omega arith) (λ e. omega arith));
    } in
    record {
      filed = d.filed3;
      behind = subst (λ xs. AreBehind (rank c3.spans) (slice_of c3.spans) size 0 START xs) (sym order) (out_gaps (rank c.spans) (rank c3.spans) (slice_of c.spans) (slice_of c3.spans) size 0 n START c.order out b.behind k.sound.order h (kept_apart size c k) (low_numbers size c k).1);
      free = λ m lt i. go m lt (ap (contains m) (sym order) ∙ i) (ap gap_from gone) out (nat_eq m n) refl;
    }
  where
    go : (m : ℕ) → m < START → contains m (without n c.order) ≡ false → rank c3.spans (GAPS + n) ≡ no_gap → AreOut (rank c.spans) (rank c3.spans) (slice_of c.spans) (slice_of c3.spans) (before_in c n) n → (t : Bool) → nat_eq m n ≡ t → rank c3.spans (GAPS + m) ≡ no_gap
    go m lt i gone out true q = ap (λ j. rank c3.spans (GAPS + j)) (equal m n q) ∙ gone
    go m lt i gone out false q =
        let mn = differ m n q in
        let apart : AllBut m c.order = out_before n m c.order mn (all_but m (without n c.order) i) in
        let pm : before_in c n ≢ m = holds_in (λ j. j ≢ m) (before_in c n) (START ∷ c.order) ((λ e. omega arith), apart) (before_among n START c.order h) in
        out.others m (λ e. pm (sym e)) mn ∙ b.free m lt (not_in m c.order apart)

pub one_less : (size n : ℕ) (c c1 : Chained) → IsKept size c → contains n c.order ≡ true → c1.order ≡ without n c.order → c1.gaps ≡ c.gaps → c1.spans ≡ set c.spans n no_span → IsOneLess size c n c1
one_less size n c c1 k h o g s =
    let m = kept_without size c n k h in
    let same : c1 ≡ without_one c n = same_chain c1 (without_one c n) o g s in
    subst (IsOneLess size c n) (sym same) m

pub filed_one_less : (size n : ℕ) (c c1 : Chained) → IsKept size c → IsBinned size c → contains n c.order ≡ true → c1.gaps ≡ c.gaps → c1.spans ≡ set c.spans n no_span → IsFiled c1
filed_one_less size n c c1 k b h g s =
    let below : n < SLICES = low_of size c n k h in
    filed_beside c c1 n no_span b.filed (omega arith) g s

pub given_back : (size bytes n : ℕ) (c c1 c2 c3 : Chained) (whole : Span) → IsLinked size bytes c → contains n c.order ≡ true → GivesBack n c c1 c2 c3 whole → IsAfter size (bytes - (slice_of c.spans n).len) (but_those (has_number n) (slices_of c)) c3
given_back size bytes n c c1 c2 c3 whole w h d =
    let m = one_less size n c c1 w.kept h d.order1 d.gaps1 d.spans1 in
    let k = twice_same size c1 c2 c3 n (before_in c n) no_span whole m.kept d.order2 d.spans2 d.order3 d.spans3 in
    let sum = bytes_without size c n c1 w.kept h m in
    let same : used (chain_book size c3) ≡ used (chain_book size c1) = ap (λ ss. used (record { size = size; slices = ss })) k.1 in
    record {
      linked = record {
        kept = k.0;
        binned = binned_without size n c c1 c2 c3 whole w.kept w.binned h d;
        total = omega (arith, sum, same, w.total);
      };
      slices_are = k.1 ∙ m.slices;
    }

-- a slice takes no more bytes than all
pub part_of : (size bytes n : ℕ) (c c1 : Chained) → IsLinked size bytes c → contains n c.order ≡ true → IsOneLess size c n c1 → (slice_of c.spans n).len ≤ bytes
part_of size bytes n c c1 w h m = omega (arith, bytes_without size c n c1 w.kept h m, w.total)

-- ---- no slices

pub linked_empty : (size : ℕ) (c1 c2 : Chained) (t : Span) → size < 2 ^ 32 → size % 8 ≡ 0 → c1.order ≡ [] → IsFiled c1 → ((k : ℕ) → k < HEAD → slice_index_or c1.spans k no_span ≡ no_span) → ((n : ℕ) → n ≤ START → rank c1.spans (GAPS + n) ≡ no_gap) → c2.order ≡ c1.order → IsFiled c2 → c2.spans ≡ set c1.spans (GAPS + START) t → gap_from t ≡ lying 0 (0 + size) → IsLinked size 0 c2
linked_empty size c1 c2 t small even o1 f1 slices gaps o2 f2 s2 whole =
    let count : length c1.spans ≡ NODES = f1.ranked.count in
    let kept = kept_refiled size c1 c2 START t (kept_empty size c1 small even o1 count (λ n low. slices n (omega arith))) o2 s2 in
    let none : c2.order ≡ [] = o2 ∙ o1 in
    let all : 0 + size ≡ size = omega arith in
    let here : rank c2.spans (GAPS + START) ≡ lying 0 size = ap (λ l. rank l (GAPS + START)) s2 ∙ ap gap_from (get_or-set_same c1.spans (GAPS + START) t no_span (omega arith)) ∙ whole ∙ ap (lying 0) all in
    record {
      kept = kept.kept;
      binned = record {
        filed = f2;
        behind = subst (λ xs. AreBehind (rank c2.spans) (slice_of c2.spans) size 0 START xs) (sym none) here;
        free = λ n lt h. ap (λ l. rank l (GAPS + n)) s2 ∙ ap gap_from (get_or-set_other c1.spans (GAPS + START) (GAPS + n) t no_span (λ e. omega arith)) ∙ gaps n (omega arith);
      };
      total = rw none refl;
    }

-- ---- what a placing answers

-- a gap of some bytes lies within the pool
gap_inside : (r : ℕ → Gap) (f : ℕ → Placed) (size at e p : ℕ) (xs : List ℕ) → AreBehind r f size at e xs → AreInOrder at size (map f xs) → contains p (e ∷ xs) ≡ true → 0 < (r (GAPS + p)).len → (r (GAPS + p)).start + (r (GAPS + p)).len ≤ size
gap_inside r f size at e p [] h o i some = go (nat_eq e p) refl
  where
    go : (t : Bool) → nat_eq e p ≡ t → (r (GAPS + p)).start + (r (GAPS + p)).len ≤ size
    go true q = let l = lies (r (GAPS + p)) at size (ap (λ k. r (GAPS + k)) (sym (equal e p q)) ∙ h) some in omega (arith, l.0, l.1)
    go false q = absurd (true≢false (sym (later p e [] i q)))
gap_inside r f size at e p (x ∷ xs) h o i some = go (λ j. gap_inside r f size (slice_end (f x)) x p xs h.1 o.2 j some) (nat_eq e p) refl
  where
    go : (contains p (x ∷ xs) ≡ true → (r (GAPS + p)).start + (r (GAPS + p)).len ≤ size) → (t : Bool) → nat_eq e p ≡ t → (r (GAPS + p)).start + (r (GAPS + p)).len ≤ size
    go more true q =
        let l = lies (r (GAPS + p)) at (f x).offset (ap (λ k. r (GAPS + k)) (sym (equal e p q)) ∙ h.0) some in
        let within = ends_within (slice_end (f x)) size (map f xs) o.2 in
        omega (arith, l.0, l.1, within)
    go more false q = more (later p e (x ∷ xs) i q)

pub within_pool : (size len p n : ℕ) (c : Chained) → IsPlacing size len p n c → (rank c.spans (GAPS + p)).start + (rank c.spans (GAPS + p)).len ≤ size
within_pool size len p n c w =
    let b = best_of size len p n c w in
    gap_inside (rank c.spans) (slice_of c.spans) size 0 START p c.order w.binned.behind w.kept.sound.order b.among (omega (arith, b.enough, w.some))

pub none_placed : (size len : ℕ) (c : Chained) → IsKept size c → IsBinned size c → first_fit c len ≡ None → place (chain_book size c) len ≡ None
unfolding place
none_placed size len c k b e = ap (option_map (λ (g : Gap). g.start)) (none_best size c len k b e)

pub placed_at : (size len p n : ℕ) (c : Chained) → IsPlacing size len p n c → place (chain_book size c) len ≡ Some (rank c.spans (GAPS + p)).start
unfolding place
placed_at size len p n c w = ap (option_map (λ (g : Gap). g.start)) (best_of size len p n c w).best

-- the bytes of all slices with the new one
pub bytes_fit : (size bytes len p n : ℕ) (c c1 : Chained) → IsPlacing size len p n c → bytes ≡ used (chain_book size c) → c1.order ≡ put_behind p n START c.order → c1.gaps ≡ c.gaps → c1.spans ≡ set c.spans n (new_span c p len) → bytes + len ≤ size
bytes_fit size bytes len p n c c1 w total o g s =
    let m = one_more size len p n c c1 w o g s in
    let sum = bytes_with size c (record { number = n; offset = (rank c.spans (GAPS + p)).start; len = len }) c1 m in
    omega (arith, sum, total, bytes_within size c1 m.kept)
