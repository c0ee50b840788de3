-- Pieces of bytes, and of words.
use Rattle.std.proofs.Common.{◌≡◌, ℕ, zero, suc, ◌+◌, ◌-◌, ◌*◌, ◌/◌, ◌%◌, ◌<◌, ◌≤◌, ◌==◌, Bool, true, false, ◌&&◌, ◌||◌, ◌⊎◌, inl, inr, List, [], ◌∷◌, ◌++◌, length, get_or, take, drop, min, replicate, set, length-set, refl, ap, sym, ◌∙◌, arith, length-append, length-drop}
use Rattle.std.proofs.lemmas.List.{take_at, drop_at, take-append-le, take-take, drop-append-le, drop-take, get_or-set_same, get_or-set_other, drop-drop, drop-replicate, take-replicate, take_all, length-take-le}
use borrow.Rule.Slice.PartMut.{put_mid}
use Rattle.std.proofs.Math.Bool.{and-true}
use Rattle.std.proofs.Math.Seq.{drop-nil, drop-append-add, take-append-add}
use Rattle.std.proofs.lemmas.Bool.{cases_eq, eqb-true, eq-eqb, or_cases, or_left, or_right, false≢true, false_from_ne_true}
use Rattle.std.proofs.lemmas.Nat.{div-add-mod', div-mul-add, mod-mul-add}
use Rattle.kd_bloom.specs.Bits.{bit_is_set, pieces, has_filter_size, passes, meets, tested}
use Rattle.kd_bloom.specs.Bloom.{is_mask_length, IsMask, Marked, digest_bits, hash_count}
use Rattle.kd_model.specs.Words.{contains}
use Rattle.sha2.specs.Sha256.{sha256}
use Rattle.kd_bloom.specs.Packed.{packed_word, unpacked, Packs, IsWide}
use Rattle.kd_bloom.proofs.Packs.{length-word, length-unpacked, same_bits, packs_whole}
use Rattle.kd_bloom.proofs.Marks.{filter_none, filter_more}
use Rattle.kd_bloom.proofs.Sets.{passes_same}

pub length-pieces : (n size : ℕ) (bytes : List ℕ) → length (pieces n size bytes) ≡ n
length-pieces zero size bytes = refl
length-pieces (suc n) size bytes = let e = length-pieces n size (drop size bytes) in omega arith

-- the piece at a place
pub get_or-pieces : (n size : ℕ) (bytes : List ℕ) (i : ℕ) → i < n → get_or (pieces n size bytes) i [] ≡ take size (drop (i * size) bytes)
get_or-pieces zero size bytes i lt = absurd (omega arith)
get_or-pieces (suc n) size bytes zero lt =
    let start : 0 ≡ 0 * size = omega arith in
    ap (λ (k : ℕ). take size (drop k bytes)) start
get_or-pieces (suc n) size bytes (suc i) lt =
    let start : size + i * size ≡ suc i * size = omega arith in
    get_or-pieces n size (drop size bytes) i (omega arith) ∙ ap (take size) (drop-drop (i * size) size bytes ∙ ap (λ (k : ℕ). drop k bytes) start)

unpacked_drop : (k : ℕ) (ws : List ℕ) → drop (8 * k) (unpacked ws) ≡ unpacked (drop k ws)
unfolding unpacked
unpacked_drop zero ws = refl
unpacked_drop (suc k) [] = drop-nil (8 * suc k)
unpacked_drop (suc k) (w ∷ ws) =
    let start : 8 * suc k ≡ length (packed_word w) + 8 * k = omega (arith, length-word w) in
    ap (λ (n : ℕ). drop n (packed_word w ++ unpacked ws)) start ∙ drop-append-add (packed_word w) (unpacked ws) (8 * k) ∙ unpacked_drop k ws

unpacked_take : (k : ℕ) (ws : List ℕ) → take (8 * k) (unpacked ws) ≡ unpacked (take k ws)
unfolding unpacked
unpacked_take zero ws = refl
unpacked_take (suc k) [] = take_all (8 * suc k) [] (omega arith)
unpacked_take (suc k) (w ∷ ws) =
    let start : 8 * suc k ≡ length (packed_word w) + 8 * k = omega (arith, length-word w) in
    ap (λ (n : ℕ). take n (packed_word w ++ unpacked ws)) start ∙ take-append-add (packed_word w) (unpacked ws) (8 * k) ∙ ap (packed_word w ++◌) (unpacked_take k ws)

-- ---- the size of the generations

pub and_same : (b : Bool) → (b && b) ≡ b
and_same true = refl
and_same false = refl

pub is_sized-pieces : (n k size : ℕ) (bytes : List ℕ) → length bytes ≡ suc n * size → has_filter_size k (pieces (suc n) size bytes) ≡ (size == k)
is_sized-pieces zero k size bytes len =
    let l : length (take size bytes) ≡ size = length-take-le size bytes (omega arith) in
    ap (λ (m : ℕ). (m == k) && true) l ∙ and-true (size == k)
is_sized-pieces (suc n) k size bytes len =
    let l : length (take size bytes) ≡ size = length-take-le size bytes (omega arith) in
    let rest : length (drop size bytes) ≡ suc n * size = omega (arith, length-drop size bytes) in
    ap (λ (m : ℕ). (m == k) && has_filter_size k (pieces (suc n) size (drop size bytes))) l ∙ ap ((size == k) &&◌) (is_sized-pieces n k size (drop size bytes) rest) ∙ and_same (size == k)

-- ---- tests by words

-- a generation of a mask by its words
pub meets_by_words : (fs f ws : List ℕ) (n w g : ℕ) → Packs fs f → IsWide n w ws → passes (unpacked fs) (unpacked (take w (drop (min (n - 1) g * w) ws))) ≡ meets f g (pieces n (8 * w) (unpacked ws))
meets_by_words fs f ws n w g p wide =
    passes_same (unpacked fs) f (unpacked (take w (drop (min (n - 1) g * w) ws))) (tested g (pieces n (8 * w) (unpacked ws))) (same_bits fs f p) (λ b. ap (λ (l : List ℕ). bit_is_set l b) piece)
  where
    piece : unpacked (take w (drop (min (n - 1) g * w) ws)) ≡ tested g (pieces n (8 * w) (unpacked ws))
    piece =
        let some = wide.some in
        let last : min (n - 1) g ≡ min g (length (pieces n (8 * w) (unpacked ws)) - 1) = omega (arith, length-pieces n (8 * w) (unpacked ws)) in
        let start : 8 * (min (n - 1) g * w) ≡ min (n - 1) g * (8 * w) = omega arith in
        sym (unpacked_take w (drop (min (n - 1) g * w) ws)) ∙ ap (take (8 * w)) (sym (unpacked_drop (min (n - 1) g * w) ws) ∙ ap (λ (k : ℕ). drop k (unpacked ws)) start)
        ∙ sym (get_or-pieces n (8 * w) (unpacked ws) (min (n - 1) g) (omega arith)) ∙ ap (λ (k : ℕ). get_or (pieces n (8 * w) (unpacked ws)) k []) last

-- where each generation has the filter's size, the filter has as many words as a generation
pub sized_words : (k n w : ℕ) (ws : List ℕ) → IsWide n w ws → has_filter_size k (pieces n (8 * w) (unpacked ws)) ≡ (8 * w == k)
sized_words k zero w ws wide = let some = wide.some in absurd (omega arith)
sized_words k (suc n) w ws wide =
    let count = wide.count in
    let len : length (unpacked ws) ≡ suc n * (8 * w) = omega (arith, length-unpacked ws) in
    is_sized-pieces n k (8 * w) (unpacked ws) len

-- ---- the length of a mask

mask_of : (size len g : ℕ) → 1 ≤ g → g ≤ 4 → len ≡ g * size → is_mask_length size len ≡ true
mask_of size len zero low high e = absurd (omega arith)
mask_of size len (suc zero) low high e = rw (eq-eqb len (1 * size) e) refl
mask_of size len (suc (suc zero)) low high e = or_right (len == 1 * size) _ (or_left _ _ (eq-eqb len (2 * size) e))
mask_of size len (suc (suc (suc zero))) low high e = or_right (len == 1 * size) _ (or_right (len == 2 * size) _ (or_left _ _ (eq-eqb len (3 * size) e)))
mask_of size len (suc (suc (suc (suc zero)))) low high e = or_right (len == 1 * size) _ (or_right (len == 2 * size) _ (or_right (len == 3 * size) _ (or_left _ _ (eq-eqb len (4 * size) e))))
mask_of size len (suc (suc (suc (suc (suc g))))) low high e = absurd (omega arith)

-- so many whole generations
pub is_mask : (size len : ℕ) → len % size ≡ 0 → 1 ≤ len / size → len / size ≤ 4 → is_mask_length size len ≡ true
is_mask size len whole low high =
    let all = div-add-mod' len size in
    mask_of size len (len / size) low high (omega arith)

whole_one : (size len g : ℕ) → 0 < size → len ≡ g * size → (len % size ≡ 0) × (len / size ≡ g)
whole_one size len g pos e =
    let sum : g * size + 0 ≡ len = omega arith in
    (ap (λ (n : ℕ). n % size) (sym sum) ∙ mod-mul-add g size 0 pos, ap (λ (n : ℕ). n / size) (sym sum) ∙ div-mul-add g size 0 pos)

-- only whole generations, one to four, are a mask
pub mask_is : (size len : ℕ) → 0 < size → is_mask_length size len ≡ true → (len % size ≡ 0) × (1 ≤ len / size) × (len / size ≤ 4)
mask_is size len pos here = go (or_cases _ _ here)
  where
    from : (g : ℕ) → 1 ≤ g → g ≤ 4 → (len == g * size) ≡ true → (len % size ≡ 0) × (1 ≤ len / size) × (len / size ≤ 4)
    from g low high e = let w = whole_one size len g pos (eqb-true _ _ e) in (w.0, omega (arith, w.1), omega (arith, w.1))

    last : ((len == 4 * size) ≡ true) ⊎ (false ≡ true) → (len % size ≡ 0) × (1 ≤ len / size) × (len / size ≤ 4)
    last (inl e) = from 4 (omega arith) (omega arith) e
    last (inr never) = absurd (false≢true never)

    third : ((len == 3 * size) ≡ true) ⊎ (((len == 4 * size) || false) ≡ true) → (len % size ≡ 0) × (1 ≤ len / size) × (len / size ≤ 4)
    third (inl e) = from 3 (omega arith) (omega arith) e
    third (inr more) = last (or_cases _ _ more)

    second : ((len == 2 * size) ≡ true) ⊎ (((len == 3 * size) || ((len == 4 * size) || false)) ≡ true) → (len % size ≡ 0) × (1 ≤ len / size) × (len / size ≤ 4)
    second (inl e) = from 2 (omega arith) (omega arith) e
    second (inr more) = third (or_cases _ _ more)

    go : ((len == 1 * size) ≡ true) ⊎ (((len == 2 * size) || ((len == 3 * size) || ((len == 4 * size) || false))) ≡ true) → (len % size ≡ 0) × (1 ≤ len / size) × (len / size ≤ 4)
    go (inl e) = from 1 (omega arith) (omega arith) e
    go (inr more) = second (or_cases _ _ more)

-- a length that isn't one
pub no_mask : (size len : ℕ) → 0 < size → ((len % size ≡ 0) × (1 ≤ len / size) × (len / size ≤ 4) → ⊥) → is_mask_length size len ≡ false
no_mask size len pos never = false_from_ne_true (is_mask_length size len) (λ here. never (mask_is size len pos here))

eights : (size len g : ℕ) → size % 8 ≡ 0 → g ≤ 4 → len ≡ g * size → len % 8 ≡ 0
eights size len zero whole high e = omega arith
eights size len (suc zero) whole high e = omega arith
eights size len (suc (suc zero)) whole high e = omega arith
eights size len (suc (suc (suc zero))) whole high e = omega arith
eights size len (suc (suc (suc (suc zero)))) whole high e = omega arith
eights size len (suc (suc (suc (suc (suc g))))) whole high e = absurd (omega arith)

-- whole generations of whole words are whole words
pub whole_words : (size len : ℕ) → size % 8 ≡ 0 → len % size ≡ 0 → len / size ≤ 4 → len % 8 ≡ 0
whole_words size len whole rest high =
    let all = div-add-mod' len size in
    eights size len (len / size) whole high (omega arith)

-- the packed words of a mask are as many as its generations want
pub wide : (size : ℕ) (ws bytes : List ℕ) → 8 ≤ size → size ≤ 512 → size % 8 ≡ 0 → length bytes % size ≡ 0 → 1 ≤ length bytes / size → length bytes / size ≤ 4 → Packs ws bytes → IsWide (length bytes / size) (size / 8) ws
wide size ws bytes least most whole rest low high p =
    let words = whole_words size (length bytes) whole rest high in
    let count = p.packed.count in
    let all = div-add-mod' (length bytes) size in
    let eight : size ≡ 8 * (size / 8) = omega arith in
    let moved : length bytes / size * (8 * (size / 8)) ≡ 8 * (length bytes / size * (size / 8)) = omega arith in
    let product : length bytes / size * size ≡ 8 * (length bytes / size * (size / 8)) = ap (λ (s : ℕ). length bytes / size * s) eight ∙ moved in
    record { count = omega arith; some = low; few = high; wide = omega arith; narrow = omega arith }

-- and spell its generations
pub mask_pieces : (size : ℕ) (ws bytes : List ℕ) → size % 8 ≡ 0 → length bytes % size ≡ 0 → length bytes / size ≤ 4 → Packs ws bytes → pieces (length bytes / size) (8 * (size / 8)) (unpacked ws) ≡ pieces (length bytes / size) size bytes
mask_pieces size ws bytes whole rest high p =
    let eight : 8 * (size / 8) ≡ size = omega arith in
    ap (λ (s : ℕ). pieces (length bytes / size) s (unpacked ws)) eight ∙ ap (pieces (length bytes / size) size) (packs_whole ws bytes p (whole_words size (length bytes) whole rest high))

-- a row of the size at a place before the last stays within all
pub row_fits : (i n size : ℕ) → i < n → i * size + size ≤ n * size
row_fits i n size lt =
    let more : n ≡ suc i + (n - suc i) = omega arith in
    let all : n * size ≡ (suc i + (n - suc i)) * size = ap (λ (m : ℕ). m * size) more in
    let parts : (suc i + (n - suc i)) * size ≡ (i * size + size) + (n - suc i) * size = omega arith in
    omega arith

-- no string, no bits
pub masks_none : (n size hashes : ℕ) → IsMask size hashes [] (pieces n size (replicate (n * size) 0))
masks_none n size hashes = record { each = λ i lt. rw (piece i lt) (filter_none size hashes i) }
  where
    piece : (i : ℕ) → i < length (pieces n size (replicate (n * size) 0)) → get_or (pieces n size (replicate (n * size) 0)) i [] ≡ replicate size 0
    piece i lt =
        let within : i < n = omega (arith, length-pieces n size (replicate (n * size) 0)) in
        let fits = row_fits i n size within in
        let room : size ≤ n * size - i * size = omega arith in
        get_or-pieces n size (replicate (n * size) 0) i within ∙ ap (take size) (drop-replicate (i * size) (n * size) 0) ∙ take-replicate size (n * size - i * size) 0 room

-- ---- a test of a mask

-- a filter of the mask's size has as many words as a generation
pub filter_words : (fs f ws : List ℕ) (mask : List (List ℕ)) (n w : ℕ) → Packs fs f → IsWide n w ws → pieces n (8 * w) (unpacked ws) ≡ mask → has_filter_size (length f) mask ≡ true → length fs ≡ w
filter_words fs f ws mask n w p wide view sized =
    let same : 8 * w ≡ length f = eqb-true _ _ (sym (sized_words (length f) n w ws wide) ∙ ap (has_filter_size (length f)) view ∙ sized) in
    let count = p.packed.count in
    omega arith

pub generation_words : (i n w : ℕ) (ws : List ℕ) → IsWide n w ws → i < n → length (take (i * w + w - i * w) (drop (i * w) ws)) ≡ w
generation_words i n w ws wide lt =
    let fits = row_fits i n w lt in
    let count = wide.count in
    let same : i * w + w - i * w ≡ w = omega arith in
    ap (λ (k : ℕ). length (take k (drop (i * w) ws))) same ∙ length-take-le w (drop (i * w) ws) (omega (arith, length-drop (i * w) ws))

pub some_generation : (n w : ℕ) (ws : List ℕ) (mask : List (List ℕ)) → IsWide n w ws → pieces n (8 * w) (unpacked ws) ≡ mask → 0 < length mask
some_generation n w ws mask wide view = let some = wide.some in let e = ap length view in omega (arith, length-pieces n (8 * w) (unpacked ws))

-- ---- one string more in each generation

pub marked_none : (n size hashes : ℕ) (digest bytes : List ℕ) → length bytes ≡ n * size → Marked size hashes 0 digest (pieces n size bytes) (pieces n size bytes)
marked_none n size hashes digest bytes len = record {
  count = refl;
  sized = each;
  done = λ i lt. absurd (omega arith);
  left = λ i le. refl;
}
  where
    each : (i : ℕ) → i < length (pieces n size bytes) → length (get_or (pieces n size bytes) i []) ≡ size
    each i lt =
        let within : i < n = omega (arith, length-pieces n size bytes) in
        let fits = row_fits i n size within in
        ap length (get_or-pieces n size bytes i within) ∙ length-take-le size (drop (i * size) bytes) (omega (arith, length-drop (i * size) bytes))

pub marked_more : (size hashes k : ℕ) (digest new : List ℕ) (olds news : List (List ℕ)) → Marked size hashes k digest olds news → k < length olds → length new ≡ size → ((b : ℕ) → bit_is_set new b ≡ (bit_is_set (get_or news k []) b || contains b (digest_bits size (hash_count hashes k) digest))) → Marked size hashes (k + 1) digest olds (set news k new)
marked_more size hashes k digest new olds news m lt len more = record {
  count = length-set news k new ∙ m.count;
  sized = λ i within. each i within (cases_eq i k);
  done = λ i before within b. bits i before within b (cases_eq i k);
  left = λ i behind. get_or-set_other news k i new [] (omega arith) ∙ m.left i (omega arith);
}
  where
    each : (i : ℕ) → i < length olds → (i ≡ k) ⊎ (i ≡ k → ⊥) → length (get_or (set news k new) i []) ≡ size
    each i within (inl same) = let count = m.count in ap length (rw same (get_or-set_same news k new [] (omega arith))) ∙ len
    each i within (inr other) = ap length (get_or-set_other news k i new [] other) ∙ m.sized i within

    bits : (i : ℕ) → i < k + 1 → i < length olds → (b : ℕ) → (i ≡ k) ⊎ (i ≡ k → ⊥) → bit_is_set (get_or (set news k new) i []) b ≡ (bit_is_set (get_or olds i []) b || contains b (digest_bits size (hash_count hashes i) digest))
    bits i before within b (inl same) =
        let count = m.count in
        rw same (ap (λ (l : List ℕ). bit_is_set l b) (get_or-set_same news k new [] (omega arith)) ∙ more b ∙ ap (λ (l : List ℕ). bit_is_set l b || contains b (digest_bits size (hash_count hashes k) digest)) (m.left k (omega arith)))
    bits i before within b (inr other) = ap (λ (l : List ℕ). bit_is_set l b) (get_or-set_other news k i new [] other) ∙ m.done i (omega arith) within b

-- the mask of one string more
pub masks_more : (size hashes k : ℕ) (s digest : List ℕ) (strings olds news : List (List ℕ)) → Marked size hashes k digest olds news → length olds ≤ k → digest ≡ sha256 s → IsMask size hashes strings olds → IsMask size hashes (strings ++ s ∷ []) news
masks_more size hashes k s digest strings olds news m all e mask = record {
  each = λ i lt. let count = m.count in
      filter_more size hashes i strings s (get_or olds i []) (get_or news i []) (mask.each i (omega arith)) (m.sized i (omega arith))
      (λ b. m.done i (omega arith) (omega arith) b ∙ ap (λ (d : List ℕ). bit_is_set (get_or olds i []) b || contains b (digest_bits size (hash_count hashes i) d)) e);
}

-- a piece is written in place
pub pieces-put : (n size g : ℕ) (bytes new : List ℕ) → g < n → length bytes ≡ n * size → length new ≡ size → pieces n size (take (g * size) bytes ++ (new ++ drop (g * size + size) bytes)) ≡ set (pieces n size bytes) g new
pieces-put zero size g bytes new lt len same = absurd (omega arith)
pieces-put (suc n) size zero bytes new lt len same =
    let start : 0 * size ≡ 0 = omega arith in
    let behind : 0 + size ≡ size = omega arith in
    rw (start, behind) (ap (λ (l : List ℕ). l ∷ pieces n size (drop size (new ++ drop size bytes))) (take_at new (drop size bytes) size same) ∙ ap (λ (l : List ℕ). new ∷ pieces n size l) (drop_at new (drop size bytes) size same))
pieces-put (suc n) size (suc g) bytes new lt len same =
    let start : suc g * size ≡ size + g * size = omega arith in
    let behind : size + g * size + size ≡ size + (g * size + size) = omega arith in
    let fits = row_fits (suc g) (suc n) size lt in
    let front : length (take (size + g * size) bytes) ≡ size + g * size = length-take-le (size + g * size) bytes (omega arith) in
    let first : take size (take (size + g * size) bytes ++ (new ++ drop (size + g * size + size) bytes)) ≡ take size bytes =
    take-append-le size (take (size + g * size) bytes) (new ++ drop (size + g * size + size) bytes) (omega arith) ∙ take-take size (size + g * size) bytes (omega arith) in
    let others : drop size (take (size + g * size) bytes ++ (new ++ drop (size + g * size + size) bytes)) ≡ take (g * size) (drop size bytes) ++ (new ++ drop (g * size + size) (drop size bytes)) =
    drop-append-le size (take (size + g * size) bytes) (new ++ drop (size + g * size + size) bytes) (omega arith)
    ∙ ap (λ (l : List ℕ). l ++ (new ++ drop (size + g * size + size) bytes)) (drop-take size (g * size) bytes)
    ∙ ap (λ (l : List ℕ). take (g * size) (drop size bytes) ++ (new ++ l)) (ap (λ (k : ℕ). drop k bytes) behind ∙ sym (drop-drop (g * size + size) size bytes)) in
    let later : length (drop size bytes) ≡ n * size = omega (arith, length-drop size bytes) in
    rw start (ap (λ (l : List ℕ). l ∷ pieces n size (drop size (take (size + g * size) bytes ++ (new ++ drop (size + g * size + size) bytes)))) first
    ∙ ap (λ (l : List ℕ). take size bytes ∷ pieces n size l) others ∙ ap (take size bytes ∷◌) (pieces-put n size g (drop size bytes) new (omega arith) later same))

-- a write to `bytes[start..start + size]`
pub pieces-written : (n size g : ℕ) (bytes new : List ℕ) → g < n → length bytes ≡ n * size → length new ≡ size → pieces n size (put_mid (g * size) (g * size + size - g * size) bytes new) ≡ set (pieces n size bytes) g new
pieces-written n size g bytes new lt len same =
    let width : g * size + size - g * size ≡ size = omega arith in
    rw (width, drop-drop size (g * size) bytes) (pieces-put n size g bytes new lt len same)

pub length-written : (n size g : ℕ) (bytes new : List ℕ) → g < n → length bytes ≡ n * size → length new ≡ size → length (put_mid (g * size) (g * size + size - g * size) bytes new) ≡ n * size
length-written n size g bytes new lt len same =
    let width : g * size + size - g * size ≡ size = omega arith in
    let fits = row_fits g n size lt in
    rw (width, drop-drop size (g * size) bytes) (omega (arith, length-append (take (g * size) bytes) (new ++ drop (g * size + size) bytes), length-append new (drop (g * size + size) bytes), length-drop (g * size + size) bytes, length-take-le (g * size) bytes (omega arith)))

pub slice_length : (n size g : ℕ) (bytes : List ℕ) → g < n → length bytes ≡ n * size → length (take size (drop (g * size) bytes)) ≡ size
slice_length n size g bytes lt len =
    let fits = row_fits g n size lt in
    length-take-le size (drop (g * size) bytes) (omega (arith, length-drop (g * size) bytes))
