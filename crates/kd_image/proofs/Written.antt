-- What is written piece by piece.
use Rattle.std.proofs.Common.{◌≡◌, ℕ, suc, ◌+◌, ◌<◌, ◌≤◌, min, List, [], ◌∷◌, ◌++◌, length, get_or, take, drop, map, Some, refl, sym, ap, ◌∙◌, arith, append_assoc}
use Rattle.std.specs.List.{sum_by}
use Rattle.std.proofs.lemmas.List.{map_more, append-nil, take-map, take_min, drop_min, take_at, drop_at, length-map, map-append, length-take-le, take-append-drop}
use Rattle.std.proofs.lemmas.List.Sums.{sum_by_push, sum_by-append, sum_by-take-le}
use Rattle.std.proofs.lemmas.Grind.{flat_map-append}
use Rattle.kd_item.specs.Spelling.{Entry, spelling, spellings}
use Rattle.kd_image.specs.declared.message.SealedRange.{SealedRange}
use Rattle.kd_image.specs.declared.message.Message.{Message}
use Rattle.kd_image.specs.declared.attached.Attached.{Attached}
use Rattle.kd_image.specs.Items.{padded_length, item, maybe, creds_item, owned_item, moment_item, shared_item, with_range, off_item, off_items, begins, contents, items}

-- one item more
pub push_one : {X : Type 0} (f : X → Entry) (start : List ℕ) (xs : List X) (i : ℕ) (d : X) → i < length xs
    → start ++ spellings (map f (take i xs)) ++ spelling (f (get_or xs i d)) ≡ start ++ spellings (map f (take (i + 1) xs))
push_one f start xs i d lt =
    let y : Entry = f (get_or xs i d) in
    let es : List Entry = map f (take i xs) in
    let more : map f (take (i + 1) xs) ≡ es ++ y ∷ [] = map_more f xs i d lt in
    let step : spellings (es ++ y ∷ []) ≡ spellings es ++ spelling y = flat_map-append spelling es (y ∷ []) ∙ ap (λ (l : List ℕ). spellings es ++ l) (append-nil (spelling y)) in
    append_assoc start (spellings es) (spelling y) ∙ ap (λ (l : List ℕ). start ++ l) (sym step) ∙ ap (λ (l : List Entry). start ++ spellings l) (sym more)

-- payloads behind others begin behind all of them
pub offs_behind : (size : ℕ) (before ns ms : List ℕ) → off_items size before (ns ++ ms) ≡ off_items size before ns ++ off_items size (before ++ ns) ms
offs_behind size before [] ms = ap (λ (l : List ℕ). off_items size l ms) (sym (append-nil before))
offs_behind size before (n ∷ ns) ms =
    let h = offs_behind size (before ++ n ∷ []) ns ms in
    let same : before ++ n ∷ [] ++ ns ≡ before ++ n ∷ ns = append_assoc before (n ∷ []) ns in
    ap (λ (l : List Entry). off_item size before n ∷ l) (h ∙ ap (λ (l : List ℕ). off_items size (before ++ n ∷ []) ns ++ off_items size l ms) same)

begins_further : (size : ℕ) (before ns : List ℕ) → begins (begins size before) ns ≡ begins size (before ++ ns)
begins_further size before ns = omega (arith, sum_by-append padded_length before ns)

-- the same as if header and items ended where they begin
offs_from : (size : ℕ) (before after ns : List ℕ) → off_items (begins size before) after ns ≡ off_items size (before ++ after) ns
offs_from size before after [] = refl
offs_from size before after (n ∷ ns) =
    let here : off_item (begins size before) after n ≡ off_item size (before ++ after) n = ap (λ (at : ℕ). item 19 (n ∷ at ∷ []) []) (begins_further size before after) in
    let rest = offs_from size before (after ++ n ∷ []) ns ∙ ap (λ (l : List ℕ). off_items size l ns) (sym (append_assoc before after (n ∷ []))) in
    rw here (ap (λ (l : List Entry). off_item size (before ++ after) n ∷ l) rest)

pub offs_apart : (size : ℕ) (ns ms : List ℕ) → off_items size [] (ns ++ ms) ≡ off_items size [] ns ++ off_items (begins size ns) [] ms
offs_apart size ns ms = offs_behind size [] ns ms ∙ ap (λ (l : List Entry). off_items size [] ns ++ l) (sym (offs_from size ns [] ms ∙ ap (λ (l : List ℕ). off_items size l ms) (append-nil ns)))

-- one payload more
pub push_off : (start : List ℕ) (size : ℕ) (ps : List (List ℕ)) (i : ℕ) (d : List ℕ) → i < length ps
    → start ++ spellings (off_items size [] (map length (take i ps))) ++ spelling (off_item size (map length (take i ps)) (length (get_or ps i d)))
    ≡ start ++ spellings (off_items size [] (map length (take (i + 1) ps)))
push_off start size ps i d lt =
    let ns : List ℕ = map length (take i ps) in
    let n : ℕ = length (get_or ps i d) in
    let y : Entry = off_item size ns n in
    let es : List Entry = off_items size [] ns in
    let more : map length (take (i + 1) ps) ≡ ns ++ n ∷ [] = map_more length ps i d lt in
    let apart : off_items size [] (ns ++ n ∷ []) ≡ es ++ y ∷ [] = offs_behind size [] ns (n ∷ []) in
    let step : spellings (es ++ y ∷ []) ≡ spellings es ++ spelling y = flat_map-append spelling es (y ∷ []) ∙ ap (λ (l : List ℕ). spellings es ++ l) (append-nil (spelling y)) in
    append_assoc start (spellings es) (spelling y) ∙ ap (λ (l : List ℕ). start ++ l) (sym step) ∙ ap (λ (l : List Entry). start ++ spellings l) (sym apart) ∙ ap (λ (l : List ℕ). start ++ spellings (off_items size [] l)) (sym more)

pub push_begin : (size : ℕ) (ps : List (List ℕ)) (i : ℕ) (d : List ℕ) → i < length ps
    → begins size (map length (take (i + 1) ps)) ≡ begins size (map length (take i ps)) + padded_length (length (get_or ps i d))
push_begin size ps i d lt =
    let more : sum_by padded_length (map length (take (i + 1) ps)) ≡ sum_by padded_length (map length (take i ps)) + padded_length (length (get_or ps i d)) = ap (sum_by padded_length) (map_more length ps i d lt) ∙ sum_by_push padded_length (map length (take i ps)) (length (get_or ps i d)) in
    omega arith

pub begins_within : (size : ℕ) (ps : List (List ℕ)) (i : ℕ) → begins size (map length (take i ps)) ≤ begins size (map length ps)
begins_within size ps i =
    let le : sum_by padded_length (take i (map length ps)) ≤ sum_by padded_length (map length ps) = sum_by-take-le padded_length (map length ps) i in
    let same : sum_by padded_length (take i (map length ps)) ≡ sum_by padded_length (map length (take i ps)) = ap (sum_by padded_length) (take-map length i ps) in
    omega arith

-- what the reader of payloads knows one payload further
pub next_begin : (size at : ℕ) (ps : List (List ℕ)) (i : ℕ) (x bytes : List ℕ) → i < length ps → x ≡ get_or ps i x → bytes ≡ x → at ≡ begins size (map length (take i ps))
    → at + padded_length (length bytes) ≡ begins size (map length (take (i + 1) ps))
next_begin size at ps i x bytes lt is b e =
    let n : padded_length (length (get_or ps i x)) ≡ padded_length (length bytes) = ap (λ (l : List ℕ). padded_length (length l)) (sym (b ∙ is)) in
    omega (arith, push_begin size ps i x lt)

pub next_off : (start out : List ℕ) (size at : ℕ) (ps : List (List ℕ)) (i : ℕ) (x bytes : List ℕ) → i < length ps → x ≡ get_or ps i x → bytes ≡ x → at ≡ begins size (map length (take i ps))
    → out ≡ start ++ spellings (off_items size [] (map length (take i ps)))
    → out ++ spelling (item 19 (length bytes ∷ at ∷ []) []) ≡ start ++ spellings (off_items size [] (map length (take (i + 1) ps)))
next_off start out size at ps i x bytes lt is b e o =
    let n : length bytes ≡ length (get_or ps i x) = ap length (b ∙ is) in
    rw (o, n, e) (push_off start size ps i x lt)

pub length-off_items : (size : ℕ) (before ns : List ℕ) → length (off_items size before ns) ≡ length ns
length-off_items size before [] = refl
length-off_items size before (n ∷ ns) = ap suc (length-off_items size (before ++ n ∷ []) ns)

-- the range's item goes between those of the payloads before and behind it
pub range_between : (start : List ℕ) (size k : ℕ) (ps : List (List ℕ)) (r : SealedRange) → k ≡ min r.place (length ps)
    → start ++ spellings (off_items size [] (map length (take k ps))) ++ spellings (shared_item r ∷ []) ++ spellings (off_items (begins size (map length (take k ps))) [] (map length (drop k ps)))
    ≡ start ++ spellings (with_range (Some r) (off_items size [] (map length ps)))
range_between start size k ps r is =
    let ns : List ℕ = map length ps in
    let es : List Entry = off_items size [] ns in
    let front : List Entry = off_items size [] (map length (take k ps)) in
    let back : List Entry = off_items (begins size (map length (take k ps))) [] (map length (drop k ps)) in
    let len : length es ≡ length ps = length-off_items size [] ns ∙ length-map ps length in
    let parts : ns ≡ map length (take k ps) ++ map length (drop k ps) = ap (map length) (sym (take-append-drop k ps)) ∙ map-append length (take k ps) (drop k ps) in
    let apart : es ≡ front ++ back = ap (off_items size []) parts ∙ offs_apart size (map length (take k ps)) (map length (drop k ps)) in
    let front_len : length front ≡ k = omega (arith, length-off_items size [] (map length (take k ps)), length-map (take k ps) (length {A = ℕ}), length-take-le k ps (omega arith)) in
    let least : min r.place (length es) ≡ k = ap (min r.place) len ∙ sym is in
    let taken : take r.place es ≡ front = sym (take_min r.place es) ∙ ap (λ (n : ℕ). take n es) least ∙ ap (take k) apart ∙ take_at front back k front_len in
    let dropped : drop r.place es ≡ back = sym (drop_min r.place es) ∙ ap (λ (n : ℕ). drop n es) least ∙ ap (drop k) apart ∙ drop_at front back k front_len in
    let one : spellings (shared_item r ∷ []) ≡ spelling (shared_item r) = append-nil (spelling (shared_item r)) in
    let spelled : spellings (front ++ shared_item r ∷ back) ≡ spellings front ++ (spelling (shared_item r) ++ spellings back) = flat_map-append spelling front (shared_item r ∷ back) in
    let flat : start ++ spellings front ++ spelling (shared_item r) ++ spellings back ≡ start ++ (spellings front ++ (spelling (shared_item r) ++ spellings back)) = simp append_assoc refl in
    rw one (flat ∙ ap (λ (l : List ℕ). start ++ l) (sym spelled) ∙ rw (taken, dropped) refl)

-- the items, piece by piece
pub items_pieces : (start : List ℕ) (size : ℕ) (m : Message) (a : Attached) →
    start ++ spellings (maybe creds_item a.creds) ++ spellings (map owned_item a.names) ++ spellings (maybe (item 10 []) a.description) ++ spellings (maybe moment_item a.moment)
    ++ spellings (maybe (item 3 []) m.dst_name) ++ spellings (with_range m.sealed (off_items size [] (map length m.payloads)))
    ≡ start ++ spellings (items size (contents m a))
items_pieces start size m a =
    let e1 : List Entry = maybe creds_item a.creds in
    let e2 : List Entry = map owned_item a.names in
    let e3 : List Entry = maybe (item 10 []) a.description in
    let e4 : List Entry = maybe moment_item a.moment in
    let e5 : List Entry = maybe (item 3 []) m.dst_name in
    let e6 : List Entry = with_range m.sealed (off_items size [] (map length m.payloads)) in
    let all : spellings (items size (contents m a)) ≡ spellings e1 ++ spellings e2 ++ spellings e3 ++ spellings e4 ++ spellings e5 ++ spellings e6 =
    flat_map-append spelling (e1 ++ e2 ++ e3 ++ e4 ++ e5) e6
    ∙ ap (λ (l : List ℕ). l ++ spellings e6) (flat_map-append spelling (e1 ++ e2 ++ e3 ++ e4) e5
    ∙ ap (λ (l : List ℕ). l ++ spellings e5) (flat_map-append spelling (e1 ++ e2 ++ e3) e4
    ∙ ap (λ (l : List ℕ). l ++ spellings e4) (flat_map-append spelling (e1 ++ e2) e3
    ∙ ap (λ (l : List ℕ). l ++ spellings e3) (flat_map-append spelling e1 e2)))) in
    let flat : start ++ spellings e1 ++ spellings e2 ++ spellings e3 ++ spellings e4 ++ spellings e5 ++ spellings e6 ≡ start ++ (spellings e1 ++ spellings e2 ++ spellings e3 ++ spellings e4 ++ spellings e5 ++ spellings e6) = simp append_assoc refl in
    flat ∙ ap (λ (l : List ℕ). start ++ l) (sym all)
