-- How many bytes items and images have.
use Rattle.std.proofs.Common.{◌≡◌, ℕ, ◌+◌, ◌*◌, ◌<◌, ◌≤◌, List, [], ◌∷◌, ◌++◌, length, get_or, take, drop, map, replicate, Option, Some, None, refl, sym, ap, ◌∙◌, arith, length-append}
use Rattle.std.specs.List.{flat_map, sum_by}
use Rattle.std.specs.Int.{cast_unsigned, w64}
use Rattle.std.proofs.lemmas.List.{length-replicate, take-append-drop, take_more, map_more, take-map}
use Rattle.std.proofs.lemmas.List.Sums.{sum_by-cons}
use Rattle.std.proofs.lemmas.Grind.{flat_map-append}
use Rattle.kd_item.specs.Spelling.{Entry, padding, spelling, spellings, words}
pub use Rattle.kd_item.proofs.Words.{length-words}
use Rattle.kd_item.proofs.Sizes as sizes
use Rattle.kd_item.proofs.Sizes.{length-body}
use Rattle.kd_types.specs.declared.creds.Creds.{Creds}
use Rattle.kd_image.specs.declared.message.SealedRange.{SealedRange}
use Rattle.kd_image.specs.declared.message.Message.{Message}
use Rattle.kd_image.specs.declared.attached.Attached.{Attached}
use Rattle.kd_image.specs.Items.{flag, padded_length, item, maybe, creds_item, owned_item, description_item, moment_item, name_item, off_item, off_items, shared_item, with_range, Contents, contents, attached_items, items, begins}
use Rattle.kd_image.specs.Images.{padded, laid, header, front_length, front, image, image_length}

-- an item, filled up
pub length-spelling : (e : Entry) → length (spelling e) ≡ padded_length (16 + length e.body)
length-spelling e = sizes.length-spelling e

pub length-item : (kind : ℕ) (ns text : List ℕ) → length (spelling (item kind ns text)) ≡ padded_length (16 + 8 * length ns + length text)
length-item kind ns text =
    let body : length (words ns ++ text) ≡ 8 * length ns + length text = length-body ns text in
    let total : 16 + length (words ns ++ text) ≡ 16 + 8 * length ns + length text = omega arith in
    length-spelling (item kind ns text) ∙ ap padded_length total

pub length-spellings : (es fs : List Entry) → length (spellings (es ++ fs)) ≡ length (spellings es) + length (spellings fs)
length-spellings es fs = ap length (flat_map-append spelling es fs) ∙ length-append (spellings es) (spellings fs)

pub length_cons : (e : Entry) (es : List Entry) → length (spellings (e ∷ es)) ≡ length (spelling e) + length (spellings es)
length_cons e es = length-append (spelling e) (spellings es)

pub length_one : (kind : ℕ) (ns text : List ℕ) → length (spellings (item kind ns text ∷ [])) ≡ padded_length (16 + 8 * length ns + length text)
length_one kind ns text = omega (arith, length-item kind ns text, length_cons (item kind ns text) [])

pub length-offs : (size : ℕ) (before ns : List ℕ) → length (spellings (off_items size before ns)) ≡ 32 * length ns
length-offs size before [] = refl
length-offs size before (n ∷ ns) =
    let one : length (spelling (off_item size before n)) ≡ 32 = length-item 19 (n ∷ begins size before ∷ []) [] in
    omega (arith, one, length_cons (off_item size before n) (off_items size (before ++ n ∷ []) ns), length-offs size (before ++ n ∷ []) ns)

pub length-range : (r : Option SealedRange) (es : List Entry) → length (spellings (with_range r es)) ≡ length (spellings (maybe shared_item r)) + length (spellings es)
length-range None es = omega arith
length-range (Some r) es =
    let parts : length (spellings es) ≡ length (spellings (take r.place es)) + length (spellings (drop r.place es)) = sym (ap (λ (l : List Entry). length (spellings l)) (take-append-drop r.place es)) ∙ length-spellings (take r.place es) (drop r.place es) in
    omega (arith, parts, length-spellings (take r.place es) (shared_item r ∷ drop r.place es), length_cons (shared_item r) (drop r.place es), length_cons (shared_item r) [])

-- a text's item has as many bytes for each kind
same_text : (kind : ℕ) (t : Option (List ℕ)) → length (spellings (maybe (item kind []) t)) ≡ length (spellings (maybe (item 0 []) t))
same_text kind None = refl
same_text kind (Some t) = length_one kind [] t ∙ sym (length_one 0 [] t)

pub text_there : (t : Option (List ℕ)) (x bytes : List ℕ) → t ≡ Some x → bytes ≡ x → length (spellings (maybe (item 0 []) t)) ≡ padded_length (16 + length bytes)
text_there t x bytes is b = rw (is, b) (length_one 0 [] x)

pub length-attached : (c : Contents) → length (spellings (attached_items c)) ≡ length (spellings (maybe creds_item c.creds)) + length (spellings (map owned_item c.names)) + length (spellings (maybe (item 0 []) c.description)) + length (spellings (maybe moment_item c.moment))
length-attached c =
    omega (
      arith,
      length-spellings (maybe creds_item c.creds ++ map owned_item c.names ++ maybe description_item c.description) (maybe moment_item c.moment),
      length-spellings (maybe creds_item c.creds ++ map owned_item c.names) (maybe description_item c.description),
      length-spellings (maybe creds_item c.creds) (map owned_item c.names),
      same_text 10 c.description,
    )

pub length-items : (size : ℕ) (c : Contents) → length (spellings (items size c)) ≡ length (spellings (attached_items c)) + length (spellings (maybe (item 0 []) c.name)) + length (spellings (maybe shared_item c.range)) + 32 * length c.lengths
length-items size c =
    let body : List Entry = with_range c.range (off_items size [] c.lengths) in
    omega (arith, length-spellings (attached_items c ++ maybe name_item c.name) body, length-spellings (attached_items c) (maybe name_item c.name), same_text 3 c.name, length-range c.range (off_items size [] c.lengths), length-offs size [] c.lengths)

pub front_parts : (c : Contents) → front_length c ≡ 64 + length (spellings (maybe creds_item c.creds)) + length (spellings (map owned_item c.names)) + length (spellings (maybe (item 0 []) c.description)) + length (spellings (maybe moment_item c.moment)) + length (spellings (maybe (item 0 []) c.name)) + length (spellings (maybe shared_item c.range)) + 32 * length c.lengths
unfolding front_length
front_parts c = omega (arith, length-items 0 c, length-attached c)

pub length-creds : (x : Creds) → length (spellings (creds_item x ∷ [])) ≡ 40
length-creds x = length_one 21 (x.uid ∷ x.gid ∷ flag x.privileged ∷ []) []

pub length-moment : (m : ℕ) → length (spellings (moment_item m ∷ [])) ≡ 24
length-moment m = length_one 23 (m ∷ []) []

pub length-shared : (r : SealedRange) → length (spellings (shared_item r ∷ [])) ≡ 32
length-shared r = length_one 20 (r.start ∷ r.length ∷ []) []

pub length-padded : (p : List ℕ) → length (padded p) ≡ padded_length (length p)
length-padded p =
    let fill : length (replicate {A = ℕ} (padding (length p)) 0) ≡ padding (length p) = length-replicate (padding (length p)) 0 in
    omega (arith, fill, length-append p (replicate (padding (length p)) 0))

within : {X : Type 0} (f : X → List ℕ) (xs : List X) (j : ℕ) → length (flat_map f (take j xs)) ≤ length (flat_map f xs)
within f xs j =
    let parts : length (flat_map f xs) ≡ length (flat_map f (take j xs)) + length (flat_map f (drop j xs)) = ap (λ (l : List _). length (flat_map f l)) (sym (take-append-drop j xs)) ∙ ap length (flat_map-append f (take j xs) (drop j xs)) ∙ length-append (flat_map f (take j xs)) (flat_map f (drop j xs)) in
    omega arith

-- one name more
pub names_more : (xs : List (List ℕ)) (i : ℕ) (x bytes : List ℕ) → i < length xs → x ≡ get_or xs i x → bytes ≡ x
    → length (spellings (map owned_item (take i xs))) + padded_length (16 + length bytes) ≡ length (spellings (map owned_item (take (i + 1) xs)))
names_more xs i x bytes lt is b =
    let es : List Entry = map owned_item (take i xs) in
    let more : map owned_item (take (i + 1) xs) ≡ es ++ owned_item x ∷ [] = map_more owned_item xs i x lt ∙ ap (λ (n : List ℕ). es ++ owned_item n ∷ []) (sym is) in
    let len : length (spellings (map owned_item (take (i + 1) xs))) ≡ length (spellings es) + length (spellings (owned_item x ∷ [])) = ap (λ (l : List Entry). length (spellings l)) more ∙ length-spellings es (owned_item x ∷ []) in
    let one : length (spellings (owned_item x ∷ [])) ≡ padded_length (16 + length bytes) = length_one 22 [] x ∙ ap (λ (l : List ℕ). padded_length (16 + length l)) (sym b) in
    omega arith

pub names_within : (xs : List (List ℕ)) (j : ℕ) → length (spellings (map owned_item (take j xs))) ≤ length (spellings (map owned_item xs))
names_within xs j =
    let le = within spelling (map owned_item xs) j in
    let same : length (spellings (take j (map owned_item xs))) ≡ length (spellings (map owned_item (take j xs))) = ap (λ (l : List Entry). length (spellings l)) (take-map owned_item j xs) in
    omega arith

-- one payload more
pub laid_more : (ps : List (List ℕ)) (i : ℕ) (x bytes : List ℕ) → i < length ps → x ≡ get_or ps i x → bytes ≡ x
    → length (laid (take i ps)) + padded_length (length bytes) ≡ length (laid (take (i + 1) ps))
laid_more ps i x bytes lt is b =
    let more : take (i + 1) ps ≡ take i ps ++ x ∷ [] = take_more ps i x lt ∙ ap (λ (n : List ℕ). take i ps ++ n ∷ []) (sym is) in
    let step : laid (take (i + 1) ps) ≡ laid (take i ps) ++ (padded x ++ []) = ap laid more ∙ flat_map-append padded (take i ps) (x ∷ []) in
    let one : length (padded x) ≡ padded_length (length bytes) = length-padded x ∙ ap (λ (l : List ℕ). padded_length (length l)) (sym b) in
    omega (arith, ap length step, length-append (laid (take i ps)) (padded x ++ []), length-append (padded x) [])

pub laid_within : (ps : List (List ℕ)) (j : ℕ) → length (laid (take j ps)) ≤ length (laid ps)
laid_within ps j = within padded ps j

-- the payloads have as many bytes as their padded lengths say
pub length-laid : (ps : List (List ℕ)) → length (laid ps) ≡ sum_by padded_length (map length ps)
length-laid [] = refl
length-laid (p ∷ ps) =
    let more : sum_by padded_length (length p ∷ map length ps) ≡ padded_length (length p) + sum_by padded_length (map length ps) = sum_by-cons padded_length (length p) (map length ps) in
    omega (arith, length-append (padded p) (laid ps), length-padded p, length-laid ps)

pub length-header : (size flags w dst source payload_type cookie last : ℕ) → length (words (size ∷ flags ∷ w ∷ dst ∷ source ∷ payload_type ∷ cookie ∷ last ∷ [])) ≡ 64
length-header size flags w dst source payload_type cookie last = length-words (size ∷ flags ∷ w ∷ dst ∷ source ∷ payload_type ∷ cookie ∷ last ∷ [])

pub length-front : (m : Message) (source dst : ℕ) (a : Attached) → length (front m source dst a) ≡ front_length (contents m a)
unfolding front header front_length
length-front m source dst a =
    let c : Contents = contents m a in
    let h : List ℕ = words (front_length c ∷ m.flags.0 ∷ cast_unsigned w64 m.priority ∷ dst ∷ source ∷ m.payload_type ∷ m.cookie ∷ m.last ∷ []) in
    omega (arith, length-append h (spellings (items (front_length c) c)), length-header (front_length c) m.flags.0 (cast_unsigned w64 m.priority) dst source m.payload_type m.cookie m.last, length-items (front_length c) c, length-items 0 c)

pub length-image : (m : Message) (source dst : ℕ) (a : Attached) → image_length m a ≡ length (image m source dst a)
unfolding image image_length
length-image m source dst a = omega (arith, length-append (front m source dst a) (laid m.payloads), length-front m source dst a)

pub length_parts : (m : Message) (a : Attached) → image_length m a ≡ front_length (contents m a) + length (laid m.payloads)
unfolding image_length
length_parts m a = refl

-- an image ends where one payload more would begin
pub image_ends : (m : Message) (a : Attached) → begins (front_length (contents m a)) (map length m.payloads) ≡ image_length m a
image_ends m a = omega (arith, length_parts m a, length-laid m.payloads)
