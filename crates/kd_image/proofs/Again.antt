-- What items tell is read again.
use Rattle.std.proofs.Common.{◌≡◌, ℕ, ◌+◌, ◌<◌, ◌≤◌, ◌^◌, Bool, true, false, List, [], ◌∷◌, ◌++◌, length, take, drop, map, replicate, Option, Some, None, Result, Ok, Err, refl, sym, ap, ◌∙◌, arith, append_assoc, length-append, IfSome, inl, inr}
use Rattle.std.specs.List.{sum_by, AllByRecursion}
use Rattle.std.proofs.lemmas.Bool.{lt-ltb, le-ltb, eq-eqb}
use Rattle.std.proofs.lemmas.List.{drop_at, take_at, drop-drop, append-nil, length-replicate, take-append-drop, length-take-le}
use Rattle.std.proofs.lemmas.List.Sums.{sum_by-cons, sum_by-append}
use Rattle.kd_model.proofs.Truth.{option_cases}
use Rattle.kd_types.specs.declared.creds.Creds.{Creds}
use Rattle.kd_types.specs.declared.reply_error.ReplyError.{ReplyError}
use Rattle.kd_types.specs.declared.reply_error.ReplyError.TheVariants.{Bad}
use Rattle.kd_item.specs.Spelling.{Entry, word, number, padding, spelling, words}
use Rattle.kd_item.specs.Reading.{placed}
use Rattle.kd_item.proofs.Words.{length-word, word_again}
use Rattle.kd_item.proofs.Zeros.{zeros_pass}
use Rattle.kd_item.proofs.Sizes.{length-body}
use Rattle.kd_image.specs.declared.message.SealedRange.{SealedRange}
use Rattle.kd_image.specs.Items.{flag, padded_length, item, maybe, creds_item, owned_item, description_item, moment_item, name_item, off_item, off_items, shared_item, with_range, begins, Contents, items, rising}
use Rattle.kd_image.specs.Images.{padded, laid}
use Rattle.kd_image.specs.Said.{IsTold, IsWord, IsText}
use Rattle.kd_image.specs.Reading.{blank, with_item, with_creds, with_owned, with_description, with_moment, with_name, with_off, with_shared, read_on, payload_at, payloads_from}
use Rattle.kd_image.proofs.Rising.{rising_front}
use Rattle.kd_image.proofs.Lengths.{length-padded}
use Rattle.kd_image.proofs.Written.{offs_behind, length-off_items}

-- the numbers in front of a body
pub number_words : (n : ℕ) (ns text : List ℕ) → n < 2 ^ 64 → number (words (n ∷ ns) ++ text) ≡ n
number_words n ns text lt = ap number (append_assoc (word n) (words ns) text) ∙ word_again n (words ns ++ text) lt

pub behind_word : (n : ℕ) (ns text : List ℕ) → drop 8 (words (n ∷ ns) ++ text) ≡ words ns ++ text
behind_word n ns text = ap (drop 8) (append_assoc (word n) (words ns) text) ∙ drop_at (word n) (words ns ++ text) 8 (length-word n)

pub behind_next : (i n : ℕ) (bytes ns text : List ℕ) → drop i bytes ≡ words (n ∷ ns) ++ text → drop (i + 8) bytes ≡ words ns ++ text
behind_next i n bytes ns text e = sym (drop-drop 8 i bytes) ∙ ap (drop 8) e ∙ behind_word n ns text

-- contents by their parts
abbrev pub said : Option Creds → List (List ℕ) → Option (List ℕ) → Option ℕ → Option (List ℕ) → List ℕ → Option SealedRange → Contents
said x ns d m n ls r = record { creds = x; names = ns; description = d; moment = m; name = n; lengths = ls; range = r }

-- items taken in, one after the other
abbrev pub takes : ℕ → Contents → List Entry → Option Contents
takes size c [] = Some c
takes size c (e ∷ es) = elim (with_item size c e) [ None ↦ None | Some d ↦ takes size d es ]

abbrev pub then_takes : ℕ → List Entry → Option Contents → Option Contents
then_takes size es o = elim o [ None ↦ None | Some d ↦ takes size d es ]

pub takes_on : (size : ℕ) (a b : Contents) (es fs : List Entry) → takes size a es ≡ Some b → takes size a (es ++ fs) ≡ takes size b fs
takes_on size a b [] fs e = ap (then_takes size fs) e
takes_on size a b (x ∷ es) fs e =
    elim (option_cases (with_item size a x)) [
      | inl none ↦ let never : None ≡ Some b = sym (ap (then_takes size es) none) ∙ e in absurd cc
      | inr some ↦ ap (then_takes size (es ++ fs)) some.1 ∙ takes_on size some.0 b es fs (sym (ap (then_takes size es) some.1) ∙ e)
    ]

pub takes_both : (size : ℕ) (a b c : Contents) (es fs : List Entry) → takes size a es ≡ Some b → takes size b fs ≡ Some c → takes size a (es ++ fs) ≡ Some c
takes_both size a b c es fs e f = takes_on size a b es fs e ∙ f

one_flag : (p : Bool) → flag p < 2 ^ 64
one_flag true = omega arith
one_flag false = omega arith

creds_parts : (size uid gid : ℕ) (p : Bool) → uid < 2 ^ 32 → gid < 2 ^ 32
    → with_item size blank (item 21 (uid ∷ gid ∷ flag p ∷ []) []) ≡ Some (record blank { creds = Some (record { uid = uid; gid = gid; privileged = p }) })
unfolding with_item with_creds
creds_parts size uid gid true u g =
    let body : List ℕ = words (uid ∷ gid ∷ 1 ∷ []) ++ [] in
    let len : length body ≡ 24 = length-body (uid ∷ gid ∷ 1 ∷ []) [] in
    let first : number body ≡ uid = number_words uid (gid ∷ 1 ∷ []) [] (omega arith) in
    let second : number (drop 8 body) ≡ gid = ap number (behind_word uid (gid ∷ 1 ∷ []) []) ∙ number_words gid (1 ∷ []) [] (omega arith) in
    let third : number (drop 16 body) ≡ 1 = ap number (behind_next 8 gid body (1 ∷ []) [] (behind_word uid (gid ∷ 1 ∷ []) [])) ∙ number_words 1 [] [] (omega arith) in
    rw (len, first, second, third, lt-ltb uid (2 ^ 32) u, lt-ltb gid (2 ^ 32) g) refl
creds_parts size uid gid false u g =
    let body : List ℕ = words (uid ∷ gid ∷ 0 ∷ []) ++ [] in
    let len : length body ≡ 24 = length-body (uid ∷ gid ∷ 0 ∷ []) [] in
    let first : number body ≡ uid = number_words uid (gid ∷ 0 ∷ []) [] (omega arith) in
    let second : number (drop 8 body) ≡ gid = ap number (behind_word uid (gid ∷ 0 ∷ []) []) ∙ number_words gid (0 ∷ []) [] (omega arith) in
    let third : number (drop 16 body) ≡ 0 = ap number (behind_next 8 gid body (0 ∷ []) [] (behind_word uid (gid ∷ 0 ∷ []) [])) ∙ number_words 0 [] [] (omega arith) in
    rw (len, first, second, third, lt-ltb uid (2 ^ 32) u, lt-ltb gid (2 ^ 32) g) refl

-- one item after the other
pub takes_creds : (size : ℕ) (x : Option Creds) → IfSome x (λ y. (y.uid < 2 ^ 32) × (y.gid < 2 ^ 32)) → takes size blank (maybe creds_item x) ≡ Some (said x [] None None None [] None)
takes_creds size None h = refl
takes_creds size (Some y) h = ap (then_takes size []) (creds_parts size y.uid y.gid y.privileged h.0 h.1)

takes_owned : (size : ℕ) (x : Option Creds) (ns : List (List ℕ)) (n : List ℕ) → IsText n → rising (ns ++ n ∷ []) ≡ true → with_item size (said x ns None None None [] None) (owned_item n) ≡ Some (said x (ns ++ n ∷ []) None None None [] None)
unfolding with_item with_owned
takes_owned size x ns n h up = rw (h, up) refl

pub takes_names : (size : ℕ) (x : Option Creds) (done ns : List (List ℕ)) → AllByRecursion IsText ns → rising (done ++ ns) ≡ true → takes size (said x done None None None [] None) (map owned_item ns) ≡ Some (said x (done ++ ns) None None None [] None)
takes_names size x done [] h up = ap (λ (l : List (List ℕ)). Some (said x l None None None [] None)) (sym (append-nil done))
takes_names size x done (n ∷ ns) h up =
    let same : done ++ n ∷ [] ++ ns ≡ done ++ n ∷ ns = append_assoc done (n ∷ []) ns in
    let whole : rising (done ++ n ∷ [] ++ ns) ≡ true = ap rising same ∙ up in
    let more = takes_names size x (done ++ n ∷ []) ns h.1 whole in
    ap (then_takes size (map owned_item ns)) (takes_owned size x done n h.0 (rising_front (done ++ n ∷ []) ns whole)) ∙ more ∙ ap (λ (l : List (List ℕ)). Some (said x l None None None [] None)) same

takes_text : (size : ℕ) (x : Option Creds) (ns : List (List ℕ)) (t : List ℕ) → length t ≤ 255 → IsText t → with_item size (said x ns None None None [] None) (description_item t) ≡ Some (said x ns (Some t) None None [] None)
unfolding with_item with_description
takes_text size x ns t short h = rw (le-ltb 255 (length t) short, h) refl

pub takes_description : (size : ℕ) (x : Option Creds) (ns : List (List ℕ)) (d : Option (List ℕ)) → IfSome d (λ t. (length t ≤ 255) × IsText t) → takes size (said x ns None None None [] None) (maybe description_item d) ≡ Some (said x ns d None None [] None)
takes_description size x ns None h = refl
takes_description size x ns (Some t) h = ap (then_takes size []) (takes_text size x ns t h.0 h.1)

takes_time : (size : ℕ) (x : Option Creds) (ns : List (List ℕ)) (d : Option (List ℕ)) (m : ℕ) → IsWord m → with_item size (said x ns d None None [] None) (moment_item m) ≡ Some (said x ns d (Some m) None [] None)
unfolding with_item with_moment
takes_time size x ns d m lt = rw (length-body (m ∷ []) [], number_words m [] [] lt) refl

pub takes_moment : (size : ℕ) (x : Option Creds) (ns : List (List ℕ)) (d : Option (List ℕ)) (m : Option ℕ) → IfSome m IsWord → takes size (said x ns d None None [] None) (maybe moment_item m) ≡ Some (said x ns d m None [] None)
takes_moment size x ns d None h = refl
takes_moment size x ns d (Some m) h = ap (then_takes size []) (takes_time size x ns d m h)

takes_called : (size : ℕ) (x : Option Creds) (ns : List (List ℕ)) (d : Option (List ℕ)) (m : Option ℕ) (n : List ℕ) → IsText n → with_item size (said x ns d m None [] None) (name_item n) ≡ Some (said x ns d m (Some n) [] None)
unfolding with_item with_name
takes_called size x ns d m n h = rw h refl

pub takes_name : (size : ℕ) (x : Option Creds) (ns : List (List ℕ)) (d : Option (List ℕ)) (m : Option ℕ) (n : Option (List ℕ)) → IfSome n IsText → takes size (said x ns d m None [] None) (maybe name_item n) ≡ Some (said x ns d m n [] None)
takes_name size x ns d m None h = refl
takes_name size x ns d m (Some n) h = ap (then_takes size []) (takes_called size x ns d m n h)

takes_off : (size : ℕ) (x : Option Creds) (ns : List (List ℕ)) (d : Option (List ℕ)) (m : Option ℕ) (n : Option (List ℕ)) (r : Option SealedRange) (before : List ℕ) (l : ℕ)
    → length before < 16 → l < 2 ^ 64 → begins size before < 2 ^ 64
    → with_item size (said x ns d m n before r) (off_item size before l) ≡ Some (said x ns d m n (before ++ l ∷ []) r)
unfolding with_item with_off
takes_off size x ns d m n r before l few small fits =
    let at : ℕ = begins size before in
    let body : List ℕ = words (l ∷ at ∷ []) ++ [] in
    let len : length body ≡ 16 = length-body (l ∷ at ∷ []) [] in
    let first : number body ≡ l = number_words l (at ∷ []) [] small in
    let second : number (drop 8 body) ≡ at = ap number (behind_word l (at ∷ []) []) ∙ number_words at [] [] fits in
    rw (len, first, second, lt-ltb (length before) 16 few, eq-eqb at at refl) refl

pub takes_offs : (size : ℕ) (x : Option Creds) (ns : List (List ℕ)) (d : Option (List ℕ)) (m : Option ℕ) (n : Option (List ℕ)) (r : Option SealedRange) (before ls : List ℕ)
    → length before + length ls ≤ 16 → begins size (before ++ ls) < 2 ^ 64
    → takes size (said x ns d m n before r) (off_items size before ls) ≡ Some (said x ns d m n (before ++ ls) r)
takes_offs size x ns d m n r before [] few fits = ap (λ (l : List ℕ). Some (said x ns d m n l r)) (sym (append-nil before))
takes_offs size x ns d m n r before (l ∷ ls) few fits =
    let parts : sum_by padded_length (before ++ l ∷ ls) ≡ sum_by padded_length before + sum_by padded_length (l ∷ ls) = sum_by-append padded_length before (l ∷ ls) in
    let next : sum_by padded_length (l ∷ ls) ≡ padded_length l + sum_by padded_length ls = sum_by-cons padded_length l ls in
    let same : before ++ l ∷ [] ++ ls ≡ before ++ l ∷ ls = append_assoc before (l ∷ []) ls in
    let fits2 : begins size (before ++ l ∷ [] ++ ls) < 2 ^ 64 = rw same fits in
    let few2 : length (before ++ l ∷ []) + length ls ≤ 16 = omega (arith, length-append before (l ∷ [])) in
    let more = takes_offs size x ns d m n r (before ++ l ∷ []) ls few2 fits2 in
    ap (then_takes size (off_items size (before ++ l ∷ []) ls)) (takes_off size x ns d m n r before l (omega arith) (omega arith) (omega arith)) ∙ more ∙ ap (λ (k : List ℕ). Some (said x ns d m n k r)) same

takes_shared : (size : ℕ) (x : Option Creds) (ns : List (List ℕ)) (d : Option (List ℕ)) (m : Option ℕ) (n : Option (List ℕ)) (before : List ℕ) (place start len : ℕ)
    → place ≡ length before → IsWord start → IsWord len
    → with_item size (said x ns d m n before None) (item 20 (start ∷ len ∷ []) []) ≡ Some (said x ns d m n before (Some (record { place = place; start = start; length = len })))
unfolding with_item with_shared
takes_shared size x ns d m n before place start len is s l =
    let body : List ℕ = words (start ∷ len ∷ []) ++ [] in
    let all : length body ≡ 16 = length-body (start ∷ len ∷ []) [] in
    let first : number body ≡ start = number_words start (len ∷ []) [] s in
    let second : number (drop 8 body) ≡ len = ap number (behind_word start (len ∷ []) []) ∙ number_words len [] [] l in
    rw (all, first, second, is) refl

-- the range among the payloads
pub takes_body : (size : ℕ) (x : Option Creds) (ns : List (List ℕ)) (d : Option (List ℕ)) (m : Option ℕ) (n : Option (List ℕ)) (ls : List ℕ) (r : Option SealedRange)
    → length ls ≤ 16 → begins size ls < 2 ^ 64 → IfSome r (λ y. (y.place ≤ length ls) × IsWord y.start × IsWord y.length)
    → takes size (said x ns d m n [] None) (with_range r (off_items size [] ls)) ≡ Some (said x ns d m n ls r)
takes_body size x ns d m n ls None few fits h = takes_offs size x ns d m n None [] ls (omega arith) fits
takes_body size x ns d m n ls (Some r) few fits h =
    let front : List ℕ = take r.place ls in
    let back : List ℕ = drop r.place ls in
    let whole : front ++ back ≡ ls = take-append-drop r.place ls in
    let front_len : length front ≡ r.place = length-take-le r.place ls h.0 in
    let sizes : length front + length back ≡ length ls = sym (length-append front back) ∙ ap length whole in
    let apart : off_items size [] ls ≡ off_items size [] front ++ off_items size front back = ap (off_items size []) (sym whole) ∙ offs_behind size [] front back in
    let offs_len : length (off_items size [] front) ≡ r.place = length-off_items size [] front ∙ front_len in
    let taken : take r.place (off_items size [] ls) ≡ off_items size [] front = ap (take r.place) apart ∙ take_at (off_items size [] front) (off_items size front back) r.place offs_len in
    let dropped : drop r.place (off_items size [] ls) ≡ off_items size front back = ap (drop r.place) apart ∙ drop_at (off_items size [] front) (off_items size front back) r.place offs_len in
    let sum : sum_by padded_length ls ≡ sum_by padded_length front + sum_by padded_length back = ap (sum_by padded_length) (sym whole) ∙ sum_by-append padded_length front back in
    let first : takes size (said x ns d m n [] None) (off_items size [] front) ≡ Some (said x ns d m n front None) = takes_offs size x ns d m n None [] front (omega arith) (omega arith) in
    let fits2 : begins size (front ++ back) < 2 ^ 64 = rw whole fits in
    let second : takes size (said x ns d m n front (Some r)) (off_items size front back) ≡ Some (said x ns d m n (front ++ back) (Some r)) = takes_offs size x ns d m n (Some r) front back (omega arith) fits2 in
    let shared : with_item size (said x ns d m n front None) (shared_item r) ≡ Some (said x ns d m n front (Some r)) = takes_shared size x ns d m n front r.place r.start r.length (sym front_len) h.1 h.2 in
    let third : takes size (said x ns d m n front None) (shared_item r ∷ off_items size front back) ≡ Some (said x ns d m n ls (Some r)) = ap (then_takes size (off_items size front back)) shared ∙ second ∙ ap (λ (l : List ℕ). Some (said x ns d m n l (Some r))) whole in
    rw (taken, dropped) (takes_both size (said x ns d m n [] None) (said x ns d m n front None) (said x ns d m n ls (Some r)) (off_items size [] front) (shared_item r ∷ off_items size front back) first third)

-- all the items
pub takes_all : (size : ℕ) (c : Contents) → IsTold size c → takes size blank (items size c) ≡ Some c
takes_all size c t =
    let c1 : Contents = said c.creds [] None None None [] None in
    let c2 : Contents = said c.creds c.names None None None [] None in
    let c3 : Contents = said c.creds c.names c.description None None [] None in
    let c4 : Contents = said c.creds c.names c.description c.moment None [] None in
    let c5 : Contents = said c.creds c.names c.description c.moment c.name [] None in
    let e1 : List Entry = maybe creds_item c.creds in
    let e2 : List Entry = map owned_item c.names in
    let e3 : List Entry = maybe description_item c.description in
    let e4 : List Entry = maybe moment_item c.moment in
    let e5 : List Entry = maybe name_item c.name in
    let e6 : List Entry = with_range c.range (off_items size [] c.lengths) in
    let t1 = takes_creds size c.creds t.creds in
    let t2 = takes_both size blank c1 c2 e1 e2 t1 (takes_names size c.creds [] c.names t.names t.order) in
    let t3 = takes_both size blank c2 c3 (e1 ++ e2) e3 t2 (takes_description size c.creds c.names c.description t.description) in
    let t4 = takes_both size blank c3 c4 (e1 ++ e2 ++ e3) e4 t3 (takes_moment size c.creds c.names c.description c.moment t.moment) in
    let t5 = takes_both size blank c4 c5 (e1 ++ e2 ++ e3 ++ e4) e5 t4 (takes_name size c.creds c.names c.description c.moment c.name t.name) in
    takes_both size blank c5 c (e1 ++ e2 ++ e3 ++ e4 ++ e5) e6 t5 (takes_body size c.creds c.names c.description c.moment c.name c.lengths c.range t.few t.ends t.range)

-- what is taken in is read to the end
pub takes_read : (size at : ℕ) (c d : Contents) (es : List Entry) → takes size c es ≡ Some d → read_on size c (placed at es) [] ≡ Ok d
takes_read size at c d [] e = cc
takes_read size at c d (x ∷ es) e =
    let go : Option Contents → Result Contents ReplyError = λ o. elim o [ None ↦ Err (Bad at) | Some b ↦ read_on size b (placed (at + length (spelling x)) es) [] ] in
    elim (option_cases (with_item size c x)) [
      | inl none ↦ let never : None ≡ Some d = sym (ap (then_takes size es) none) ∙ e in absurd cc
      | inr some ↦ ap go some.1 ∙ takes_read size (at + length (spelling x)) some.0 d es (sym (ap (then_takes size es) some.1) ∙ e)
    ]

-- payloads read again
pub payload_again : (p rest : List ℕ) → payload_at (length p) (padded p ++ rest) ≡ Some (p, rest)
unfolding payload_at
payload_again p rest =
    let zs : List ℕ = replicate (padding (length p)) 0 in
    let fill : length zs ≡ padding (length p) = length-replicate (padding (length p)) 0 in
    let flat : padded p ++ rest ≡ p ++ (zs ++ rest) = append_assoc p zs rest in
    let long : padded_length (length p) ≤ length (padded p ++ rest) = omega (arith, length-append (padded p) rest, length-padded p) in
    let tail : drop (length p) (padded p ++ rest) ≡ zs ++ rest = ap (drop (length p)) flat ∙ drop_at p (zs ++ rest) (length p) refl in
    let zeros : take (padding (length p)) (drop (length p) (padded p ++ rest)) ≡ zs = ap (take (padding (length p))) tail ∙ take_at zs rest (padding (length p)) fill in
    let first : take (length p) (padded p ++ rest) ≡ p = ap (take (length p)) flat ∙ take_at p (zs ++ rest) (length p) refl in
    let last : drop (padded_length (length p)) (padded p ++ rest) ≡ rest = drop_at (padded p) rest (padded_length (length p)) (length-padded p) in
    rw (le-ltb (length (padded p ++ rest)) (padded_length (length p)) long, zeros, zeros_pass (padding (length p)), first, last) refl

pub payloads_again : (done : List (List ℕ)) (at : ℕ) (ps : List (List ℕ)) → payloads_from done at (map length ps) (laid ps) ≡ Ok (done ++ ps)
payloads_again done at [] = ap (λ (l : List (List ℕ)). Ok l) (sym (append-nil done))
payloads_again done at (p ∷ ps) =
    let more = payloads_again (done ++ p ∷ []) (at + padded_length (length p)) ps in
    let go : Option (List ℕ × List ℕ) → Result (List (List ℕ)) ReplyError = λ o. elim o [ None ↦ Err (Bad at) | Some x ↦ payloads_from (done ++ x.0 ∷ []) (at + padded_length (length p)) (map length ps) x.1 ] in
    ap go (payload_again p (laid ps)) ∙ more ∙ ap (λ (l : List (List ℕ)). Ok l) (append_assoc done (p ∷ []) ps)
