-- What is read as an image is one.
use Rattle.std.proofs.Common.{◌≡◌, ℕ, zero, suc, ◌+◌, ◌-◌, ◌<◌, ◌≤◌, ◌^◌, true, not, eqb, ltb, ◌&&◌, List, [], ◌∷◌, ◌++◌, length, take, drop, map, Option, Some, None, is_none, Result, Ok, Err, IfSome, refl, sym, ap, subst, ◌∙◌, arith, append_assoc, length-append, length-drop, inl, inr}
use Rattle.std.specs.List.{AllByRecursion}
use Rattle.std.specs.Str.{is_utf8}
use Rattle.std.proofs.lemmas.Bool.{ltb-true, ltb-false, eqb-true, and_parts, not-false, cases_Bool}
use Rattle.std.proofs.lemmas.List.{append-nil, map_push, take_all, drop_all, take-append-le, drop-append-le, drop-drop, take-append-drop}
use Rattle.kd_model.proofs.Truth.{option_cases, none_is, same_some, let_through}
use Rattle.kd_model.proofs.Lists.{all_of_push}
use Rattle.kd_types.specs.declared.creds.Creds.{Creds}
use Rattle.kd_types.specs.declared.reply_error.ReplyError.{ReplyError}
use Rattle.kd_types.specs.declared.reply_error.ReplyError.TheVariants.{Bad}
use Rattle.kd_model.specs.Words.{is_empty}
use Rattle.kd_item.specs.Spelling.{Entry, word, number, spelling, spellings, words}
use Rattle.kd_item.specs.Reading.{placed}
use Rattle.kd_item.proofs.Words.{IsBytes, IsBytes-drop, IsBytes-front, IsBytes-behind, word_front, number_fits}
use Rattle.kd_item.proofs.Sizes.{body_bytes}
use Rattle.kd_image.specs.declared.message.SealedRange.{SealedRange}
use Rattle.kd_image.specs.Items.{flag, maybe, creds_item, owned_item, description_item, moment_item, name_item, off_item, off_items, shared_item, with_range, begins, Contents, items, rising}
use Rattle.kd_image.specs.Said.{IsWord, IsText}
use Rattle.kd_image.specs.Reading.{no_payload, no_name, no_moment, no_description, no_item, with_creds, with_owned, with_description, with_moment, with_name, with_off, with_shared, with_item, read_on}
use Rattle.kd_image.proofs.Written.{offs_behind, length-off_items}
use Rattle.kd_image.proofs.Again.{said}

-- the body of an item in front of bytes
pub front_body : (e : Entry) (rest : List ℕ) → IsBytes (spelling e ++ rest) → IsBytes e.body
front_body e rest h = body_bytes e (IsBytes-front (spelling e) rest h)

-- the number in front, and the bytes behind it
pub first_word : (bytes : List ℕ) → 8 ≤ length bytes → IsBytes bytes → bytes ≡ word (number bytes) ++ drop 8 bytes
first_word bytes long fits = sym (take-append-drop 8 bytes) ∙ ap (λ (l : List ℕ). l ++ drop 8 bytes) (sym (word_front bytes long fits))

-- one number, two, three
pub one_number : (bytes : List ℕ) → length bytes ≡ 8 → IsBytes bytes → bytes ≡ words (number bytes ∷ []) ++ []
one_number bytes len fits =
    let none : drop 8 bytes ≡ [] = drop_all 8 bytes (omega arith) in
    first_word bytes (omega arith) fits ∙ ap (λ (l : List ℕ). word (number bytes) ++ l) none ∙ sym (append-nil (words (number bytes ∷ [])))

-- a number in front of numbers and a text
pub number_more : (bytes ns : List ℕ) (m : ℕ) (text : List ℕ) → number bytes ≡ m → 8 ≤ length bytes → IsBytes bytes → drop 8 bytes ≡ words ns ++ text → bytes ≡ words (m ∷ ns) ++ text
number_more bytes ns m text is long fits e =
    first_word bytes long fits ∙ ap (λ (l : List ℕ). word (number bytes) ++ l) e ∙ sym (append_assoc (word (number bytes)) (words ns) text) ∙ ap (λ (k : ℕ). words (k ∷ ns) ++ text) is

pub two_numbers : (bytes text : List ℕ) → 16 ≤ length bytes → IsBytes bytes → drop 16 bytes ≡ text → bytes ≡ words (number bytes ∷ number (drop 8 bytes) ∷ []) ++ text
two_numbers bytes text long fits e =
    let back : drop 8 (drop 8 bytes) ≡ text = drop-drop 8 8 bytes ∙ e in
    let second : drop 8 bytes ≡ words (number (drop 8 bytes) ∷ []) ++ text = number_more (drop 8 bytes) [] (number (drop 8 bytes)) text refl (omega (arith, length-drop 8 bytes)) (IsBytes-drop 8 bytes fits) back in
    number_more bytes (number (drop 8 bytes) ∷ []) (number bytes) text refl (omega arith) fits second

pub three_numbers : (bytes : List ℕ) → length bytes ≡ 24 → IsBytes bytes → bytes ≡ words (number bytes ∷ number (drop 8 bytes) ∷ number (drop 16 bytes) ∷ []) ++ []
three_numbers bytes len fits =
    let back : drop 16 (drop 8 bytes) ≡ drop 24 bytes = drop-drop 16 8 bytes in
    let none : drop 24 bytes ≡ [] = drop_all 24 bytes (omega arith) in
    let middle : drop 8 (drop 8 bytes) ≡ drop 16 bytes = drop-drop 8 8 bytes in
    let third : drop 16 (drop 8 bytes) ≡ [] = back ∙ none in
    let last : drop 8 (drop 16 bytes) ≡ [] = drop-drop 8 16 bytes ∙ none in
    let one : drop 16 bytes ≡ words (number (drop 16 bytes) ∷ []) ++ [] = number_more (drop 16 bytes) [] (number (drop 16 bytes)) [] refl (omega (arith, length-drop 16 bytes)) (IsBytes-drop 16 bytes fits) last in
    let two : drop 8 bytes ≡ words (number (drop 8 bytes) ∷ number (drop 16 bytes) ∷ []) ++ [] = number_more (drop 8 bytes) (number (drop 16 bytes) ∷ []) (number (drop 8 bytes)) [] refl (omega (arith, length-drop 8 bytes)) (IsBytes-drop 8 bytes fits) (middle ∙ one) in
    number_more bytes (number (drop 8 bytes) ∷ number (drop 16 bytes) ∷ []) (number bytes) [] refl (omega arith) fits two

pub ok_is : {A E : Type 0} (x y : A) → ◌≡◌ {A = Result A E} (Ok x) (Ok y) → x ≡ y
ok_is x y e = cc

pub empty_is : {A : Type 0} (l : List A) → is_empty l ≡ true → l ≡ []
empty_is [] e = refl
empty_is (x ∷ l) e = absurd cc

entry_is : (e : Entry) (k : ℕ) (b : List ℕ) → e.kind ≡ k → e.body ≡ b → e ≡ record { kind = k; body = b }
entry_is e k b ek eb = rw (← ek, ← eb) refl

-- what isn't there yet
nothing_paid : (c : Contents) → no_payload c ≡ true → (c.lengths ≡ []) × (c.range ≡ None)
nothing_paid c h = let p = and_parts (is_empty c.lengths) (is_none c.range) h in (empty_is c.lengths p.0, none_is c.range p.1)

not_named : (c : Contents) → no_name c ≡ true → (c.name ≡ None) × (c.lengths ≡ []) × (c.range ≡ None)
not_named c h =
    let p = and_parts (is_none c.name) (no_payload c) h in
    let q = nothing_paid c p.1 in
    (none_is c.name p.0, q.0, q.1)

not_timed : (c : Contents) → no_moment c ≡ true → (c.moment ≡ None) × (c.name ≡ None) × (c.lengths ≡ []) × (c.range ≡ None)
not_timed c h =
    let p = and_parts (is_none c.moment) (no_name c) h in
    let q = not_named c p.1 in
    (none_is c.moment p.0, q.0, q.1, q.2)

not_described : (c : Contents) → no_description c ≡ true → (c.description ≡ None) × (c.moment ≡ None) × (c.name ≡ None) × (c.lengths ≡ []) × (c.range ≡ None)
not_described c h =
    let p = and_parts (is_none c.description) (no_moment c) h in
    let q = not_timed c p.1 in
    (none_is c.description p.0, q.0, q.1, q.2, q.3)

-- items of each kind, one more where none stands behind
abbrev joined : List Entry → List Entry → List Entry → List Entry → List Entry → List Entry → List Entry
joined a b c d e f = a ++ b ++ c ++ d ++ e ++ f

push_b : (a b : List Entry) (y : Entry) → joined a (b ++ y ∷ []) [] [] [] [] ≡ joined a b [] [] [] [] ++ y ∷ []
push_b a b y = simp (append-nil, append_assoc) refl

push_c : (a b : List Entry) (y : Entry) → joined a b (y ∷ []) [] [] [] ≡ joined a b [] [] [] [] ++ y ∷ []
push_c a b y = simp (append-nil, append_assoc) refl

push_d : (a b c : List Entry) (y : Entry) → joined a b c (y ∷ []) [] [] ≡ joined a b c [] [] [] ++ y ∷ []
push_d a b c y = simp (append-nil, append_assoc) refl

push_e : (a b c d : List Entry) (y : Entry) → joined a b c d (y ∷ []) [] ≡ joined a b c d [] [] ++ y ∷ []
push_e a b c d y = simp (append-nil, append_assoc) refl

push_f : (a b c d e f : List Entry) (y : Entry) → joined a b c d e (f ++ y ∷ []) ≡ joined a b c d e f ++ y ∷ []
push_f a b c d e f y = sym (append_assoc (a ++ b ++ c ++ d ++ e) f (y ∷ []))

-- what the items before a place tell, but for where the payloads end
pub record SoFar (c : Contents) : Type 0 where
  pub creds : IfSome c.creds (λ x. (x.uid < 2 ^ 32) × (x.gid < 2 ^ 32))
  pub names : AllByRecursion IsText c.names
  pub order : rising c.names ≡ true
  pub description : IfSome c.description (λ t. (length t ≤ 255) × IsText t)
  pub moment : IfSome c.moment IsWord
  pub name : IfSome c.name IsText
  pub few : length c.lengths ≤ 16
  pub range : IfSome c.range (λ r. (r.place ≤ length c.lengths) × IsWord r.start × IsWord r.length)

-- an item that was taken in stands behind those before it
pub record Adds (size : ℕ) (c : Contents) (e : Entry) (d : Contents) : Type 0 where
  pub behind : items size d ≡ items size c ++ e ∷ []
  pub told : SoFar d

bit_again : (n : ℕ) → n < 2 → flag (eqb n 1) ≡ n
bit_again zero lt = refl
bit_again (suc zero) lt = refl
bit_again (suc (suc n)) lt = absurd (omega arith)

-- contents by their later parts
fields : (c : Contents) (d : Option (List ℕ)) (m : Option ℕ) (n : Option (List ℕ)) (ls : List ℕ) (r : Option SealedRange)
    → c.description ≡ d → c.moment ≡ m → c.name ≡ n → c.lengths ≡ ls → c.range ≡ r → c ≡ said c.creds c.names d m n ls r
fields c d m n ls r ed em en el er =
    ap (λ (k : Option (List ℕ)). said c.creds c.names k c.moment c.name c.lengths c.range) ed
    ∙ ap (λ (k : Option ℕ). said c.creds c.names d k c.name c.lengths c.range) em
    ∙ ap (λ (k : Option (List ℕ)). said c.creds c.names d m k c.lengths c.range) en
    ∙ ap (λ (k : List ℕ). said c.creds c.names d m n k c.range) el
    ∙ ap (λ (k : Option SealedRange). said c.creds c.names d m n ls k) er

shape_owned : (size : ℕ) (x : Option Creds) (ns : List (List ℕ)) (b : List ℕ) → items size (said x (ns ++ b ∷ []) None None None [] None) ≡ items size (said x ns None None None [] None) ++ owned_item b ∷ []
shape_owned size x ns b = ap (λ (l : List Entry). joined (maybe creds_item x) l [] [] [] []) (map_push owned_item ns b) ∙ push_b (maybe creds_item x) (map owned_item ns) (owned_item b)

-- the same contents, one part more, and the item that tells it
spelled_so : (size : ℕ) (c d k l : Contents) (e y : Entry) → c ≡ k → d ≡ l → items size l ≡ items size k ++ y ∷ [] → e ≡ y → items size d ≡ items size c ++ e ∷ []
spelled_so size c d k l e y ck dl shape ey =
    ap (items size) dl ∙ shape ∙ ap (λ (z : Contents). items size z ++ y ∷ []) (sym ck) ∙ ap (λ (z : Entry). items size c ++ z ∷ []) (sym ey)

adds_owned : (size : ℕ) (c d : Contents) (e : Entry) → e.kind ≡ 22 → SoFar c → with_owned c e.body ≡ Some d → Adds size c e d
unfolding with_owned
adds_owned size c d e ek s is =
    let a = let_through (not (no_description c)) _ d is in
    let q = not_described c (not-false (no_description c) a.0) in
    let b = let_through (not (is_utf8 e.body)) _ d a.1 in
    let text : is_utf8 e.body ≡ true = not-false (is_utf8 e.body) b.0 in
    let r = let_through (not (rising (c.names ++ e.body ∷ []))) _ d b.1 in
    let up : rising (c.names ++ e.body ∷ []) ≡ true = not-false (rising (c.names ++ e.body ∷ [])) r.0 in
    let new : Contents = record c { names = c.names ++ e.body ∷ [] } in
    let made : new ≡ d = same_some new d r.1 in
    let before : c ≡ said c.creds c.names None None None [] None = fields c None None None [] None q.0 q.1 q.2 q.3 q.4 in
    let after : new ≡ said c.creds (c.names ++ e.body ∷ []) None None None [] None = fields new None None None [] None q.0 q.1 q.2 q.3 q.4 in
    let told : SoFar new = record { creds = s.creds; names = all_of_push IsText c.names e.body s.names text; order = up; description = s.description; moment = s.moment; name = s.name; few = s.few; range = s.range } in
    subst (Adds size c e) made (record {
      behind = spelled_so size c new (said c.creds c.names None None None [] None) (said c.creds (c.names ++ e.body ∷ []) None None None [] None) e (owned_item e.body) before after (shape_owned size c.creds c.names e.body) (entry_is e 22 e.body ek refl);
      told = told;
    })

adds_description : (size : ℕ) (c d : Contents) (e : Entry) → e.kind ≡ 10 → SoFar c → with_description c e.body ≡ Some d → Adds size c e d
unfolding with_description
adds_description size c d e ek s is =
    let a = let_through (not (no_description c)) _ d is in
    let q = not_described c (not-false (no_description c) a.0) in
    let b = let_through (ltb 255 (length e.body)) _ d a.1 in
    let short : length e.body ≤ 255 = ltb-false 255 (length e.body) b.0 in
    let t = let_through (not (is_utf8 e.body)) _ d b.1 in
    let text : is_utf8 e.body ≡ true = not-false (is_utf8 e.body) t.0 in
    let new : Contents = record c { description = Some e.body } in
    let made : new ≡ d = same_some new d t.1 in
    let before : c ≡ said c.creds c.names None None None [] None = fields c None None None [] None q.0 q.1 q.2 q.3 q.4 in
    let after : new ≡ said c.creds c.names (Some e.body) None None [] None = fields new (Some e.body) None None [] None refl q.1 q.2 q.3 q.4 in
    let told : SoFar new = record { creds = s.creds; names = s.names; order = s.order; description = (short, text); moment = s.moment; name = s.name; few = s.few; range = s.range } in
    subst (Adds size c e) made (record {
      behind = spelled_so size c new (said c.creds c.names None None None [] None) (said c.creds c.names (Some e.body) None None [] None) e (description_item e.body) before after (push_c (maybe creds_item c.creds) (map owned_item c.names) (description_item e.body)) (entry_is e 10 e.body ek refl);
      told = told;
    })

adds_moment : (size : ℕ) (c d : Contents) (e : Entry) → e.kind ≡ 23 → IsBytes e.body → SoFar c → with_moment c e.body ≡ Some d → Adds size c e d
unfolding with_moment
adds_moment size c d e ek fits s is =
    let a = let_through (not (no_moment c)) _ d is in
    let q = not_timed c (not-false (no_moment c) a.0) in
    let b = let_through (not (eqb (length e.body) 8)) _ d a.1 in
    let len : length e.body ≡ 8 = eqb-true (length e.body) 8 (not-false (eqb (length e.body) 8) b.0) in
    let m : ℕ = number e.body in
    let new : Contents = record c { moment = Some m } in
    let made : new ≡ d = same_some new d b.1 in
    let before : c ≡ said c.creds c.names c.description None None [] None = fields c c.description None None [] None refl q.0 q.1 q.2 q.3 in
    let after : new ≡ said c.creds c.names c.description (Some m) None [] None = fields new c.description (Some m) None [] None refl refl q.1 q.2 q.3 in
    let told : SoFar new = record { creds = s.creds; names = s.names; order = s.order; description = s.description; moment = number_fits e.body fits; name = s.name; few = s.few; range = s.range } in
    subst (Adds size c e) made (record {
      behind = spelled_so size c new (said c.creds c.names c.description None None [] None) (said c.creds c.names c.description (Some m) None [] None) e (moment_item m) before after (push_d (maybe creds_item c.creds) (map owned_item c.names) (maybe description_item c.description) (moment_item m)) (entry_is e 23 (words (m ∷ []) ++ []) ek (one_number e.body len fits));
      told = told;
    })

adds_name : (size : ℕ) (c d : Contents) (e : Entry) → e.kind ≡ 3 → SoFar c → with_name c e.body ≡ Some d → Adds size c e d
unfolding with_name
adds_name size c d e ek s is =
    let a = let_through (not (no_name c)) _ d is in
    let q = not_named c (not-false (no_name c) a.0) in
    let b = let_through (not (is_utf8 e.body)) _ d a.1 in
    let text : is_utf8 e.body ≡ true = not-false (is_utf8 e.body) b.0 in
    let new : Contents = record c { name = Some e.body } in
    let made : new ≡ d = same_some new d b.1 in
    let before : c ≡ said c.creds c.names c.description c.moment None [] None = fields c c.description c.moment None [] None refl refl q.0 q.1 q.2 in
    let after : new ≡ said c.creds c.names c.description c.moment (Some e.body) [] None = fields new c.description c.moment (Some e.body) [] None refl refl refl q.1 q.2 in
    let told : SoFar new = record { creds = s.creds; names = s.names; order = s.order; description = s.description; moment = s.moment; name = text; few = s.few; range = s.range } in
    subst (Adds size c e) made (record {
      behind = spelled_so size c new (said c.creds c.names c.description c.moment None [] None) (said c.creds c.names c.description c.moment (Some e.body) [] None) e (name_item e.body) before after (push_e (maybe creds_item c.creds) (map owned_item c.names) (maybe description_item c.description) (maybe moment_item c.moment) (name_item e.body)) (entry_is e 3 e.body ek refl);
      told = told;
    })

push_range : (r : Option SealedRange) (es : List Entry) (y : Entry) → IfSome r (λ k. k.place ≤ length es) → with_range r (es ++ y ∷ []) ≡ with_range r es ++ y ∷ []
push_range None es y h = refl
push_range (Some r) es y h =
    rw (take-append-le r.place es (y ∷ []) h, drop-append-le r.place es (y ∷ []) h) (sym (append_assoc (take r.place es) (shared_item r ∷ drop r.place es) (y ∷ [])))

place_within : (r : Option SealedRange) (size : ℕ) (ls : List ℕ) → IfSome r (λ k. (k.place ≤ length ls) × IsWord k.start × IsWord k.length) → IfSome r (λ k. k.place ≤ length (off_items size [] ls))
place_within None size ls h = h
place_within (Some r) size ls h = omega (arith, h.0, length-off_items size [] ls)

place_further : (r : Option SealedRange) (ls : List ℕ) (l : ℕ) → IfSome r (λ k. (k.place ≤ length ls) × IsWord k.start × IsWord k.length) → IfSome r (λ k. (k.place ≤ length (ls ++ l ∷ [])) × IsWord k.start × IsWord k.length)
place_further None ls l h = h
place_further (Some r) ls l h = let le = h.0 in (omega (arith, length-append ls (l ∷ [])), h.1, h.2)

adds_off : (size : ℕ) (c d : Contents) (e : Entry) → e.kind ≡ 19 → IsBytes e.body → SoFar c → with_off size c e.body ≡ Some d → Adds size c e d
unfolding with_off
adds_off size c d e ek fits s is =
    let a = let_through (not (eqb (length e.body) 16)) _ d is in
    let len : length e.body ≡ 16 = eqb-true (length e.body) 16 (not-false (eqb (length e.body) 16) a.0) in
    let b = let_through (not (ltb (length c.lengths) 16)) _ d a.1 in
    let few : length c.lengths < 16 = ltb-true (length c.lengths) 16 (not-false (ltb (length c.lengths) 16) b.0) in
    let o = let_through (not (eqb (number (drop 8 e.body)) (begins size c.lengths))) _ d b.1 in
    let at : number (drop 8 e.body) ≡ begins size c.lengths = eqb-true (number (drop 8 e.body)) (begins size c.lengths) (not-false (eqb (number (drop 8 e.body)) (begins size c.lengths)) o.0) in
    let l : ℕ = number e.body in
    let new : Contents = record c { lengths = c.lengths ++ l ∷ [] } in
    let made : new ≡ d = same_some new d o.1 in
    let none : drop 16 e.body ≡ [] = drop_all 16 e.body (omega arith) in
    let numbers : e.body ≡ words (l ∷ begins size c.lengths ∷ []) ++ [] = two_numbers e.body [] (omega arith) fits none ∙ ap (λ (k : ℕ). words (l ∷ k ∷ []) ++ []) at in
    let y : Entry = off_item size c.lengths l in
    let more : off_items size [] (c.lengths ++ l ∷ []) ≡ off_items size [] c.lengths ++ y ∷ [] = offs_behind size [] c.lengths (l ∷ []) in
    let ranged : with_range c.range (off_items size [] (c.lengths ++ l ∷ [])) ≡ with_range c.range (off_items size [] c.lengths) ++ y ∷ [] = ap (with_range c.range) more ∙ push_range c.range (off_items size [] c.lengths) y (place_within c.range size c.lengths s.range) in
    let front : List Entry = maybe creds_item c.creds ++ map owned_item c.names ++ maybe description_item c.description ++ maybe moment_item c.moment ++ maybe name_item c.name in
    let shape : items size new ≡ items size c ++ y ∷ [] = ap (λ (k : List Entry). front ++ k) ranged ∙ sym (append_assoc front (with_range c.range (off_items size [] c.lengths)) (y ∷ [])) in
    let told : SoFar new = record { creds = s.creds; names = s.names; order = s.order; description = s.description; moment = s.moment; name = s.name; few = omega (arith, length-append c.lengths (l ∷ [])); range = place_further c.range c.lengths l s.range } in
    subst (Adds size c e) made (record { behind = spelled_so size c new c new e y refl refl shape (entry_is e 19 (words (l ∷ begins size c.lengths ∷ []) ++ []) ek numbers); told = told })

adds_shared : (size : ℕ) (c d : Contents) (e : Entry) → e.kind ≡ 20 → IsBytes e.body → SoFar c → with_shared c e.body ≡ Some d → Adds size c e d
unfolding with_shared
adds_shared size c d e ek fits s is =
    let a = let_through (not (is_none c.range)) _ d is in
    let alone : c.range ≡ None = none_is c.range (not-false (is_none c.range) a.0) in
    let b = let_through (not (eqb (length e.body) 16)) _ d a.1 in
    let len : length e.body ≡ 16 = eqb-true (length e.body) 16 (not-false (eqb (length e.body) 16) b.0) in
    let r : SealedRange = record { place = length c.lengths; start = number e.body; length = number (drop 8 e.body) } in
    let new : Contents = record c { range = Some r } in
    let made : new ≡ d = same_some new d b.1 in
    let none : drop 16 e.body ≡ [] = drop_all 16 e.body (omega arith) in
    let numbers : e.body ≡ words (r.start ∷ r.length ∷ []) ++ [] = two_numbers e.body [] (omega arith) fits none in
    let offs : List Entry = off_items size [] c.lengths in
    let count : length offs ≡ length c.lengths = length-off_items size [] c.lengths in
    let y : Entry = shared_item r in
    let ranged : with_range (Some r) offs ≡ offs ++ y ∷ [] = rw (take_all (length c.lengths) offs (omega arith), drop_all (length c.lengths) offs (omega arith)) refl in
    let front : List Entry = maybe creds_item c.creds ++ map owned_item c.names ++ maybe description_item c.description ++ maybe moment_item c.moment ++ maybe name_item c.name in
    let before : items size c ≡ front ++ offs = ap (λ (k : Option SealedRange). front ++ with_range k offs) alone in
    let shape : items size new ≡ items size c ++ y ∷ [] = ap (λ (k : List Entry). front ++ k) ranged ∙ sym (append_assoc front offs (y ∷ [])) ∙ ap (λ (k : List Entry). k ++ y ∷ []) (sym before) in
    let told : SoFar new = record { creds = s.creds; names = s.names; order = s.order; description = s.description; moment = s.moment; name = s.name; few = s.few; range = (omega arith, number_fits e.body fits, number_fits (drop 8 e.body) (IsBytes-drop 8 e.body fits)) } in
    subst (Adds size c e) made (record { behind = spelled_so size c new c new e y refl refl shape (entry_is e 20 (words (r.start ∷ r.length ∷ []) ++ []) ek numbers); told = told })

adds_creds : (size : ℕ) (c d : Contents) (e : Entry) → e.kind ≡ 21 → IsBytes e.body → SoFar c → with_creds c e.body ≡ Some d → Adds size c e d
unfolding with_creds
adds_creds size c d e ek fits s is =
    let n0 : ℕ = number e.body in
    let n1 : ℕ = number (drop 8 e.body) in
    let n2 : ℕ = number (drop 16 e.body) in
    let a = let_through (not (no_item c)) _ d is in
    let free = and_parts (is_none c.creds) (is_empty c.names && no_description c) (not-false (no_item c) a.0) in
    let unnamed = and_parts (is_empty c.names) (no_description c) free.1 in
    let q = not_described c unnamed.1 in
    let first : c.creds ≡ None = none_is c.creds free.0 in
    let second : c.names ≡ [] = empty_is c.names unnamed.0 in
    let b = let_through (not (eqb (length e.body) 24)) _ d a.1 in
    let len : length e.body ≡ 24 = eqb-true (length e.body) 24 (not-false (eqb (length e.body) 24) b.0) in
    let u = let_through (not (ltb n0 (2 ^ 32))) _ d b.1 in
    let g = let_through (not (ltb n1 (2 ^ 32))) _ d u.1 in
    let p = let_through (not (ltb n2 2)) _ d g.1 in
    let uid : n0 < 2 ^ 32 = ltb-true n0 (2 ^ 32) (not-false (ltb n0 (2 ^ 32)) u.0) in
    let gid : n1 < 2 ^ 32 = ltb-true n1 (2 ^ 32) (not-false (ltb n1 (2 ^ 32)) g.0) in
    let bit : n2 < 2 = ltb-true n2 2 (not-false (ltb n2 2) p.0) in
    let x : Creds = record { uid = n0; gid = n1; privileged = eqb n2 1 } in
    let new : Contents = record c { creds = Some x } in
    let made : new ≡ d = same_some new d p.1 in
    let old : Contents = said None [] None None None [] None in
    let before : c ≡ old = fields c None None None [] None q.0 q.1 q.2 q.3 q.4 ∙ ap (λ (k : Option Creds). said k c.names None None None [] None) first ∙ ap (λ (k : List (List ℕ)). said None k None None None [] None) second in
    let after : new ≡ said (Some x) [] None None None [] None = fields new None None None [] None q.0 q.1 q.2 q.3 q.4 ∙ ap (λ (k : List (List ℕ)). said (Some x) k None None None [] None) second in
    let numbers : e.body ≡ words (n0 ∷ n1 ∷ flag (eqb n2 1) ∷ []) ++ [] = three_numbers e.body len fits ∙ ap (λ (k : ℕ). words (n0 ∷ n1 ∷ k ∷ []) ++ []) (sym (bit_again n2 bit)) in
    let told : SoFar new = record { creds = (uid, gid); names = s.names; order = s.order; description = s.description; moment = s.moment; name = s.name; few = s.few; range = s.range } in
    subst (Adds size c e) made (record { behind = spelled_so size c new old (said (Some x) [] None None None [] None) e (creds_item x) before after refl (entry_is e 21 (words (n0 ∷ n1 ∷ flag (eqb n2 1) ∷ []) ++ []) ek numbers); told = told })

-- whatever its kind
pub adds : (size : ℕ) (c d : Contents) (e : Entry) → IsBytes e.body → SoFar c → with_item size c e ≡ Some d → Adds size c e d
unfolding with_item
adds size c d e fits s is =
    elim (cases_Bool (eqb e.kind 21)) [
      | inl y ↦ let o : with_item size c e ≡ with_creds c e.body = rw y refl in adds_creds size c d e (eqb-true e.kind 21 y) fits s (sym o ∙ is)
      | inr n1 ↦ elim (cases_Bool (eqb e.kind 22)) [
        | inl y ↦ let o : with_item size c e ≡ with_owned c e.body = rw (n1, y) refl in adds_owned size c d e (eqb-true e.kind 22 y) s (sym o ∙ is)
        | inr n2 ↦ elim (cases_Bool (eqb e.kind 10)) [
          | inl y ↦ let o : with_item size c e ≡ with_description c e.body = rw (n1, n2, y) refl in adds_description size c d e (eqb-true e.kind 10 y) s (sym o ∙ is)
          | inr n3 ↦ elim (cases_Bool (eqb e.kind 23)) [
            | inl y ↦ let o : with_item size c e ≡ with_moment c e.body = rw (n1, n2, n3, y) refl in adds_moment size c d e (eqb-true e.kind 23 y) fits s (sym o ∙ is)
            | inr n4 ↦ elim (cases_Bool (eqb e.kind 3)) [
              | inl y ↦ let o : with_item size c e ≡ with_name c e.body = rw (n1, n2, n3, n4, y) refl in adds_name size c d e (eqb-true e.kind 3 y) s (sym o ∙ is)
              | inr n5 ↦ elim (cases_Bool (eqb e.kind 19)) [
                | inl y ↦ let o : with_item size c e ≡ with_off size c e.body = rw (n1, n2, n3, n4, n5, y) refl in adds_off size c d e (eqb-true e.kind 19 y) fits s (sym o ∙ is)
                | inr n6 ↦ elim (cases_Bool (eqb e.kind 20)) [
                  | inl y ↦ let o : with_item size c e ≡ with_shared c e.body = rw (n1, n2, n3, n4, n5, n6, y) refl in adds_shared size c d e (eqb-true e.kind 20 y) fits s (sym o ∙ is)
                  | inr n7 ↦ let o : with_item size c e ≡ None = rw (n1, n2, n3, n4, n5, n6, n7) refl in let never : None ≡ Some d = sym o ∙ is in absurd cc
                ]
              ]
            ]
          ]
        ]
      ]
    ]

-- what was read to the end
pub record Told (size : ℕ) (c : Contents) (es : List Entry) (left : List ℕ) (d : Contents) : Type 0 where
  pub ended : left ≡ []
  pub all : items size d ≡ items size c ++ es
  pub told : SoFar d

read_ended : (size : ℕ) (c d : Contents) (left : List ℕ) → SoFar c → read_on size c [] left ≡ Ok d → Told size c [] left d
read_ended size c d [] s is = let same : c ≡ d = ok_is c d is in subst (Told size c [] []) same (record { ended = refl; all = sym (append-nil (items size c)); told = s })
read_ended size c d (b ∷ left) s is = let never : Err (Bad (size - length (b ∷ left))) ≡ Ok d = is in absurd cc

pub read_told : (size at : ℕ) (c d : Contents) (es : List Entry) (left : List ℕ) → IsBytes (spellings es) → SoFar c → read_on size c (placed at es) left ≡ Ok d → Told size c es left d
read_told size at c d [] left fits s is = read_ended size c d left s is
read_told size at c d (x ∷ es) left fits s is =
    let go : Option Contents → Result Contents ReplyError = λ o. elim o [ None ↦ Err (Bad at) | Some b ↦ read_on size b (placed (at + length (spelling x)) es) left ] in
    elim (option_cases (with_item size c x)) [
      | inl none ↦ let never : Err (Bad at) ≡ Ok d = sym (ap go none) ∙ is in absurd cc
      | inr some ↦
          let one = adds size c some.0 x (front_body x (spellings es) fits) s some.1 in
          let more = read_told size (at + length (spelling x)) some.0 d es left (IsBytes-behind (spelling x) (spellings es) fits) one.told (sym (ap go some.1) ∙ is) in
          record { ended = more.ended; all = more.all ∙ ap (λ (l : List Entry). l ++ es) one.behind ∙ append_assoc (items size c) (x ∷ []) es; told = more.told }
    ]
