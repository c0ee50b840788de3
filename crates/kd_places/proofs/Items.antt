-- A reader of items, up to where it breaks.
use Rattle.std.proofs.Common.{◌≡◌, ◌⊎◌, ℕ, ◌+◌, ◌-◌, ◌^◌, ◌<◌, ◌≤◌, Bool, true, false, cond, not, eqb, ltb, List, [], ◌∷◌, ◌++◌, length, take, drop, map, Option, Some, None, Result, Ok, Err, IfSome, refl, sym, ap, subst, ◌∙◌, append-nil, append_assoc, length-append, arith, inl, inr}
use Rattle.std.proofs.lemmas.Bool.{cases_Bool, eq-eqb, eqb-true, lt-ltb}
use Rattle.std.proofs.lemmas.List.{drop_at, length-take-le, take-append-drop, take_at}
use Rattle.kd_model.proofs.Truth.{let_through, not_false, option_cases, same_some}
use Rattle.kd_types.specs.Words.{is_empty}
use Rattle.kd_types.specs.declared.creds.Creds.{Creds}
use Rattle.kd_types.specs.declared.reply_error.ReplyError.{ReplyError}
use Rattle.kd_types.specs.declared.reply_error.ReplyError.TheVariants.{Bad}
use Rattle.std.specs.Str.{is_utf8}
use Rattle.kd_item.specs.Reading.{placed, split}
use Rattle.kd_item.specs.Spelling.{AreItems, Entry, number, spelling, spellings, words}
use Rattle.kd_item.proofs.OneItem.{item_again}
use Rattle.kd_item.proofs.Sizes.{length-body}
use Rattle.kd_item.proofs.Splits.{split_again, split_item, split_whole}
use Rattle.kd_item.proofs.Words.{IsBytes, IsBytes-behind, IsBytes-drop, IsBytes-front, number_fits}
use Rattle.kd_image.specs.declared.message.SealedRange.{SealedRange}
use Rattle.kd_image.specs.Items.{Contents, begins, creds_item, description_item, items, maybe, moment_item, name_item, off_item, off_items, owned_item, rising, shared_item, with_range}
use Rattle.kd_image.specs.Reading.{blank, contents_in, no_description, no_item, no_moment, no_name, read_on, with_creds, with_description, with_item, with_moment, with_name, with_off, with_owned, with_shared}
use Rattle.kd_image.specs.Said.{IsWord}
use Rattle.kd_image.proofs.Again.{behind_word, number_words, said, takes, takes_both, takes_creds, takes_description, takes_moment, takes_name, takes_names, then_takes}
use Rattle.kd_image.proofs.Round.{are_items}
use Rattle.kd_image.proofs.Sound.{SoFar, adds, empty_is, front_body}
use Rattle.kd_image.proofs.Written.{length-off_items, offs_behind}
use Rattle.kd_places.specs.Images.{AreOffs, BeginItems, CanBeTold, ItemPlacesAreTrue}

-- ---- the numbers of payloads

offs_more : (size : ℕ) (before ls : List ℕ) (n : ℕ) → AreOffs size before ls → IsWord n → IsWord (begins size (before ++ ls)) → AreOffs size before (ls ++ n ∷ [])
offs_more size before [] n a w b = (w, subst (λ (l : List ℕ). IsWord (begins size l)) (append-nil before) b, tt)
offs_more size before (l ∷ ls) n a w b = (a.0, a.1, offs_more size (before ++ l ∷ []) ls n a.2 w (subst (λ (k : List ℕ). IsWord (begins size k)) (sym (append_assoc before (l ∷ []) ls)) b))

offs_front : (size : ℕ) (before ls ms : List ℕ) → AreOffs size before (ls ++ ms) → AreOffs size before ls
offs_front size before [] ms a = tt
offs_front size before (l ∷ ls) ms a = (a.0, a.1, offs_front size (before ++ l ∷ []) ls ms a.2)

offs_back : (size : ℕ) (before ls ms : List ℕ) → AreOffs size before (ls ++ ms) → AreOffs size (before ++ ls) ms
offs_back size before [] ms a = subst (λ (k : List ℕ). AreOffs size k ms) (sym (append-nil before)) a
offs_back size before (l ∷ ls) ms a = subst (λ (k : List ℕ). AreOffs size k ms) (append_assoc before (l ∷ []) ls) (offs_back size (before ++ l ∷ []) ls ms a.2)

-- the lengths with an item more: the same, or one more whose numbers are of 64 bits
abbrev Lengths : ℕ → Contents → Contents → Type 0
Lengths size c d = (d.lengths ≡ c.lengths) ⊎ ((n : ℕ) × (d.lengths ≡ c.lengths ++ n ∷ []) × IsWord n × IsWord (begins size c.lengths))

lengths_of : (x y : Contents) → Some x ≡ Some y → y.lengths ≡ x.lengths
lengths_of x y e = sym (ap (λ (c : Contents). c.lengths) (same_some x y e))

creds_lengths : (size : ℕ) (c d : Contents) (body : List ℕ) → with_creds c body ≡ Some d → Lengths size c d
unfolding with_creds
creds_lengths size c d body e =
    let t1 = let_through (not (no_item c)) _ d e in
    let t2 = let_through (not (eqb (length body) 24)) _ d t1.1 in
    let t3 = let_through (not (ltb (number body) (2 ^ 32))) _ d t2.1 in
    let t4 = let_through (not (ltb (number (drop 8 body)) (2 ^ 32))) _ d t3.1 in
    let t5 = let_through (not (ltb (number (drop 16 body)) 2)) _ d t4.1 in
    inl (lengths_of _ d t5.1)

owned_lengths : (size : ℕ) (c d : Contents) (body : List ℕ) → with_owned c body ≡ Some d → Lengths size c d
unfolding with_owned
owned_lengths size c d body e =
    let t1 = let_through (not (no_description c)) _ d e in
    let t2 = let_through (not (is_utf8 body)) _ d t1.1 in
    let t3 = let_through (not (rising (c.names ++ body ∷ []))) _ d t2.1 in
    inl (lengths_of _ d t3.1)

description_lengths : (size : ℕ) (c d : Contents) (body : List ℕ) → with_description c body ≡ Some d → Lengths size c d
unfolding with_description
description_lengths size c d body e =
    let t1 = let_through (not (no_description c)) _ d e in
    let t2 = let_through (ltb 255 (length body)) _ d t1.1 in
    let t3 = let_through (not (is_utf8 body)) _ d t2.1 in
    inl (lengths_of _ d t3.1)

moment_lengths : (size : ℕ) (c d : Contents) (body : List ℕ) → with_moment c body ≡ Some d → Lengths size c d
unfolding with_moment
moment_lengths size c d body e =
    let t1 = let_through (not (no_moment c)) _ d e in
    let t2 = let_through (not (eqb (length body) 8)) _ d t1.1 in
    inl (lengths_of _ d t2.1)

name_lengths : (size : ℕ) (c d : Contents) (body : List ℕ) → with_name c body ≡ Some d → Lengths size c d
unfolding with_name
name_lengths size c d body e =
    let t1 = let_through (not (no_name c)) _ d e in
    let t2 = let_through (not (is_utf8 body)) _ d t1.1 in
    inl (lengths_of _ d t2.1)

off_lengths : (size : ℕ) (c d : Contents) (body : List ℕ) → IsBytes body → with_off size c body ≡ Some d → Lengths size c d
unfolding with_off
off_lengths size c d body fits e =
    let t1 = let_through (not (eqb (length body) 16)) _ d e in
    let t2 = let_through (not (ltb (length c.lengths) 16)) _ d t1.1 in
    let t3 = let_through (not (eqb (number (drop 8 body)) (begins size c.lengths))) _ d t2.1 in
    let is : number (drop 8 body) ≡ begins size c.lengths = eqb-true _ _ (not_false _ t3.0) in
    inr (number body, lengths_of _ d t3.1, number_fits body fits, subst IsWord is (number_fits (drop 8 body) (IsBytes-drop 8 body fits)))

shared_lengths : (size : ℕ) (c d : Contents) (body : List ℕ) → with_shared c body ≡ Some d → Lengths size c d
unfolding with_shared
shared_lengths size c d body e =
    let t1 = let_through _ _ d e in
    let t2 = let_through (not (eqb (length body) 16)) _ d t1.1 in
    inl (lengths_of _ d t2.1)

lengths_go : (size : ℕ) (c d : Contents) (e : Entry) → IsBytes e.body → with_item size c e ≡ Some d → Lengths size c d
unfolding with_item
lengths_go size c d e fits is =
    elim (cases_Bool (eqb e.kind 21)) [
      | inl y ↦ let o : with_item size c e ≡ with_creds c e.body = rw y refl in creds_lengths size c d e.body (sym o ∙ is)
      | inr n1 ↦ elim (cases_Bool (eqb e.kind 22)) [
        | inl y ↦ let o : with_item size c e ≡ with_owned c e.body = rw (n1, y) refl in owned_lengths size c d e.body (sym o ∙ is)
        | inr n2 ↦ elim (cases_Bool (eqb e.kind 10)) [
          | inl y ↦ let o : with_item size c e ≡ with_description c e.body = rw (n1, n2, y) refl in description_lengths size c d e.body (sym o ∙ is)
          | inr n3 ↦ elim (cases_Bool (eqb e.kind 23)) [
            | inl y ↦ let o : with_item size c e ≡ with_moment c e.body = rw (n1, n2, n3, y) refl in moment_lengths size c d e.body (sym o ∙ is)
            | inr n4 ↦ elim (cases_Bool (eqb e.kind 3)) [
              | inl y ↦ let o : with_item size c e ≡ with_name c e.body = rw (n1, n2, n3, n4, y) refl in name_lengths size c d e.body (sym o ∙ is)
              | inr n5 ↦ elim (cases_Bool (eqb e.kind 19)) [
                | inl y ↦ let o : with_item size c e ≡ with_off size c e.body = rw (n1, n2, n3, n4, n5, y) refl in off_lengths size c d e.body fits (sym o ∙ is)
                | inr n6 ↦ elim (cases_Bool (eqb e.kind 20)) [
                  | inl y ↦ let o : with_item size c e ≡ with_shared c e.body = rw (n1, n2, n3, n4, n5, n6, y) refl in shared_lengths size c d e.body (sym o ∙ is)
                  | inr n7 ↦ let o : with_item size c e ≡ None = rw (n1, n2, n3, n4, n5, n6, n7) refl in let never : None ≡ Some d = sym o ∙ is in absurd cc
                ]
              ]
            ]
          ]
        ]
      ]
    ]

so_far : (size : ℕ) (c : Contents) → CanBeTold size c → SoFar c
so_far size c t = record { creds = t.creds; names = t.names; order = t.order; description = t.description; moment = t.moment; name = t.name; few = t.few; range = t.range }

told_by : (size : ℕ) (c : Contents) → SoFar c → AreOffs size [] c.lengths → CanBeTold size c
told_by size c s a = record { creds = s.creds; names = s.names; order = s.order; description = s.description; moment = s.moment; name = s.name; few = s.few; offs = a; range = s.range }

-- an item that is taken in tells something with those before it
told_more : (size : ℕ) (c d : Contents) (e : Entry) → IsBytes e.body → CanBeTold size c → with_item size c e ≡ Some d → CanBeTold size d × (items size d ≡ items size c ++ e ∷ [])
told_more size c d e fits t is =
    let a = adds size c d e fits (so_far size c t) is in
    (told_by size d a.told (go (lengths_go size c d e fits is)), a.behind)
  where
    go : Lengths size c d → AreOffs size [] d.lengths
    go (inl same) = subst (AreOffs size []) (sym same) t.offs
    go (inr x) = subst (AreOffs size []) (sym x.1) (offs_more size [] c.lengths x.0 t.offs x.2 x.3)

-- ---- what stands before the break

abbrev Told : Type 0
Told = Result Contents ReplyError

abbrev bad : ℕ → Told
bad at = Err (Bad at)

abbrev good : Contents → Told
good c = Ok c

same_bad : (a b : ℕ) → bad a ≡ bad b → a ≡ b
same_bad a b e = cc

ended_or_not : (b : Bool) (c : Contents) (a at : ℕ) → cond b (good c) (bad a) ≡ bad at → a ≡ at
ended_or_not true c a at e = absurd cc
ended_or_not false c a at e = same_bad a at e

-- so many of the items tell something with those before them
pub record Before (size : ℕ) (c : Contents) (es : List Entry) (from at : ℕ) : Type 0 where
  pub told : Contents
  pub can : CanBeTold size told
  pub own : List Entry
  pub others : List Entry
  pub parts : es ≡ own ++ others
  pub are : items size told ≡ items size c ++ own
  pub ends : at ≡ from + length (spellings own)

none_yet : (size : ℕ) (c : Contents) (es : List Entry) (from at : ℕ) → CanBeTold size c → from ≡ at → Before size c es from at
none_yet size c es from at t e = record { told = c; can = t; own = []; others = es; parts = refl; are = sym (append-nil (items size c)); ends = omega (arith, e) }

told_before : (es : List Entry) (size : ℕ) (c : Contents) (from at : ℕ) (left : List ℕ) → IsBytes (spellings es) → CanBeTold size c → from + length (spellings es) + length left ≡ size
    → read_on size c (placed from es) left ≡ bad at → Before size c es from at
told_before [] size c from at left fits t whole e =
    none_yet size c [] from at t (let is = ended_or_not (is_empty left) c (size - length left) at e in omega (arith, is, whole))
told_before (x ∷ es) size c from at left fits t whole e =
    let go : Option Contents → Told = λ o. elim o [ None ↦ bad from | Some d ↦ read_on size d (placed (from + length (spelling x)) es) left ] in
    let long = length-append (spelling x) (spellings es) in
    elim (option_cases (with_item size c x)) [
      | inl none ↦ none_yet size c (x ∷ es) from at t (same_bad from at (sym (ap go none) ∙ e))
      | inr some ↦
          let one = told_more size c some.0 x (front_body x (spellings es) fits) t some.1 in
          let more = told_before es size some.0 (from + length (spelling x)) at left (IsBytes-behind (spelling x) (spellings es) fits) one.0 (omega (arith, long, whole)) (sym (ap go some.1) ∙ e) in
          let both = length-append (spelling x) (spellings more.own) in
          let there = more.ends in
          record {
            told = more.told;
            can = more.can;
            own = x ∷ more.own;
            others = more.others;
            parts = ap (λ (l : List Entry). x ∷ l) more.parts;
            are = more.are ∙ ap (λ (l : List Entry). l ++ more.own) one.1 ∙ append_assoc (items size c) (x ∷ []) more.own;
            ends = omega (arith, both, there);
          }
    ]

spellings_append : (xs ys : List Entry) → spellings (xs ++ ys) ≡ spellings xs ++ spellings ys
spellings_append [] ys = refl
spellings_append (x ∷ xs) ys = ap (λ (l : List ℕ). spelling x ++ l) (spellings_append xs ys) ∙ sym (append_assoc (spelling x) (spellings xs) (spellings ys))

pub blank_told : (size : ℕ) → CanBeTold size blank
blank_told size = record { creds = tt; names = tt; order = refl; description = tt; moment = tt; name = tt; few = omega arith; offs = tt; range = tt }

pub items_before : (size at : ℕ) (area : List ℕ) → IsBytes area → 64 + length area ≡ size → contents_in size area ≡ bad at → BeginItems size area at
unfolding contents_in
items_before size at area fits whole e =
    let es : List Entry = (split area).0 in
    let left : List ℕ = (split area).1 in
    let parts : area ≡ spellings es ++ left = (split_whole area fits).0 in
    let long = ap length parts in
    let len = length-append (spellings es) left in
    let b = told_before es size blank 64 at left (IsBytes-front (spellings es) left (subst (λ (l : List ℕ). IsBytes l) parts fits)) (blank_told size) (omega (arith, long, len, whole)) e in
    let are : items size b.told ≡ b.own = b.are in
    let same = ap (λ (l : List Entry). length (spellings l)) are in
    let there = b.ends in
    record {
      told = b.told;
      can = b.can;
      rest = spellings b.others ++ left;
      spelled = parts ∙ ap (λ (l : List Entry). spellings l ++ left) b.parts ∙ ap (λ (l : List ℕ). l ++ left) (spellings_append b.own b.others)
          ∙ append_assoc (spellings b.own) (spellings b.others) left ∙ ap (λ (l : List Entry). spellings l ++ (spellings b.others ++ left)) (sym are);
      ends = omega (arith, there, same);
    }

-- read to the end
ended : (b : Bool) (c d : Contents) (a : ℕ) → cond b (good c) (bad a) ≡ good d → (b ≡ true) × (c ≡ d)
ended true c d a e = (refl, cc)
ended false c d a e = absurd cc

pub told_whole : (es : List Entry) (size : ℕ) (c d : Contents) (from : ℕ) (left : List ℕ) → IsBytes (spellings es) → CanBeTold size c → read_on size c (placed from es) left ≡ good d
    → CanBeTold size d × (items size d ≡ items size c ++ es) × (left ≡ [])
told_whole [] size c d from left fits t e =
    let x = ended (is_empty left) c d (size - length left) e in
    (subst (CanBeTold size) x.1 t, ap (items size) (sym x.1) ∙ sym (append-nil (items size c)), empty_is left x.0)
told_whole (x ∷ es) size c d from left fits t e =
    let go : Option Contents → Told = λ o. elim o [ None ↦ bad from | Some d ↦ read_on size d (placed (from + length (spelling x)) es) left ] in
    elim (option_cases (with_item size c x)) [
      | inl none ↦ let never : bad from ≡ good d = sym (ap go none) ∙ e in absurd cc
      | inr some ↦
          let one = told_more size c some.0 x (front_body x (spellings es) fits) t some.1 in
          let more = told_whole es size some.0 d (from + length (spelling x)) left (IsBytes-behind (spelling x) (spellings es) fits) one.0 (sym (ap go some.1) ∙ e) in
          (more.0, more.1 ∙ ap (λ (l : List Entry). l ++ es) one.1 ∙ append_assoc (items size c) (x ∷ []) es, more.2)
    ]

-- all that is read tells what it says
pub items_told : (size : ℕ) (area : List ℕ) (c : Contents) → IsBytes area → contents_in size area ≡ good c → CanBeTold size c × (area ≡ spellings (items size c))
unfolding contents_in
items_told size area c fits e =
    let es : List Entry = (split area).0 in
    let left : List ℕ = (split area).1 in
    let parts : area ≡ spellings es ++ left = (split_whole area fits).0 in
    let t = told_whole es size blank c 64 left (IsBytes-front (spellings es) left (subst (λ (l : List ℕ). IsBytes l) parts fits)) (blank_told size) e in
    let are : items size c ≡ es = t.1 in
    (t.0, parts ∙ ap (λ (l : List ℕ). spellings es ++ l) t.2 ∙ append-nil (spellings es) ∙ ap spellings (sym are))

-- ---- what tells something is taken in

takes_off : (size : ℕ) (x : Option Creds) (ns : List (List ℕ)) (d : Option (List ℕ)) (m : Option ℕ) (n : Option (List ℕ)) (r : Option SealedRange) (before : List ℕ) (l : ℕ)
    → length before < 16 → l < 2 ^ 64 → begins size before < 2 ^ 64
    → with_item size (said x ns d m n before r) (off_item size before l) ≡ Some (said x ns d m n (before ++ l ∷ []) r)
unfolding with_item with_off
takes_off size x ns d m n r before l few small fits =
    let at : ℕ = begins size before in
    let body : List ℕ = words (l ∷ at ∷ []) ++ [] in
    let len : length body ≡ 16 = length-body (l ∷ at ∷ []) [] in
    let first : number body ≡ l = number_words l (at ∷ []) [] small in
    let second : number (drop 8 body) ≡ at = ap number (behind_word l (at ∷ []) []) ∙ number_words at [] [] fits in
    rw (len, first, second, lt-ltb (length before) 16 few, eq-eqb at at refl) refl

takes_offs : (size : ℕ) (x : Option Creds) (ns : List (List ℕ)) (d : Option (List ℕ)) (m : Option ℕ) (n : Option (List ℕ)) (r : Option SealedRange) (before ls : List ℕ)
    → length before + length ls ≤ 16 → AreOffs size before ls
    → takes size (said x ns d m n before r) (off_items size before ls) ≡ Some (said x ns d m n (before ++ ls) r)
takes_offs size x ns d m n r before [] few a = ap (λ (l : List ℕ). Some (said x ns d m n l r)) (sym (append-nil before))
takes_offs size x ns d m n r before (l ∷ ls) few a =
    let same : before ++ l ∷ [] ++ ls ≡ before ++ l ∷ ls = append_assoc before (l ∷ []) ls in
    let one = length-append before (l ∷ []) in
    let more = takes_offs size x ns d m n r (before ++ l ∷ []) ls (omega (arith, one, few)) a.2 in
    ap (then_takes size (off_items size (before ++ l ∷ []) ls)) (takes_off size x ns d m n r before l (omega (arith, few)) a.0 a.1) ∙ more ∙ ap (λ (k : List ℕ). Some (said x ns d m n k r)) same

takes_shared : (size : ℕ) (x : Option Creds) (ns : List (List ℕ)) (d : Option (List ℕ)) (m : Option ℕ) (n : Option (List ℕ)) (before : List ℕ) (r : SealedRange)
    → r.place ≡ length before → IsWord r.start → IsWord r.length → with_item size (said x ns d m n before None) (shared_item r) ≡ Some (said x ns d m n before (Some r))
unfolding with_item with_shared
takes_shared size x ns d m n before r is s l =
    let body : List ℕ = words (r.start ∷ r.length ∷ []) ++ [] in
    let all : length body ≡ 16 = length-body (r.start ∷ r.length ∷ []) [] in
    let first : number body ≡ r.start = number_words r.start (r.length ∷ []) [] s in
    let second : number (drop 8 body) ≡ r.length = ap number (behind_word r.start (r.length ∷ []) []) ∙ number_words r.length [] [] l in
    rw (all, first, second) (ap (λ p. Some (said x ns d m n before (Some (record { place = p; start = r.start; length = r.length })))) (sym is))

takes_body : (size : ℕ) (x : Option Creds) (ns : List (List ℕ)) (d : Option (List ℕ)) (m : Option ℕ) (n : Option (List ℕ)) (ls : List ℕ) (r : Option SealedRange)
    → length ls ≤ 16 → AreOffs size [] ls → IfSome r (λ y. (y.place ≤ length ls) × IsWord y.start × IsWord y.length)
    → takes size (said x ns d m n [] None) (with_range r (off_items size [] ls)) ≡ Some (said x ns d m n ls r)
takes_body size x ns d m n ls None few a h = takes_offs size x ns d m n None [] ls (omega (arith, few)) a
takes_body size x ns d m n ls (Some r) few a h =
    let front : List ℕ = take r.place ls in
    let back : List ℕ = drop r.place ls in
    let whole : front ++ back ≡ ls = take-append-drop r.place ls in
    let front_len : length front ≡ r.place = length-take-le r.place ls h.0 in
    let sizes : length front + length back ≡ length ls = sym (length-append front back) ∙ ap length whole in
    let apart : off_items size [] ls ≡ off_items size [] front ++ off_items size front back = ap (off_items size []) (sym whole) ∙ offs_behind size [] front back in
    let offs_len : length (off_items size [] front) ≡ r.place = length-off_items size [] front ∙ front_len in
    let taken : take r.place (off_items size [] ls) ≡ off_items size [] front = ap (take r.place) apart ∙ take_at (off_items size [] front) (off_items size front back) r.place offs_len in
    let dropped : drop r.place (off_items size [] ls) ≡ off_items size front back = ap (drop r.place) apart ∙ drop_at (off_items size [] front) (off_items size front back) r.place offs_len in
    let all : AreOffs size [] (front ++ back) = subst (AreOffs size []) (sym whole) a in
    let first : takes size (said x ns d m n [] None) (off_items size [] front) ≡ Some (said x ns d m n front None) = takes_offs size x ns d m n None [] front (omega (arith, sizes, few)) (offs_front size [] front back all) in
    let second : takes size (said x ns d m n front (Some r)) (off_items size front back) ≡ Some (said x ns d m n (front ++ back) (Some r)) = takes_offs size x ns d m n (Some r) front back (omega (arith, sizes, few)) (offs_back size [] front back all) in
    let shared : with_item size (said x ns d m n front None) (shared_item r) ≡ Some (said x ns d m n front (Some r)) = takes_shared size x ns d m n front r (sym front_len) h.1 h.2 in
    let third : takes size (said x ns d m n front None) (shared_item r ∷ off_items size front back) ≡ Some (said x ns d m n ls (Some r)) = ap (then_takes size (off_items size front back)) shared ∙ second ∙ ap (λ (l : List ℕ). Some (said x ns d m n l (Some r))) whole in
    rw (taken, dropped) (takes_both size (said x ns d m n [] None) (said x ns d m n front None) (said x ns d m n ls (Some r)) (off_items size [] front) (shared_item r ∷ off_items size front back) first third)

pub takes_all : (size : ℕ) (c : Contents) → CanBeTold size c → takes size blank (items size c) ≡ Some c
takes_all size c t =
    let c1 : Contents = said c.creds [] None None None [] None in
    let c2 : Contents = said c.creds c.names None None None [] None in
    let c3 : Contents = said c.creds c.names c.description None None [] None in
    let c4 : Contents = said c.creds c.names c.description c.moment None [] None in
    let c5 : Contents = said c.creds c.names c.description c.moment c.name [] None in
    let e1 : List Entry = maybe creds_item c.creds in
    let e2 : List Entry = map owned_item c.names in
    let e3 : List Entry = maybe description_item c.description in
    let e4 : List Entry = maybe moment_item c.moment in
    let e5 : List Entry = maybe name_item c.name in
    let e6 : List Entry = with_range c.range (off_items size [] c.lengths) in
    let t1 = takes_creds size c.creds t.creds in
    let t2 = takes_both size blank c1 c2 e1 e2 t1 (takes_names size c.creds [] c.names t.names t.order) in
    let t3 = takes_both size blank c2 c3 (e1 ++ e2) e3 t2 (takes_description size c.creds c.names c.description t.description) in
    let t4 = takes_both size blank c3 c4 (e1 ++ e2 ++ e3) e4 t3 (takes_moment size c.creds c.names c.description c.moment t.moment) in
    let t5 = takes_both size blank c4 c5 (e1 ++ e2 ++ e3 ++ e4) e5 t4 (takes_name size c.creds c.names c.description c.moment c.name t.name) in
    takes_both size blank c5 c (e1 ++ e2 ++ e3 ++ e4 ++ e5) e6 t5 (takes_body size c.creds c.names c.description c.moment c.name c.lengths c.range t.few t.offs t.range)

-- ---- and passed

-- items at the front, and what is read behind them
pub split_more : (es : List Entry) (rest : List ℕ) → AreItems es → split (spellings es ++ rest) ≡ (es ++ (split rest).0, (split rest).1)
split_more [] rest fits = refl
split_more (e ∷ es) rest fits =
    let parts : spellings (e ∷ es) ++ rest ≡ spelling e ++ (spellings es ++ rest) = append_assoc (spelling e) (spellings es) rest in
    let put : List Entry × List ℕ → List Entry × List ℕ = λ p. (e ∷ p.0, p.1) in
    ap split parts ∙ split_item (spelling e ++ (spellings es ++ rest)) (e, spellings es ++ rest) (item_again e (spellings es ++ rest) fits.0)
    ∙ ap put (split_more es rest fits.1)

-- what is taken in is passed
pub read_past : (es fs : List Entry) (size from : ℕ) (a b : Contents) (left : List ℕ) → takes size a es ≡ Some b
    → read_on size a (placed from (es ++ fs)) left ≡ read_on size b (placed (from + length (spellings es)) fs) left
read_past [] fs size from a b left e =
    let place : from + 0 ≡ from = omega arith in
    ap (λ c. read_on size c (placed from fs) left) (same_some a b e) ∙ ap (λ n. read_on size b (placed n fs) left) (sym place)
read_past (x ∷ es) fs size from a b left e =
    let go : Option Contents → Told = λ o. elim o [ None ↦ bad from | Some d ↦ read_on size d (placed (from + length (spelling x)) (es ++ fs)) left ] in
    let l = length-append (spelling x) (spellings es) in
    let place : from + length (spelling x) + length (spellings es) ≡ from + length (spellings (x ∷ es)) = omega (arith, l) in
    elim (option_cases (with_item size a x)) [
      | inl none ↦ let never : None ≡ Some b = sym (ap (then_takes size es) none) ∙ e in absurd cc
      | inr some ↦
          ap go some.1 ∙ read_past es fs size (from + length (spelling x)) some.0 b left (sym (ap (then_takes size es) some.1) ∙ e)
          ∙ ap (λ n. read_on size b (placed n fs) left) place
    ]

pub items_reach : (size at place : ℕ) (area : List ℕ) → IsBytes area → 64 + length area ≡ size → size < 2 ^ 64 → contents_in size area ≡ bad at → BeginItems size area place → place ≤ at
unfolding contents_in
items_reach size at place area fits whole small e b =
    let es : List Entry = items size b.told in
    let taken : takes size blank es ≡ Some b.told = takes_all size b.told b.can in
    let long = ap length b.spelled in
    let len = length-append (spellings es) b.rest in
    let are : AreItems es = are_items size blank b.told es taken (omega (arith, long, len, whole, small)) in
    let rest_fits : IsBytes b.rest = IsBytes-behind (spellings es) b.rest (subst (λ (l : List ℕ). IsBytes l) b.spelled fits) in
    let fs : List Entry = (split b.rest).0 in
    let left : List ℕ = (split b.rest).1 in
    let tail : b.rest ≡ spellings fs ++ left = (split_whole b.rest rest_fits).0 in
    let parts : split area ≡ (es ++ fs, left) = ap split b.spelled ∙ split_more es b.rest are in
    let read : read_on size b.told (placed (64 + length (spellings es)) fs) left ≡ bad at =
    sym (ap (λ (p : List Entry × List ℕ). read_on size blank (placed 64 p.0) p.1) parts ∙ read_past es fs size 64 blank b.told left taken) ∙ e in
    let tail_long = ap length tail in
    let tail_len = length-append (spellings fs) left in
    let before = told_before fs size b.told (64 + length (spellings es)) at left (IsBytes-front (spellings fs) left (subst (λ (l : List ℕ). IsBytes l) tail rest_fits)) b.can
    (omega (arith, long, len, whole, tail_long, tail_len)) read in
    let there = before.ends in let ends = b.ends in
    omega (arith, there, ends)

-- and what tells something is read whole
pub told_read : (size : ℕ) (area : List ℕ) (c : Contents) → length area < 2 ^ 64 → CanBeTold size c → area ≡ spellings (items size c) → contents_in size area ≡ good c
unfolding contents_in
told_read size area c small t is =
    let es : List Entry = items size c in
    let taken : takes size blank es ≡ Some c = takes_all size c t in
    let long = ap length is in
    let are : AreItems es = are_items size blank c es taken (omega (arith, long, small)) in
    let parts : split area ≡ (es, []) = ap split is ∙ split_again es are in
    let all : es ++ [] ≡ es = append-nil es in
    ap (λ (p : List Entry × List ℕ). read_on size blank (placed 64 p.0) p.1) parts ∙ ap (λ (l : List Entry). read_on size blank (placed 64 l) []) (sym all)
    ∙ read_past es [] size 64 blank c [] taken

pub item_places_are_true : ItemPlacesAreTrue
item_places_are_true size at area fits whole small e = record {
  before = items_before size at area fits whole e;
  here = λ place b. items_reach size at place area fits whole small e b;
}
