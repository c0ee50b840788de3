-- The place that a reader of images answers is the end of the longest beginning.
use Rattle.std.proofs.Common.{◌≡◌, ◌⊎◌, ℕ, ◌+◌, ◌-◌, ◌%◌, ◌<◌, ◌≤◌, ◌^◌, Bool, true, false, cond, not, eqb, ltb, List, [], ◌∷◌, ◌++◌, length, take, drop, Option, Some, None, Result, Ok, Err, refl, sym, ap, subst, ◌∙◌, append-nil, append_assoc, length-append, length-drop, arith, inl, inr}
use Rattle.std.proofs.lemmas.Bool.{eq-eqb, eqb-true, ltb-false, ltb-true, true≢false}
use Rattle.std.proofs.lemmas.List.{length-take-le}
use Rattle.kd_model.proofs.Truth.{no_some, not_false, option_cases, same_some}
use Rattle.kd_types.specs.Flags.{has_only}
use Rattle.kd_types.specs.Words.{is_empty}
use Rattle.kd_types.specs.declared.reply_error.ReplyError.{ReplyError}
use Rattle.kd_types.specs.declared.reply_error.ReplyError.TheVariants.{Bad}
use Rattle.kd_item.specs.Reading.{item_at}
use Rattle.kd_item.specs.Spelling.{AreItems, Entry, Fits, number, spelling, spellings}
use Rattle.kd_item.proofs.OneItem.{item_again}
use Rattle.kd_item.proofs.Splits.{item_takes, none_at_end}
use Rattle.kd_item.proofs.Words.{IsBytes, IsBytes-drop, IsBytes-take, number_fits}
use Rattle.kd_image.specs.declared.image.Image.{Image}
use Rattle.kd_image.specs.declared.notice.Notice.{Notice}
use Rattle.kd_image.specs.Images.{laid, notice_item, notice_last}
use Rattle.kd_image.specs.Said.{IsNotice}
use Rattle.kd_image.specs.Items.{Contents, items}
use Rattle.kd_image.specs.Reading.{behind_header, blank, contents_in, header_break, header_of, is_header_of, message_reading, message_value, notice_in, notice_of, notice_reading, notice_value, payloads_from, reading, with_item}
use Rattle.kd_image.proofs.Again.{takes, then_takes}
use Rattle.kd_image.proofs.Round.{are_items, no_notice_in}
use Rattle.kd_image.proofs.Sound.{empty_is, front_body}
use Rattle.kd_places.specs.Images.{CanBeTold}
use Rattle.kd_places.specs.Whole.{BeginImage, BeginNotice, BreakImageAt, HeadNotice, ImagePlacesAreOne, ImagePlacesAreTrue, IsImagePlace, KnowFlags, SayFront, area_in, behind_in}
use Rattle.kd_places.proofs.Items.{items_before, items_reach, items_told, takes_all, told_read}
use Rattle.kd_places.proofs.Notices.{head_is, is_head, notice_fits, notice_told, says}
use Rattle.kd_places.proofs.Payloads.{payloads_before, payloads_reach}

abbrev Reading : Type 0
Reading = Result Image ReplyError

abbrev bad : ℕ → Reading
bad at = Err (Bad at)

same_bad : (a b : ℕ) → bad a ≡ bad b → a ≡ b
same_bad a b e = cc

not_bad : (i : Image) (at : ℕ) → ◌≡◌ {A = Reading} (Ok i) (bad at) → ⊥
not_bad i at e = cc

-- ---- the front of an image

module _ (bytes : List ℕ) (fits : IsBytes bytes) (small : length bytes < 2 ^ 64) (front : SayFront bytes) where
  abbrev size : ℕ
  size = number bytes

  abbrev area : List ℕ
  area = area_in bytes

  abbrev behind : List ℕ
  behind = behind_in bytes

  area_fits : IsBytes area
  area_fits = IsBytes-drop 64 (take size bytes) (IsBytes-take size bytes fits)

  whole : 64 + length area ≡ size
  whole =
      let high = front.high in let low = front.low in
      let l = length-drop 64 (take size bytes) in let t = length-take-le size bytes high in
      omega (arith, l, t, high, low)

  size_small : size < 2 ^ 64
  size_small = let high = front.high in omega (arith, high, small)

  -- ---- notices and messages

  -- what the reader of a notice does with an item
  abbrev by_notice : List ℕ → Option Notice → Option (Notice × List ℕ)
  by_notice rest o = elim o [ None ↦ None | Some n ↦ cond (is_header_of (header_of bytes) n) (Some (n, rest)) None ]

  found : (xs : List ℕ) (x : Entry × List ℕ) → item_at xs ≡ Some x → notice_in (header_of bytes) xs ≡ by_notice x.1 (notice_of (header_of bytes).last x.0)
  unfolding notice_in
  found xs x e = ap (λ (o : Option (Entry × List ℕ)). elim o [ None ↦ None | Some y ↦ by_notice y.1 (notice_of (header_of bytes).last y.0) ]) e

  not_found : item_at area ≡ None → notice_in (header_of bytes) area ≡ None
  unfolding notice_in
  not_found e = ap (λ (o : Option (Entry × List ℕ)). elim o [ None ↦ None | Some y ↦ by_notice y.1 (notice_of (header_of bytes).last y.0) ]) e

  -- a notice at the front is found
  notice_here : (place : ℕ) (b : BeginNotice bytes place) → (item_at area ≡ Some (notice_item b.notice, b.rest)) × (notice_in (header_of bytes) area ≡ Some (b.notice, b.rest))
  notice_here place b =
      let n : Notice = b.notice in
      let long = ap length b.spelled in let l = length-append (spelling (notice_item n)) b.rest in
      let w = whole in let s = size_small in
      let can : Fits (notice_item n) = notice_fits n (omega (arith, long, l, w, s)) in
      let at : item_at area ≡ Some (notice_item n, b.rest) = ap item_at b.spelled ∙ item_again (notice_item n) b.rest can in
      let last : (header_of bytes).last ≡ notice_last n = b.head.last in (
        at,
        found area (notice_item n, b.rest) at ∙ ap (λ k. by_notice b.rest (notice_of k (notice_item n))) last ∙ ap (by_notice b.rest) (notice_told n b.can)
            ∙ ap (λ t. cond t (Some (n, b.rest)) None) (is_head bytes n b.head),
      )

  -- what is found is the item of a notice
  abbrev Item : Notice → List ℕ → Type 0
  Item n rest = (item_at area ≡ Some (notice_item n, rest)) × BeginNotice bytes (64 + length (spelling (notice_item n))) × (64 + length (spelling (notice_item n)) + length rest ≡ size)

  notice_is : (n : Notice) (rest : List ℕ) → notice_in (header_of bytes) area ≡ Some (n, rest) → Item n rest
  notice_is n rest e = first (option_cases (item_at area))
    where
      third : (x : Entry × List ℕ) → item_at area ≡ Some x → (m : Notice) → notice_of (header_of bytes).last x.0 ≡ Some m → (b : Bool) → is_header_of (header_of bytes) m ≡ b → cond {A = Option (Notice × List ℕ)} b (Some (m, x.1)) None ≡ Some (n, rest) → Item n rest
      third x at m f false g k = absurd cc
      third x at m f true g k =
          let t = item_takes area x area_fits at in
          let said = says (header_of bytes).last x.0 m (front_body x.0 x.1 (subst (λ (l : List ℕ). IsBytes l) t.parts area_fits)) (number_fits (drop 56 bytes) (IsBytes-drop 56 bytes fits)) f in
          let pair = same_some {X = Notice × List ℕ} (m, x.1) (n, rest) k in
          let same : m ≡ n = ap (λ (p : Notice × List ℕ). p.0) pair in
          let tail : x.1 ≡ rest = ap (λ (p : Notice × List ℕ). p.1) pair in
          let it : x.0 ≡ notice_item n = said.item ∙ ap notice_item same in
          let here : area ≡ spelling (notice_item n) ++ rest = t.parts ∙ ap (λ (y : Entry). spelling y ++ x.1) it ∙ ap (λ (l : List ℕ). spelling (notice_item n) ++ l) tail in
          let long = ap length here in let l = length-append (spelling (notice_item n)) rest in let w = whole in (
            at ∙ ap (λ (y : Entry). Some (y, x.1)) it ∙ ap (λ (l : List ℕ). Some (notice_item n, l)) tail,
            record { notice = n; can = subst IsNotice same said.sound; head = subst (HeadNotice bytes) same (head_is bytes m g); rest = rest; spelled = here; ends = refl },
            omega (arith, long, l, w),
          )

      second : (x : Entry × List ℕ) → item_at area ≡ Some x → (o : Option Notice) → notice_of (header_of bytes).last x.0 ≡ o → by_notice x.1 o ≡ Some (n, rest) → Item n rest
      second x at None f k = absurd cc
      second x at (Some m) f k = third x at m f (is_header_of (header_of bytes) m) refl k

      first : (item_at area ≡ None) ⊎ ((x : Entry × List ℕ) × (item_at area ≡ Some x)) → Item n rest
      first (inl none) = absurd (no_some (sym (not_found none) ∙ e))
      first (inr x) = second x.0 x.1 (notice_of (header_of bytes).last x.0.0) refl (sym (found area x.0 x.1) ∙ e)

  -- whatever is behind an item
  none_too : (r s : List ℕ) (o : Option Notice) → by_notice r o ≡ None → by_notice s o ≡ None
  none_too r s None e = refl
  none_too r s (Some n) e = go (is_header_of (header_of bytes) n) e
    where
      go : (b : Bool) → cond {A = Option (Notice × List ℕ)} b (Some (n, r)) None ≡ None → cond {A = Option (Notice × List ℕ)} b (Some (n, s)) None ≡ None
      go true e = absurd cc
      go false e = refl

  -- where a message's items stand no notice does
  no_items : (n : Notice) (rest more : List ℕ) (c : Contents) → notice_in (header_of bytes) area ≡ Some (n, rest) → CanBeTold size c → area ≡ spellings (items size c) ++ more → items size c ≡ []
  no_items n rest more c e t is =
      let taken = takes_all size c t in
      let long = ap length is in let l = length-append (spellings (items size c)) more in let w = whole in let s = size_small in
      go (items size c) taken (are_items size blank c (items size c) taken (omega (arith, long, l, w, s))) is
    where
      go : (es : List Entry) → takes size blank es ≡ Some c → AreItems es → area ≡ spellings es ++ more → es ≡ []
      go [] taken can is = refl
      go (x ∷ es) taken can is = absurd (first (option_cases (with_item size blank x)))
        where
          first : (with_item size blank x ≡ None) ⊎ ((d : Contents) × (with_item size blank x ≡ Some d)) → ⊥
          first (inl none) = no_some (sym (ap (then_takes size es) none) ∙ taken)
          first (inr d) =
              let alone : notice_in (header_of bytes) (spellings (x ∷ [])) ≡ None = no_notice_in (header_of bytes) (x ∷ []) size blank d.0 (ap (then_takes size []) d.1) (can.0, tt) in
              let by_it : by_notice [] (notice_of (header_of bytes).last x) ≡ None = sym (found (spelling x ++ []) (x, []) (item_again x [] can.0)) ∙ alone in
              let rest_is : List ℕ = spellings es ++ more in
              let at : item_at area ≡ Some (x, rest_is) = ap item_at (is ∙ append_assoc (spelling x) (spellings es) more) ∙ item_again x rest_is can.0 in
              no_some (sym (found area (x, rest_is) at ∙ none_too [] rest_is (notice_of (header_of bytes).last x) by_it) ∙ e)

  -- ---- a message

  abbrev Items : Type 0
  Items = Result Contents ReplyError

  abbrev Payloads : Type 0
  Payloads = Result (List (List ℕ)) ReplyError

  abbrev paid : Contents → Payloads → Reading
  paid c r = elim r [ Err e ↦ Err e | Ok ps ↦ Ok (message_value (header_of bytes) c ps) ]

  abbrev itemed : Items → Reading
  itemed r = elim r [ Err e ↦ Err e | Ok c ↦ paid c (payloads_from [] size c.lengths behind) ]

  abbrev Breaks : ℕ → Type 0
  Breaks at = (contents_in size area ≡ Err (Bad at)) ⊎ ((c : Contents) × (contents_in size area ≡ Ok c) × (payloads_from [] size c.lengths behind ≡ Err (Bad at)))

  message_breaks : (at : ℕ) → message_reading (header_of bytes) area behind ≡ bad at → Breaks at
  unfolding message_reading
  message_breaks at e = go (contents_in size area) refl e
    where
      pay : (c : Contents) → contents_in size area ≡ Ok c → (r : Payloads) → payloads_from [] size c.lengths behind ≡ r → paid c r ≡ bad at → Breaks at
      pay c is (Err (Bad a)) f g = inr (c, is, f ∙ ap (λ k. Err (Bad k)) (same_bad a at g))
      pay c is (Err ReplyError.OutOfMemory) f g = absurd cc
      pay c is (Ok ps) f g = absurd (not_bad (message_value (header_of bytes) c ps) at g)

      go : (r : Items) → contents_in size area ≡ r → itemed r ≡ bad at → Breaks at
      go (Err (Bad a)) f g = inl (f ∙ ap (λ k. Err (Bad k)) (same_bad a at g))
      go (Err ReplyError.OutOfMemory) f g = absurd cc
      go (Ok c) f g = pay c f (payloads_from [] size c.lengths behind) refl g

  module _ (flags : KnowFlags bytes) where
    abbrev Place : ℕ → Type 0
    Place at = BeginImage bytes at × ((place : ℕ) → BeginImage bytes place → place ≤ at)

    message_place : (at : ℕ) → notice_in (header_of bytes) area ≡ None → Breaks at → Place at
    message_place at none (inl e) =
        let b = items_before size at area area_fits whole e in
        let low = b.ends in
        (inr (inl (flags, b)), reach low)
      where
        reach : at ≡ 64 + length (spellings (items size (items_before size at area area_fits whole e).told)) → (place : ℕ) → BeginImage bytes place → place ≤ at
        reach low place (inl is) = omega (arith, is, low)
        reach low place (inr (inl x)) = items_reach size at place area area_fits whole size_small e x.1
        reach low place (inr (inr (inl x))) =
            let w = whole in let s = size_small in
            let read = told_read size area x.1.told (omega (arith, w, s)) x.1.can x.1.spelled in
            let never : ◌≡◌ {A = Items} (Err (Bad at)) (Ok x.1.told) = sym e ∙ read in absurd cc
        reach low place (inr (inr (inr x))) = absurd (no_some (sym none ∙ (notice_here place x.1).1))
    message_place at none (inr y) =
        let t = items_told size area y.0 area_fits y.1 in
        let b = payloads_before y.0.lengths [] size at behind y.2 in
        let low = b.ends in
        (inr (inr (inl (flags, record { told = y.0; can = t.0; spelled = t.1; payloads = b }))), reach low)
      where
        reach : at ≡ size + length (laid (payloads_before y.0.lengths [] size at behind y.2).payloads) → (place : ℕ) → BeginImage bytes place → place ≤ at
        reach low place (inl is) = let f = front.low in omega (arith, is, low, f)
        reach low place (inr (inl x)) =
            let ends = x.1.ends in let long = ap length x.1.spelled in let l = length-append (spellings (items size x.1.told)) x.1.rest in let w = whole in
            omega (arith, ends, long, l, w, low)
        reach low place (inr (inr (inl x))) =
            let w = whole in let s = size_small in
            let read = told_read size area x.1.told (omega (arith, w, s)) x.1.can x.1.spelled in
            let both : ◌≡◌ {A = Items} (Ok x.1.told) (Ok y.0) = sym read ∙ y.1 in
            let same : x.1.told ≡ y.0 = cc in
            let p = x.1.payloads in
            let r = payloads_reach p.payloads y.0.lengths [] size at behind p.rest (p.long ∙ ap (λ (c : Contents). take (length p.payloads) c.lengths) same) p.spelled y.2 in
            let ends = p.ends in omega (arith, r, ends)
        reach low place (inr (inr (inr x))) = absurd (no_some (sym none ∙ (notice_here place x.1).1))

    -- ---- a notice

    notice_place : (at : ℕ) (n : Notice) (rest : List ℕ) → notice_in (header_of bytes) area ≡ Some (n, rest) → at ≡ 64 + length (spelling (notice_item n)) → Place at
    notice_place at n rest e is =
        let i = notice_is n rest e in
        (subst (λ k. BeginImage bytes k) (sym is) (inr (inr (inr (flags, i.1)))), reach i.0)
      where
        reach : item_at area ≡ Some (notice_item n, rest) → (place : ℕ) → BeginImage bytes place → place ≤ at
        reach it place (inl z) = omega (arith, z, is)
        reach it place (inr (inl x)) =
            let none = no_items n rest x.1.rest x.1.told e x.1.can x.1.spelled in
            let ends = x.1.ends in let long = ap (λ (l : List Entry). length (spellings l)) none in omega (arith, ends, long, is)
        reach it place (inr (inr (inl x))) =
            let none = no_items n rest [] x.1.told e x.1.can (x.1.spelled ∙ sym (append-nil (spellings (items size x.1.told)))) in
            let empty : area ≡ [] = x.1.spelled ∙ ap spellings none in
            absurd (no_some (sym (ap item_at empty ∙ none_at_end [] (omega arith)) ∙ it))
        reach it place (inr (inr (inr x))) =
            let pair = same_some {X = Entry × List ℕ} (notice_item x.1.notice, x.1.rest) (notice_item n, rest) (sym (notice_here place x.1).0 ∙ it) in
            let item : notice_item x.1.notice ≡ notice_item n = ap (λ (y : Entry × List ℕ). y.0) pair in
            let ends = x.1.ends in let long = ap (λ (y : Entry). length (spelling y)) item in omega (arith, ends, long, is)

    notice_breaks : (at : ℕ) (n : Notice) (rest : List ℕ) → notice_in (header_of bytes) area ≡ Some (n, rest) → notice_reading (header_of bytes) n rest behind ≡ bad at → at ≡ 64 + length (spelling (notice_item n))
    unfolding notice_reading
    notice_breaks at n rest e f = go (is_empty rest) refl (is_empty behind) f
      where
        long : 64 + length (spelling (notice_item n)) + length rest ≡ size
        long = (notice_is n rest e).2

        go : (a : Bool) → is_empty rest ≡ a → (b : Bool) → cond (not a) (bad (size - length rest)) (cond (not b) (bad size) (Ok (notice_value (header_of bytes) n))) ≡ bad at → at ≡ 64 + length (spelling (notice_item n))
        go false r b f = let s = same_bad (size - length rest) at f in let l = long in omega (arith, s, l)
        go true r false f = let s = same_bad size at f in let l = long in let z = ap length (empty_is rest r) in omega (arith, s, l, z)
        go true r true f = absurd (not_bad (notice_value (header_of bytes) n) at f)

    -- ---- either

    behind_place : (at : ℕ) → behind_header (header_of bytes) area behind ≡ bad at → Place at
    unfolding behind_header
    behind_place at e = go (notice_in (header_of bytes) area) refl e
      where
        go : (o : Option (Notice × List ℕ)) → notice_in (header_of bytes) area ≡ o → elim o [ Some x ↦ notice_reading (header_of bytes) x.0 x.1 behind | None ↦ message_reading (header_of bytes) area behind ] ≡ bad at → Place at
        go (Some x) is f = notice_place at x.0 x.1 is (notice_breaks at x.0 x.1 is f)
        go None is f = message_place at is (message_breaks at f)

-- ---- the header

abbrev reads : List ℕ → Option ℕ → Reading
reads bytes o = elim o [ Some at ↦ bad at | None ↦ behind_header (header_of bytes) (area_in bytes) (behind_in bytes) ]

fork : (bytes : List ℕ) (b : Bool) (a at : ℕ) (o : Option ℕ) → reads bytes (cond b (Some a) o) ≡ bad at → ((b ≡ true) × (a ≡ at)) ⊎ ((b ≡ false) × (reads bytes o ≡ bad at))
fork bytes true a at o e = inl (refl, same_bad a at e)
fork bytes false a at o e = inr (refl, e)

-- flags that aren't known break behind the size word
flags_place : (bytes : List ℕ) (at : ℕ) → SayFront bytes → has_only (number (drop 8 bytes)) 7 ≡ false → 8 ≡ at → BreakImageAt bytes at
flags_place bytes at front unknown is = record { size = front; before = inl (sym is); here = reach }
  where
    never : KnowFlags bytes → ⊥
    never known = true≢false (sym known ∙ unknown)

    reach : (place : ℕ) → BeginImage bytes place → place ≤ at
    reach place (inl z) = omega (arith, z, is)
    reach place (inr (inl x)) = absurd (never x.0)
    reach place (inr (inr (inl x))) = absurd (never x.0)
    reach place (inr (inr (inr x))) = absurd (never x.0)

pub image_places_are_true : ImagePlacesAreTrue
unfolding reading header_break
image_places_are_true bytes at fits small e = first (fork bytes (ltb (length bytes) 8) 0 at _ e)
  where
    sixth : SayFront bytes → (b : Bool) → has_only (number (drop 8 bytes)) 7 ≡ b → reads bytes (cond b None (Some 8)) ≡ bad at → IsImagePlace bytes at
    sixth front true known e = let p = behind_place bytes fits small front known at e in inr (record { size = front; before = p.0; here = p.1 })
    sixth front false unknown e = inr (flags_place bytes at front unknown (same_bad 8 at e))

    fifth : 8 ≤ length bytes → 64 ≤ number bytes → number bytes ≤ length bytes
        → ((not (eqb (number bytes % 8) 0) ≡ true) × (0 ≡ at)) ⊎ ((not (eqb (number bytes % 8) 0) ≡ false) × (reads bytes (cond (has_only (number (drop 8 bytes)) 7) None (Some 8)) ≡ bad at)) → IsImagePlace bytes at
    fifth long low high (inl x) = inl (sym x.1, λ f. true≢false (sym x.0 ∙ ap not (eq-eqb (number bytes % 8) 0 f.eights)))
    fifth long low high (inr x) = sixth (record { word = long; low = low; high = high; eights = eqb-true _ _ (not_false _ x.0) }) (has_only (number (drop 8 bytes)) 7) refl x.1

    fourth : 8 ≤ length bytes → 64 ≤ number bytes
        → ((ltb (length bytes) (number bytes) ≡ true) × (0 ≡ at)) ⊎ ((ltb (length bytes) (number bytes) ≡ false) × (reads bytes (cond (not (eqb (number bytes % 8) 0)) (Some 0) (cond (has_only (number (drop 8 bytes)) 7) None (Some 8))) ≡ bad at)) → IsImagePlace bytes at
    fourth long low (inl x) = inl (sym x.1, λ f. let lt = ltb-true _ _ x.0 in let g = f.high in omega (arith, lt, g))
    fourth long low (inr x) = fifth long low (ltb-false _ _ x.0) (fork bytes (not (eqb (number bytes % 8) 0)) 0 at _ x.1)

    third : 8 ≤ length bytes
        → ((ltb (number bytes) 64 ≡ true) × (0 ≡ at)) ⊎ ((ltb (number bytes) 64 ≡ false) × (reads bytes (cond (ltb (length bytes) (number bytes)) (Some 0) (cond (not (eqb (number bytes % 8) 0)) (Some 0) (cond (has_only (number (drop 8 bytes)) 7) None (Some 8)))) ≡ bad at)) → IsImagePlace bytes at
    third long (inl x) = inl (sym x.1, λ f. let lt = ltb-true _ _ x.0 in let g = f.low in omega (arith, lt, g))
    third long (inr x) = fourth long (ltb-false _ _ x.0) (fork bytes (ltb (length bytes) (number bytes)) 0 at _ x.1)

    first : ((ltb (length bytes) 8 ≡ true) × (0 ≡ at)) ⊎ ((ltb (length bytes) 8 ≡ false) × (reads bytes (cond (ltb (number bytes) 64) (Some 0) (cond (ltb (length bytes) (number bytes)) (Some 0) (cond (not (eqb (number bytes % 8) 0)) (Some 0) (cond (has_only (number (drop 8 bytes)) 7) None (Some 8))))) ≡ bad at)) → IsImagePlace bytes at
    first (inl x) = inl (sym x.1, λ f. let lt = ltb-true _ _ x.0 in let g = f.word in omega (arith, lt, g))
    first (inr x) = third (ltb-false _ _ x.0) (fork bytes (ltb (number bytes) 64) 0 at _ x.1)

pub image_places_are_one : ImagePlacesAreOne
image_places_are_one bytes at other (inl x) (inl y) = x.0 ∙ sym y.0
image_places_are_one bytes at other (inl x) (inr b) = absurd (x.1 b.size)
image_places_are_one bytes at other (inr a) (inl y) = absurd (y.1 a.size)
image_places_are_one bytes at other (inr a) (inr b) = let low = a.here other b.before in let high = b.here at a.before in omega (arith, low, high)
