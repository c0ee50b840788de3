-- An image that was read was made of what it says.
use Rattle.std.proofs.Common.{◌≡◌, ℕ, ◌+◌, ◌%◌, ◌<◌, ◌≤◌, ◌^◌, Bool, true, false, not, cond, eqb, ltb, List, [], ◌∷◌, ◌++◌, length, take, drop, map, replicate, Option, Some, None, Result, Ok, Err, option_map, if◌then◌else◌, refl, sym, ap, subst, ◌∙◌, arith, append_assoc, length-append, length-drop, ◌⊎◌, inl, inr}
use Rattle.std.specs.List.{sum_by}
use Rattle.std.specs.Int.{cast_signed, cast_unsigned, w64}
use Rattle.std.specs.Str.{is_utf8}
use Rattle.std.proofs.Math.Facts.{sfits_to_z}
use Rattle.std.proofs.lemmas.Int.{of_z-to_z}
use Rattle.std.proofs.lemmas.Option.{cond_some}
use Rattle.std.proofs.lemmas.Bool.{ltb-false, eqb-true, and_parts, not-false, cases_Bool}
use Rattle.std.proofs.lemmas.List.{append-nil, drop-drop, take-append-drop, length-take-le, drop-append-le}
use Rattle.kd_model.proofs.Truth.{option_cases, same_some, let_through}
use Rattle.kd_types.specs.Flags.{has_only}
use Rattle.kd_types.specs.Words.{is_empty}
use Rattle.kd_types.specs.declared.reply_error.ReplyError.{ReplyError}
use Rattle.kd_types.specs.declared.reply_error.ReplyError.TheVariants.{Bad}
use Rattle.kd_item.specs.Spelling.{Entry, number, padding, spelling, spellings, words}
use Rattle.kd_item.specs.Reading.{item_at, are_zeros, split}
use Rattle.kd_item.proofs.Words.{IsBytes, IsBytes-drop, IsBytes-take, IsBytes-front, number_fits}
use Rattle.kd_item.proofs.Zeros.{zeros_back}
use Rattle.kd_item.proofs.Splits.{split_whole, item_takes}
use Rattle.kd_image.specs.declared.message.Message.{Message}
use Rattle.kd_image.specs.declared.attached.Attached.{Attached}
use Rattle.kd_image.specs.declared.notice.Notice.{Notice}
use Rattle.kd_image.specs.declared.notice.Notice.TheVariants.{IdAdd, IdRemove, NameAdd, NameRemove, NameChange, ReplyTimeout, ReplyDead}
use Rattle.kd_image.specs.declared.header.Header.{Header}
use Rattle.kd_image.specs.declared.image.Image.{Image}
use Rattle.kd_image.specs.Items.{padded_length, begins, Contents, contents, items}
use Rattle.kd_image.specs.Images.{padded, laid, header, front, front_length, image, notice_item, notice_destination, notice_last, notice_image}
use Rattle.kd_image.specs.Said.{Origin, sent, told, IsSent, IsTold, IsNotice, IsSound, IsWord, IsText, origin_bytes, image_of_origin}
use Rattle.kd_image.specs.Reading.{blank, header_break, header_of, contents_in, payload_at, payloads_from, id_in, owners_in, notice_of, notice_in, is_header_of, message_reading, message_value, notice_reading, notice_value, behind_header, reading}
use Rattle.kd_image.proofs.Lengths.{length-items, length-laid}
use Rattle.kd_image.proofs.Sound.{ok_is, empty_is, front_body, number_more, one_number, two_numbers, SoFar, read_told}

-- a payload that was read stands there with its zeros
payload_is : (n : ℕ) (bytes : List ℕ) (x : List ℕ × List ℕ) → payload_at n bytes ≡ Some x → (length x.0 ≡ n) × (bytes ≡ padded x.0 ++ x.1)
unfolding payload_at
payload_is n bytes x is =
    let a = let_through (ltb (length bytes) (padded_length n)) _ x is in
    let long : n + padding n ≤ length bytes = ltb-false (length bytes) (padded_length n) a.0 in
    let fill : List ℕ = take (padding n) (drop n bytes) in
    let b = cond_some (are_zeros fill) (take n bytes, drop (padded_length n) bytes) x a.1 in
    let count : length (take n bytes) ≡ n = length-take-le n bytes (omega arith) in
    let fill_len : length fill ≡ padding n = length-take-le (padding n) (drop n bytes) (omega (arith, length-drop n bytes)) in
    let zeros : fill ≡ replicate (padding (length (take n bytes))) 0 = zeros_back fill b.0 ∙ ap (λ (k : ℕ). replicate k 0) (fill_len ∙ ap padding (sym count)) in
    let tail : drop n bytes ≡ fill ++ drop (padded_length n) bytes = sym (take-append-drop (padding n) (drop n bytes)) ∙ ap (λ (l : List ℕ). fill ++ l) (drop-drop (padding n) n bytes) in
    let parts : bytes ≡ padded (take n bytes) ++ drop (padded_length n) bytes =
    sym (take-append-drop n bytes) ∙ ap (λ (l : List ℕ). take n bytes ++ l) (tail ∙ ap (λ (l : List ℕ). l ++ drop (padded_length n) bytes) zeros)
    ∙ sym (append_assoc (take n bytes) (replicate (padding (length (take n bytes))) 0) (drop (padded_length n) bytes)) in
    subst (λ (y : List ℕ × List ℕ). (length y.0 ≡ n) × (bytes ≡ padded y.0 ++ y.1)) b.1 (count, parts)

-- payloads that were read
record Paid (done : List (List ℕ)) (ns bytes : List ℕ) (ps : List (List ℕ)) : Type 0 where
  pub more : List (List ℕ)
  pub whole : ps ≡ done ++ more
  pub lengths : map length more ≡ ns
  pub laid_out : bytes ≡ laid more

paid_end : (done : List (List ℕ)) (at : ℕ) (bytes : List ℕ) (ps : List (List ℕ)) → payloads_from done at [] bytes ≡ Ok ps → Paid done [] bytes ps
paid_end done at [] ps is = record { more = []; whole = sym (ok_is done ps is) ∙ sym (append-nil done); lengths = refl; laid_out = refl }
paid_end done at (b ∷ bytes) ps is = let never : Err (Bad at) ≡ Ok ps = is in absurd cc

paid : (done : List (List ℕ)) (at : ℕ) (ns bytes : List ℕ) (ps : List (List ℕ)) → payloads_from done at ns bytes ≡ Ok ps → Paid done ns bytes ps
paid done at [] bytes ps is = paid_end done at bytes ps is
paid done at (n ∷ ns) bytes ps is =
    let go : Option (List ℕ × List ℕ) → Result (List (List ℕ)) ReplyError = λ o. elim o [ None ↦ Err (Bad at) | Some x ↦ payloads_from (done ++ x.0 ∷ []) (at + padded_length n) ns x.1 ] in
    elim (option_cases (payload_at n bytes)) [
      | inl none ↦ let never : Err (Bad at) ≡ Ok ps = sym (ap go none) ∙ is in absurd cc
      | inr some ↦
          let p : List ℕ = some.0.0 in
          let one = payload_is n bytes some.0 some.1 in
          let rest = paid (done ++ p ∷ []) (at + padded_length n) ns some.0.1 ps (sym (ap go some.1) ∙ is) in
          record {
            more = p ∷ rest.more;
            whole = rest.whole ∙ append_assoc done (p ∷ []) rest.more;
            lengths = ap (λ (k : ℕ). k ∷ map length rest.more) one.0 ∙ ap (λ (l : List ℕ). n ∷ l) rest.lengths;
            laid_out = one.1 ∙ ap (λ (l : List ℕ). padded p ++ l) rest.laid_out;
          }
    ]

-- the eight words in front
eight_numbers : (bytes : List ℕ) → 64 ≤ length bytes → IsBytes bytes
    → bytes ≡ words (number bytes ∷ number (drop 8 bytes) ∷ number (drop 16 bytes) ∷ number (drop 24 bytes) ∷ number (drop 32 bytes) ∷ number (drop 40 bytes) ∷ number (drop 48 bytes) ∷ number (drop 56 bytes) ∷ []) ++ drop 64 bytes
eight_numbers bytes long fits =
    let tail : List ℕ = drop 64 bytes in
    let step : (k : ℕ) (ns : List ℕ) → k + 8 ≤ length bytes → drop (k + 8) bytes ≡ words ns ++ tail → drop k bytes ≡ words (number (drop k bytes) ∷ ns) ++ tail =
    λ k ns le e. number_more (drop k bytes) ns (number (drop k bytes)) tail refl (omega (arith, length-drop k bytes)) (IsBytes-drop k bytes fits) (drop-drop 8 k bytes ∙ e) in
    let w56 : List ℕ = number (drop 56 bytes) ∷ [] in
    let w48 : List ℕ = number (drop 48 bytes) ∷ w56 in
    let w40 : List ℕ = number (drop 40 bytes) ∷ w48 in
    let w32 : List ℕ = number (drop 32 bytes) ∷ w40 in
    let w24 : List ℕ = number (drop 24 bytes) ∷ w32 in
    let w16 : List ℕ = number (drop 16 bytes) ∷ w24 in
    let w8 : List ℕ = number (drop 8 bytes) ∷ w16 in
    step 0 w8 (omega arith) (step 8 w16 (omega arith) (step 16 w24 (omega arith) (step 24 w32 (omega arith) (step 32 w40 (omega arith) (step 40 w48 (omega arith) (step 48 w56 (omega arith) (step 56 [] (omega arith) refl)))))))

-- what a header that stands says
record Stands (bytes : List ℕ) : Type 0 where
  pub low : 64 ≤ number bytes
  pub high : number bytes ≤ length bytes
  pub flags : has_only (number (drop 8 bytes)) 7 ≡ true

none_kept : {A : Type 0} (b : Bool) (v : A) (r : Option A) → cond b (Some v) r ≡ None → (b ≡ false) × (r ≡ None)
none_kept true v r e = absurd cc
none_kept false v r e = (refl, e)

none_left : {A : Type 0} (b : Bool) (v : A) → cond b None (Some v) ≡ None → b ≡ true
none_left true v e = refl
none_left false v e = absurd cc

stands : (bytes : List ℕ) → header_break bytes ≡ None → Stands bytes
unfolding header_break
stands bytes e =
    let a = none_kept (ltb (length bytes) 8) 0 _ e in
    let b = none_kept (ltb (number bytes) 64) 0 _ a.1 in
    let c = none_kept (ltb (length bytes) (number bytes)) 0 _ b.1 in
    let d = none_kept (not (eqb (number bytes % 8) 0)) 0 _ c.1 in
    record { low = ltb-false (number bytes) 64 b.0; high = ltb-false (length bytes) (number bytes) c.0; flags = none_left (has_only (number (drop 8 bytes)) 7) 8 d.1 }

-- header, items and payloads of bytes whose header stands
record Parts (bytes area behind : List ℕ) : Type 0 where
  pub whole : bytes ≡ words (number bytes ∷ number (drop 8 bytes) ∷ number (drop 16 bytes) ∷ number (drop 24 bytes) ∷ number (drop 32 bytes) ∷ number (drop 40 bytes) ∷ number (drop 48 bytes) ∷ number (drop 56 bytes) ∷ []) ++ (area ++ behind)
  pub size : 64 + length area ≡ number bytes
  pub total : number bytes + length behind ≡ length bytes
  pub area_bytes : IsBytes area
  pub behind_bytes : IsBytes behind

parts : (bytes : List ℕ) → IsBytes bytes → Stands bytes → Parts bytes (drop 64 (take (number bytes) bytes)) (drop (number bytes) bytes)
parts bytes fits s =
    let n : ℕ = number bytes in
    let low : 64 ≤ n = s.low in
    let high : n ≤ length bytes = s.high in
    let front_len : length (take n bytes) ≡ n = length-take-le n bytes high in
    let apart : drop 64 bytes ≡ drop 64 (take n bytes) ++ drop n bytes = ap (drop 64) (sym (take-append-drop n bytes)) ∙ drop-append-le 64 (take n bytes) (drop n bytes) (omega arith) in
    record {
      whole = eight_numbers bytes (omega arith) fits ∙ ap (λ (l : List ℕ). words (number bytes ∷ number (drop 8 bytes) ∷ number (drop 16 bytes) ∷ number (drop 24 bytes) ∷ number (drop 32 bytes) ∷ number (drop 40 bytes) ∷ number (drop 48 bytes) ∷ number (drop 56 bytes) ∷ []) ++ l) apart;
      size = omega (arith, length-drop 64 (take n bytes));
      total = omega (arith, length-drop n bytes);
      area_bytes = IsBytes-drop 64 (take n bytes) (IsBytes-take n bytes fits);
      behind_bytes = IsBytes-drop n bytes fits;
    }

-- the items that were read are all there is
contents_found : (size : ℕ) (area : List ℕ) (c : Contents) → IsBytes area → contents_in size area ≡ Ok c → (area ≡ spellings (items size c)) × SoFar c
unfolding contents_in
contents_found size area c fits is =
    let es : List Entry = (split area).0 in
    let whole = split_whole area fits in
    let spelled : IsBytes (spellings es) = IsBytes-front (spellings es) (split area).1 (subst IsBytes whole.0 fits) in
    let none : SoFar blank = record { creds = tt; names = tt; order = refl; description = tt; moment = tt; name = tt; few = omega arith; range = tt } in
    let t = read_told size 64 blank c es (split area).1 spelled none is in
    (whole.0 ∙ ap (λ (l : List ℕ). spellings es ++ l) t.ended ∙ append-nil (spellings es) ∙ ap spellings (sym t.all), t.told)

-- a message, from its header, what its items tell, and its payloads
made_of : Header → Contents → List (List ℕ) → Message
made_of h c ps = record { flags = record { 0 = h.flags }; priority = cast_signed w64 h.priority; payload_type = h.payload_type; cookie = h.cookie; last = h.last; dst_name = c.name; payloads = ps; sealed = c.range }

attached_to : Contents → Attached
attached_to c = record { creds = c.creds; names = c.names; description = c.description; moment = c.moment }

same_contents : (h : Header) (c : Contents) (ps : List (List ℕ)) → map length ps ≡ c.lengths → contents (made_of h c ps) (attached_to c) ≡ c
unfolding made_of attached_to
same_contents h c ps e = ap (λ (l : List ℕ). record c { lengths = l }) e

record Made (bytes : List ℕ) (i : Image) : Type 0 where
  pub origin : Origin
  pub sound : IsSound origin
  pub value : i ≡ image_of_origin origin
  pub bytes_are : bytes ≡ origin_bytes origin

result_cases : {A E : Type 0} (r : Result A E) → ((e : E) × (r ≡ Err e)) ⊎ ((x : A) × (r ≡ Ok x))
result_cases (Err e) = inl (e, refl)
result_cases (Ok x) = inr (x, refl)

front_size : (n : ℕ) (c : Contents) (area : List ℕ) → 64 + length area ≡ n → area ≡ spellings (items n c) → front_length c ≡ n
unfolding front_length
front_size n c area size is = omega (arith, size, ap length is, length-items 0 c, length-items n c)

message_made : (bytes area behind : List ℕ) (i : Image) (c : Contents) (ps : List (List ℕ)) → length bytes < 2 ^ 64 → IsBytes bytes → Stands bytes → Parts bytes area behind
    → message_value (header_of bytes) c ps ≡ i → area ≡ spellings (items (number bytes) c) → SoFar c → map length ps ≡ c.lengths → behind ≡ laid ps → Made bytes i
unfolding made_of attached_to image front header
message_made bytes area behind i c ps short fits s p said_is area_is t lengths behind_is =
    let h : Header = header_of bytes in
    let n : ℕ = number bytes in
    let m : Message = made_of h c ps in
    let a : Attached = attached_to c in
    let same : contents m a ≡ c = same_contents h c ps lengths in
    let size : front_length c ≡ n = front_size n c area p.size area_is in
    let sizes : front_length (contents m a) ≡ n = ap front_length same ∙ size in
    let word_fits : (k : ℕ) → number (drop k bytes) < 2 ^ 64 = λ k. number_fits (drop k bytes) (IsBytes-drop k bytes fits) in
    let sum : sum_by padded_length c.lengths ≡ length behind = ap (sum_by padded_length) (sym lengths) ∙ sym (length-laid ps) ∙ ap length (sym behind_is) in
    let ends : begins n c.lengths < 2 ^ 64 = omega (arith, p.total) in
    let tells : IsTold n c = record { creds = t.creds; names = t.names; order = t.order; description = t.description; moment = t.moment; name = t.name; few = t.few; ends = ends; range = t.range } in
    let told_so : IsTold (front_length (contents m a)) (contents m a) = subst (λ (k : ℕ). IsTold k (contents m a)) (sym sizes) (subst (IsTold n) (sym same) tells) in
    let back : cast_unsigned w64 (cast_signed w64 h.priority) ≡ h.priority = of_z-to_z w64 h.priority (word_fits 16) in
    let sound : IsSent m h.source h.dst a = record { flags = s.flags; priority = sfits_to_z {w = w64} {n = h.priority} (omega (arith, word_fits 16)); source = word_fits 32; dst = word_fits 24; payload_type = word_fits 40; cookie = word_fits 48; last = word_fits 56; items = told_so } in
    let value : message_value h c ps ≡ image_of_origin (sent m h.source h.dst a) = ap (λ (k : ℕ). record (message_value h c ps) { size = k }) (sym sizes) in
    let shape : Contents → ℕ → ℕ → List ℕ = λ k z q. words (z ∷ h.flags ∷ q ∷ h.dst ∷ h.source ∷ h.payload_type ∷ h.cookie ∷ h.last ∷ []) ++ spellings (items z k) ++ laid ps in
    let q : ℕ = cast_unsigned w64 (cast_signed w64 h.priority) in
    let built : image m h.source h.dst a ≡ shape c n h.priority =
    ap (λ (k : Contents). shape k (front_length (contents m a)) q) same ∙ ap (λ (z : ℕ). shape c z q) sizes ∙ ap (λ (k : ℕ). shape c n k) back in
    let bytes_are : bytes ≡ image m h.source h.dst a = p.whole ∙ sym (append_assoc (words (n ∷ h.flags ∷ h.priority ∷ h.dst ∷ h.source ∷ h.payload_type ∷ h.cookie ∷ h.last ∷ [])) area behind) ∙ rw (area_is, behind_is) (sym built) in
    record { origin = sent m h.source h.dst a; sound = sound; value = sym said_is ∙ value; bytes_are = bytes_are }

message_found : (bytes area behind : List ℕ) (i : Image) → IsBytes bytes → length bytes < 2 ^ 64 → Stands bytes → Parts bytes area behind → message_reading (header_of bytes) area behind ≡ Ok i → Made bytes i
unfolding message_reading
message_found bytes area behind i fits short s p is =
    let h : Header = header_of bytes in
    let n : ℕ = number bytes in
    let g3 : Contents → Result (List (List ℕ)) ReplyError → Result Image ReplyError = λ k o. elim o [ Err e ↦ Err e | Ok ps ↦ Ok (message_value h k ps) ] in
    let g2 : Result Contents ReplyError → Result Image ReplyError = λ o. elim o [ Err e ↦ Err e | Ok k ↦ g3 k (payloads_from [] n k.lengths behind) ] in
    elim (result_cases (contents_in n area)) [
      | inl bad ↦ let never : Err bad.0 ≡ Ok i = sym (ap g2 bad.1) ∙ is in absurd cc
      | inr good ↦
          let c : Contents = good.0 in
          let next : g3 c (payloads_from [] n c.lengths behind) ≡ Ok i = sym (ap g2 good.1) ∙ is in
          elim (result_cases (payloads_from [] n c.lengths behind)) [
            | inl bad ↦ let never : Err bad.0 ≡ Ok i = sym (ap (g3 c) bad.1) ∙ next in absurd cc
            | inr read ↦
                let ps : List (List ℕ) = read.0 in
                let said_is : message_value h c ps ≡ i = ok_is (message_value h c ps) i (sym (ap (g3 c) read.1) ∙ next) in
                let all = contents_found n area c p.area_bytes good.1 in
                let money = paid [] n c.lengths behind ps read.1 in
                let paid_lengths : map length ps ≡ c.lengths = ap (map length) money.whole ∙ money.lengths in
                let paid_bytes : behind ≡ laid ps = money.laid_out ∙ ap laid (sym money.whole) in
                message_made bytes area behind i c ps short fits s p said_is all.0 all.1 paid_lengths paid_bytes
          ]
    ]

-- notices
passed_ok : {A E : Type 0} (b : Bool) (e : E) (r : Result A E) (y : A) → cond b (Err e) r ≡ Ok y → (b ≡ false) × (r ≡ Ok y)
passed_ok true e r y is = absurd cc
passed_ok false e r y is = (refl, is)

item_is : (e : Entry) (k : ℕ) (b : List ℕ) → e.kind ≡ k → e.body ≡ b → e ≡ record { kind = k; body = b }
item_is e k b ek eb = rw (← ek, ← eb) refl

id_is : (body : List ℕ) (id : ℕ) → IsBytes body → id_in body ≡ Some id → (body ≡ words (id ∷ []) ++ []) × IsWord id
id_is body id fits is =
    let a = cond_some (eqb (length body) 8) (number body) id is in
    let len : length body ≡ 8 = eqb-true (length body) 8 a.0 in
    subst (λ (k : ℕ). (body ≡ words (k ∷ []) ++ []) × IsWord k) a.1 (one_number body len fits, number_fits body fits)

owners_are : (body : List ℕ) (o : ℕ × ℕ × List ℕ) → IsBytes body → owners_in body ≡ Some o → (body ≡ words (o.0 ∷ o.1 ∷ []) ++ o.2) × IsWord o.0 × IsWord o.1 × IsText o.2
unfolding owners_in
owners_are body o fits is =
    let a = let_through (ltb (length body) 16) _ o is in
    let long : 16 ≤ length body = ltb-false (length body) 16 a.0 in
    let b = cond_some (is_utf8 (drop 16 body)) (number body, number (drop 8 body), drop 16 body) o a.1 in
    subst (λ (k : ℕ × ℕ × List ℕ). (body ≡ words (k.0 ∷ k.1 ∷ []) ++ k.2) × IsWord k.0 × IsWord k.1 × IsText k.2) b.1
    (two_numbers body (drop 16 body) long fits refl, number_fits body fits, number_fits (drop 8 body) (IsBytes-drop 8 body fits), b.0)

-- what an item says as a notice
record Says (e : Entry) (n : Notice) : Type 0 where
  pub item : e ≡ notice_item n
  pub sound : IsNotice n

map_some : {A B : Type 0} (f : A → B) (o : Option A) (y : B) → option_map f o ≡ Some y → (x : A) × (o ≡ Some x) × (f x ≡ y)
map_some f None y e = absurd cc
map_some f (Some x) y e = (x, refl, same_some (f x) y e)

says : (last : ℕ) (e : Entry) (n : Notice) → IsBytes e.body → IsWord last → notice_of last e ≡ Some n → Says e n
unfolding notice_of
says last e n fits w is =
    elim (cases_Bool (eqb e.kind 12)) [
      | inl y ↦
          let o : notice_of last e ≡ option_map IdAdd (id_in e.body) = rw y refl in
          let m = map_some IdAdd (id_in e.body) n (sym o ∙ is) in
          let b = id_is e.body m.0 fits m.1 in
          subst (Says e) m.2 (record { item = item_is e 12 (words (m.0 ∷ []) ++ []) (eqb-true e.kind 12 y) b.0; sound = b.1 })
      | inr n1 ↦ elim (cases_Bool (eqb e.kind 13)) [
        | inl y ↦
            let o : notice_of last e ≡ option_map IdRemove (id_in e.body) = rw (n1, y) refl in
            let m = map_some IdRemove (id_in e.body) n (sym o ∙ is) in
            let b = id_is e.body m.0 fits m.1 in
            subst (Says e) m.2 (record { item = item_is e 13 (words (m.0 ∷ []) ++ []) (eqb-true e.kind 13 y) b.0; sound = b.1 })
        | inr n2 ↦ elim (cases_Bool (eqb e.kind 14)) [
          | inl y ↦
              let f : ℕ × ℕ × List ℕ → Notice = λ o. NameAdd o.0 o.1 o.2 in
              let o : notice_of last e ≡ option_map f (owners_in e.body) = rw (n1, n2, y) refl in
              let m = map_some f (owners_in e.body) n (sym o ∙ is) in
              let b = owners_are e.body m.0 fits m.1 in
              subst (Says e) m.2 (record { item = item_is e 14 (words (m.0.0 ∷ m.0.1 ∷ []) ++ m.0.2) (eqb-true e.kind 14 y) b.0; sound = (b.1, b.2, b.3) })
          | inr n3 ↦ elim (cases_Bool (eqb e.kind 15)) [
            | inl y ↦
                let f : ℕ × ℕ × List ℕ → Notice = λ o. NameRemove o.0 o.1 o.2 in
                let o : notice_of last e ≡ option_map f (owners_in e.body) = rw (n1, n2, n3, y) refl in
                let m = map_some f (owners_in e.body) n (sym o ∙ is) in
                let b = owners_are e.body m.0 fits m.1 in
                subst (Says e) m.2 (record { item = item_is e 15 (words (m.0.0 ∷ m.0.1 ∷ []) ++ m.0.2) (eqb-true e.kind 15 y) b.0; sound = (b.1, b.2, b.3) })
            | inr n4 ↦ elim (cases_Bool (eqb e.kind 16)) [
              | inl y ↦
                  let f : ℕ × ℕ × List ℕ → Notice = λ o. NameChange o.0 o.1 o.2 in
                  let o : notice_of last e ≡ option_map f (owners_in e.body) = rw (n1, n2, n3, n4, y) refl in
                  let m = map_some f (owners_in e.body) n (sym o ∙ is) in
                  let b = owners_are e.body m.0 fits m.1 in
                  subst (Says e) m.2 (record { item = item_is e 16 (words (m.0.0 ∷ m.0.1 ∷ []) ++ m.0.2) (eqb-true e.kind 16 y) b.0; sound = (b.1, b.2, b.3) })
              | inr n5 ↦ elim (cases_Bool (eqb e.kind 17)) [
                | inl y ↦
                    let o : notice_of last e ≡ cond (is_empty e.body) (Some (ReplyTimeout last)) None = rw (n1, n2, n3, n4, n5, y) refl in
                    let m = cond_some (is_empty e.body) (ReplyTimeout last) n (sym o ∙ is) in
                    subst (Says e) m.1 (record { item = item_is e 17 [] (eqb-true e.kind 17 y) (empty_is e.body m.0); sound = w })
                | inr n6 ↦ elim (cases_Bool (eqb e.kind 18)) [
                  | inl y ↦
                      let o : notice_of last e ≡ cond (is_empty e.body) (Some (ReplyDead last)) None = rw (n1, n2, n3, n4, n5, n6, y) refl in
                      let m = cond_some (is_empty e.body) (ReplyDead last) n (sym o ∙ is) in
                      subst (Says e) m.1 (record { item = item_is e 18 [] (eqb-true e.kind 18 y) (empty_is e.body m.0); sound = w })
                  | inr n7 ↦ let o : notice_of last e ≡ None = rw (n1, n2, n3, n4, n5, n6, n7) refl in let never : None ≡ Some n = sym o ∙ is in absurd cc
                ]
              ]
            ]
          ]
        ]
      ]
    ]

-- the words of a notice's header
record OwnHeader (h : Header) (n : Notice) : Type 0 where
  pub flags : h.flags ≡ 0
  pub priority : h.priority ≡ 0
  pub source : h.source ≡ 0
  pub payload_type : h.payload_type ≡ 0
  pub cookie : h.cookie ≡ 0
  pub dst : h.dst ≡ notice_destination n h.dst
  pub last : h.last ≡ notice_last n

own_header_is : (h : Header) (n : Notice) → is_header_of h n ≡ true → OwnHeader h n
own_header_is h n e =
    let a = and_parts (eqb h.flags 0) _ e in
    let b = and_parts (eqb h.priority 0) _ a.1 in
    let c = and_parts (eqb h.source 0) _ b.1 in
    let d = and_parts (eqb h.payload_type 0) _ c.1 in
    let f = and_parts (eqb h.cookie 0) _ d.1 in
    let g = and_parts (eqb h.dst (notice_destination n h.dst)) (eqb h.last (notice_last n)) f.1 in
    record {
      flags = eqb-true h.flags 0 a.0;
      priority = eqb-true h.priority 0 b.0;
      source = eqb-true h.source 0 c.0;
      payload_type = eqb-true h.payload_type 0 d.0;
      cookie = eqb-true h.cookie 0 f.0;
      dst = eqb-true h.dst (notice_destination n h.dst) g.0;
      last = eqb-true h.last (notice_last n) g.1;
    }

says_value : (h : Header) (n : Notice) → OwnHeader h n → length (notice_image n h.dst) ≡ h.size → notice_value h n ≡ image_of_origin (told n h.dst)
says_value h n own total = rw (total, own.flags, own.priority, own.source, own.payload_type, own.cookie, ← own.dst, own.last) refl

notice_made : (bytes area behind rest : List ℕ) (i : Image) (n : Notice) (e : Entry) → length bytes < 2 ^ 64 → IsBytes bytes → Parts bytes area behind
    → area ≡ spelling e ++ rest → Says e n → OwnHeader (header_of bytes) n → notice_reading (header_of bytes) n rest behind ≡ Ok i → Made bytes i
unfolding notice_reading notice_image
notice_made bytes area behind rest i n e short fits p area_is s own is =
    let h : Header = header_of bytes in
    let a = passed_ok (not (is_empty rest)) _ _ i is in
    let b = passed_ok (not (is_empty behind)) _ _ i a.1 in
    let no_rest : rest ≡ [] = empty_is rest (not-false (is_empty rest) a.0) in
    let no_behind : behind ≡ [] = empty_is behind (not-false (is_empty behind) b.0) in
    let said_is : notice_value h n ≡ i = ok_is (notice_value h n) i b.1 in
    let it : List ℕ = spelling (notice_item n) in
    let item_is_all : area ++ behind ≡ it = rw (area_is, no_rest, no_behind) (append-nil (spelling e ++ []) ∙ append-nil (spelling e) ∙ ap spelling s.item) in
    let size : 64 + length it ≡ number bytes = omega (arith, p.size, ap length item_is_all, length-append area behind, ap length no_behind) in
    let built : notice_image n h.dst ≡ words (number bytes ∷ h.flags ∷ h.priority ∷ h.dst ∷ h.source ∷ h.payload_type ∷ h.cookie ∷ h.last ∷ []) ++ it = rw (size, own.flags, own.priority, own.source, own.payload_type, own.cookie, ← own.dst, own.last) refl in
    let bytes_are : bytes ≡ notice_image n h.dst = p.whole ∙ ap (λ (l : List ℕ). words (number bytes ∷ h.flags ∷ h.priority ∷ h.dst ∷ h.source ∷ h.payload_type ∷ h.cookie ∷ h.last ∷ []) ++ l) item_is_all ∙ sym built in
    let total : length (notice_image n h.dst) ≡ number bytes = ap length (sym bytes_are) ∙ omega (arith, p.total, ap length no_behind) in
    let value : notice_value h n ≡ image_of_origin (told n h.dst) = says_value h n own total in
    record {
      origin = told n h.dst;
      sound = (s.sound, number_fits (drop 24 bytes) (IsBytes-drop 24 bytes fits), omega (arith, p.total));
      value = sym said_is ∙ value;
      bytes_are = bytes_are;
    }

notice_found : (bytes area behind : List ℕ) (i : Image) (x : Notice × List ℕ) → length bytes < 2 ^ 64 → IsBytes bytes → Parts bytes area behind
    → notice_in (header_of bytes) area ≡ Some x → notice_reading (header_of bytes) x.0 x.1 behind ≡ Ok i → Made bytes i
unfolding notice_in
notice_found bytes area behind i x short fits p found is =
    let h : Header = header_of bytes in
    let told_by : Entry × List ℕ → Option Notice → Option (Notice × List ℕ) = λ y o. elim o [ None ↦ None | Some k ↦ if is_header_of h k then Some (k, y.1) else None ] in
    let go : Option (Entry × List ℕ) → Option (Notice × List ℕ) = λ o. elim o [ None ↦ None | Some y ↦ told_by y (notice_of h.last y.0) ] in
    elim (option_cases (item_at area)) [
      | inl none ↦ let never : None ≡ Some x = sym (ap go none) ∙ found in absurd cc
      | inr first ↦
          let y : Entry × List ℕ = first.0 in
          let next : told_by y (notice_of h.last y.0) ≡ Some x = sym (ap go first.1) ∙ found in
          elim (option_cases (notice_of h.last y.0)) [
            | inl none ↦ let never : None ≡ Some x = sym (ap (told_by y) none) ∙ next in absurd cc
            | inr some ↦
                let n : Notice = some.0 in
                let chosen = cond_some (is_header_of h n) (n, y.1) x (sym (ap (told_by y) some.1) ∙ next) in
                let t = item_takes area y p.area_bytes first.1 in
                let body : IsBytes y.0.body = front_body y.0 y.1 (subst IsBytes t.parts p.area_bytes) in
                let s : Says y.0 n = says h.last y.0 n body (number_fits (drop 56 bytes) (IsBytes-drop 56 bytes fits)) some.1 in
                let read : notice_reading h n y.1 behind ≡ Ok i = ap (λ (z : Notice × List ℕ). notice_reading h z.0 z.1 behind) chosen.1 ∙ is in
                notice_made bytes area behind y.1 i n y.0 short fits p t.parts s (own_header_is h n chosen.0) read
          ]
    ]

-- whatever was read was made so
pub found : (bytes : List ℕ) (i : Image) → length bytes < 2 ^ 64 → IsBytes bytes → reading bytes ≡ Ok i → (o : Origin) × IsSound o × (i ≡ image_of_origin o) × (bytes ≡ origin_bytes o)
unfolding reading behind_header
found bytes i short fits is =
    let area : List ℕ = drop 64 (take (number bytes) bytes) in
    let behind : List ℕ = drop (number bytes) bytes in
    let h : Header = header_of bytes in
    let go : Option ℕ → Result Image ReplyError = λ o. elim o [ Some at ↦ Err (Bad at) | None ↦ behind_header h area behind ] in
    let g1 : Option (Notice × List ℕ) → Result Image ReplyError = λ o. elim o [ Some x ↦ notice_reading h x.0 x.1 behind | None ↦ message_reading h area behind ] in
    elim (option_cases (header_break bytes)) [
      | inr broken ↦ let never : Err (Bad broken.0) ≡ Ok i = sym (ap go broken.1) ∙ is in absurd cc
      | inl none ↦
          let s : Stands bytes = stands bytes none in
          let p = parts bytes fits s in
          let next : g1 (notice_in h area) ≡ Ok i = sym (ap go none) ∙ is in
          elim (option_cases (notice_in h area)) [
            | inl not_told ↦ let m = message_found bytes area behind i fits short s p (sym (ap g1 not_told) ∙ next) in (m.origin, m.sound, m.value, m.bytes_are)
            | inr x ↦ let m = notice_found bytes area behind i x.0 short fits p x.1 (sym (ap g1 x.1) ∙ next) in (m.origin, m.sound, m.value, m.bytes_are)
          ]
    ]
