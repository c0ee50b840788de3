-- An image that was built reads back as what it was built from.
use Rattle.std.proofs.Common.{◌≡◌, ℕ, ◌+◌, ◌-◌, ◌%◌, ◌<◌, ◌≤◌, ◌^◌, Bool, true, eqb, if◌then◌else◌, option_map, IfOk, IfErr, ◌≢◌, List, [], ◌∷◌, ◌++◌, length, take, drop, map, Option, Some, None, Result, Ok, Err, refl, sym, ap, ◌∙◌, arith, append_assoc, length-append, ◌⊎◌, inl, inr}
use Rattle.std.specs.Int.{cast_signed, cast_unsigned, w64}
use Rattle.std.proofs.lemmas.Bool.{le-ltb, eq-eqb, eqb-true, cases_Bool}
use Rattle.std.proofs.lemmas.List.{drop_at, take_at, append-nil}
use Rattle.std.specs.Prelude.{bit_and}
use Rattle.std.proofs.lemmas.Nat.{and_le_r}
use Rattle.std.proofs.lemmas.Int.{to_z-of_z}
use Rattle.std.proofs.Math.Facts.{Fits-of_z}
use Rattle.kd_model.proofs.Truth.{option_cases}
use Rattle.kd_types.specs.declared.reply_error.ReplyError.{ReplyError}
use Rattle.kd_types.specs.declared.reply_error.ReplyError.TheVariants.{Bad, OutOfMemory}
use Rattle.kd_item.specs.Spelling.{Entry, Fits, AreItems, number, padding, spelling, spellings, words}
use Rattle.kd_item.specs.Reading.{item_at, split, placed}
use Rattle.kd_item.proofs.Sizes.{length-body, spellings_even}
use Rattle.kd_item.proofs.OneItem.{item_again}
use Rattle.kd_item.proofs.Splits.{split_again, none_at_end}
use Rattle.kd_image.specs.declared.message.Message.{Message}
use Rattle.kd_image.specs.declared.attached.Attached.{Attached}
use Rattle.kd_image.specs.declared.notice.Notice.{Notice}
use Rattle.kd_image.specs.declared.header.Header.{Header}
use Rattle.kd_image.specs.declared.image.Image.{Image}
use Rattle.kd_image.specs.Items.{Contents, contents, items}
use Rattle.kd_image.specs.declared.notice.Notice.TheVariants.{IdAdd, IdRemove, NameAdd, NameRemove, NameChange, ReplyTimeout, ReplyDead}
use Rattle.kd_image.specs.Images.{notice_item, notice_destination, notice_last, notice_image, laid, header, message_header, front_length, front, image}
use Rattle.kd_image.specs.Said.{Origin, sent, told, IsSent, IsTold, IsNotice, IsWord, IsText, IsSound, Gives, origin_bytes, image_of_origin}
use Rattle.kd_types.specs.Flags.{has_only}
use Rattle.kd_image.specs.Reading.{blank, read_on, header_break, header_of, with_item, contents_in, id_in, owners_in, is_header_of, notice_of, notice_in, notice_reading, notice_value, message_reading, message_value, behind_header, reading, payloads_from}
use Rattle.kd_image.proofs.Lengths.{length_cons, length-spelling, length-items, length-header}
use Rattle.kd_item.proofs.Words.{IsBytes}
use Rattle.kd_image.proofs.Found.{found}
use Rattle.kd_image.proofs.Again.{then_takes, number_words, behind_word, behind_next, takes, takes_all, takes_read, payloads_again}

-- an item of a message has one of seven kinds
pub data IsKind : ℕ → Type 0 where
  creds_kind : IsKind 21
  owned_kind : IsKind 22
  description_kind : IsKind 10
  moment_kind : IsKind 23
  name_kind : IsKind 3
  off_kind : IsKind 19
  shared_kind : IsKind 20

kind_is : (k n : ℕ) → IsKind n → k ≡ n → IsKind k
kind_is k n h e = rw e h

pub has_kind : (size : ℕ) (c d : Contents) (e : Entry) → with_item size c e ≡ Some d → IsKind e.kind
unfolding with_item
has_kind size c d e is =
    elim (cases_Bool (eqb e.kind 21)) [
      | inl y ↦ kind_is e.kind 21 creds_kind (eqb-true e.kind 21 y)
      | inr n1 ↦ elim (cases_Bool (eqb e.kind 22)) [
        | inl y ↦ kind_is e.kind 22 owned_kind (eqb-true e.kind 22 y)
        | inr n2 ↦ elim (cases_Bool (eqb e.kind 10)) [
          | inl y ↦ kind_is e.kind 10 description_kind (eqb-true e.kind 10 y)
          | inr n3 ↦ elim (cases_Bool (eqb e.kind 23)) [
            | inl y ↦ kind_is e.kind 23 moment_kind (eqb-true e.kind 23 y)
            | inr n4 ↦ elim (cases_Bool (eqb e.kind 3)) [
              | inl y ↦ kind_is e.kind 3 name_kind (eqb-true e.kind 3 y)
              | inr n5 ↦ elim (cases_Bool (eqb e.kind 19)) [
                | inl y ↦ kind_is e.kind 19 off_kind (eqb-true e.kind 19 y)
                | inr n6 ↦ elim (cases_Bool (eqb e.kind 20)) [
                  | inl y ↦ kind_is e.kind 20 shared_kind (eqb-true e.kind 20 y)
                  | inr n7 ↦ let never : None ≡ Some d = sym (rw (n1, n2, n3, n4, n5, n6, n7) refl) ∙ is in absurd cc
                ]
              ]
            ]
          ]
        ]
      ]
    ]

small_kind : (k : ℕ) → IsKind k → k < 2 ^ 64
small_kind k creds_kind = omega arith
small_kind k owned_kind = omega arith
small_kind k description_kind = omega arith
small_kind k moment_kind = omega arith
small_kind k name_kind = omega arith
small_kind k off_kind = omega arith
small_kind k shared_kind = omega arith

no_notice : (last k : ℕ) (body : List ℕ) → IsKind k → notice_of last (record { kind = k; body = body }) ≡ None
unfolding notice_of
no_notice last k body creds_kind = refl
no_notice last k body owned_kind = refl
no_notice last k body description_kind = refl
no_notice last k body moment_kind = refl
no_notice last k body name_kind = refl
no_notice last k body off_kind = refl
no_notice last k body shared_kind = refl

-- items that were taken in have a spelling, where they are not too long
pub are_items : (size : ℕ) (c d : Contents) (es : List Entry) → takes size c es ≡ Some d → length (spellings es) < 2 ^ 64 → AreItems es
are_items size c d [] e short = tt
are_items size c d (x ∷ es) e short =
    let parts : length (spellings (x ∷ es)) ≡ length (spelling x) + length (spellings es) = length_cons x es in
    let len : length (spelling x) ≡ 16 + length x.body + padding (16 + length x.body) = length-spelling x in
    elim (option_cases (with_item size c x)) [
      | inl none ↦ let never : None ≡ Some d = sym (ap (then_takes size es) none) ∙ e in absurd cc
      | inr some ↦ (record { kind = small_kind x.kind (has_kind size c some.0 x some.1); size = omega arith }, are_items size some.0 d es (sym (ap (then_takes size es) some.1) ∙ e) (omega arith))
    ]

-- the items of a message are read again
pub contents_again : (size : ℕ) (c : Contents) → IsTold size c → length (spellings (items size c)) < 2 ^ 64 → contents_in size (spellings (items size c)) ≡ Ok c
unfolding contents_in
contents_again size c t short =
    let taken = takes_all size c t in
    let whole : split (spellings (items size c)) ≡ (items size c, []) = split_again (items size c) (are_items size blank c (items size c) taken short) in
    ap (λ (p : List Entry × List ℕ). read_on size blank (placed 64 p.0) p.1) whole ∙ takes_read size 64 blank c (items size c) taken

first_is : (es : List Entry) (size last : ℕ) (c d : Contents) → takes size c es ≡ Some d → AreItems es
    → (item_at (spellings es) ≡ None) ⊎ ((x : Entry × List ℕ) × (item_at (spellings es) ≡ Some x) × (notice_of last x.0 ≡ None))
first_is [] size last c d e fits = inl (none_at_end [] (omega arith))
first_is (x ∷ es) size last c d e fits =
    elim (option_cases (with_item size c x)) [
      | inl none ↦ let never : None ≡ Some d = sym (ap (then_takes size es) none) ∙ e in absurd cc
      | inr some ↦ inr ((x, spellings es), item_again x (spellings es) fits.0, no_notice last x.kind x.body (has_kind size c some.0 x some.1))
    ]

-- no notice stands where a message's items do
pub no_notice_in : (h : Header) (es : List Entry) (size : ℕ) (c d : Contents) → takes size c es ≡ Some d → AreItems es → notice_in h (spellings es) ≡ None
unfolding notice_in
no_notice_in h es size c d e fits =
    let told_by : Entry × List ℕ → Option Notice → Option (Notice × List ℕ) = λ x o. elim o [ None ↦ None | Some n ↦ if is_header_of h n then Some (n, x.1) else None ] in
    let found : Option (Entry × List ℕ) → Option (Notice × List ℕ) = λ o. elim o [ None ↦ None | Some x ↦ told_by x (notice_of h.last x.0) ] in
    elim (first_is es size h.last c d e fits) [ inl none ↦ ap found none | inr x ↦ ap found x.1 ∙ ap (told_by x.0) x.2 ]

-- the eight words of a header
pub record EightWords (bytes : List ℕ) (size flags priority dst source payload_type cookie last : ℕ) : Type 0 where
  pub at0 : number bytes ≡ size
  pub at8 : number (drop 8 bytes) ≡ flags
  pub at16 : number (drop 16 bytes) ≡ priority
  pub at24 : number (drop 24 bytes) ≡ dst
  pub at32 : number (drop 32 bytes) ≡ source
  pub at40 : number (drop 40 bytes) ≡ payload_type
  pub at48 : number (drop 48 bytes) ≡ cookie
  pub at56 : number (drop 56 bytes) ≡ last

pub eight_words : (a b c d e f g h : ℕ) (rest : List ℕ) → a < 2 ^ 64 → b < 2 ^ 64 → c < 2 ^ 64 → d < 2 ^ 64 → e < 2 ^ 64 → f < 2 ^ 64 → g < 2 ^ 64 → h < 2 ^ 64
    → EightWords (words (a ∷ b ∷ c ∷ d ∷ e ∷ f ∷ g ∷ h ∷ []) ++ rest) a b c d e f g h
eight_words a b c d e f g h rest la lb lc ld le lf lg lh =
    let bytes : List ℕ = words (a ∷ b ∷ c ∷ d ∷ e ∷ f ∷ g ∷ h ∷ []) ++ rest in
    let at8 : drop 8 bytes ≡ words (b ∷ c ∷ d ∷ e ∷ f ∷ g ∷ h ∷ []) ++ rest = behind_word a (b ∷ c ∷ d ∷ e ∷ f ∷ g ∷ h ∷ []) rest in
    let at16 : drop 16 bytes ≡ words (c ∷ d ∷ e ∷ f ∷ g ∷ h ∷ []) ++ rest = behind_next 8 b bytes (c ∷ d ∷ e ∷ f ∷ g ∷ h ∷ []) rest at8 in
    let at24 : drop 24 bytes ≡ words (d ∷ e ∷ f ∷ g ∷ h ∷ []) ++ rest = behind_next 16 c bytes (d ∷ e ∷ f ∷ g ∷ h ∷ []) rest at16 in
    let at32 : drop 32 bytes ≡ words (e ∷ f ∷ g ∷ h ∷ []) ++ rest = behind_next 24 d bytes (e ∷ f ∷ g ∷ h ∷ []) rest at24 in
    let at40 : drop 40 bytes ≡ words (f ∷ g ∷ h ∷ []) ++ rest = behind_next 32 e bytes (f ∷ g ∷ h ∷ []) rest at32 in
    let at48 : drop 48 bytes ≡ words (g ∷ h ∷ []) ++ rest = behind_next 40 f bytes (g ∷ h ∷ []) rest at40 in
    let at56 : drop 56 bytes ≡ words (h ∷ []) ++ rest = behind_next 48 g bytes (h ∷ []) rest at48 in
    record {
      at0 = number_words a (b ∷ c ∷ d ∷ e ∷ f ∷ g ∷ h ∷ []) rest la;
      at8 = ap number at8 ∙ number_words b (c ∷ d ∷ e ∷ f ∷ g ∷ h ∷ []) rest lb;
      at16 = ap number at16 ∙ number_words c (d ∷ e ∷ f ∷ g ∷ h ∷ []) rest lc;
      at24 = ap number at24 ∙ number_words d (e ∷ f ∷ g ∷ h ∷ []) rest ld;
      at32 = ap number at32 ∙ number_words e (f ∷ g ∷ h ∷ []) rest le;
      at40 = ap number at40 ∙ number_words f (g ∷ h ∷ []) rest lf;
      at48 = ap number at48 ∙ number_words g (h ∷ []) rest lg;
      at56 = ap number at56 ∙ number_words h [] rest lh;
    }

pub header_again : (bytes : List ℕ) (size flags priority dst source payload_type cookie last : ℕ) → EightWords bytes size flags priority dst source payload_type cookie last
    → header_of bytes ≡ record { size = size; flags = flags; priority = priority; dst = dst; source = source; payload_type = payload_type; cookie = cookie; last = last }
header_again bytes size flags priority dst source payload_type cookie last w = rw (w.at0, w.at8, w.at16, w.at24, w.at32, w.at40, w.at48, w.at56) refl

pub header_stands : (bytes : List ℕ) (size flags priority dst source payload_type cookie last : ℕ) → EightWords bytes size flags priority dst source payload_type cookie last
    → 64 ≤ size → size ≤ length bytes → size % 8 ≡ 0 → has_only flags 7 ≡ true → header_break bytes ≡ None
unfolding header_break
header_stands bytes size flags priority dst source payload_type cookie last w low high whole known =
    rw (le-ltb (length bytes) 8 (omega arith), w.at0, le-ltb size 64 low, le-ltb (length bytes) size high, whole, w.at8, known) refl

front_whole : (c : Contents) → (64 ≤ front_length c) × (front_length c % 8 ≡ 0)
unfolding front_length
front_whole c = (omega arith, omega (arith, spellings_even (items 0 c)))

front_items : (c : Contents) → 64 + length (spellings (items (front_length c) c)) ≡ front_length c
unfolding front_length
front_items c = omega (arith, length-items (front_length c) c, length-items 0 c)

-- the items and payloads of a message, behind their header
behind_again : (h : Header) (c : Contents) (payloads : List (List ℕ)) → h.size ≡ front_length c → c.lengths ≡ map length payloads → IsTold (front_length c) c → front_length c < 2 ^ 64
    → behind_header h (spellings (items (front_length c) c)) (laid payloads) ≡ Ok (message_value h c payloads)
unfolding behind_header message_reading
behind_again h c payloads size lengths t short =
    let n : ℕ = front_length c in
    let es : List Entry = items n c in
    let small : length (spellings es) < 2 ^ 64 = omega (arith, front_items c) in
    let taken : takes n blank es ≡ Some c = takes_all n c t in
    let none : notice_in h (spellings es) ≡ None = no_notice_in h es n blank c taken (are_items n blank c es taken small) in
    let items_read : contents_in h.size (spellings es) ≡ Ok c = ap (λ (k : ℕ). contents_in k (spellings es)) size ∙ contents_again n c t small in
    let read : payloads_from [] h.size c.lengths (laid payloads) ≡ Ok payloads = ap (λ (ls : List ℕ). payloads_from [] h.size ls (laid payloads)) lengths ∙ payloads_again [] h.size payloads in
    let g1 : Option (Notice × List ℕ) → Result Image ReplyError = λ o. elim o [ Some x ↦ notice_reading h x.0 x.1 (laid payloads) | None ↦ message_reading h (spellings es) (laid payloads) ] in
    let g3 : Contents → Result (List (List ℕ)) ReplyError → Result Image ReplyError = λ k o. elim o [ Err e ↦ Err e | Ok ps ↦ Ok (message_value h k ps) ] in
    let g2 : Result Contents ReplyError → Result Image ReplyError = λ o. elim o [ Err e ↦ Err e | Ok k ↦ g3 k (payloads_from [] h.size k.lengths (laid payloads)) ] in
    ap g1 none ∙ ap g2 items_read ∙ ap (g3 c) read

-- header, items and payloads apart
reading_apart : (bytes words8 area behind : List ℕ) (h : Header) → bytes ≡ (words8 ++ area) ++ behind → length words8 ≡ 64 → number bytes ≡ 64 + length area → header_break bytes ≡ None → header_of bytes ≡ h
    → reading bytes ≡ behind_header h area behind
unfolding reading
reading_apart bytes words8 area behind h parts len size stands head =
    let whole : length (words8 ++ area) ≡ number bytes = omega (arith, length-append words8 area) in
    let taken : take (number bytes) bytes ≡ words8 ++ area = ap (take (number bytes)) parts ∙ take_at (words8 ++ area) behind (number bytes) whole in
    let middle : drop 64 (take (number bytes) bytes) ≡ area = ap (drop 64) taken ∙ drop_at words8 area 64 len in
    let tail : drop (number bytes) bytes ≡ behind = ap (drop (number bytes)) parts ∙ drop_at (words8 ++ area) behind (number bytes) whole in
    let go : Option ℕ → Result Image ReplyError = λ o. elim o [ Some at ↦ Err (Bad at) | None ↦ behind_header (header_of bytes) (drop 64 (take (number bytes) bytes)) (drop (number bytes) bytes) ] in
    ap go stands
    ∙ ap (λ (x : Header). behind_header x (drop 64 (take (number bytes) bytes)) (drop (number bytes) bytes)) head
    ∙ ap (λ (l : List ℕ). behind_header h l (drop (number bytes) bytes)) middle
    ∙ ap (behind_header h area) tail

-- flags that are known fit a word
flags_fit : (flags : ℕ) → has_only flags 7 ≡ true → flags < 2 ^ 64
flags_fit flags known =
    let same : bit_and flags 7 ≡ flags = eqb-true (bit_and flags 7) flags known in
    let small : bit_and flags 7 ≤ 7 = and_le_r flags 7 in
    omega arith

pub message_again : (m : Message) (source dst : ℕ) (a : Attached) → IsSent m source dst a → reading (image m source dst a) ≡ Ok (image_of_origin (sent m source dst a))
unfolding image front header
message_again m source dst a t =
    let c : Contents = contents m a in
    let n : ℕ = front_length c in
    let p : ℕ = cast_unsigned w64 m.priority in
    let words8 : List ℕ = words (n ∷ m.flags.0 ∷ p ∷ dst ∷ source ∷ m.payload_type ∷ m.cookie ∷ m.last ∷ []) in
    let area : List ℕ = spellings (items n c) in
    let bytes : List ℕ = (words8 ++ area) ++ laid m.payloads in
    let items_told : IsTold n c = t.items in
    let short : n < 2 ^ 64 = omega (arith, items_told.ends) in
    let flags : m.flags.0 < 2 ^ 64 = flags_fit m.flags.0 t.flags in
    let w : EightWords (words8 ++ (area ++ laid m.payloads)) n m.flags.0 p dst source m.payload_type m.cookie m.last = eight_words n m.flags.0 p dst source m.payload_type m.cookie m.last (area ++ laid m.payloads) short flags (omega (arith, Fits-of_z t.priority)) t.dst t.source t.payload_type t.cookie t.last in
    let same : bytes ≡ words8 ++ (area ++ laid m.payloads) = append_assoc words8 area (laid m.payloads) in
    let words_in : EightWords bytes n m.flags.0 p dst source m.payload_type m.cookie m.last = rw same w in
    let len : length words8 ≡ 64 = length-header n m.flags.0 p dst source m.payload_type m.cookie m.last in
    let size : 64 + length area ≡ n = front_items c in
    let low = front_whole c in
    let long : n ≤ length bytes = omega (arith, length-append (words8 ++ area) (laid m.payloads), length-append words8 area) in
    let h : Header = record { size = n; flags = m.flags.0; priority = p; dst = dst; source = source; payload_type = m.payload_type; cookie = m.cookie; last = m.last } in
    let stands : header_break bytes ≡ None = header_stands bytes n m.flags.0 p dst source m.payload_type m.cookie m.last words_in low.0 long low.1 t.flags in
    let head : header_of bytes ≡ h = header_again bytes n m.flags.0 p dst source m.payload_type m.cookie m.last words_in in
    let back : cast_signed w64 p ≡ m.priority = to_z-of_z w64 m.priority t.priority in
    reading_apart bytes words8 area (laid m.payloads) h refl len (words_in.at0 ∙ sym size) stands head ∙ behind_again h c m.payloads refl refl items_told short ∙ rw back refl

-- header and items of what can be sent, with its payloads behind them
pub built_again : (m : Message) (source dst : ℕ) (a : Attached) (size : ℕ) (bytes : List ℕ) → size ≡ front_length (contents m a)
    → bytes ≡ message_header size m source dst ++ spellings (items size (contents m a)) → IsSent m source dst a
    → reading (bytes ++ laid m.payloads) ≡ Ok (image_of_origin (sent m source dst a))
unfolding image front
built_again m source dst a size bytes len is t =
    let whole : bytes ≡ front m source dst a = is ∙ ap (λ (n : ℕ). message_header n m source dst ++ spellings (items n (contents m a))) len in
    ap (λ (l : List ℕ). reading (l ++ laid m.payloads)) whole ∙ message_again m source dst a t

-- notices
owners_again : (old new : ℕ) (name : List ℕ) → IsWord old → IsWord new → IsText name → owners_in (words (old ∷ new ∷ []) ++ name) ≡ Some (old, new, name)
unfolding owners_in
owners_again old new name o n text =
    let body : List ℕ = words (old ∷ new ∷ []) ++ name in
    let len : length body ≡ 16 + length name = length-body (old ∷ new ∷ []) name in
    let first : number body ≡ old = number_words old (new ∷ []) name o in
    let second : number (drop 8 body) ≡ new = ap number (behind_word old (new ∷ []) name) ∙ number_words new [] name n in
    let third : drop 16 body ≡ name = behind_next 8 new body [] name (behind_word old (new ∷ []) name) in
    rw (le-ltb (length body) 16 (omega arith), third, text, first, second) refl

id_again : (id : ℕ) → IsWord id → id_in (words (id ∷ []) ++ []) ≡ Some id
id_again id lt = rw (length-body (id ∷ []) [], number_words id [] [] lt) refl

notice_told : (n : Notice) → IsNotice n → notice_of (notice_last n) (notice_item n) ≡ Some n
unfolding notice_of
notice_told (IdAdd id) h = ap (option_map IdAdd) (id_again id h)
notice_told (IdRemove id) h = ap (option_map IdRemove) (id_again id h)
notice_told (NameAdd old new name) h = ap (option_map (λ o. NameAdd o.0 o.1 o.2)) (owners_again old new name h.0 h.1 h.2)
notice_told (NameRemove old new name) h = ap (option_map (λ o. NameRemove o.0 o.1 o.2)) (owners_again old new name h.0 h.1 h.2)
notice_told (NameChange old new name) h = ap (option_map (λ o. NameChange o.0 o.1 o.2)) (owners_again old new name h.0 h.1 h.2)
notice_told (ReplyTimeout cookie) h = refl
notice_told (ReplyDead cookie) h = refl

notice_header : ℕ → Notice → ℕ → Header
notice_header size n dst = record { size = size; flags = 0; priority = 0; dst = notice_destination n dst; source = 0; payload_type = 0; cookie = 0; last = notice_last n }

own_header : (size : ℕ) (n : Notice) (dst : ℕ) → is_header_of (notice_header size n dst) n ≡ true
unfolding notice_header
own_header size (IdAdd id) dst = refl
own_header size (IdRemove id) dst = refl
own_header size (NameAdd old new name) dst = refl
own_header size (NameRemove old new name) dst = refl
own_header size (NameChange old new name) dst = refl
own_header size (ReplyTimeout cookie) dst = rw (eq-eqb dst dst refl, eq-eqb cookie cookie refl) refl
own_header size (ReplyDead cookie) dst = rw (eq-eqb dst dst refl, eq-eqb cookie cookie refl) refl

-- the item of a notice has a spelling
notice_kind : (n : Notice) → (notice_item n).kind < 2 ^ 64
notice_kind (IdAdd id) = omega arith
notice_kind (IdRemove id) = omega arith
notice_kind (NameAdd old new name) = omega arith
notice_kind (NameRemove old new name) = omega arith
notice_kind (NameChange old new name) = omega arith
notice_kind (ReplyTimeout cookie) = omega arith
notice_kind (ReplyDead cookie) = omega arith

notice_fits : (n : Notice) → IsWord (64 + length (spelling (notice_item n))) → Fits (notice_item n)
notice_fits n short =
    let it : Entry = notice_item n in
    let len : length (spelling it) ≡ 16 + length it.body + (8 - (16 + length it.body) % 8) % 8 = length-spelling it in
    record { kind = notice_kind n; size = omega arith }

notice_words : (n : Notice) (dst : ℕ) → IsNotice n → IsWord dst → IsWord (notice_destination n dst) × IsWord (notice_last n)
notice_words (IdAdd id) dst h w = (omega arith, omega arith)
notice_words (IdRemove id) dst h w = (omega arith, omega arith)
notice_words (NameAdd old new name) dst h w = (omega arith, omega arith)
notice_words (NameRemove old new name) dst h w = (omega arith, omega arith)
notice_words (NameChange old new name) dst h w = (omega arith, omega arith)
notice_words (ReplyTimeout cookie) dst h w = (w, h)
notice_words (ReplyDead cookie) dst h w = (w, h)

-- one item behind its header
notice_behind : (h : Header) (n : Notice) → Fits (notice_item n) → notice_of h.last (notice_item n) ≡ Some n → is_header_of h n ≡ true → behind_header h (spelling (notice_item n)) [] ≡ Ok (notice_value h n)
unfolding behind_header notice_in notice_reading
notice_behind h n fits is own =
    let it : Entry = notice_item n in
    let told_by : Entry × List ℕ → Option Notice → Option (Notice × List ℕ) = λ x o. elim o [ None ↦ None | Some k ↦ if is_header_of h k then Some (k, x.1) else None ] in
    let found : Option (Entry × List ℕ) → Option (Notice × List ℕ) = λ o. elim o [ None ↦ None | Some x ↦ told_by x (notice_of h.last x.0) ] in
    let chosen : Bool → Option (Notice × List ℕ) = λ b. if b then Some (n, []) else None in
    let first : item_at (spelling it) ≡ Some (it, []) = ap item_at (sym (append-nil (spelling it))) ∙ item_again it [] fits in
    let whole : notice_in h (spelling it) ≡ Some (n, []) = ap found first ∙ ap (told_by (it, [])) is ∙ ap chosen own in
    let go : Option (Notice × List ℕ) → Result Image ReplyError = λ o. elim o [ Some x ↦ notice_reading h x.0 x.1 [] | None ↦ message_reading h (spelling it) [] ] in
    ap go whole

pub notice_again : (n : Notice) (dst : ℕ) → IsNotice n → IsWord dst → IsWord (64 + length (spelling (notice_item n))) → reading (notice_image n dst) ≡ Ok (image_of_origin (told n dst))
unfolding notice_image notice_header
notice_again n dst h w short =
    let it : Entry = notice_item n in
    let size : ℕ = 64 + length (spelling it) in
    let to : ℕ = notice_destination n dst in
    let last : ℕ = notice_last n in
    let words8 : List ℕ = words (size ∷ 0 ∷ 0 ∷ to ∷ 0 ∷ 0 ∷ 0 ∷ last ∷ []) in
    let bytes : List ℕ = words8 ++ spelling it in
    let fits = notice_fits n short in
    let ends = notice_words n dst h w in
    let len : length (spelling it) ≡ 16 + length it.body + (8 - (16 + length it.body) % 8) % 8 = length-spelling it in
    let whole : size % 8 ≡ 0 = omega (arith, len) in
    let e : EightWords bytes size 0 0 to 0 0 0 last = eight_words size 0 0 to 0 0 0 last (spelling it) short (omega arith) (omega arith) ends.0 (omega arith) (omega arith) (omega arith) ends.1 in
    let eight : length words8 ≡ 64 = length-header size 0 0 to 0 0 0 last in
    let total : length bytes ≡ size = omega (arith, eight, length-append words8 (spelling it)) in
    let stands : header_break bytes ≡ None = header_stands bytes size 0 0 to 0 0 0 last e (omega arith) (omega arith) whole refl in
    let head : header_of bytes ≡ notice_header size n dst = header_again bytes size 0 0 to 0 0 0 last e in
    let apart = reading_apart bytes words8 (spelling it) [] (notice_header size n dst) (sym (append-nil bytes)) eight e.at0 stands head in
    apart ∙ notice_behind (notice_header size n dst) n fits (notice_told n h) (own_header size n dst) ∙ rw total refl

-- whatever was built reads back as what it was built from
pub origin_again : (o : Origin) → IsSound o → reading (origin_bytes o) ≡ Ok (image_of_origin o)
origin_again (sent m source dst a) h = message_again m source dst a h
origin_again (told n dst) h = notice_again n dst h.0 h.1 h.2

pub gives : (r : Result Image ReplyError) (bytes : List ℕ) (o : Origin) → IfOk r (λ i. reading bytes ≡ Ok i) → IfErr r (λ e. e ≢ OutOfMemory → reading bytes ≡ Err e)
    → IsSound o → bytes ≡ origin_bytes o → Gives r (image_of_origin o)
gives (Ok i) bytes o read refused sound is =
    let same : Ok i ≡ Ok (image_of_origin o) = sym read ∙ ap reading is ∙ origin_again o sound in
    cc
gives (Err OutOfMemory) bytes o read refused sound is = refl
gives (Err (Bad at)) bytes o read refused sound is =
    let never : Err (Bad at) ≡ Ok (image_of_origin o) = sym (refused (λ e. absurd cc)) ∙ ap reading is ∙ origin_again o sound in
    absurd cc

-- what was read was made so
pub found_by : (r : Result Image ReplyError) (bytes : List ℕ) → length bytes < 2 ^ 64 → IsBytes bytes → IfOk r (λ i. reading bytes ≡ Ok i) → IfOk r (λ i. (o : Origin) × IsSound o × (i ≡ image_of_origin o) × (bytes ≡ origin_bytes o))
found_by (Ok i) bytes short fits is = found bytes i short fits is
found_by (Err e) bytes short fits is = is
