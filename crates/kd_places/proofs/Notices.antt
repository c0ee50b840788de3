-- Notices by their items and their headers.
use Rattle.std.proofs.Common.{◌≡◌, ℕ, ◌+◌, ◌%◌, ◌<◌, ◌≤◌, ◌^◌, Bool, true, cond, eqb, ltb, List, [], ◌∷◌, ◌++◌, length, drop, Option, Some, None, option_map, refl, sym, ap, subst, ◌∙◌, arith, inl, inr}
use Rattle.std.specs.Prelude.{◌&&◌, ◌-◌}
use Rattle.std.specs.Str.{is_utf8}
use Rattle.std.proofs.lemmas.Option.{cond_some}
use Rattle.std.proofs.lemmas.Bool.{and_parts, cases_Bool, eq-eqb, eqb-true, le-ltb, ltb-false}
use Rattle.kd_model.proofs.Truth.{let_through, same_some}
use Rattle.kd_types.specs.Words.{is_empty}
use Rattle.kd_item.specs.Spelling.{Entry, Fits, number, spelling, words}
use Rattle.kd_item.proofs.Sizes.{length-body, length-spelling}
use Rattle.kd_item.proofs.Words.{IsBytes, IsBytes-drop, number_fits}
use Rattle.kd_image.specs.declared.notice.Notice.{Notice}
use Rattle.kd_image.specs.declared.notice.Notice.TheVariants.{IdAdd, IdRemove, NameAdd, NameRemove, NameChange, ReplyTimeout, ReplyDead}
use Rattle.kd_image.specs.Images.{notice_destination, notice_item, notice_last}
use Rattle.kd_image.specs.Reading.{header_of, id_in, is_header_of, notice_of, owners_in}
use Rattle.kd_image.specs.Said.{IsNotice, IsText, IsWord}
use Rattle.kd_image.proofs.Again.{behind_next, behind_word, number_words}
use Rattle.kd_image.proofs.Sound.{empty_is, one_number, two_numbers}
use Rattle.kd_places.specs.Whole.{HeadNotice}

-- ---- an item that says a notice is its item

item_is : (e : Entry) (k : ℕ) (b : List ℕ) → e.kind ≡ k → e.body ≡ b → e ≡ record { kind = k; body = b }
item_is e k b ek eb = rw (← ek, ← eb) refl

id_is : (body : List ℕ) (id : ℕ) → IsBytes body → id_in body ≡ Some id → (body ≡ words (id ∷ []) ++ []) × IsWord id
id_is body id fits is =
    let a = cond_some (eqb (length body) 8) (number body) id is in
    let len : length body ≡ 8 = eqb-true (length body) 8 a.0 in
    subst (λ (k : ℕ). (body ≡ words (k ∷ []) ++ []) × IsWord k) a.1 (one_number body len fits, number_fits body fits)

owners_are : (body : List ℕ) (o : ℕ × ℕ × List ℕ) → IsBytes body → owners_in body ≡ Some o → (body ≡ words (o.0 ∷ o.1 ∷ []) ++ o.2) × IsWord o.0 × IsWord o.1 × IsText o.2
unfolding owners_in
owners_are body o fits is =
    let a = let_through (ltb (length body) 16) _ o is in
    let long : 16 ≤ length body = ltb-false (length body) 16 a.0 in
    let b = cond_some (is_utf8 (drop 16 body)) (number body, number (drop 8 body), drop 16 body) o a.1 in
    subst (λ (k : ℕ × ℕ × List ℕ). (body ≡ words (k.0 ∷ k.1 ∷ []) ++ k.2) × IsWord k.0 × IsWord k.1 × IsText k.2) b.1
    (two_numbers body (drop 16 body) long fits refl, number_fits body fits, number_fits (drop 8 body) (IsBytes-drop 8 body fits), b.0)

-- what an item says as a notice
pub record Says (e : Entry) (n : Notice) : Type 0 where
  pub item : e ≡ notice_item n
  pub sound : IsNotice n

map_some : {A B : Type 0} (f : A → B) (o : Option A) (y : B) → option_map f o ≡ Some y → (x : A) × (o ≡ Some x) × (f x ≡ y)
map_some f None y e = absurd cc
map_some f (Some x) y e = (x, refl, same_some (f x) y e)

pub says : (last : ℕ) (e : Entry) (n : Notice) → IsBytes e.body → IsWord last → notice_of last e ≡ Some n → Says e n
unfolding notice_of
says last e n fits w is =
    elim (cases_Bool (eqb e.kind 12)) [
      | inl y ↦
          let o : notice_of last e ≡ option_map IdAdd (id_in e.body) = rw y refl in
          let m = map_some IdAdd (id_in e.body) n (sym o ∙ is) in
          let b = id_is e.body m.0 fits m.1 in
          subst (Says e) m.2 (record { item = item_is e 12 (words (m.0 ∷ []) ++ []) (eqb-true e.kind 12 y) b.0; sound = b.1 })
      | inr n1 ↦ elim (cases_Bool (eqb e.kind 13)) [
        | inl y ↦
            let o : notice_of last e ≡ option_map IdRemove (id_in e.body) = rw (n1, y) refl in
            let m = map_some IdRemove (id_in e.body) n (sym o ∙ is) in
            let b = id_is e.body m.0 fits m.1 in
            subst (Says e) m.2 (record { item = item_is e 13 (words (m.0 ∷ []) ++ []) (eqb-true e.kind 13 y) b.0; sound = b.1 })
        | inr n2 ↦ elim (cases_Bool (eqb e.kind 14)) [
          | inl y ↦
              let f : ℕ × ℕ × List ℕ → Notice = λ o. NameAdd o.0 o.1 o.2 in
              let o : notice_of last e ≡ option_map f (owners_in e.body) = rw (n1, n2, y) refl in
              let m = map_some f (owners_in e.body) n (sym o ∙ is) in
              let b = owners_are e.body m.0 fits m.1 in
              subst (Says e) m.2 (record { item = item_is e 14 (words (m.0.0 ∷ m.0.1 ∷ []) ++ m.0.2) (eqb-true e.kind 14 y) b.0; sound = (b.1, b.2, b.3) })
          | inr n3 ↦ elim (cases_Bool (eqb e.kind 15)) [
            | inl y ↦
                let f : ℕ × ℕ × List ℕ → Notice = λ o. NameRemove o.0 o.1 o.2 in
                let o : notice_of last e ≡ option_map f (owners_in e.body) = rw (n1, n2, n3, y) refl in
                let m = map_some f (owners_in e.body) n (sym o ∙ is) in
                let b = owners_are e.body m.0 fits m.1 in
                subst (Says e) m.2 (record { item = item_is e 15 (words (m.0.0 ∷ m.0.1 ∷ []) ++ m.0.2) (eqb-true e.kind 15 y) b.0; sound = (b.1, b.2, b.3) })
            | inr n4 ↦ elim (cases_Bool (eqb e.kind 16)) [
              | inl y ↦
                  let f : ℕ × ℕ × List ℕ → Notice = λ o. NameChange o.0 o.1 o.2 in
                  let o : notice_of last e ≡ option_map f (owners_in e.body) = rw (n1, n2, n3, n4, y) refl in
                  let m = map_some f (owners_in e.body) n (sym o ∙ is) in
                  let b = owners_are e.body m.0 fits m.1 in
                  subst (Says e) m.2 (record { item = item_is e 16 (words (m.0.0 ∷ m.0.1 ∷ []) ++ m.0.2) (eqb-true e.kind 16 y) b.0; sound = (b.1, b.2, b.3) })
              | inr n5 ↦ elim (cases_Bool (eqb e.kind 17)) [
                | inl y ↦
                    let o : notice_of last e ≡ cond (is_empty e.body) (Some (ReplyTimeout last)) None = rw (n1, n2, n3, n4, n5, y) refl in
                    let m = cond_some (is_empty e.body) (ReplyTimeout last) n (sym o ∙ is) in
                    subst (Says e) m.1 (record { item = item_is e 17 [] (eqb-true e.kind 17 y) (empty_is e.body m.0); sound = w })
                | inr n6 ↦ elim (cases_Bool (eqb e.kind 18)) [
                  | inl y ↦
                      let o : notice_of last e ≡ cond (is_empty e.body) (Some (ReplyDead last)) None = rw (n1, n2, n3, n4, n5, n6, y) refl in
                      let m = cond_some (is_empty e.body) (ReplyDead last) n (sym o ∙ is) in
                      subst (Says e) m.1 (record { item = item_is e 18 [] (eqb-true e.kind 18 y) (empty_is e.body m.0); sound = w })
                  | inr n7 ↦ let o : notice_of last e ≡ None = rw (n1, n2, n3, n4, n5, n6, n7) refl in let never : None ≡ Some n = sym o ∙ is in absurd cc
                ]
              ]
            ]
          ]
        ]
      ]
    ]

-- ---- and is read again

owners_again : (old new : ℕ) (name : List ℕ) → IsWord old → IsWord new → IsText name → owners_in (words (old ∷ new ∷ []) ++ name) ≡ Some (old, new, name)
unfolding owners_in
owners_again old new name o n text =
    let body : List ℕ = words (old ∷ new ∷ []) ++ name in
    let len : length body ≡ 16 + length name = length-body (old ∷ new ∷ []) name in
    let first : number body ≡ old = number_words old (new ∷ []) name o in
    let second : number (drop 8 body) ≡ new = ap number (behind_word old (new ∷ []) name) ∙ number_words new [] name n in
    let third : drop 16 body ≡ name = behind_next 8 new body [] name (behind_word old (new ∷ []) name) in
    rw (le-ltb (length body) 16 (omega arith), third, text, first, second) refl

id_again : (id : ℕ) → IsWord id → id_in (words (id ∷ []) ++ []) ≡ Some id
id_again id lt = rw (length-body (id ∷ []) [], number_words id [] [] lt) refl

pub notice_told : (n : Notice) → IsNotice n → notice_of (notice_last n) (notice_item n) ≡ Some n
unfolding notice_of
notice_told (IdAdd id) h = ap (option_map IdAdd) (id_again id h)
notice_told (IdRemove id) h = ap (option_map IdRemove) (id_again id h)
notice_told (NameAdd old new name) h = ap (option_map (λ o. NameAdd o.0 o.1 o.2)) (owners_again old new name h.0 h.1 h.2)
notice_told (NameRemove old new name) h = ap (option_map (λ o. NameRemove o.0 o.1 o.2)) (owners_again old new name h.0 h.1 h.2)
notice_told (NameChange old new name) h = ap (option_map (λ o. NameChange o.0 o.1 o.2)) (owners_again old new name h.0 h.1 h.2)
notice_told (ReplyTimeout cookie) h = refl
notice_told (ReplyDead cookie) h = refl

-- the item of a notice has a spelling
notice_kind : (n : Notice) → (notice_item n).kind < 2 ^ 64
notice_kind (IdAdd id) = omega arith
notice_kind (IdRemove id) = omega arith
notice_kind (NameAdd old new name) = omega arith
notice_kind (NameRemove old new name) = omega arith
notice_kind (NameChange old new name) = omega arith
notice_kind (ReplyTimeout cookie) = omega arith
notice_kind (ReplyDead cookie) = omega arith

pub notice_fits : (n : Notice) → IsWord (64 + length (spelling (notice_item n))) → Fits (notice_item n)
notice_fits n short =
    let it : Entry = notice_item n in
    let len : length (spelling it) ≡ 16 + length it.body + (8 - (16 + length it.body) % 8) % 8 = length-spelling it in
    record { kind = notice_kind n; size = omega arith }

-- ---- headers

pub head_is : (bytes : List ℕ) (n : Notice) → is_header_of (header_of bytes) n ≡ true → HeadNotice bytes n
head_is bytes n e =
    let h = header_of bytes in
    let a = and_parts (eqb h.flags 0) _ e in
    let b = and_parts (eqb h.priority 0) _ a.1 in
    let c = and_parts (eqb h.source 0) _ b.1 in
    let d = and_parts (eqb h.payload_type 0) _ c.1 in
    let f = and_parts (eqb h.cookie 0) _ d.1 in
    let g = and_parts (eqb h.dst (notice_destination n h.dst)) (eqb h.last (notice_last n)) f.1 in
    record {
      flags = eqb-true h.flags 0 a.0;
      priority = eqb-true h.priority 0 b.0;
      source = eqb-true h.source 0 c.0;
      payload_type = eqb-true h.payload_type 0 d.0;
      cookie = eqb-true h.cookie 0 f.0;
      dst = eqb-true h.dst (notice_destination n h.dst) g.0;
      last = eqb-true h.last (notice_last n) g.1;
    }

all_hold : (a b c d e f g : Bool) → a ≡ true → b ≡ true → c ≡ true → d ≡ true → e ≡ true → f ≡ true → g ≡ true → (a && (b && (c && (d && (e && (f && g)))))) ≡ true
all_hold a b c d e f g p q r s t u v = rw (p, q, r, s, t, u, v) refl

pub is_head : (bytes : List ℕ) (n : Notice) → HeadNotice bytes n → is_header_of (header_of bytes) n ≡ true
is_head bytes n w =
    let h = header_of bytes in
    all_hold (eqb h.flags 0) (eqb h.priority 0) (eqb h.source 0) (eqb h.payload_type 0) (eqb h.cookie 0) (eqb h.dst (notice_destination n h.dst)) (eqb h.last (notice_last n))
    (eq-eqb h.flags 0 w.flags) (eq-eqb h.priority 0 w.priority) (eq-eqb h.source 0 w.source) (eq-eqb h.payload_type 0 w.payload_type) (eq-eqb h.cookie 0 w.cookie)
    (eq-eqb h.dst (notice_destination n h.dst) w.dst) (eq-eqb h.last (notice_last n) w.last)
