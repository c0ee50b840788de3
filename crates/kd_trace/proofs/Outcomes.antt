-- Answers that are read are spelled so, and those that are spelled so are read.
use Rattle.std.proofs.Common.{◌≡◌, ℕ, ◌^◌, ◌<◌, List, [], ◌∷◌, ◌++◌, length, drop, refl, sym, ap, subst, ◌∙◌, inl, inr, true, eqb, ltb, not, eqb-true, eq-eqb, append_assoc, length-append, Some, Result, Ok, Err, arith}
use Rattle.std.specs.Prelude.{is_some}
use Rattle.std.proofs.lemmas.Bool.{ltb-true, lt-ltb}
use Rattle.kd_model.proofs.Truth.{let_through, not_false, same_some}
use Rattle.std.proofs.lemmas.List.{drop_at}
use Rattle.kd_item.specs.Spelling.{Entry, word, words, number}
use Rattle.kd_item.proofs.Words.{IsBytes, IsBytes-drop, length-word, number_fits, word_again}
use Rattle.kd_types.specs.declared.reply_error.ReplyError.{ReplyError}
use Rattle.kd_wire.specs.declared.reply.Reply.{Reply}
use Rattle.kd_wire.specs.Frames.{caller_word, command_word}
use Rattle.kd_wire.specs.Replies.{code_of, reply_frame, reply_length, reply_words, tail_of}
use Rattle.kd_wire.specs.ReplyReading.{refusal_from, reply_in}
use Rattle.kd_wire.proofs.ReplyLaws.{reply_read}
use Rattle.kd_trace.specs.declared.outcome.Outcome.{Outcome}
use Rattle.kd_trace.specs.declared.outcome.Outcome.TheVariants.{Taken, Published, Gone, Freed, Visited, Refused, Slice, VisitRefused, Left, Got, Bytes}
use Rattle.kd_trace.specs.Items.{IsOutcome, IsOutcomeItem, of_words, outcome_entry}
use Rattle.kd_trace.specs.Reading.{got_in, left_by, left_in, outcome_in, plain_in, plain_of, refused_in, slice_in, visit_refused_in}
use Rattle.kd_trace.proofs.Bodies.{One, Two, Four, either, entry_is, four_again, four_back, one_again, one_back, passes, two_again, two_back}

second_fits : (k : ℕ) (body : List ℕ) → IsBytes body → number (drop k body) < 2 ^ 64
second_fits k body fits = number_fits (drop k body) (IsBytes-drop k body fits)

-- ---- what is read is spelled so

-- the item of this kind, read as this answer
abbrev Is : ℕ → ℕ → List ℕ → Outcome → Type 0
Is n kind body o = (outcome_entry n o ≡ record { kind = kind; body = body }) × IsOutcome n o

plain_is : (n k : ℕ) (o : Outcome) → plain_of k ≡ Some o → (outcome_entry n o ≡ of_words 48 (k ∷ [])) × IsOutcome n o
plain_is n k o e =
    elim (either (eqb k 1) (Some Taken) _ o e) [
      | inl h ↦ one 1 Taken h.0 h.1 refl tt
      | inr h ↦ elim (either (eqb k 2) (Some Published) _ o h.1) [
        | inl i ↦ one 2 Published i.0 i.1 refl tt
        | inr i ↦ elim (either (eqb k 3) (Some Gone) _ o i.1) [
          | inl j ↦ one 3 Gone j.0 j.1 refl tt
          | inr j ↦ elim (either (eqb k 4) (Some Freed) _ o j.1) [
            | inl l ↦ one 4 Freed l.0 l.1 refl tt
            | inr l ↦ let m = passes (eqb k 5) (Some Visited) o l.1 in one 5 Visited m.0 m.1 refl tt
          ]
        ]
      ]
    ]
  where
    one : (m : ℕ) (v : Outcome) → eqb k m ≡ true → Some v ≡ Some o → outcome_entry n v ≡ of_words 48 (m ∷ []) → IsOutcome n v → (outcome_entry n o ≡ of_words 48 (k ∷ [])) × IsOutcome n o
    one m v same is entry stands =
        subst (λ (x : Outcome). (outcome_entry n x ≡ of_words 48 (k ∷ [])) × IsOutcome n x) (same_some v o is)
        (entry ∙ ap (λ j. of_words 48 (j ∷ [])) (sym (eqb-true k m same)), stands)

plain_back : (n : ℕ) (body : List ℕ) (o : Outcome) → IsBytes body → plain_in body ≡ Some o → Is n 48 body o
plain_back n body o fits e =
    let h = passes (eqb (length body) 8) (plain_of (number body)) o e in
    let p = plain_is n (number body) o h.1 in
    (p.0 ∙ ap (λ b. record { kind = 48; body = b }) (sym (one_back body (eqb-true _ _ h.0) fits)), p.1)

refused_back : (n : ℕ) (body : List ℕ) (o : Outcome) → IsBytes body → refused_in body ≡ Some o → Is n 49 body o
refused_back n body o fits e =
    let a = number body in
    let b = number (drop 8 body) in
    let h = let_through (not (eqb (length body) 16)) _ o e in
    let i = passes (is_some (refusal_from a b)) (Some (Refused a b)) o h.1 in
    let spelled : body ≡ words (a ∷ b ∷ []) = two_back body (eqb-true _ _ (not_false _ h.0)) fits in
    subst (λ (x : Outcome). Is n 49 body x) (same_some (Refused a b) o i.1) (ap (λ l. record { kind = 49; body = l }) (sym spelled), (i.0, number_fits body fits, second_fits 8 body fits))

visit_refused_back : (n : ℕ) (body : List ℕ) (o : Outcome) → IsBytes body → visit_refused_in body ≡ Some o → Is n 51 body o
visit_refused_back n body o fits e =
    let a = number body in
    let b = number (drop 8 body) in
    let h = let_through (not (eqb (length body) 16)) _ o e in
    let i = passes (is_some (refusal_from a b)) (Some (VisitRefused a b)) o h.1 in
    let spelled : body ≡ words (a ∷ b ∷ []) = two_back body (eqb-true _ _ (not_false _ h.0)) fits in
    subst (λ (x : Outcome). Is n 51 body x) (same_some (VisitRefused a b) o i.1) (ap (λ l. record { kind = 51; body = l }) (sym spelled), (i.0, number_fits body fits, second_fits 8 body fits))

slice_back : (n : ℕ) (body : List ℕ) (o : Outcome) → IsBytes body → slice_in body ≡ Some o → Is n 50 body o
slice_back n body o fits e =
    let a = number body in
    let h = let_through (not (eqb (length body) 8)) _ o e in
    let i = passes (ltb a (2 ^ 32)) (Some (Slice a)) o h.1 in
    let spelled : body ≡ words (a ∷ []) = one_back body (eqb-true _ _ (not_false _ h.0)) fits in
    subst (λ (x : Outcome). Is n 50 body x) (same_some (Slice a) o i.1) (ap (λ l. record { kind = 50; body = l }) (sym spelled), ltb-true _ _ i.0)

got_back : (n : ℕ) (body : List ℕ) (o : Outcome) → IsBytes body → got_in body ≡ Some o → Is n 53 body o
got_back n body o fits e =
    let a = number body in
    let b = number (drop 8 body) in
    let c = number (drop 16 body) in
    let d = number (drop 24 body) in
    let h = let_through (not (eqb (length body) 32)) _ o e in
    let i = passes (ltb a (2 ^ 32)) (Some (Got a b c d)) o h.1 in
    let spelled : body ≡ words (a ∷ b ∷ c ∷ d ∷ []) = four_back body (eqb-true _ _ (not_false _ h.0)) fits in
    subst (λ (x : Outcome). Is n 53 body x) (same_some (Got a b c d) o i.1)
    (ap (λ l. record { kind = 53; body = l }) (sym spelled), (ltb-true _ _ i.0, second_fits 8 body fits, second_fits 16 body fits, second_fits 24 body fits))

left_is : (n : ℕ) (body : List ℕ) (o : Outcome) (r : Result Reply ReplyError) → IsBytes body → reply_in body ≡ r → left_by n body r ≡ Some o → Is n 52 body o
left_is n body o (Err why) fits is e = absurd cc
left_is n body o (Ok reply) fits is e =
    let h = passes (eqb (caller_word body) n) (Some (Left (command_word body) reply)) o e in
    let spelled : body ≡ reply_frame (command_word body) n reply = (reply_read body reply fits is).spelled ∙ ap (λ k. reply_frame (command_word body) k reply) (eqb-true _ _ h.0) in
    subst (λ (x : Outcome). Is n 52 body x) (same_some (Left (command_word body) reply) o h.1)
    (ap (λ l. record { kind = 52; body = l }) (sym spelled), (second_fits 8 body fits, ap reply_in (sym spelled) ∙ is))

left_back : (n : ℕ) (body : List ℕ) (o : Outcome) → IsBytes body → left_in n body ≡ Some o → Is n 52 body o
left_back n body o fits e = left_is n body o (reply_in body) fits refl e

bytes_back : (n : ℕ) (body : List ℕ) (o : Outcome) → Some (Bytes body) ≡ Some o → Is n 54 body o
bytes_back n body o e = subst (λ (x : Outcome). Is n 54 body x) (same_some (Bytes body) o e) (refl, tt)

-- what is said of the body of this kind
to_item : (n kind : ℕ) (i : Entry) (o : Outcome) → eqb i.kind kind ≡ true → Is n kind i.body o → IsOutcomeItem n i o
to_item n kind i o same is = record { spelled = entry_is i kind i.body (eqb-true _ _ same) refl ∙ sym is.0; stands = is.1 }

pub outcome_back : (n : ℕ) (i : Entry) (o : Outcome) → IsBytes i.body → outcome_in n i ≡ Some o → IsOutcomeItem n i o
unfolding outcome_in
outcome_back n i o fits e =
    elim (either (eqb i.kind 48) (plain_in i.body) _ o e) [
      | inl h ↦ to_item n 48 i o h.0 (plain_back n i.body o fits h.1)
      | inr h ↦ elim (either (eqb i.kind 49) (refused_in i.body) _ o h.1) [
        | inl j ↦ to_item n 49 i o j.0 (refused_back n i.body o fits j.1)
        | inr j ↦ elim (either (eqb i.kind 50) (slice_in i.body) _ o j.1) [
          | inl k ↦ to_item n 50 i o k.0 (slice_back n i.body o fits k.1)
          | inr k ↦ elim (either (eqb i.kind 51) (visit_refused_in i.body) _ o k.1) [
            | inl l ↦ to_item n 51 i o l.0 (visit_refused_back n i.body o fits l.1)
            | inr l ↦ elim (either (eqb i.kind 52) (left_in n i.body) _ o l.1) [
              | inl m ↦ to_item n 52 i o m.0 (left_back n i.body o fits m.1)
              | inr m ↦ elim (either (eqb i.kind 53) (got_in i.body) _ o m.1) [
                | inl p ↦ to_item n 53 i o p.0 (got_back n i.body o fits p.1)
                | inr p ↦ let q = passes (eqb i.kind 54) (Some (Bytes i.body)) o p.1 in to_item n 54 i o q.0 (bytes_back n i.body o q.1)
              ]
            ]
          ]
        ]
      ]
    ]

-- ---- what is spelled so is read

plain_again : (body : List ℕ) (k : ℕ) → One body k → plain_in body ≡ plain_of k
plain_again body k b = rw (b.len, b.first) refl

refused_again : (body : List ℕ) (code value : ℕ) → Two body code value → is_some (refusal_from code value) ≡ true → refused_in body ≡ Some (Refused code value)
refused_again body code value b is = rw (b.len, b.first, b.second, is) refl

visit_refused_again : (body : List ℕ) (code value : ℕ) → Two body code value → is_some (refusal_from code value) ≡ true → visit_refused_in body ≡ Some (VisitRefused code value)
visit_refused_again body code value b is = rw (b.len, b.first, b.second, is) refl

slice_again : (body : List ℕ) (k : ℕ) → One body k → k < 2 ^ 32 → slice_in body ≡ Some (Slice k)
slice_again body k b lt = let small : ltb k (2 ^ 32) ≡ true = lt-ltb k (2 ^ 32) lt in rw (b.len, b.first, small) refl

got_again : (body : List ℕ) (k x y z : ℕ) → Four body k x y z → k < 2 ^ 32 → got_in body ≡ Some (Got k x y z)
got_again body k x y z b lt = let small : ltb k (2 ^ 32) ≡ true = lt-ltb k (2 ^ 32) lt in rw (b.len, b.first, b.second, b.third, b.fourth, small) refl

-- the words of a reply's head
record Head (body : List ℕ) (command n : ℕ) : Type 0 where
  command_is : command_word body ≡ command
  caller_is : caller_word body ≡ n

head_again : (body : List ℕ) (command n : ℕ) (reply : Reply) → command < 2 ^ 64 → n < 2 ^ 64 → body ≡ reply_frame command n reply → Head body command n
head_again body command n reply f g e =
    let size = reply_length reply in
    let rest = word (code_of reply) ++ (words (reply_words reply) ++ tail_of reply) in
    let parts : body ≡ word size ++ (word command ++ (word n ++ rest)) = e ∙ simp append_assoc in
    let front : body ≡ (word size ++ word command) ++ (word n ++ rest) = parts ∙ sym (append_assoc (word size) (word command) (word n ++ rest)) in
    let two : length (word size ++ word command) ≡ 16 = omega (arith, length-append (word size) (word command), length-word size, length-word command) in
    let behind : drop 8 body ≡ word command ++ (word n ++ rest) = ap (drop 8) parts ∙ drop_at (word size) (word command ++ (word n ++ rest)) 8 (length-word size) in
    let after : drop 16 body ≡ word n ++ rest = ap (drop 16) front ∙ drop_at (word size ++ word command) (word n ++ rest) 16 two in
    record { command_is = ap number behind ∙ word_again command (word n ++ rest) f; caller_is = ap number after ∙ word_again n rest g }

left_again : (body : List ℕ) (n command : ℕ) (reply : Reply) → command < 2 ^ 64 → n < 2 ^ 64 → body ≡ reply_frame command n reply → reply_in body ≡ Ok reply → left_in n body ≡ Some (Left command reply)
left_again body n command reply f g e is =
    let h = head_again body command n reply f g e in
    let its : eqb (caller_word body) n ≡ true = eq-eqb (caller_word body) n h.caller_is in
    ap (left_by n body) is ∙ rw its (ap (λ k. Some (Left k reply)) h.command_is)

-- a body of words and no more
abbrev Again : ℕ → Outcome → Type 0
Again n o = outcome_in n (outcome_entry n o) ≡ Some o

small : (k : ℕ) → k < 2 ^ 32 → k < 2 ^ 64
small k lt = omega (arith, lt)

pub outcome_again : (n : ℕ) (o : Outcome) → n < 2 ^ 64 → IsOutcome n o → Again n o
unfolding outcome_in
outcome_again n Taken f s = plain_again (words (1 ∷ [])) 1 (one_again 1 _ (omega arith) refl)
outcome_again n Published f s = plain_again (words (2 ∷ [])) 2 (one_again 2 _ (omega arith) refl)
outcome_again n Gone f s = plain_again (words (3 ∷ [])) 3 (one_again 3 _ (omega arith) refl)
outcome_again n Freed f s = plain_again (words (4 ∷ [])) 4 (one_again 4 _ (omega arith) refl)
outcome_again n Visited f s = plain_again (words (5 ∷ [])) 5 (one_again 5 _ (omega arith) refl)
outcome_again n (Refused code value) f s = refused_again (words (code ∷ value ∷ [])) code value (two_again code value _ s.1 s.2 refl) s.0
outcome_again n (Slice k) f s = slice_again (words (k ∷ [])) k (one_again k _ (small k s) refl) s
outcome_again n (VisitRefused code value) f s = visit_refused_again (words (code ∷ value ∷ [])) code value (two_again code value _ s.1 s.2 refl) s.0
outcome_again n (Left command reply) f s = left_again (reply_frame command n reply) n command reply s.0 f refl s.1
outcome_again n (Got k offset len dropped) f s = got_again (words (k ∷ offset ∷ len ∷ dropped ∷ [])) k offset len dropped (four_again k offset len dropped _ (small k s.0) s.1 s.2 s.3 refl) s.0
outcome_again n (Bytes bytes) f s = refl

-- no two answers have one item
pub one_outcome : (n : ℕ) (i : Entry) (o p : Outcome) → n < 2 ^ 64 → IsOutcomeItem n i o → IsOutcomeItem n i p → o ≡ p
one_outcome n i o p f a b =
    same_some o p (sym (outcome_again n o f a.stands) ∙ ap (outcome_in n) (sym a.spelled ∙ b.spelled) ∙ outcome_again n p f b.stands)
