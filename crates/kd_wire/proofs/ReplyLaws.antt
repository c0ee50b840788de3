-- A reply that is read is the reply that the bytes spell.
use Rattle.std.proofs.Common.{◌≡◌, ℕ, zero, suc, ◌+◌, ◌*◌, ◌-◌, ◌/◌, ◌<◌, ◌≤◌, Bool, true, false, cond, not, ◌&&◌, eqb, ltb, leb, List, [], ◌∷◌, ◌++◌, length, take, drop, replicate, Option, Some, None, Result, Ok, Err, refl, sym, ap, subst, ◌∙◌, append_assoc, length-drop, eq-eqb, arith, inl, inr}
use Rattle.std.specs.Str.{is_utf8}
use Rattle.std.proofs.lemmas.Bool.{eqb-true, eqb-false, ne_eqb, ltb-false, leb-true}
use Rattle.std.proofs.lemmas.List.{append-nil, nil_from_length, take-append-drop, drop-drop, length-take-le}
use Rattle.kd_model.proofs.Truth.{not_false, both_true, option_cases, same_some, let_through}
use Rattle.kd_item.specs.Spelling.{Entry, words, number, padding, spelling}
use Rattle.kd_item.specs.Reading.{item_at, are_zeros}
use Rattle.kd_item.proofs.Zeros.{zeros_back}
use Rattle.kd_item.proofs.Words.{IsBytes, IsBytes-drop, IsBytes-front}
use Rattle.kd_item.proofs.Splits.{item_takes}
use Rattle.kd_item.proofs.Sizes.{length-body, body_bytes}
use Rattle.kd_types.specs.declared.reply_error.ReplyError.{ReplyError}
use Rattle.kd_types.specs.declared.reply_error.ReplyError.TheVariants.{Bad}
use Rattle.kd_types.specs.declared.refusal.Refusal.{Refusal}
use Rattle.kd_types.specs.declared.refusal.Refusal.TheVariants.{Malformed, Unsupported, BadFlags, MissingItem, DoubledItem, BadName, NotPermitted, NoSuchName, NoSuchConnection, NameMoved, NameTaken, AlreadyOwned, NotOwner, TooMany, PoolFull, Quota, NotStarted, NoMessage, NoSuchPriority, NoSuchSlice, NotReceived, Busy, BloomSize, TooLong, BroadcastMisuse, NoSuchBus, BusExists, WrongPrefix, NoSuchEndpoint, EndpointExists, WrongState, MessagesQueued, NoSuchMatch, NoSuchSeal, BadCookie, SlicesSpent, TurnsSpent}
use Rattle.kd_types.specs.Refusal as refusals
use Rattle.kd_wire.specs.declared.opcode.Opcode.{Opcode}
use Rattle.kd_wire.specs.declared.opcode.Opcode.TheVariants as opcodes
use Rattle.kd_wire.specs.declared.reply.ListedItem.{ListedItem}
use Rattle.kd_wire.specs.declared.reply.Reply.{Reply}
use Rattle.kd_wire.specs.declared.reply.Reply.TheVariants.{Hello, Send, Recv, Read, Free, Byebye, Close, NameAcquire, NameRelease, NameList, MatchAdd, MatchRemove, PolicySet, EndpointMake, MakeBus, Tick, Seal, Unseal, Enter, Refused}
use Rattle.kd_wire.specs.Opcodes.{opcode_number, opcode_of}
use Rattle.kd_wire.specs.Frames.{command_word, caller_word}
use Rattle.kd_wire.specs.Refusals.{words_from}
use Rattle.kd_wire.specs.Replies.{listed_entry, listing_bytes, code_of, reply_words, tail_of, reply_length, reply_frame, IsReplyTo}
use Rattle.kd_wire.specs.ReplyReading.{code_word, head_break, words_break, unbroken, with_words, acquired_in, run_of, read_in, line_in, lines_in, listed_reply, listing_in, answer_in, bare_refusal, refusal_from, if_alone, refused_in, done_in, behind_head, head_then, reply_in}
use Rattle.kd_wire.proofs.WordLaws.{words_back, words_split}

-- what stands behind the head of the bytes is the rest of this reply
pub record Body (bytes : List ℕ) (command code : ℕ) (reply : Reply) : Type 0 where
  pub rest : drop 32 bytes ≡ words (reply_words reply) ++ tail_of reply
  pub code_is : code_of reply ≡ code
  pub answers : IsReplyTo command reply

abbrev done : Reply → Result Reply ReplyError
done reply = Ok reply

abbrev broken : ℕ → Result Reply ReplyError
broken at = Err (Bad at)

done_is : (x y : Reply) → done x ≡ done y → x ≡ y
done_is x y e = cc

-- a test that let an answer through
past : (b : Bool) (at : ℕ) (r : Result Reply ReplyError) (reply : Reply) → cond b (broken at) r ≡ Ok reply → (b ≡ false) × (r ≡ Ok reply)
past true at r reply e = absurd cc
past false at r reply e = (refl, e)

no_place : (b : Bool) (at : ℕ) (o : Option ℕ) → cond b (Some at) o ≡ None → (b ≡ false) × (o ≡ None)
no_place true at o e = absurd cc
no_place false at o e = (refl, e)

-- ---- words alone

words_done : (o : Option ℕ) (reply r : Reply) → unbroken o reply ≡ Ok r → (o ≡ None) × (reply ≡ r)
words_done None reply r e = (refl, done_is reply r e)
words_done (Some at) reply r e = absurd cc

exact_length : (k : ℕ) (bytes : List ℕ) → words_break k bytes ≡ None → length bytes ≡ 32 + 8 * k
exact_length k bytes e =
    let a = no_place (ltb (length bytes) (32 + 8 * k)) (32 + 8 * ((length bytes - 32) / 8)) _ e in
    let b = no_place (ltb (32 + 8 * k) (length bytes)) (32 + 8 * k) None a.1 in
    let low : 32 + 8 * k ≤ length bytes = ltb-false _ _ a.0 in
    let high : length bytes ≤ 32 + 8 * k = ltb-false _ _ b.0 in
    omega arith

words_rest : (k : ℕ) (bytes : List ℕ) → IsBytes bytes → length bytes ≡ 32 + 8 * k → drop 32 bytes ≡ words (words_from k 32 bytes) ++ []
words_rest k bytes fits len =
    let own = drop 32 bytes in
    let own_len : length own ≡ 8 * k = omega (arith, length-drop 32 bytes) in
    let nothing : drop (8 * k) own ≡ [] = nil_from_length (drop (8 * k) own) (omega (arith, length-drop (8 * k) own)) in
    sym (ap (λ (l : List ℕ). l ++ []) (words_back k 32 bytes (omega arith) fits) ∙ ap (λ (l : List ℕ). take (8 * k) own ++ l) (sym nothing) ∙ take-append-drop (8 * k) own)

words_say : (k : ℕ) (bytes : List ℕ) (command : ℕ) (reply r : Reply) → IsBytes bytes → reply_words reply ≡ words_from k 32 bytes → tail_of reply ≡ [] → code_of reply ≡ 0 → IsReplyTo command reply → with_words k bytes reply ≡ Ok r → Body bytes command 0 r
words_say k bytes command reply r fits own tail code answers e =
    let a = words_done (words_break k bytes) reply r e in
    let rest = words_rest k bytes fits (exact_length k bytes a.0) in
    subst (λ x. Body bytes command 0 x) a.1 (record { rest = rest ∙ rw (own, tail) refl; code_is = code; answers = answers })

two_values : (n : ℕ) → 1 ≤ n → n ≤ 2 → cond (eqb n 2) 2 1 ≡ n
two_values zero low high = absurd (omega arith)
two_values (suc zero) low high = refl
two_values (suc (suc zero)) low high = refl
two_values (suc (suc (suc n))) low high = absurd (omega arith)

acquired_says : (bytes : List ℕ) (r : Reply) → IsBytes bytes → acquired_in bytes ≡ Ok r → Body bytes (opcode_number opcodes.NameAcquire) 0 r
acquired_says bytes r fits e =
    let n = number (drop 32 bytes) in
    let a = past (ltb (length bytes) 40) 32 _ r e in
    let b = past (not (leb 1 n && leb n 2)) 32 _ r a.1 in
    let c = past (ltb 40 (length bytes)) 40 _ r b.1 in
    let both = both_true (leb 1 n) (leb n 2) (not_false _ b.0) in
    let value : cond (eqb n 2) 2 1 ≡ n = two_values n (leb-true _ _ both.0) (leb-true _ _ both.1) in
    let low : 40 ≤ length bytes = ltb-false _ _ a.0 in
    let high : length bytes ≤ 40 = ltb-false _ _ c.0 in
    let rest = words_rest 1 bytes fits (omega arith) in
    subst (λ x. Body bytes (opcode_number opcodes.NameAcquire) 0 x) (done_is (NameAcquire (eqb n 2)) r c.1) (record { rest = rest ∙ ap (λ k. words (k ∷ []) ++ []) (sym value); code_is = refl; answers = refl })

-- ---- bytes

front_word : (bytes : List ℕ) → IsBytes bytes → 40 ≤ length bytes → drop 32 bytes ≡ words (number (drop 32 bytes) ∷ []) ++ drop 40 bytes
front_word bytes fits long =
    sym (ap (λ (l : List ℕ). words (number (drop 32 bytes) ∷ []) ++ l) (sym (drop-drop 8 32 bytes)) ∙ words_split 1 (drop 32 bytes) (omega (arith, length-drop 32 bytes)) (IsBytes-drop 32 bytes fits))

run_says : (count : ℕ) (rest : List ℕ) (r : Reply) → run_of count rest ≡ Ok r → (run : List ℕ) × (r ≡ Read run) × (length run ≡ count) × (rest ≡ run ++ replicate (padding (length run)) 0)
run_says count rest r e =
    let zs = take (padding count) (drop count rest) in
    let a = past (ltb (length rest) count) 40 _ r e in
    let b = past (ltb (length rest) (count + padding count)) 40 _ r a.1 in
    let c = past (not (are_zeros zs)) 40 _ r b.1 in
    let d = past (ltb (count + padding count) (length rest)) (40 + count + padding count) _ r c.1 in
    let low : count + padding count ≤ length rest = ltb-false _ _ b.0 in
    let high : length rest ≤ count + padding count = ltb-false _ _ d.0 in
    let run = take count rest in
    let len : length run ≡ count = length-take-le count rest (omega arith) in
    let fill : length zs ≡ padding count = length-take-le (padding count) (drop count rest) (omega (arith, length-drop count rest)) in
    let nothing : drop (padding count) (drop count rest) ≡ [] = nil_from_length (drop (padding count) (drop count rest)) (omega (arith, length-drop (padding count) (drop count rest), length-drop count rest)) in
    let all : zs ≡ drop count rest = sym (append-nil zs) ∙ ap (λ (l : List ℕ). zs ++ l) (sym nothing) ∙ take-append-drop (padding count) (drop count rest) in
    let zeros : zs ≡ replicate (padding (length run)) 0 = zeros_back zs (not_false (are_zeros zs) c.0) ∙ ap (λ n. replicate n 0) (fill ∙ ap padding (sym len)) in
    (run, sym (done_is (Read run) r d.1), len, sym (ap (λ (l : List ℕ). run ++ l) (sym zeros ∙ all) ∙ take-append-drop count rest))

read_says : (bytes : List ℕ) (r : Reply) → IsBytes bytes → read_in bytes ≡ Ok r → Body bytes (opcode_number opcodes.Read) 0 r
read_says bytes r fits e =
    let n = number (drop 32 bytes) in
    let a = past (ltb (length bytes) 40) 32 _ r e in
    let s = run_says n (drop 40 bytes) r a.1 in
    let front = front_word bytes fits (ltb-false _ _ a.0) in
    let rest : drop 32 bytes ≡ words (length s.0 ∷ []) ++ (s.0 ++ replicate (padding (length s.0)) 0) = front ∙ ap (λ k. words (k ∷ []) ++ drop 40 bytes) (sym s.2) ∙ ap (λ (l : List ℕ). words (length s.0 ∷ []) ++ l) s.3 in
    subst (λ x. Body bytes (opcode_number opcodes.Read) 0 x) (sym s.1) (record { rest = rest; code_is = refl; answers = refl })

-- ---- lines

a_line : (b : Bool) (made line : ListedItem) → cond b (Some made) None ≡ Some line → (b ≡ true) × (made ≡ line)
a_line true made line e = (refl, cc)
a_line false made line e = absurd cc

abbrev the_line : ℕ → List ℕ → Entry
the_line kind body = record { kind = kind; body = body }

line_says : (e : Entry) (line : ListedItem) → IsBytes e.body → line_in e ≡ Some line → listed_entry line ≡ e
unfolding line_in
line_says e line fits h =
    let a = let_through (not (eqb e.kind 24)) _ line h in
    let b = let_through (ltb (length e.body) 16) _ line a.1 in
    let made : ListedItem = record { id = number e.body; standing = number (drop 8 e.body); name = drop 16 e.body } in
    let c = a_line (is_utf8 (drop 16 e.body)) made line b.1 in
    let kind : e.kind ≡ 24 = eqb-true _ _ (not_false _ a.0) in
    let long : 16 ≤ length e.body = ltb-false _ _ b.0 in
    let body : words (number e.body ∷ number (drop 8 e.body) ∷ []) ++ drop 16 e.body ≡ e.body = words_split 2 e.body (omega arith) fits in
    let same : listed_entry made ≡ e = ap (λ (l : List ℕ). the_line 24 l) body ∙ ap (λ k. the_line k e.body) (sym kind) in
    subst (λ x. listed_entry x ≡ e) c.1 same

abbrev lines_done : List ListedItem → Result (List ListedItem) ReplyError
lines_done lines = Ok lines

abbrev lines_broken : ℕ → Result (List ListedItem) ReplyError
lines_broken at = Err (Bad at)

lines_are : (x y : List ListedItem) → lines_done x ≡ lines_done y → x ≡ y
lines_are x y e = cc

lines_end : (b : Bool) (at : ℕ) (before lines : List ListedItem) → cond b (lines_done before) (lines_broken at) ≡ Ok lines → (b ≡ true) × (before ≡ lines)
lines_end true at before lines e = (refl, lines_are before lines e)
lines_end false at before lines e = absurd cc

lines_none : (count at : ℕ) (before : List ListedItem) (bytes : List ℕ) → item_at bytes ≡ None → lines_in (suc count) at before bytes ≡ lines_broken at
unfolding lines_in
lines_none count at before bytes h = rw (h, lines_in) refl

lines_refused : (count at : ℕ) (before : List ListedItem) (bytes : List ℕ) (x : Entry × List ℕ) → item_at bytes ≡ Some x → line_in x.0 ≡ None → lines_in (suc count) at before bytes ≡ lines_broken at
unfolding lines_in
lines_refused count at before bytes x h g = rw (h, g, lines_in) refl

pub lines_more : (count at : ℕ) (before : List ListedItem) (bytes : List ℕ) (x : Entry × List ℕ) (line : ListedItem) → item_at bytes ≡ Some x → line_in x.0 ≡ Some line → lines_in (suc count) at before bytes ≡ lines_in count (at + (length bytes - length x.1)) (before ++ line ∷ []) x.1
unfolding lines_in
lines_more count at before bytes x line h g = rw (h, g, lines_in) refl

-- lines behind those before them
pub record Lines (count : ℕ) (before lines : List ListedItem) (bytes : List ℕ) (more : List ListedItem) : Type 0 where
  pub all : lines ≡ before ++ more
  pub spelled : bytes ≡ listing_bytes more
  pub many : length more ≡ count

lines_say : (count at : ℕ) (before lines : List ListedItem) (bytes : List ℕ) → IsBytes bytes → lines_in count at before bytes ≡ Ok lines → (more : List ListedItem) × Lines count before lines bytes more
unfolding lines_in
lines_say zero at before lines bytes fits e =
    let a = lines_end (eqb (length bytes) 0) at before lines e in
    ([], record { all = sym a.1 ∙ sym (append-nil before); spelled = nil_from_length bytes (eqb-true _ _ a.0); many = refl })
lines_say (suc count) at before lines bytes fits e =
    elim (option_cases (item_at bytes)) [
      | inl none ↦ let never : lines_broken at ≡ lines_done lines = sym (lines_none count at before bytes none) ∙ e in absurd cc
      | inr some ↦
          let x = some.0 in
          elim (option_cases (line_in x.0)) [
            | inl none ↦ let never : lines_broken at ≡ lines_done lines = sym (lines_refused count at before bytes x some.1 none) ∙ e in absurd cc
            | inr line ↦
                let t = item_takes bytes x fits some.1 in
                let next = at + (length bytes - length x.1) in
                let more = lines_say count next (before ++ line.0 ∷ []) lines x.1 t.rest (sym (lines_more count at before bytes x line.0 some.1 line.1) ∙ e) in
                let body = body_bytes x.0 (IsBytes-front (spelling x.0) x.1 (subst (λ (l : List ℕ). IsBytes l) t.parts fits)) in
                let said = line_says x.0 line.0 body line.1 in (
                  line.0 ∷ more.0,
                  record {
                    all = more.1.all ∙ append_assoc before (line.0 ∷ []) more.0;
                    spelled = t.parts ∙ ap (λ (l : List ℕ). spelling x.0 ++ l) more.1.spelled ∙ ap (λ (y : Entry). spelling y ++ listing_bytes more.0) (sym said);
                    many = ap suc more.1.many;
                  },
                )
          ]
    ]

listed_is : (o : Result (List ListedItem) ReplyError) (r : Reply) → listed_reply o ≡ Ok r → (lines : List ListedItem) × (o ≡ Ok lines) × (NameList lines ≡ r)
listed_is (Ok lines) r e = (lines, refl, done_is (NameList lines) r e)
listed_is (Err error) r e = absurd cc

listing_says : (bytes : List ℕ) (r : Reply) → IsBytes bytes → listing_in bytes ≡ Ok r → Body bytes (opcode_number opcodes.NameList) 0 r
listing_says bytes r fits e =
    let n = number (drop 32 bytes) in
    let a = past (ltb (length bytes) 40) 32 _ r e in
    let s = listed_is (lines_in n 40 [] (drop 40 bytes)) r a.1 in
    let l = lines_say n 40 [] s.0 (drop 40 bytes) (IsBytes-drop 40 bytes fits) s.1 in
    let same : s.0 ≡ l.0 = l.1.all in
    let front = front_word bytes fits (ltb-false _ _ a.0) in
    let rest : drop 32 bytes ≡ words (length s.0 ∷ []) ++ listing_bytes s.0 = front ∙ ap (λ k. words (k ∷ []) ++ drop 40 bytes) (sym l.1.many ∙ ap length (sym same)) ∙ ap (λ (x : List ℕ). words (length s.0 ∷ []) ++ x) (l.1.spelled ∙ ap listing_bytes (sym same)) in
    subst (λ x. Body bytes (opcode_number opcodes.NameList) 0 x) s.2 (record { rest = rest; code_is = refl; answers = refl })

-- ---- all answers

answer_says : (opcode : Opcode) (bytes : List ℕ) (r : Reply) → IsBytes bytes → answer_in opcode bytes ≡ Ok r → Body bytes (opcode_number opcode) 0 r
answer_says opcodes.Hello bytes r fits e = words_say 3 bytes 1 (Hello (number (drop 32 bytes)) (number (drop 40 bytes)) (number (drop 48 bytes))) r fits refl refl refl refl e
answer_says opcodes.Send bytes r fits e = words_say 0 bytes 2 Send r fits refl refl refl refl e
answer_says opcodes.Recv bytes r fits e = words_say 4 bytes 3 (Recv (number (drop 32 bytes)) (number (drop 40 bytes)) (number (drop 48 bytes)) (number (drop 56 bytes))) r fits refl refl refl refl e
answer_says opcodes.Read bytes r fits e = read_says bytes r fits e
answer_says opcodes.Free bytes r fits e = words_say 0 bytes 5 Free r fits refl refl refl refl e
answer_says opcodes.Byebye bytes r fits e = words_say 0 bytes 6 Byebye r fits refl refl refl refl e
answer_says opcodes.Close bytes r fits e = words_say 0 bytes 7 Close r fits refl refl refl refl e
answer_says opcodes.NameAcquire bytes r fits e = acquired_says bytes r fits e
answer_says opcodes.NameRelease bytes r fits e = words_say 0 bytes 9 NameRelease r fits refl refl refl refl e
answer_says opcodes.NameList bytes r fits e = listing_says bytes r fits e
answer_says opcodes.MatchAdd bytes r fits e = words_say 0 bytes 11 MatchAdd r fits refl refl refl refl e
answer_says opcodes.MatchRemove bytes r fits e = words_say 0 bytes 12 MatchRemove r fits refl refl refl refl e
answer_says opcodes.PolicySet bytes r fits e = words_say 0 bytes 13 PolicySet r fits refl refl refl refl e
answer_says opcodes.EndpointMake bytes r fits e = words_say 0 bytes 14 EndpointMake r fits refl refl refl refl e
answer_says opcodes.MakeBus bytes r fits e = words_say 0 bytes 15 MakeBus r fits refl refl refl refl e
answer_says opcodes.Tick bytes r fits e = words_say 1 bytes 16 (Tick (number (drop 32 bytes))) r fits refl refl refl refl e
answer_says opcodes.Seal bytes r fits e = words_say 1 bytes 17 (Seal (number (drop 32 bytes))) r fits refl refl refl refl e
answer_says opcodes.Unseal bytes r fits e = words_say 0 bytes 18 Unseal r fits refl refl refl refl e
answer_says opcodes.Enter bytes r fits e = words_say 0 bytes 19 Enter r fits refl refl refl refl e

-- ---- numbers of commands

abbrev OpcodeSays : ℕ → Option Opcode → Type 0
OpcodeSays n o = (opcode : Opcode) → o ≡ Some opcode → opcode_number opcode ≡ n

opcode_either : (n : ℕ) (made : Opcode) (more : Option Opcode) (b : Bool) → (b ≡ true → opcode_number made ≡ n) → OpcodeSays n more → OpcodeSays n (cond b (Some made) more)
opcode_either n made more true is others = λ opcode e. ap opcode_number (sym (same_some made opcode e)) ∙ is refl
opcode_either n made more false is others = others

opcode_case : (n k : ℕ) (made : Opcode) (more : Option Opcode) → opcode_number made ≡ k → OpcodeSays n more → OpcodeSays n (cond (eqb n k) (Some made) more)
opcode_case n k made more is others = opcode_either n made more (eqb n k) (λ e. is ∙ sym (eqb-true n k e)) others

opcode_none : (n : ℕ) → OpcodeSays n None
opcode_none n = λ opcode e. absurd cc

opcode_says : (n : ℕ) → OpcodeSays n (opcode_of n)
opcode_says n =
    opcode_case n 1 opcodes.Hello _ refl (
    opcode_case n 2 opcodes.Send _ refl (
    opcode_case n 3 opcodes.Recv _ refl (
    opcode_case n 4 opcodes.Read _ refl (
    opcode_case n 5 opcodes.Free _ refl (
    opcode_case n 6 opcodes.Byebye _ refl (
    opcode_case n 7 opcodes.Close _ refl (
    opcode_case n 8 opcodes.NameAcquire _ refl (
    opcode_case n 9 opcodes.NameRelease _ refl (
    opcode_case n 10 opcodes.NameList _ refl (
    opcode_case n 11 opcodes.MatchAdd _ refl (
    opcode_case n 12 opcodes.MatchRemove _ refl (
    opcode_case n 13 opcodes.PolicySet _ refl (
    opcode_case n 14 opcodes.EndpointMake _ refl (
    opcode_case n 15 opcodes.MakeBus _ refl (
    opcode_case n 16 opcodes.Tick _ refl (
    opcode_case n 17 opcodes.Seal _ refl (
    opcode_case n 18 opcodes.Unseal _ refl (
    opcode_case n 19 opcodes.Enter _ refl (
    opcode_none n)))))))))))))))))))

-- ---- numbers and values of refusals

abbrev RefusalSays : ℕ → ℕ → Option Refusal → Type 0
RefusalSays code value o = (r : Refusal) → o ≡ Some r → (refusals.refusal_number r ≡ code) × (refusals.refusal_value r ≡ value)

refusal_either : (code value : ℕ) (made : Refusal) (more : Option Refusal) (b : Bool) → (b ≡ true → refusals.refusal_number made ≡ code) → refusals.refusal_value made ≡ value → RefusalSays code value more → RefusalSays code value (cond b (Some made) more)
refusal_either code value made more true is field others = λ r e. (ap refusals.refusal_number (sym (same_some made r e)) ∙ is refl, ap refusals.refusal_value (sym (same_some made r e)) ∙ field)
refusal_either code value made more false is field others = others

refusal_case : (code value k : ℕ) (made : Refusal) (more : Option Refusal) → refusals.refusal_number made ≡ k → refusals.refusal_value made ≡ value → RefusalSays code value more → RefusalSays code value (cond (eqb code k) (Some made) more)
refusal_case code value k made more is field others = refusal_either code value made more (eqb code k) (λ e. is ∙ sym (eqb-true code k e)) field others

refusal_none : (code value : ℕ) → RefusalSays code value None
refusal_none code value = λ r e. absurd cc

bare_says : (code : ℕ) → RefusalSays code 0 (bare_refusal code)
bare_says code =
    refusal_case code 0 3 BadFlags _ refl refl (
    refusal_case code 0 4 MissingItem _ refl refl (
    refusal_case code 0 5 DoubledItem _ refl refl (
    refusal_case code 0 6 BadName _ refl refl (
    refusal_case code 0 7 NotPermitted _ refl refl (
    refusal_case code 0 8 NoSuchName _ refl refl (
    refusal_case code 0 9 NoSuchConnection _ refl refl (
    refusal_case code 0 11 NameTaken _ refl refl (
    refusal_case code 0 12 AlreadyOwned _ refl refl (
    refusal_case code 0 13 NotOwner _ refl refl (
    refusal_case code 0 15 PoolFull _ refl refl (
    refusal_case code 0 16 Quota _ refl refl (
    refusal_case code 0 17 NotStarted _ refl refl (
    refusal_case code 0 19 NoSuchPriority _ refl refl (
    refusal_case code 0 20 NoSuchSlice _ refl refl (
    refusal_case code 0 21 NotReceived _ refl refl (
    refusal_case code 0 23 BloomSize _ refl refl (
    refusal_case code 0 24 TooLong _ refl refl (
    refusal_case code 0 25 BroadcastMisuse _ refl refl (
    refusal_case code 0 27 BusExists _ refl refl (
    refusal_case code 0 28 WrongPrefix _ refl refl (
    refusal_case code 0 29 NoSuchEndpoint _ refl refl (
    refusal_case code 0 30 EndpointExists _ refl refl (
    refusal_case code 0 31 WrongState _ refl refl (
    refusal_case code 0 32 MessagesQueued _ refl refl (
    refusal_case code 0 33 NoSuchMatch _ refl refl (
    refusal_case code 0 34 NoSuchSeal _ refl refl (
    refusal_case code 0 35 BadCookie _ refl refl (
    refusal_case code 0 36 SlicesSpent _ refl refl (
    refusal_case code 0 37 TurnsSpent _ refl refl (
    refusal_none code 0))))))))))))))))))))))))))))))

without_field : (code value : ℕ) (b : Bool) → (b ≡ true → value ≡ 0) → RefusalSays code value (cond b (bare_refusal code) None)
without_field code value true is_zero = λ r e. let s = bare_says code r e in (s.0, s.1 ∙ sym (is_zero refl))
without_field code value false is_zero = refusal_none code value

refusal_says : (code value : ℕ) → RefusalSays code value (refusal_from code value)
refusal_says code value =
    refusal_case code value 1 (Malformed value) _ refl refl (
    refusal_case code value 2 (Unsupported value) _ refl refl (
    refusal_case code value 10 (NameMoved value) _ refl refl (
    refusal_case code value 14 (TooMany value) _ refl refl (
    refusal_case code value 18 (NoMessage value) _ refl refl (
    refusal_case code value 22 (Busy value) _ refl refl (
    refusal_case code value 26 (NoSuchBus value) _ refl refl (
    without_field code value (eqb value 0) (λ e. eqb-true value 0 e))))))))

alone_is : (bytes : List ℕ) (o : Option Refusal) (r : Reply) → if_alone bytes o ≡ Ok r → (refusal : Refusal) × (o ≡ Some refusal) × (Refused refusal ≡ r) × (length bytes ≤ 40)
alone_is bytes None r e = absurd cc
alone_is bytes (Some refusal) r e =
    let a = past (ltb 40 (length bytes)) 40 (Ok (Refused refusal)) r e in
    (refusal, refl, done_is (Refused refusal) r a.1, ltb-false _ _ a.0)

refused_says : (command code : ℕ) (bytes : List ℕ) (r : Reply) → (code ≡ 0 → ⊥) → IsBytes bytes → refused_in code bytes ≡ Ok r → Body bytes command code r
refused_says command code bytes r some fits e =
    let a = past (ltb 37 code) 24 _ r e in
    let b = past (ltb (length bytes) 40) 32 _ r a.1 in
    let c = alone_is bytes (refusal_from code (number (drop 32 bytes))) r b.1 in
    let s = refusal_says code (number (drop 32 bytes)) c.0 c.1 in
    let low : 40 ≤ length bytes = ltb-false _ _ b.0 in
    let high : length bytes ≤ 40 = c.3 in
    let rest = words_rest 1 bytes fits (omega arith) in
    subst (λ x. Body bytes command code x) c.2 (record { rest = rest ∙ ap (λ k. words (k ∷ []) ++ []) (sym s.1); code_is = s.0; answers = λ memory. some (sym s.0 ∙ ap refusals.refusal_number memory) })

done_says : (command : ℕ) (o : Option Opcode) (bytes : List ℕ) (r : Reply) → ((opcode : Opcode) → o ≡ Some opcode → opcode_number opcode ≡ command) → IsBytes bytes → done_in o bytes ≡ Ok r → Body bytes command 0 r
done_says command None bytes r named fits e = absurd cc
done_says command (Some opcode) bytes r named fits e = subst (λ n. Body bytes n 0 r) (named opcode refl) (answer_says opcode bytes r fits e)

either_says : (bytes : List ℕ) (r : Reply) (b : Bool) → (b ≡ true → code_word bytes ≡ 0) → (b ≡ false → code_word bytes ≡ 0 → ⊥) → IsBytes bytes → cond b (done_in (opcode_of (command_word bytes)) bytes) (refused_in (code_word bytes) bytes) ≡ Ok r → Body bytes (command_word bytes) (code_word bytes) r
either_says bytes r true zero_code other_code fits e = subst (λ n. Body bytes (command_word bytes) n r) (sym (zero_code refl)) (done_says (command_word bytes) (opcode_of (command_word bytes)) bytes r (opcode_says (command_word bytes)) fits e)
either_says bytes r false zero_code other_code fits e = refused_says (command_word bytes) (code_word bytes) bytes r (other_code refl) fits e

-- ---- the whole reply

place_or : (o : Option ℕ) (bytes : List ℕ) (r : Reply) → head_then o bytes ≡ Ok r → (o ≡ None) × (behind_head bytes ≡ Ok r)
place_or None bytes r e = (refl, e)
place_or (Some at) bytes r e = absurd cc

-- a reply as it was read
pub record ReplyRead (bytes : List ℕ) (reply : Reply) : Type 0 where
  pub spelled : bytes ≡ reply_frame (command_word bytes) (caller_word bytes) reply
  pub answers : IsReplyTo (command_word bytes) reply
  pub size : reply_length reply ≡ length bytes

pub reply_read : (bytes : List ℕ) (r : Reply) → IsBytes bytes → reply_in bytes ≡ Ok r → ReplyRead bytes r
unfolding reply_in
reply_read bytes r fits e =
    let p = place_or (head_break bytes) bytes r e in
    let a = no_place (ltb (length bytes) 8) 0 _ p.0 in
    let b = no_place (not (eqb (number bytes) (length bytes))) 0 _ a.1 in
    let c = no_place (ltb (length bytes) 16) 8 _ b.1 in
    let d = no_place (ltb (length bytes) 24) 16 _ c.1 in
    let f = no_place (ltb (length bytes) 32) 24 None d.1 in
    let long : 32 ≤ length bytes = ltb-false _ _ f.0 in
    let whole : number bytes ≡ length bytes = eqb-true _ _ (not_false _ b.0) in
    let body = either_says bytes r (eqb (code_word bytes) 0) (λ t. eqb-true _ _ t) (λ t. eqb-false _ _ t) fits p.1 in
    let rest : drop 32 bytes ≡ words (reply_words r) ++ tail_of r = body.rest in
    let size : reply_length r ≡ length bytes = omega (arith, ap length rest, length-body (reply_words r) (tail_of r), length-drop 32 bytes) in
    let head : words (words_from 4 0 bytes) ++ drop 32 bytes ≡ bytes = words_split 4 bytes (omega arith) fits in
    let front : words (reply_length r ∷ command_word bytes ∷ caller_word bytes ∷ code_of r ∷ []) ≡ words (words_from 4 0 bytes) = ap (λ n. words (n ∷ command_word bytes ∷ caller_word bytes ∷ code_of r ∷ [])) (size ∙ sym whole) ∙ ap (λ n. words (number bytes ∷ command_word bytes ∷ caller_word bytes ∷ n ∷ [])) body.code_is in
    record {
      spelled = sym (append_assoc (words (reply_length r ∷ command_word bytes ∷ caller_word bytes ∷ code_of r ∷ [])) (words (reply_words r)) (tail_of r) ∙ ap (λ (l : List ℕ). l ++ (words (reply_words r) ++ tail_of r)) front ∙ ap (λ (l : List ℕ). words (words_from 4 0 bytes) ++ l) (sym rest) ∙ head);
      answers = body.answers;
      size = size;
    }

-- a reader of replies whose head doesn't break
pub reply_whole : (bytes : List ℕ) (r : Reply) → None ≡ head_break bytes → behind_head bytes ≡ Ok r → reply_in bytes ≡ Ok r
unfolding reply_in
reply_whole bytes r none e = ap (λ (o : Option ℕ). head_then o bytes) (sym none) ∙ e

-- ---- a reader of lines, from line to line

pub line_read : (left at size : ℕ) (lines : List ListedItem) (rest after : List ℕ) (e : Entry) (line : ListedItem) → 0 < left → size ≤ length rest → Some (e, drop size rest) ≡ item_at rest → after ≡ drop size rest → Some line ≡ line_in e
    → lines_in (left - 1) (at + size) (lines ++ line ∷ []) after ≡ lines_in left at lines rest
line_read zero at size lines rest after e line some inside found after-is said = absurd (omega arith)
line_read (suc left) at size lines rest after e line some inside found after-is said =
    let place : at + (length rest - length (drop size rest)) ≡ at + size = omega (arith, length-drop size rest) in
    let count : suc left - 1 ≡ left = omega arith in
    sym (lines_more left at lines rest (e, drop size rest) line (sym found) (sym said)
    ∙ ap (λ n. lines_in left n (lines ++ line ∷ []) (drop size rest)) place
    ∙ ap (lines_in left (at + size) (lines ++ line ∷ [])) (sym after-is)
    ∙ ap (λ n. lines_in n (at + size) (lines ++ line ∷ []) after) (sym count))

pub no_item_left : (left at : ℕ) (lines : List ListedItem) (rest : List ℕ) → 0 < left → None ≡ item_at rest → lines_in left at lines rest ≡ Err (Bad at)
no_item_left zero at lines rest some none = absurd (omega arith)
no_item_left (suc left) at lines rest some none = lines_none left at lines rest (sym none)

pub no_line_here : (left at : ℕ) (lines : List ListedItem) (rest tail : List ℕ) (e : Entry) → 0 < left → Some (e, tail) ≡ item_at rest → None ≡ line_in e → lines_in left at lines rest ≡ Err (Bad at)
no_line_here zero at lines rest tail e some found refuses = absurd (omega arith)
no_line_here (suc left) at lines rest tail e some found refuses = lines_refused left at lines rest (e, tail) (sym found) (sym refuses)

pub lines_left_over : (left at : ℕ) (lines : List ListedItem) (rest : List ℕ) → left ≤ 0 → 0 < length rest → lines_in left at lines rest ≡ Err (Bad at)
unfolding lines_in
lines_left_over zero at lines rest few some = ap (λ (b : Bool). cond b (lines_done lines) (lines_broken at)) (ne_eqb (length rest) 0 (λ e. omega (arith, e)))
lines_left_over (suc left) at lines rest few some = absurd (omega arith)

pub lines_all_read : (left at : ℕ) (lines : List ListedItem) (rest : List ℕ) → left ≤ 0 → length rest ≡ 0 → lines_in left at lines rest ≡ Ok lines
unfolding lines_in
lines_all_read zero at lines rest few none = ap (λ (b : Bool). cond b (lines_done lines) (lines_broken at)) (eq-eqb (length rest) 0 none)
lines_all_read (suc left) at lines rest few none = absurd (omega arith)
