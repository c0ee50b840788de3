-- What stands before the place where a reader of replies stops.
use Rattle.std.proofs.Common.{◌≡◌, ◌⊎◌, ℕ, zero, suc, ◌+◌, ◌*◌, ◌-◌, ◌/◌, ◌^◌, ◌<◌, ◌≤◌, Bool, true, false, cond, not, ◌&&◌, eqb, ltb, leb, List, [], ◌∷◌, ◌++◌, length, take, drop, map, replicate, Option, Some, None, Result, Ok, Err, refl, sym, ap, subst, ◌∙◌, append-nil, append_assoc, length-append, length-drop, arith, inl, inr}
use Rattle.std.specs.List.{AllByRecursion}
use Rattle.std.proofs.lemmas.Bool.{eqb-true, eqb-false, eq-eqb, ltb-false, ltb-true, leb-true}
use Rattle.std.proofs.lemmas.Str.{IsUtf8-nil, is_utf8-from_IsUtf8}
use Rattle.std.proofs.lemmas.List.{drop-drop, length-replicate, length-take-le, take-append-drop}
use Rattle.kd_model.proofs.Lists.{all_of_append}
use Rattle.kd_model.proofs.Truth.{both_true, not_false}
use Rattle.kd_item.specs.Reading.{are_zeros}
use Rattle.kd_item.specs.Spelling.{number, padding, word, words}
use Rattle.kd_item.proofs.Words.{IsBytes, IsBytes-drop, length-word, length-words, number_fits, word_again, word_front}
use Rattle.kd_item.proofs.Zeros.{zeros_back}
use Rattle.kd_types.specs.declared.refusal.Refusal.{Refusal}
use Rattle.kd_types.specs.declared.refusal.Refusal.TheVariants.{BadFlags}
use Rattle.kd_types.specs.declared.reply_error.ReplyError.{ReplyError}
use Rattle.kd_types.specs.declared.reply_error.ReplyError.TheVariants.{Bad}
use Rattle.kd_types.specs.Refusal.{refusal_number, refusal_value}
use Rattle.kd_wire.specs.declared.opcode.Opcode.{Opcode}
use Rattle.kd_wire.specs.declared.opcode.Opcode.TheVariants as opcodes
use Rattle.kd_wire.specs.declared.reply.ListedItem.{ListedItem}
use Rattle.kd_wire.specs.declared.reply.Reply.{Reply}
use Rattle.kd_wire.specs.declared.reply.Reply.TheVariants.{Hello, Send, Recv, Read, Free, Byebye, Close, NameAcquire, NameRelease, NameList, MatchAdd, MatchRemove, PolicySet, EndpointMake, MakeBus, Tick, Seal, Unseal, Enter, Refused}
use Rattle.kd_wire.specs.Frames.{caller_word, command_word}
use Rattle.kd_wire.specs.Opcodes.{opcode_number, opcode_of}
use Rattle.kd_wire.specs.Refusals.{words_from}
use Rattle.kd_wire.specs.Replies.{IsReplyTo, code_of, listing_bytes, reply_words}
use Rattle.kd_wire.specs.ReplyReading.{acquired_in, answer_in, code_word, behind_head, done_in, head_then, if_alone, lines_in, listed_reply, listing_in, read_in, refusal_from, refused_in, reply_in, run_of, unbroken, with_words}
use Rattle.kd_wire.specs.Typed.{AreWords, IsTypedLine, IsTypedReply}
use Rattle.kd_wire.proofs.WordLaws.{words_back}
use Rattle.kd_places.specs.Replies.{BeginReply, CanBeSaid, MisstateLength, front, joined, tail_units}
use Rattle.kd_places.proofs.Lines.{lines_bad, lines_before}
use Rattle.kd_places.proofs.Says.{numbered, opcode_says, refusal_says, some_number}
use Rattle.kd_places.proofs.Units.{line_unit}

abbrev pub Reading : Type 0
Reading = Result Reply ReplyError

abbrev pub bad : ℕ → Reading
bad at = Err (Bad at)

abbrev pub good : Reply → Reading
good r = Ok r

-- a test that answers a place, or lets through
pub fork : (b : Bool) (a at : ℕ) (r : Reading) → cond b (bad a) r ≡ bad at → ((b ≡ true) × (a ≡ at)) ⊎ ((b ≡ false) × (r ≡ bad at))
fork true a at r e = inl (refl, cc)
fork false a at r e = inr (refl, e)

pub head_fork : (b : Bool) (a at : ℕ) (o : Option ℕ) (bytes : List ℕ) → head_then (cond b (Some a) o) bytes ≡ bad at → ((b ≡ true) × (a ≡ at)) ⊎ ((b ≡ false) × (head_then o bytes ≡ bad at))
head_fork true a at o bytes e = inl (refl, cc)
head_fork false a at o bytes e = inr (refl, e)

pub word_fork : (b : Bool) (a at : ℕ) (o : Option ℕ) (r : Reply) → unbroken (cond b (Some a) o) r ≡ bad at → ((b ≡ true) × (a ≡ at)) ⊎ ((b ≡ false) × (unbroken o r ≡ bad at))
word_fork true a at o r e = inl (refl, cc)
word_fork false a at o r e = inr (refl, e)

pub not_bad : (r : Reply) (at : ℕ) → good r ≡ bad at → ⊥
not_bad r at e = cc

pub same_bad : (a b : ℕ) → bad a ≡ bad b → a ≡ b
same_bad a b e = cc

-- ---- words of the bytes

words_fit : (k at : ℕ) (bytes : List ℕ) → IsBytes bytes → AreWords (words_from k at bytes)
words_fit zero at bytes fits = tt
words_fit (suc k) at bytes fits = (number_fits (drop at bytes) (IsBytes-drop at bytes fits), words_fit k (at + 8) bytes fits)

-- the words at a place, and what stands behind
word_piece : (n at : ℕ) (bytes : List ℕ) → at + 8 * n ≤ length bytes → IsBytes bytes → drop at bytes ≡ words (words_from n at bytes) ++ drop (8 * n) (drop at bytes)
word_piece n at bytes long fits = sym (ap (λ (l : List ℕ). l ++ drop (8 * n) (drop at bytes)) (words_back n at bytes long fits) ∙ take-append-drop (8 * n) (drop at bytes))

-- the first of so many words
front_own : (m k at : ℕ) (bytes : List ℕ) (us : List (List ℕ)) → m ≤ k → joined (take m (map word (words_from k at bytes) ++ us)) ≡ words (words_from m at bytes)
front_own zero k at bytes us few = refl
front_own (suc m) zero at bytes us few = absurd (omega (arith, few))
front_own (suc m) (suc k) at bytes us few = ap (λ (l : List ℕ). word (number (drop at bytes)) ++ l) (front_own m k (at + 8) bytes us (omega (arith, few)))

long_words : (n at : ℕ) (bytes : List ℕ) → length (words_from n at bytes) ≡ n
long_words zero at bytes = refl
long_words (suc n) at bytes = ap suc (long_words n (at + 8) bytes)

regroup : (a b c x : List ℕ) → (a ++ (b ++ (c ++ []))) ++ x ≡ a ++ (b ++ (c ++ x))
regroup a b c x = append_assoc a (b ++ (c ++ [])) x ∙ ap (λ (l : List ℕ). a ++ l) (append_assoc b (c ++ []) x ∙ ap (λ (l : List ℕ). b ++ l) (append_assoc c [] x))

abbrev pub own : ℕ → Reply → List ℕ
own m r = joined (take m (map word (reply_words r) ++ tail_units r))

-- ---- bytes that say their length

module _ (bytes : List ℕ) (fits : IsBytes bytes) (long : 8 ≤ length bytes) (size : number bytes ≡ length bytes) where
  size_front : bytes ≡ word (length bytes) ++ drop 8 bytes
  size_front = sym (ap (λ n. word n ++ drop 8 bytes) (sym size) ∙ ap (λ (l : List ℕ). l ++ drop 8 bytes) (word_front bytes long fits) ∙ take-append-drop 8 bytes)

  abbrev Begins : ℕ → Type 0
  Begins at = (n : ℕ) × BeginReply bytes n at

  made : (n at c k : ℕ) (r : Reply) (rest : List ℕ) → CanBeSaid c k r → drop 8 bytes ≡ front n c k r ++ rest → at ≡ 8 + length (front n c k r) → Begins at
  made n at c k r rest said is place = (
    n,
    record {
      command = c;
      caller = k;
      reply = r;
      said = said;
      rest = rest;
      spelled = size_front ∙ ap (λ (l : List ℕ). word (length bytes) ++ l) is;
      ends = place;
    },
  )

  abbrev c : ℕ
  c = command_word bytes

  abbrev k : ℕ
  k = caller_word bytes

  c_fits : c < 2 ^ 64
  c_fits = number_fits (drop 8 bytes) (IsBytes-drop 8 bytes fits)

  k_fits : k < 2 ^ 64
  k_fits = number_fits (drop 16 bytes) (IsBytes-drop 16 bytes fits)

  said_of : (r : Reply) → IsTypedReply r → IsReplyTo c r → CanBeSaid c k r
  said_of r typed answers = record { command_fits = c_fits; caller_fits = k_fits; typed = typed; answers = answers }

  abbrev any_reply : Reply
  any_reply = Refused BadFlags

  any_said : CanBeSaid c k any_reply
  any_said = said_of any_reply (record { words = (omega arith, tt); lines = tt }) (λ e. cc)

  at_8 : Begins 8
  at_8 = made 0 8 c k any_reply (drop 8 bytes) any_said refl refl

  at_16 : 16 ≤ length bytes → Begins 16
  at_16 more = made 1 16 c k any_reply (drop 8 (drop 8 bytes)) any_said (word_piece 1 8 bytes (omega (arith, more)) fits) (let w = length-word c in let l = length-append (word c) [] in omega (arith, w, l))

  at_24 : 24 ≤ length bytes → Begins 24
  at_24 more = made 2 24 c k any_reply (drop 16 (drop 8 bytes)) any_said (word_piece 2 8 bytes (omega (arith, more)) fits)
      (let l = length-words (c ∷ k ∷ []) in omega (arith, l))

  -- behind a head that is whole
  module _ (head : 32 ≤ length bytes) where
    abbrev code : ℕ
    code = code_word bytes

    behind : (m at : ℕ) (r : Reply) (rest : List ℕ) → IsTypedReply r → IsReplyTo c r → code_of r ≡ code → drop 32 bytes ≡ own m r ++ rest → at ≡ 32 + length (own m r) → Begins at
    behind m at r rest typed answers same is place =
        let head_words : drop 8 bytes ≡ words (c ∷ k ∷ code ∷ []) ++ drop 24 (drop 8 bytes) = word_piece 3 8 bytes (omega (arith, head)) fits in
        let after : drop 24 (drop 8 bytes) ≡ own m r ++ rest = drop-drop 24 8 bytes ∙ is in
        let all : drop 8 bytes ≡ word c ++ (word k ++ (word (code_of r) ++ (own m r ++ rest))) =
        head_words ∙ ap (λ (l : List ℕ). words (c ∷ k ∷ code ∷ []) ++ l) after ∙ ap (λ n. words (c ∷ k ∷ n ∷ []) ++ (own m r ++ rest)) (sym same)
        ∙ regroup (word c) (word k) (word (code_of r)) (own m r ++ rest) in
        let grouped : word c ++ (word k ++ (word (code_of r) ++ (own m r ++ rest))) ≡ (word c ++ (word k ++ (word (code_of r) ++ own m r))) ++ rest =
        sym (append_assoc (word c) (word k ++ (word (code_of r) ++ own m r)) rest ∙ ap (λ (l : List ℕ). word c ++ l) (append_assoc (word k) (word (code_of r) ++ own m r) rest
        ∙ ap (λ (l : List ℕ). word k ++ l) (append_assoc (word (code_of r)) (own m r) rest))) in
        let l1 = length-append (word c) (word k ++ (word (code_of r) ++ own m r)) in
        let l2 = length-append (word k) (word (code_of r) ++ own m r) in
        let l3 = length-append (word (code_of r)) (own m r) in
        let w1 = length-word c in let w2 = length-word k in let w3 = length-word (code_of r) in
        made (suc (suc (suc m))) at c k r rest (said_of r typed answers) (all ∙ grouped) (omega (arith, place, l1, l2, l3, w1, w2, w3))

    -- nothing of its own
    at_32 : (r : Reply) → IsTypedReply r → IsReplyTo c r → code_of r ≡ code → Begins 32
    at_32 r typed answers same = behind 0 32 r (drop 32 bytes) typed answers same refl refl

    -- ---- so many words

    by_words : (count m : ℕ) (r : Reply) → reply_words r ≡ words_from count 32 bytes → IsTypedReply r → IsReplyTo c r → code_of r ≡ code → m ≤ count → 32 + 8 * m ≤ length bytes → Begins (32 + 8 * m)
    by_words count m r are typed answers same few inside =
        let first : own m r ≡ words (words_from m 32 bytes) = ap (λ ws. joined (take m (map word ws ++ tail_units r))) are ∙ front_own m count 32 bytes (tail_units r) few in
        let size = ap length first in
        let len = length-words (words_from m 32 bytes) in
        let many = long_words m 32 bytes in
        behind m (32 + 8 * m) r (drop (8 * m) (drop 32 bytes)) typed answers same
        (word_piece m 32 bytes inside fits ∙ ap (λ (l : List ℕ). l ++ drop (8 * m) (drop 32 bytes)) (sym first)) (omega (arith, size, len, many))

    words_before : (count at : ℕ) (r : Reply) → reply_words r ≡ words_from count 32 bytes → IsTypedReply r → IsReplyTo c r → code_of r ≡ code → with_words count bytes r ≡ bad at → Begins at
    words_before count at r are typed answers same e = go (word_fork (ltb (length bytes) (32 + 8 * count)) (32 + 8 * ((length bytes - 32) / 8)) at _ r e)
      where
        more : ((ltb (32 + 8 * count) (length bytes) ≡ true) × (32 + 8 * count ≡ at)) ⊎ ((ltb (32 + 8 * count) (length bytes) ≡ false) × (good r ≡ bad at)) → Begins at
        more (inl x) = let lt = ltb-true _ _ x.0 in subst Begins x.1 (by_words count count r are typed answers same (omega arith) (omega (arith, lt)))
        more (inr x) = absurd (not_bad r at x.1)

        go : ((ltb (length bytes) (32 + 8 * count) ≡ true) × (32 + 8 * ((length bytes - 32) / 8) ≡ at))
            ⊎ ((ltb (length bytes) (32 + 8 * count) ≡ false) × (unbroken (cond (ltb (32 + 8 * count) (length bytes)) (Some (32 + 8 * count)) None) r ≡ bad at)) → Begins at
        go (inl x) =
            let lt = ltb-true _ _ x.0 in
            subst Begins x.1 (by_words count ((length bytes - 32) / 8) r are typed answers same (omega (arith, lt, head)) (omega (arith, head)))
        go (inr x) = more (word_fork (ltb (32 + 8 * count) (length bytes)) (32 + 8 * count) at None r x.1)

    -- of numbers that are read
    read_typed : (count : ℕ) (ws : List ℕ) → ws ≡ words_from count 32 bytes → AreWords ws
    read_typed count ws e = subst AreWords (sym e) (words_fit count 32 bytes fits)

    -- one word, and what is behind it
    one_word : (n : ℕ) → 40 ≤ length bytes → n ≡ number (drop 32 bytes) → drop 32 bytes ≡ word n ++ drop 40 bytes
    one_word n more is =
        word_piece 1 32 bytes (omega (arith, more)) fits ∙ append_assoc (word (number (drop 32 bytes))) [] (drop 8 (drop 32 bytes))
        ∙ ap (λ m. word m ++ drop 8 (drop 32 bytes)) (sym is) ∙ ap (λ (l : List ℕ). word n ++ l) (drop-drop 8 32 bytes)

    n_fits : number (drop 32 bytes) < 2 ^ 64
    n_fits = number_fits (drop 32 bytes) (IsBytes-drop 32 bytes fits)

    -- the place behind one word of its own
    at_40 : (r : Reply) (n : ℕ) (us : List (List ℕ)) → map word (reply_words r) ++ tail_units r ≡ word n ∷ us → n ≡ number (drop 32 bytes) → 40 ≤ length bytes → IsTypedReply r → IsReplyTo c r → code_of r ≡ code → Begins 40
    at_40 r n us are is more typed answers same =
        let first : own 1 r ≡ word n ++ [] = ap (λ ts. joined (take 1 ts)) are in
        let size = ap length first in let len = length-append (word n) [] in let w = length-word n in
        behind 1 40 r (drop 40 bytes) typed answers same
        (one_word n more is ∙ sym (append_assoc (word n) [] (drop 40 bytes)) ∙ ap (λ (l : List ℕ). l ++ drop 40 bytes) (sym first)) (omega (arith, size, len, w))

    -- ---- a NAME_ACQUIRE

    two_values : (n : ℕ) → 1 ≤ n → n ≤ 2 → cond (eqb n 2) 2 1 ≡ n
    two_values zero low high = absurd (omega (arith, low))
    two_values (suc zero) low high = refl
    two_values (suc (suc zero)) low high = refl
    two_values (suc (suc (suc n))) low high = absurd (omega (arith, high))

    acquired_before : (at : ℕ) → c ≡ opcode_number opcodes.NameAcquire → 0 ≡ code → acquired_in bytes ≡ bad at → Begins at
    acquired_before at named same e = first (fork (ltb (length bytes) 40) 32 at _ e)
      where
        n : ℕ
        n = number (drop 32 bytes)

        start : 32 ≡ at → Begins at
        start is = subst Begins is (at_32 (NameAcquire false) (record { words = (omega arith, tt); lines = tt }) named same)

        value : (leb 1 n && leb n 2) ≡ true → cond (eqb n 2) 2 1 ≡ n
        value t = let both = both_true (leb 1 n) (leb n 2) t in two_values n (leb-true _ _ both.0) (leb-true _ _ both.1)

        third : (leb 1 n && leb n 2) ≡ true → 40 ≤ length bytes → ((ltb 40 (length bytes) ≡ true) × (40 ≡ at)) ⊎ ((ltb 40 (length bytes) ≡ false) × (good (NameAcquire (eqb n 2)) ≡ bad at)) → Begins at
        third t more (inl x) =
            let is = value t in let f = n_fits in
            subst Begins x.1 (at_40 (NameAcquire (eqb n 2)) (cond (eqb n 2) 2 1) [] refl is more (record { words = (omega (arith, is, f), tt); lines = tt }) named same)
        third t more (inr x) = absurd (not_bad (NameAcquire (eqb n 2)) at x.1)

        second : 40 ≤ length bytes → ((not (leb 1 n && leb n 2) ≡ true) × (32 ≡ at)) ⊎ ((not (leb 1 n && leb n 2) ≡ false) × (cond (ltb 40 (length bytes)) (bad 40) (good (NameAcquire (eqb n 2))) ≡ bad at)) → Begins at
        second more (inl x) = start x.1
        second more (inr x) = third (not_false _ x.0) more (fork (ltb 40 (length bytes)) 40 at (good (NameAcquire (eqb n 2))) x.1)

        first : ((ltb (length bytes) 40 ≡ true) × (32 ≡ at)) ⊎ ((ltb (length bytes) 40 ≡ false) × (cond (not (leb 1 n && leb n 2)) (bad 32) (cond (ltb 40 (length bytes)) (bad 40) (good (NameAcquire (eqb n 2)))) ≡ bad at)) → Begins at
        first (inl x) = start x.1
        first (inr x) = second (ltb-false _ _ x.0) (fork (not (leb 1 n && leb n 2)) 32 at _ x.1)

    -- ---- a READ

    run_typed : (run : List ℕ) → length run < 2 ^ 64 → IsTypedReply (Read run)
    run_typed run few = record { words = (few, tt); lines = tt }

    read_before : (at : ℕ) → c ≡ opcode_number opcodes.Read → 0 ≡ code → read_in bytes ≡ bad at → Begins at
    read_before at named same e = first (fork (ltb (length bytes) 40) 32 at _ e)
      where
        n : ℕ
        n = number (drop 32 bytes)

        rest : List ℕ
        rest = drop 40 bytes

        blank : List ℕ
        blank = replicate n 0

        -- as many bytes as it says, whichever
        start : 40 ≤ length bytes → 40 ≡ at → Begins at
        start more is =
            let many : length blank ≡ n = length-replicate n 0 in let f = n_fits in
            subst Begins is (at_40 (Read blank) (length blank) ((blank ++ replicate (padding (length blank)) 0) ∷ []) refl many more (run_typed blank (omega (arith, many, f))) named same)

        run : List ℕ
        run = take n rest

        zs : List ℕ
        zs = take (padding n) (drop n rest)

        behind_run : 40 ≤ length bytes → n + padding n ≤ length rest → are_zeros zs ≡ true → 40 + n + padding n ≡ at → Begins at
        behind_run more inside zeros is =
            let many : length run ≡ n = length-take-le n rest (omega (arith, inside)) in
            let fill : length zs ≡ padding n = length-take-le (padding n) (drop n rest) (let l = length-drop n rest in omega (arith, inside, l)) in
            let zero_run : zs ≡ replicate (padding (length run)) 0 = zeros_back zs zeros ∙ ap (λ m. replicate m 0) (fill ∙ ap padding (sym many)) in
            let pad : List ℕ = replicate (padding (length run)) 0 in
            let f = n_fits in
            let left : List ℕ = drop (padding n) (drop n rest) in
            let parts : rest ≡ (run ++ pad) ++ left =
            sym (append_assoc run pad left ∙ ap (λ (l : List ℕ). run ++ l) (ap (λ (l : List ℕ). l ++ left) (sym zero_run) ∙ take-append-drop (padding n) (drop n rest)) ∙ take-append-drop n rest) in
            let own_is : own 2 (Read run) ≡ word (length run) ++ ((run ++ pad) ++ []) = refl in
            let len = ap length own_is in
            let l1 = length-append (word (length run)) ((run ++ pad) ++ []) in
            let l2 = length-append (run ++ pad) [] in
            let l3 = length-append run pad in
            let w = length-word (length run) in
            let p : length pad ≡ padding n = length-replicate (padding (length run)) 0 ∙ ap padding many in
            behind 2 at (Read run) left (run_typed run (omega (arith, many, f))) named same
            (one_word (length run) more many ∙ ap (λ (l : List ℕ). word (length run) ++ l) (parts ∙ ap (λ (l : List ℕ). l ++ left) (sym (append-nil (run ++ pad))))
            ∙ sym (append_assoc (word (length run)) ((run ++ pad) ++ []) left))
            (omega (arith, is, l1, l2, l3, w, p, many))

        fifth : 40 ≤ length bytes → n + padding n ≤ length rest → are_zeros zs ≡ true
            → ((ltb (n + padding n) (length rest) ≡ true) × (40 + n + padding n ≡ at)) ⊎ ((ltb (n + padding n) (length rest) ≡ false) × (good (Read run) ≡ bad at)) → Begins at
        fifth more inside zeros (inl x) = behind_run more inside zeros x.1
        fifth more inside zeros (inr x) = absurd (not_bad (Read run) at x.1)

        fourth : 40 ≤ length bytes → n + padding n ≤ length rest
            → ((not (are_zeros zs) ≡ true) × (40 ≡ at)) ⊎ ((not (are_zeros zs) ≡ false) × (cond (ltb (n + padding n) (length rest)) (bad (40 + n + padding n)) (good (Read run)) ≡ bad at)) → Begins at
        fourth more inside (inl x) = start more x.1
        fourth more inside (inr x) = fifth more inside (not_false _ x.0) (fork (ltb (n + padding n) (length rest)) (40 + n + padding n) at (good (Read run)) x.1)

        third : 40 ≤ length bytes
            → ((ltb (length rest) (n + padding n) ≡ true) × (40 ≡ at))
            ⊎ ((ltb (length rest) (n + padding n) ≡ false) × (cond (not (are_zeros zs)) (bad 40) (cond (ltb (n + padding n) (length rest)) (bad (40 + n + padding n)) (good (Read run))) ≡ bad at)) → Begins at
        third more (inl x) = start more x.1
        third more (inr x) = fourth more (ltb-false _ _ x.0) (fork (not (are_zeros zs)) 40 at _ x.1)

        second : 40 ≤ length bytes
            → ((ltb (length rest) n ≡ true) × (40 ≡ at))
            ⊎ ((ltb (length rest) n ≡ false) × (cond (ltb (length rest) (n + padding n)) (bad 40) (cond (not (are_zeros zs)) (bad 40) (cond (ltb (n + padding n) (length rest)) (bad (40 + n + padding n)) (good (Read run)))) ≡ bad at)) → Begins at
        second more (inl x) = start more x.1
        second more (inr x) = third more (fork (ltb (length rest) (n + padding n)) 40 at _ x.1)

        first : ((ltb (length bytes) 40 ≡ true) × (32 ≡ at)) ⊎ ((ltb (length bytes) 40 ≡ false) × (run_of n rest ≡ bad at)) → Begins at
        first (inl x) = subst Begins x.1 (at_32 (Read []) (run_typed [] (omega arith)) named same)
        first (inr x) = second (ltb-false _ _ x.0) (fork (ltb (length rest) n) 40 at _ x.1)

    -- ---- a NAME_LIST

    blank_line : ListedItem
    blank_line = record { id = 0; standing = 0; name = [] }

    blank_typed : IsTypedLine blank_line
    unfolding blank_line
    blank_typed = record { words = (omega arith, (omega arith, tt)); text = is_utf8-from_IsUtf8 [] IsUtf8-nil }

    blanks_typed : (m : ℕ) → AllByRecursion IsTypedLine (replicate m blank_line)
    blanks_typed zero = tt
    blanks_typed (suc m) = (blank_typed, blanks_typed m)

    first_lines : (xs ys : List ListedItem) → joined (take (length xs) (map line_unit (xs ++ ys))) ≡ listing_bytes xs
    first_lines [] ys = refl
    first_lines (x ∷ xs) ys = ap (λ (l : List ℕ). line_unit x ++ l) (first_lines xs ys)

    listed_is : (o : Result (List ListedItem) ReplyError) (at : ℕ) → listed_reply o ≡ bad at → o ≡ lines_bad at
    listed_is (Ok lines) at e = absurd (not_bad (NameList lines) at e)
    listed_is (Err (Bad a)) at e = let s : a ≡ at = same_bad a at e in ap lines_bad s
    listed_is (Err ReplyError.OutOfMemory) at e = absurd cc

    listing_before : (at : ℕ) → c ≡ opcode_number opcodes.NameList → 0 ≡ code → listing_in bytes ≡ bad at → Begins at
    listing_before at named same e = first (fork (ltb (length bytes) 40) 32 at _ e)
      where
        n : ℕ
        n = number (drop 32 bytes)

        lines : 40 ≤ length bytes → lines_in n 40 [] (drop 40 bytes) ≡ lines_bad at → Begins at
        lines more f =
            let b = lines_before n 40 at [] (drop 40 bytes) (IsBytes-drop 40 bytes fits) f in
            let rest : List ListedItem = replicate (n - length b.lines) blank_line in
            let all : List ListedItem = b.lines ++ rest in
            let few = b.few in let there = b.ends in let nf = n_fits in
            let many : length all ≡ n = let l1 = length-append b.lines rest in let l2 = length-replicate (n - length b.lines) blank_line in omega (arith, l1, l2, few) in
            let m : ℕ = length b.lines in
            let own_is : own (suc m) (NameList all) ≡ word (length all) ++ listing_bytes b.lines = ap (λ (l : List ℕ). word (length all) ++ l) (first_lines b.lines rest) in
            let len = ap length own_is in
            let l3 = length-append (word (length all)) (listing_bytes b.lines) in
            let w = length-word (length all) in
            behind (suc m) at (NameList all) b.tail (record { words = (omega (arith, many, nf), tt); lines = all_of_append IsTypedLine b.lines rest b.typed (blanks_typed (n - length b.lines)) }) named same
            (one_word (length all) more many ∙ ap (λ (l : List ℕ). word (length all) ++ l) b.spelled ∙ sym (append_assoc (word (length all)) (listing_bytes b.lines) b.tail)
            ∙ ap (λ (l : List ℕ). l ++ b.tail) (sym own_is))
            (omega (arith, there, len, l3, w))

        first : ((ltb (length bytes) 40 ≡ true) × (32 ≡ at)) ⊎ ((ltb (length bytes) 40 ≡ false) × (listed_reply (lines_in n 40 [] (drop 40 bytes)) ≡ bad at)) → Begins at
        first (inl x) = subst Begins x.1 (at_32 (NameList []) (record { words = (omega arith, tt); lines = tt }) named same)
        first (inr x) = lines (ltb-false _ _ x.0) (listed_is (lines_in n 40 [] (drop 40 bytes)) at x.1)

    -- ---- a refusal

    refused_before : (at : ℕ) → (code ≡ 0 → ⊥) → refused_in code bytes ≡ bad at → Begins at
    refused_before at some e = first (fork (ltb 37 code) 24 at _ e)
      where
        n : ℕ
        n = number (drop 32 bytes)

        -- some refusal has the code
        start : code ≤ 37 → 32 ≡ at → Begins at
        start few is =
            let r = numbered code some few in
            let v = r.3 in
            subst Begins is (at_32 (Refused r.0) (record { words = (omega (arith, v), tt); lines = tt }) r.2 r.1)

        third : (o : Option Refusal) → refusal_from code n ≡ o → code ≤ 37 → 40 ≤ length bytes → if_alone bytes o ≡ bad at → Begins at
        third None is few more f = start few (same_bad 32 at f)
        third (Some r) is few more f = go (fork (ltb 40 (length bytes)) 40 at (good (Refused r)) f)
          where
            said : (refusal_number r ≡ code) × (refusal_value r ≡ n)
            said = refusal_says code n r is

            go : ((ltb 40 (length bytes) ≡ true) × (40 ≡ at)) ⊎ ((ltb 40 (length bytes) ≡ false) × (good (Refused r) ≡ bad at)) → Begins at
            go (inl x) =
                let v = said.1 in let nf = n_fits in
                subst Begins x.1 (at_40 (Refused r) (refusal_value r) [] refl v more (record { words = (omega (arith, v, nf), tt); lines = tt }) (some_number r (λ z. some (sym said.0 ∙ z))) said.0)
            go (inr x) = absurd (not_bad (Refused r) at x.1)

        second : code ≤ 37 → ((ltb (length bytes) 40 ≡ true) × (32 ≡ at)) ⊎ ((ltb (length bytes) 40 ≡ false) × (if_alone bytes (refusal_from code n) ≡ bad at)) → Begins at
        second few (inl x) = start few x.1
        second few (inr x) = third (refusal_from code n) refl few (ltb-false _ _ x.0) x.1

        first : ((ltb 37 code ≡ true) × (24 ≡ at)) ⊎ ((ltb 37 code ≡ false) × (cond (ltb (length bytes) 40) (bad 32) (if_alone bytes (refusal_from code n)) ≡ bad at)) → Begins at
        first (inl x) = subst Begins x.1 (at_24 (omega (arith, head)))
        first (inr x) = second (ltb-false _ _ x.0) (fork (ltb (length bytes) 40) 32 at _ x.1)

    -- ---- any answer

    answer_before : (op : Opcode) (at : ℕ) → c ≡ opcode_number op → 0 ≡ code → answer_in op bytes ≡ bad at → Begins at
    answer_before opcodes.Hello at named same e = words_before 3 at (Hello (number (drop 32 bytes)) (number (drop 40 bytes)) (number (drop 48 bytes))) refl (record { words = words_fit 3 32 bytes fits; lines = tt }) named same e
    answer_before opcodes.Send at named same e = words_before 0 at Send refl (record { words = tt; lines = tt }) named same e
    answer_before opcodes.Recv at named same e = words_before 4 at (Recv (number (drop 32 bytes)) (number (drop 40 bytes)) (number (drop 48 bytes)) (number (drop 56 bytes))) refl (record { words = words_fit 4 32 bytes fits; lines = tt }) named same e
    answer_before opcodes.Read at named same e = read_before at named same e
    answer_before opcodes.Free at named same e = words_before 0 at Free refl (record { words = tt; lines = tt }) named same e
    answer_before opcodes.Byebye at named same e = words_before 0 at Byebye refl (record { words = tt; lines = tt }) named same e
    answer_before opcodes.Close at named same e = words_before 0 at Close refl (record { words = tt; lines = tt }) named same e
    answer_before opcodes.NameAcquire at named same e = acquired_before at named same e
    answer_before opcodes.NameRelease at named same e = words_before 0 at NameRelease refl (record { words = tt; lines = tt }) named same e
    answer_before opcodes.NameList at named same e = listing_before at named same e
    answer_before opcodes.MatchAdd at named same e = words_before 0 at MatchAdd refl (record { words = tt; lines = tt }) named same e
    answer_before opcodes.MatchRemove at named same e = words_before 0 at MatchRemove refl (record { words = tt; lines = tt }) named same e
    answer_before opcodes.PolicySet at named same e = words_before 0 at PolicySet refl (record { words = tt; lines = tt }) named same e
    answer_before opcodes.EndpointMake at named same e = words_before 0 at EndpointMake refl (record { words = tt; lines = tt }) named same e
    answer_before opcodes.MakeBus at named same e = words_before 0 at MakeBus refl (record { words = tt; lines = tt }) named same e
    answer_before opcodes.Tick at named same e = words_before 1 at (Tick (number (drop 32 bytes))) refl (record { words = words_fit 1 32 bytes fits; lines = tt }) named same e
    answer_before opcodes.Seal at named same e = words_before 1 at (Seal (number (drop 32 bytes))) refl (record { words = words_fit 1 32 bytes fits; lines = tt }) named same e
    answer_before opcodes.Unseal at named same e = words_before 0 at Unseal refl (record { words = tt; lines = tt }) named same e
    answer_before opcodes.Enter at named same e = words_before 0 at Enter refl (record { words = tt; lines = tt }) named same e

    done_before : (o : Option Opcode) (at : ℕ) → opcode_of c ≡ o → 0 ≡ code → done_in o bytes ≡ bad at → Begins at
    done_before None at is same e = subst Begins (same_bad 24 at e) (at_24 (omega (arith, head)))
    done_before (Some op) at is same e = answer_before op at (sym (opcode_says c op is)) same e

    behind_before : (b : Bool) (at : ℕ) → eqb code 0 ≡ b → cond b (done_in (opcode_of c) bytes) (refused_in code bytes) ≡ bad at → Begins at
    behind_before true at is e = done_before (opcode_of c) at refl (sym (eqb-true code 0 is)) e
    behind_before false at is e = refused_before at (eqb-false code 0 is) e

  -- ---- behind the size word

  sized_before : (at : ℕ) → head_then (cond (ltb (length bytes) 16) (Some 8) (cond (ltb (length bytes) 24) (Some 16) (cond (ltb (length bytes) 32) (Some 24) None))) bytes ≡ bad at → Begins at
  sized_before at e = first (head_fork (ltb (length bytes) 16) 8 at _ bytes e)
    where
      third : 24 ≤ length bytes → ((ltb (length bytes) 32 ≡ true) × (24 ≡ at)) ⊎ ((ltb (length bytes) 32 ≡ false) × (behind_head bytes ≡ bad at)) → Begins at
      third more (inl x) = subst Begins x.1 (at_24 more)
      third more (inr x) = behind_before (ltb-false _ _ x.0) (eqb (code_word bytes) 0) at refl x.1

      second : 16 ≤ length bytes → ((ltb (length bytes) 24 ≡ true) × (16 ≡ at)) ⊎ ((ltb (length bytes) 24 ≡ false) × (head_then (cond (ltb (length bytes) 32) (Some 24) None) bytes ≡ bad at)) → Begins at
      second more (inl x) = subst Begins x.1 (at_16 more)
      second more (inr x) = third (ltb-false _ _ x.0) (head_fork (ltb (length bytes) 32) 24 at None bytes x.1)

      first : ((ltb (length bytes) 16 ≡ true) × (8 ≡ at)) ⊎ ((ltb (length bytes) 16 ≡ false) × (head_then (cond (ltb (length bytes) 24) (Some 16) (cond (ltb (length bytes) 32) (Some 24) None)) bytes ≡ bad at)) → Begins at
      first (inl x) = subst Begins x.1 at_8
      first (inr x) = second (ltb-false _ _ x.0) (head_fork (ltb (length bytes) 24) 16 at _ bytes x.1)

-- ---- the size word

pub reply_before : (bytes : List ℕ) (at : ℕ) → IsBytes bytes → length bytes < 2 ^ 64 → reply_in bytes ≡ bad at → ((at ≡ 0) × MisstateLength bytes) ⊎ ((n : ℕ) × BeginReply bytes n at)
unfolding reply_in
reply_before bytes at fits small e = first (head_fork (ltb (length bytes) 8) 0 at _ bytes e)
  where
    misstated : (length bytes < 8) ⊎ (number bytes ≡ length bytes → ⊥) → 0 ≡ at → ((at ≡ 0) × MisstateLength bytes) ⊎ ((n : ℕ) × BeginReply bytes n at)
    misstated why is = inl (sym is, λ rest f. no why rest f)
      where
        no : (length bytes < 8) ⊎ (number bytes ≡ length bytes → ⊥) → (rest : List ℕ) → bytes ≡ word (length bytes) ++ rest → ⊥
        no (inl short) rest f = let l = ap length f in let a = length-append (word (length bytes)) rest in let w = length-word (length bytes) in absurd (omega (arith, short, l, a, w))
        no (inr other) rest f = other (ap number f ∙ word_again (length bytes) rest small)

    second : 8 ≤ length bytes → ((not (eqb (number bytes) (length bytes)) ≡ true) × (0 ≡ at))
        ⊎ ((not (eqb (number bytes) (length bytes)) ≡ false) × (head_then (cond (ltb (length bytes) 16) (Some 8) (cond (ltb (length bytes) 24) (Some 16) (cond (ltb (length bytes) 32) (Some 24) None))) bytes ≡ bad at))
        → ((at ≡ 0) × MisstateLength bytes) ⊎ ((n : ℕ) × BeginReply bytes n at)
    second more (inl x) = misstated (inr (λ same. absurd (let t : not (eqb (number bytes) (length bytes)) ≡ false = ap not (eq-eqb _ _ same) in let u : true ≡ false = sym x.0 ∙ t in cc))) x.1
    second more (inr x) = inr (sized_before bytes fits more (eqb-true _ _ (not_false _ x.0)) at x.1)

    first : ((ltb (length bytes) 8 ≡ true) × (0 ≡ at))
        ⊎ ((ltb (length bytes) 8 ≡ false) × (head_then (cond (not (eqb (number bytes) (length bytes))) (Some 0) (cond (ltb (length bytes) 16) (Some 8) (cond (ltb (length bytes) 24) (Some 16) (cond (ltb (length bytes) 32) (Some 24) None)))) bytes ≡ bad at))
        → ((at ≡ 0) × MisstateLength bytes) ⊎ ((n : ℕ) × BeginReply bytes n at)
    first (inl x) = misstated (inl (ltb-true _ _ x.0)) x.1
    first (inr x) = second (ltb-false _ _ x.0) (head_fork (not (eqb (number bytes) (length bytes))) 0 at _ bytes x.1)
