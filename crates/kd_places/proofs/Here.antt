-- A reader of replies doesn't stop before the end of what some reply begins with.
use Rattle.std.proofs.Common.{◌≡◌, ◌⊎◌, ℕ, zero, suc, ◌+◌, ◌*◌, ◌-◌, ◌/◌, ◌^◌, ◌<◌, ◌≤◌, Bool, true, false, cond, not, ◌&&◌, eqb, ltb, leb, List, [], ◌∷◌, ◌++◌, length, take, drop, map, replicate, Option, Some, None, Result, Ok, Err, refl, sym, ap, subst, ◌∙◌, append_assoc, length-append, length-drop, arith, inl, inr}
use Rattle.std.specs.Prelude.{min, ◌%◌}
use Rattle.std.proofs.Math.Seq.{take-nil}
use Rattle.std.proofs.lemmas.Bool.{eq-eqb, le-ltb, ltb-false, ltb-true, ne_eqb}
use Rattle.std.proofs.lemmas.List.{drop-drop, drop_at, length-replicate, take_at}
use Rattle.kd_item.specs.Reading.{are_zeros}
use Rattle.kd_item.specs.Spelling.{number, padding, word}
use Rattle.kd_item.proofs.Words.{IsBytes, IsBytes-drop, length-word, word_again}
use Rattle.kd_item.proofs.Zeros.{zeros_pass}
use Rattle.kd_types.specs.declared.refusal.Refusal.{Refusal}
use Rattle.kd_types.specs.declared.reply_error.ReplyError.{ReplyError}
use Rattle.kd_types.specs.declared.reply_error.ReplyError.TheVariants.{Bad}
use Rattle.kd_types.specs.Refusal.{refusal_number, refusal_value}
use Rattle.kd_wire.specs.declared.opcode.Opcode.{Opcode}
use Rattle.kd_wire.specs.declared.opcode.Opcode.TheVariants as opcodes
use Rattle.kd_wire.specs.declared.reply.ListedItem.{ListedItem}
use Rattle.kd_wire.specs.declared.reply.Reply.{Reply}
use Rattle.kd_wire.specs.declared.reply.Reply.TheVariants.{Hello, Send, Recv, Read, Free, Byebye, Close, NameAcquire, NameRelease, NameList, MatchAdd, MatchRemove, PolicySet, EndpointMake, MakeBus, Tick, Seal, Unseal, Enter, Refused}
use Rattle.kd_wire.specs.Frames.{command_word}
use Rattle.kd_wire.specs.Opcodes.{opcode_number, opcode_of}
use Rattle.kd_wire.specs.Replies.{IsReplyTo, code_of}
use Rattle.kd_wire.specs.ReplyReading.{acquired_in, answer_in, behind_head, code_word, done_in, head_then, if_alone, lines_in, listed_reply, listing_in, read_in, refusal_from, refused_in, reply_in, run_of, unbroken, with_words}
use Rattle.kd_wire.specs.Typed.{IsTypedReply}
use Rattle.kd_wire.proofs.ReadAgain.{named_again}
use Rattle.kd_places.specs.Replies.{BeginReply, front, joined}
use Rattle.kd_places.proofs.Before.{bad, fork, good, head_fork, not_bad, own, same_bad, word_fork, Reading}
use Rattle.kd_places.proofs.Lines.{lines_bad, lines_before, lines_reach}
use Rattle.kd_places.proofs.Says.{found_by, known_number}
use Rattle.kd_places.proofs.Units.{front_length, line_unit}

-- whatever place it answers is at least this
abbrev pub Reaches : Reading → ℕ → Type 0
Reaches r low = (at : ℕ) → r ≡ bad at → low ≤ at

-- a test that answers a place, or lets through
past_test : (b : Bool) (a low : ℕ) (r : Reading) → (b ≡ true → low ≤ a) → (b ≡ false → Reaches r low) → Reaches (cond b (bad a) r) low
past_test b a low r here later at e = go (fork b a at r e)
  where
    go : ((b ≡ true) × (a ≡ at)) ⊎ ((b ≡ false) × (r ≡ bad at)) → low ≤ at
    go (inl x) = subst (λ n. low ≤ n) x.1 (here x.0)
    go (inr x) = later x.0 at x.1

-- a test that lets through
let_past : (b : Bool) (a low : ℕ) (r : Reading) → b ≡ false → Reaches r low → Reaches (cond b (bad a) r) low
let_past b a low r out later = subst (λ t. Reaches (cond t (bad a) r) low) (sym out) later

done_reaches : (r : Reply) (low : ℕ) → Reaches (good r) low
done_reaches r low at e = absurd (not_bad r at e)

bad_reaches : (a low : ℕ) → low ≤ a → Reaches (bad a) low
bad_reaches a low le at e = subst (λ n. low ≤ n) (same_bad a at e) le

-- ---- each answer, at the least

-- words: up to as many whole ones as there are
words_reach : (count n : ℕ) (bytes : List ℕ) (r : Reply) → 32 + 8 * n ≤ length bytes → n ≤ count → Reaches (with_words count bytes r) (32 + 8 * n)
words_reach count n bytes r inside few at e = go (word_fork (ltb (length bytes) (32 + 8 * count)) (32 + 8 * ((length bytes - 32) / 8)) at _ r e)
  where
    more : ((ltb (32 + 8 * count) (length bytes) ≡ true) × (32 + 8 * count ≡ at)) ⊎ ((ltb (32 + 8 * count) (length bytes) ≡ false) × (good r ≡ bad at)) → 32 + 8 * n ≤ at
    more (inl x) = let a = x.1 in omega (arith, a, few)
    more (inr x) = absurd (not_bad r at x.1)

    go : ((ltb (length bytes) (32 + 8 * count) ≡ true) × (32 + 8 * ((length bytes - 32) / 8) ≡ at))
        ⊎ ((ltb (length bytes) (32 + 8 * count) ≡ false) × (unbroken (cond (ltb (32 + 8 * count) (length bytes)) (Some (32 + 8 * count)) None) r ≡ bad at)) → 32 + 8 * n ≤ at
    go (inl x) = let a = x.1 in omega (arith, a, inside)
    go (inr x) = more (word_fork (ltb (32 + 8 * count) (length bytes)) (32 + 8 * count) at None r x.1)

acquired_low : (bytes : List ℕ) → Reaches (acquired_in bytes) 32
acquired_low bytes =
    past_test (ltb (length bytes) 40) 32 32 _ (λ _. omega arith) (λ _.
    past_test (not (leb 1 (number (drop 32 bytes)) && leb (number (drop 32 bytes)) 2)) 32 32 _ (λ _. omega arith) (λ _.
    past_test (ltb 40 (length bytes)) 40 32 _ (λ _. omega arith) (λ _. done_reaches _ 32)))

run_low : (count : ℕ) (rest : List ℕ) → Reaches (run_of count rest) 40
run_low count rest =
    past_test (ltb (length rest) count) 40 40 _ (λ _. omega arith) (λ _.
    past_test (ltb (length rest) (count + padding count)) 40 40 _ (λ _. omega arith) (λ _.
    past_test (not (are_zeros (take (padding count) (drop count rest)))) 40 40 _ (λ _. omega arith) (λ _.
    past_test (ltb (count + padding count) (length rest)) (40 + count + padding count) 40 _ (λ _. omega arith) (λ _. done_reaches _ 40))))

read_low : (bytes : List ℕ) → Reaches (read_in bytes) 32
read_low bytes =
    past_test (ltb (length bytes) 40) 32 32 _ (λ _. omega arith) (λ _ at e. let l = run_low (number (drop 32 bytes)) (drop 40 bytes) at e in omega (arith, l))

listed_bad : (o : Result (List ListedItem) ReplyError) (at : ℕ) → listed_reply o ≡ bad at → o ≡ lines_bad at
listed_bad (Ok lines) at e = absurd (not_bad (NameList lines) at e)
listed_bad (Err (Bad a)) at e = let s : a ≡ at = same_bad a at e in ap lines_bad s
listed_bad (Err ReplyError.OutOfMemory) at e = absurd cc

listing_low : (bytes : List ℕ) → IsBytes bytes → Reaches (listing_in bytes) 32
listing_low bytes fits =
    past_test (ltb (length bytes) 40) 32 32 _ (λ _. omega arith) (λ _ at e.
    let b = lines_before (number (drop 32 bytes)) 40 at [] (drop 40 bytes) (IsBytes-drop 40 bytes fits) (listed_bad (lines_in (number (drop 32 bytes)) 40 [] (drop 40 bytes)) at e) in
    let p = b.ends in omega (arith, p))

alone_low : (bytes : List ℕ) (o : Option Refusal) → Reaches (if_alone bytes o) 32
alone_low bytes None = bad_reaches 32 32 (omega arith)
alone_low bytes (Some r) = past_test (ltb 40 (length bytes)) 40 32 _ (λ _. omega arith) (λ _. done_reaches _ 32)

refused_low : (code : ℕ) (bytes : List ℕ) → Reaches (refused_in code bytes) 24
refused_low code bytes =
    past_test (ltb 37 code) 24 24 _ (λ _. omega arith) (λ _.
    past_test (ltb (length bytes) 40) 32 24 _ (λ _. omega arith) (λ _ at e. let l = alone_low bytes (refusal_from code (number (drop 32 bytes))) at e in omega (arith, l)))

answer_low : (op : Opcode) (bytes : List ℕ) → IsBytes bytes → 32 ≤ length bytes → Reaches (answer_in op bytes) 32
answer_low opcodes.Hello bytes fits head = words_reach 3 0 bytes _ (omega (arith, head)) (omega arith)
answer_low opcodes.Send bytes fits head = words_reach 0 0 bytes _ (omega (arith, head)) (omega arith)
answer_low opcodes.Recv bytes fits head = words_reach 4 0 bytes _ (omega (arith, head)) (omega arith)
answer_low opcodes.Read bytes fits head = read_low bytes
answer_low opcodes.Free bytes fits head = words_reach 0 0 bytes _ (omega (arith, head)) (omega arith)
answer_low opcodes.Byebye bytes fits head = words_reach 0 0 bytes _ (omega (arith, head)) (omega arith)
answer_low opcodes.Close bytes fits head = words_reach 0 0 bytes _ (omega (arith, head)) (omega arith)
answer_low opcodes.NameAcquire bytes fits head = acquired_low bytes
answer_low opcodes.NameRelease bytes fits head = words_reach 0 0 bytes _ (omega (arith, head)) (omega arith)
answer_low opcodes.NameList bytes fits head = listing_low bytes fits
answer_low opcodes.MatchAdd bytes fits head = words_reach 0 0 bytes _ (omega (arith, head)) (omega arith)
answer_low opcodes.MatchRemove bytes fits head = words_reach 0 0 bytes _ (omega (arith, head)) (omega arith)
answer_low opcodes.PolicySet bytes fits head = words_reach 0 0 bytes _ (omega (arith, head)) (omega arith)
answer_low opcodes.EndpointMake bytes fits head = words_reach 0 0 bytes _ (omega (arith, head)) (omega arith)
answer_low opcodes.MakeBus bytes fits head = words_reach 0 0 bytes _ (omega (arith, head)) (omega arith)
answer_low opcodes.Tick bytes fits head = words_reach 1 0 bytes _ (omega (arith, head)) (omega arith)
answer_low opcodes.Seal bytes fits head = words_reach 1 0 bytes _ (omega (arith, head)) (omega arith)
answer_low opcodes.Unseal bytes fits head = words_reach 0 0 bytes _ (omega (arith, head)) (omega arith)
answer_low opcodes.Enter bytes fits head = words_reach 0 0 bytes _ (omega (arith, head)) (omega arith)

behind_low : (bytes : List ℕ) → IsBytes bytes → 32 ≤ length bytes → Reaches (behind_head bytes) 24
behind_low bytes fits head = go (eqb (code_word bytes) 0) (opcode_of (command_word bytes))
  where
    done : (o : Option Opcode) → Reaches (done_in o bytes) 24
    done None = bad_reaches 24 24 (omega arith)
    done (Some op) = λ at e. let l = answer_low op bytes fits head at e in omega (arith, l)

    go : (b : Bool) (o : Option Opcode) → Reaches (cond b (done_in o bytes) (refused_in (code_word bytes) bytes)) 24
    go true o = done o
    go false o = refused_low (code_word bytes) bytes

-- ---- bytes that some reply begins with

-- how a reply to its own command is read behind its head
abbrev answer_of : Reply → List ℕ → Reading
answer_of (Hello id size hashes) bytes = answer_in opcodes.Hello bytes
answer_of Send bytes = answer_in opcodes.Send bytes
answer_of (Recv number offset size dropped) bytes = answer_in opcodes.Recv bytes
answer_of (Read run) bytes = answer_in opcodes.Read bytes
answer_of Free bytes = answer_in opcodes.Free bytes
answer_of Byebye bytes = answer_in opcodes.Byebye bytes
answer_of Close bytes = answer_in opcodes.Close bytes
answer_of (NameAcquire queued) bytes = answer_in opcodes.NameAcquire bytes
answer_of NameRelease bytes = answer_in opcodes.NameRelease bytes
answer_of (NameList listed) bytes = answer_in opcodes.NameList bytes
answer_of MatchAdd bytes = answer_in opcodes.MatchAdd bytes
answer_of MatchRemove bytes = answer_in opcodes.MatchRemove bytes
answer_of PolicySet bytes = answer_in opcodes.PolicySet bytes
answer_of EndpointMake bytes = answer_in opcodes.EndpointMake bytes
answer_of MakeBus bytes = answer_in opcodes.MakeBus bytes
answer_of (Tick moment) bytes = answer_in opcodes.Tick bytes
answer_of (Seal number) bytes = answer_in opcodes.Seal bytes
answer_of Unseal bytes = answer_in opcodes.Unseal bytes
answer_of Enter bytes = answer_in opcodes.Enter bytes
answer_of (Refused refusal) bytes = refused_in (refusal_number refusal) bytes

module _ (bytes : List ℕ) (c : ℕ) (command : command_word bytes ≡ c) where
  by_opcode : (op : Opcode) → c ≡ opcode_number op → code_word bytes ≡ 0 → behind_head bytes ≡ answer_in op bytes
  by_opcode op named code =
      ap (λ b. cond b (done_in (opcode_of (command_word bytes)) bytes) (refused_in (code_word bytes) bytes)) (eq-eqb (code_word bytes) 0 code)
      ∙ ap (λ (o : Option Opcode). done_in o bytes) (ap opcode_of (command ∙ named) ∙ named_again op)

  behind_is : (r : Reply) → IsReplyTo c r → code_word bytes ≡ code_of r → behind_head bytes ≡ answer_of r bytes
  behind_is (Hello id size hashes) answers code = by_opcode opcodes.Hello answers code
  behind_is Send answers code = by_opcode opcodes.Send answers code
  behind_is (Recv number offset size dropped) answers code = by_opcode opcodes.Recv answers code
  behind_is (Read run) answers code = by_opcode opcodes.Read answers code
  behind_is Free answers code = by_opcode opcodes.Free answers code
  behind_is Byebye answers code = by_opcode opcodes.Byebye answers code
  behind_is Close answers code = by_opcode opcodes.Close answers code
  behind_is (NameAcquire queued) answers code = by_opcode opcodes.NameAcquire answers code
  behind_is NameRelease answers code = by_opcode opcodes.NameRelease answers code
  behind_is (NameList listed) answers code = by_opcode opcodes.NameList answers code
  behind_is MatchAdd answers code = by_opcode opcodes.MatchAdd answers code
  behind_is MatchRemove answers code = by_opcode opcodes.MatchRemove answers code
  behind_is PolicySet answers code = by_opcode opcodes.PolicySet answers code
  behind_is EndpointMake answers code = by_opcode opcodes.EndpointMake answers code
  behind_is MakeBus answers code = by_opcode opcodes.MakeBus answers code
  behind_is (Tick moment) answers code = by_opcode opcodes.Tick answers code
  behind_is (Seal number) answers code = by_opcode opcodes.Seal answers code
  behind_is Unseal answers code = by_opcode opcodes.Unseal answers code
  behind_is Enter answers code = by_opcode opcodes.Enter answers code
  behind_is (Refused refusal) answers code =
      ap (λ b. cond b (done_in (opcode_of (command_word bytes)) bytes) (refused_in (code_word bytes) bytes))
      (ap (λ n. eqb n 0) code ∙ ne_eqb (refusal_number refusal) 0 (known_number refusal answers).0)
      ∙ ap (λ n. refused_in n bytes) code

-- of words alone
own_words : (m : ℕ) (bytes rest : List ℕ) (ws : List ℕ) (r : Reply) → drop 32 bytes ≡ joined (take m (map word ws)) ++ rest → 32 ≤ length bytes
    → Reaches (with_words (length ws) bytes r) (32 + length (joined (take m (map word ws))))
own_words m bytes rest ws r is head at e =
    let size = front_length m ws in
    let long = ap length is in
    let l1 = length-append (joined (take m (map word ws))) rest in
    let l2 = length-drop 32 bytes in
    let n : ℕ = min m (length ws) in
    let w = words_reach (length ws) n bytes r (omega (arith, size, long, l1, l2, head)) (omega arith) at e in
    omega (arith, size, w)

-- its first word is read
first_word : (bytes more : List ℕ) (n : ℕ) → n < 2 ^ 64 → 32 ≤ length bytes → drop 32 bytes ≡ word n ++ more → (number (drop 32 bytes) ≡ n) × (40 ≤ length bytes) × (drop 40 bytes ≡ more)
first_word bytes more n small head is =
    let long = ap length is in let l1 = length-append (word n) more in let l2 = length-drop 32 bytes in let w = length-word n in
    (ap number is ∙ word_again n more small, omega (arith, long, l1, l2, w, head), sym (drop-drop 8 32 bytes) ∙ ap (drop 8) is ∙ drop_at (word n) more 8 (length-word n))

is_answer : (queued : Bool) → (leb 1 (cond queued 2 1) && leb (cond queued 2 1) 2) ≡ true
is_answer true = refl
is_answer false = refl

small_answer : (queued : Bool) → cond queued 2 1 < 2 ^ 64
small_answer true = omega arith
small_answer false = omega arith

acquired_reach : (bytes more : List ℕ) (queued : Bool) → 32 ≤ length bytes → drop 32 bytes ≡ word (cond queued 2 1) ++ more → Reaches (acquired_in bytes) 40
acquired_reach bytes more queued head is =
    let f = first_word bytes more (cond queued 2 1) (small_answer queued) head is in
    let_past (ltb (length bytes) 40) 32 40 _ (le-ltb _ _ f.1)
    (let_past (not (leb 1 (number (drop 32 bytes)) && leb (number (drop 32 bytes)) 2)) 32 40 _ (ap (λ n. not (leb 1 n && leb n 2)) f.0 ∙ ap not (is_answer queued))
    (past_test (ltb 40 (length bytes)) 40 40 _ (λ _. omega arith) (λ _. done_reaches _ 40)))

-- the run is there, whole
run_reach : (rest run tail : List ℕ) (count : ℕ) → count ≡ length run → rest ≡ (run ++ replicate (padding (length run)) 0) ++ tail
    → Reaches (run_of count rest) (40 + length (run ++ replicate (padding (length run)) 0))
run_reach rest run tail count many is =
    let zs : List ℕ = replicate (padding (length run)) 0 in
    let pad : length zs ≡ padding count = length-replicate (padding (length run)) 0 ∙ ap padding (sym many) in
    let long = ap length is in
    let l1 = length-append (run ++ zs) tail in
    let l2 = length-append run zs in
    let behind : drop count rest ≡ zs ++ tail = ap (drop count) (is ∙ append_assoc run zs tail) ∙ drop_at run (zs ++ tail) count (sym many) in
    let zeros : are_zeros (take (padding count) (drop count rest)) ≡ true =
    ap (λ (l : List ℕ). are_zeros (take (padding count) l)) behind ∙ ap are_zeros (take_at zs tail (padding count) pad) ∙ zeros_pass (padding (length run)) in
    let_past (ltb (length rest) count) 40 _ _ (le-ltb _ _ (omega (arith, long, l1, l2, many)))
    (let_past (ltb (length rest) (count + padding count)) 40 _ _ (le-ltb _ _ (omega (arith, long, l1, l2, many, pad)))
    (let_past (not (are_zeros (take (padding count) (drop count rest)))) 40 _ _ (ap not zeros)
    (past_test (ltb (count + padding count) (length rest)) (40 + count + padding count) _ _ (λ _. omega (arith, l2, many, pad)) (λ _. done_reaches _ _))))

refused_reach : (bytes more : List ℕ) (refusal : Refusal) → IsReplyTo 0 (Refused refusal) → refusal_value refusal < 2 ^ 64 → 32 ≤ length bytes → drop 32 bytes ≡ word (refusal_value refusal) ++ more
    → Reaches (refused_in (refusal_number refusal) bytes) 40
refused_reach bytes more refusal named small head is =
    let f = first_word bytes more (refusal_value refusal) small head is in
    let_past (ltb 37 (refusal_number refusal)) 24 40 _ (le-ltb _ _ (known_number refusal named).1)
    (let_past (ltb (length bytes) 40) 32 40 _ (le-ltb _ _ f.1)
    (subst (λ o. Reaches (if_alone bytes o) 40) (sym (ap (refusal_from (refusal_number refusal)) f.0 ∙ found_by refusal named))
    (past_test (ltb 40 (length bytes)) 40 40 _ (λ _. omega arith) (λ _. done_reaches _ 40))))

-- no more units than it has
spent : (m : ℕ) → joined (take m []) ≡ []
spent m = ap joined (take-nil {A = List ℕ} m)

refused_start : (bytes : List ℕ) (refusal : Refusal) → IsReplyTo 0 (Refused refusal) → Reaches (refused_in (refusal_number refusal) bytes) 32
refused_start bytes refusal named =
    let_past (ltb 37 (refusal_number refusal)) 24 32 _ (le-ltb _ _ (known_number refusal named).1)
    (past_test (ltb (length bytes) 40) 32 32 _ (λ _. omega arith) (λ _. alone_low bytes (refusal_from (refusal_number refusal) (number (drop 32 bytes)))))

module _ (bytes rest : List ℕ) (fits : IsBytes bytes) (small : length bytes < 2 ^ 64) (head : 32 ≤ length bytes) where
  abbrev OwnReaches : ℕ → Reply → Type 0
  OwnReaches m r = drop 32 bytes ≡ own m r ++ rest → Reaches (answer_of r bytes) (32 + length (own m r))

  acquired_own : (m : ℕ) (queued : Bool) → OwnReaches m (NameAcquire queued)
  acquired_own zero queued is at e = let l = acquired_low bytes at e in omega (arith, l)
  acquired_own (suc m) queued is at e =
      let n : ℕ = cond queued 2 1 in
      let l = acquired_reach bytes (joined (take m []) ++ rest) queued head (is ∙ append_assoc (word n) (joined (take m [])) rest) at e in
      let s = ap length (spent m) in let a = length-append (word n) (joined (take m [])) in let w = length-word n in omega (arith, l, s, a, w)

  read_own : (m : ℕ) (run : List ℕ) → length run < 2 ^ 64 → OwnReaches m (Read run)
  read_own zero run few is = λ at e. let l = read_low bytes at e in omega (arith, l)
  read_own (suc zero) run few is =
      let f = first_word bytes ([] ++ rest) (length run) few head (is ∙ append_assoc (word (length run)) [] rest) in
      let_past (ltb (length bytes) 40) 32 _ _ (le-ltb _ _ f.1) (λ at e. let l = run_low (number (drop 32 bytes)) (drop 40 bytes) at e in
      let a = length-append (word (length run)) [] in let w = length-word (length run) in omega (arith, l, a, w))
  read_own (suc (suc m)) run few is =
      let whole : List ℕ = run ++ replicate (padding (length run)) 0 in
      let left : List ℕ = joined (take m []) in
      let f = first_word bytes ((whole ++ left) ++ rest) (length run) few head (is ∙ append_assoc (word (length run)) (whole ++ left) rest) in
      let_past (ltb (length bytes) 40) 32 _ _ (le-ltb _ _ f.1) (λ at e.
      let l = run_reach (drop 40 bytes) run (left ++ rest) (number (drop 32 bytes)) f.0 (f.2 ∙ append_assoc whole left rest) at e in
      let s = ap length (spent m) in
      let a = length-append (word (length run)) (whole ++ left) in let b = length-append whole left in let w = length-word (length run) in omega (arith, l, s, a, b, w))

  listing_own : (m : ℕ) (listed : List ListedItem) → IsTypedReply (NameList listed) → OwnReaches m (NameList listed)
  listing_own zero listed typed is = λ at e. let l = listing_low bytes fits at e in omega (arith, l)
  listing_own (suc m) listed typed is =
      let lines : List ℕ = joined (take m (map line_unit listed)) in
      let f = first_word bytes (lines ++ rest) (length listed) typed.words.0 head (is ∙ append_assoc (word (length listed)) lines rest) in
      let_past (ltb (length bytes) 40) 32 _ _ (le-ltb _ _ f.1) (λ at e.
      let short = length-drop 40 bytes in
      let l = lines_reach listed m 40 at [] (drop 40 bytes) rest (IsBytes-drop 40 bytes fits) (omega (arith, short, small)) typed.lines f.2
      (sym (ap (λ n. lines_in n 40 [] (drop 40 bytes)) f.0) ∙ listed_bad (lines_in (number (drop 32 bytes)) 40 [] (drop 40 bytes)) at e) in
      let a = length-append (word (length listed)) lines in let w = length-word (length listed) in omega (arith, l, a, w))

  refused_own : (m : ℕ) (refusal : Refusal) → IsReplyTo 0 (Refused refusal) → IsTypedReply (Refused refusal) → OwnReaches m (Refused refusal)
  refused_own zero refusal named typed is at e = let l = refused_start bytes refusal named at e in omega (arith, l)
  refused_own (suc m) refusal named typed is at e =
      let n : ℕ = refusal_value refusal in
      let l = refused_reach bytes (joined (take m []) ++ rest) refusal named typed.words.0 head (is ∙ append_assoc (word n) (joined (take m [])) rest) at e in
      let s = ap length (spent m) in let a = length-append (word n) (joined (take m [])) in let w = length-word n in omega (arith, l, s, a, w)

  own_reaches : (m c : ℕ) (r : Reply) → IsTypedReply r → IsReplyTo c r → OwnReaches m r
  own_reaches m c (Hello id size hashes) typed answers is = own_words m bytes rest (id ∷ size ∷ hashes ∷ []) _ is head
  own_reaches m c Send typed answers is = own_words m bytes rest [] _ is head
  own_reaches m c (Recv number offset size dropped) typed answers is = own_words m bytes rest (number ∷ offset ∷ size ∷ dropped ∷ []) _ is head
  own_reaches m c (Read run) typed answers is = read_own m run typed.words.0 is
  own_reaches m c Free typed answers is = own_words m bytes rest [] _ is head
  own_reaches m c Byebye typed answers is = own_words m bytes rest [] _ is head
  own_reaches m c Close typed answers is = own_words m bytes rest [] _ is head
  own_reaches m c (NameAcquire queued) typed answers is = acquired_own m queued is
  own_reaches m c NameRelease typed answers is = own_words m bytes rest [] _ is head
  own_reaches m c (NameList listed) typed answers is = listing_own m listed typed is
  own_reaches m c MatchAdd typed answers is = own_words m bytes rest [] _ is head
  own_reaches m c MatchRemove typed answers is = own_words m bytes rest [] _ is head
  own_reaches m c PolicySet typed answers is = own_words m bytes rest [] _ is head
  own_reaches m c EndpointMake typed answers is = own_words m bytes rest [] _ is head
  own_reaches m c MakeBus typed answers is = own_words m bytes rest [] _ is head
  own_reaches m c (Tick moment) typed answers is = own_words m bytes rest (moment ∷ []) _ is head
  own_reaches m c (Seal number) typed answers is = own_words m bytes rest (number ∷ []) _ is head
  own_reaches m c Unseal typed answers is = own_words m bytes rest [] _ is head
  own_reaches m c Enter typed answers is = own_words m bytes rest [] _ is head
  own_reaches m c (Refused refusal) typed answers is = refused_own m refusal answers typed is

-- ---- the whole reading

-- bytes that say their length
module _ (bytes : List ℕ) (fits : IsBytes bytes) (long : 8 ≤ length bytes) (size : number bytes ≡ length bytes) where
  abbrev behind_size : Reading
  behind_size = head_then (cond (ltb (length bytes) 16) (Some 8) (cond (ltb (length bytes) 24) (Some 16) (cond (ltb (length bytes) 32) (Some 24) None))) bytes

  reads_behind : reply_in bytes ≡ behind_size
  unfolding reply_in
  reads_behind =
      let a : ltb (length bytes) 8 ≡ false = le-ltb _ _ long in
      let b : eqb (number bytes) (length bytes) ≡ true = eq-eqb _ _ size in
      ap (λ t. head_then (cond t (Some 0) (cond (not (eqb (number bytes) (length bytes))) (Some 0) (cond (ltb (length bytes) 16) (Some 8) (cond (ltb (length bytes) 24) (Some 16) (cond (ltb (length bytes) 32) (Some 24) None))))) bytes) a
      ∙ ap (λ t. head_then (cond (not t) (Some 0) (cond (ltb (length bytes) 16) (Some 8) (cond (ltb (length bytes) 24) (Some 16) (cond (ltb (length bytes) 32) (Some 24) None)))) bytes) b

  -- a head that breaks does so behind the words that are whole
  head_past : (b : Bool) (a low : ℕ) (o : Option ℕ) → (b ≡ true → low ≤ a) → (b ≡ false → Reaches (head_then o bytes) low) → Reaches (head_then (cond b (Some a) o) bytes) low
  head_past b a low o here later at e = go (head_fork b a at o bytes e)
    where
      go : ((b ≡ true) × (a ≡ at)) ⊎ ((b ≡ false) × (head_then o bytes ≡ bad at)) → low ≤ at
      go (inl x) = subst (λ n. low ≤ n) x.1 (here x.0)
      go (inr x) = later x.0 at x.1

  -- up to 24 where there are so many bytes
  head_low : (low : ℕ) → low ≤ 24 → low % 8 ≡ 0 → 8 ≤ low → low ≤ length bytes → Reaches (reply_in bytes) low
  head_low low few even some inside at e =
      head_past (ltb (length bytes) 16) 8 low _ (λ t. let lt = ltb-true _ _ t in omega (arith, lt, inside, even))
      (λ _. head_past (ltb (length bytes) 24) 16 low _ (λ t. let lt = ltb-true _ _ t in omega (arith, lt, inside, even))
      (λ _. head_past (ltb (length bytes) 32) 24 low None (λ t. few) (λ t. low_behind (ltb-false _ _ t)))) at (sym reads_behind ∙ e)
    where
      low_behind : 32 ≤ length bytes → Reaches (behind_head bytes) low
      low_behind head at e = let l = behind_low bytes fits head at e in omega (arith, l, few)

  -- behind a whole head
  head_whole : 32 ≤ length bytes → (at : ℕ) → reply_in bytes ≡ bad at → behind_head bytes ≡ bad at
  head_whole head at e =
      let a : ltb (length bytes) 16 ≡ false = le-ltb _ _ (omega (arith, head)) in
      let b : ltb (length bytes) 24 ≡ false = le-ltb _ _ (omega (arith, head)) in
      let c : ltb (length bytes) 32 ≡ false = le-ltb _ _ head in
      sym (ap (λ t. head_then (cond t (Some 8) (cond (ltb (length bytes) 24) (Some 16) (cond (ltb (length bytes) 32) (Some 24) None))) bytes) a
      ∙ ap (λ t. head_then (cond t (Some 16) (cond (ltb (length bytes) 32) (Some 24) None)) bytes) b
      ∙ ap (λ t. head_then (cond t (Some 24) None) bytes) c) ∙ sym reads_behind ∙ e

-- ---- a beginning is reached

code_fits : (r : Reply) (c : ℕ) → IsReplyTo c r → code_of r < 2 ^ 64
code_fits (Refused refusal) c answers = let k = (known_number refusal answers).1 in omega (arith, k)
code_fits (Hello id size hashes) c answers = omega arith
code_fits Send c answers = omega arith
code_fits (Recv number offset size dropped) c answers = omega arith
code_fits (Read run) c answers = omega arith
code_fits Free c answers = omega arith
code_fits Byebye c answers = omega arith
code_fits Close c answers = omega arith
code_fits (NameAcquire queued) c answers = omega arith
code_fits NameRelease c answers = omega arith
code_fits (NameList listed) c answers = omega arith
code_fits MatchAdd c answers = omega arith
code_fits MatchRemove c answers = omega arith
code_fits PolicySet c answers = omega arith
code_fits EndpointMake c answers = omega arith
code_fits MakeBus c answers = omega arith
code_fits (Tick moment) c answers = omega arith
code_fits (Seal number) c answers = omega arith
code_fits Unseal c answers = omega arith
code_fits Enter c answers = omega arith

-- a word at a place
word_at : (bytes more : List ℕ) (place n : ℕ) → n < 2 ^ 64 → drop place bytes ≡ word n ++ more → (number (drop place bytes) ≡ n) × (drop (place + 8) bytes ≡ more)
word_at bytes more place n small is =
    let place_is : place + 8 ≡ 8 + place = omega arith in
    (ap number is ∙ word_again n more small, sym (drop-drop 8 place bytes) ∙ ap (drop 8) is ∙ drop_at (word n) more 8 (length-word n))

pub reply_reaches : (bytes : List ℕ) (n place : ℕ) → IsBytes bytes → length bytes < 2 ^ 64 → BeginReply bytes n place → Reaches (reply_in bytes) place
reply_reaches bytes n place fits small b = go n b.spelled b.ends
  where
    c : ℕ
    c = b.command

    k : ℕ
    k = b.caller

    r : Reply
    r = b.reply

    rest : List ℕ
    rest = b.rest

    sized : (more : List ℕ) → bytes ≡ word (length bytes) ++ more → (number bytes ≡ length bytes) × (length bytes ≡ 8 + length more) × (drop 8 bytes ≡ more)
    sized more e =
        let l = ap length e in let a = length-append (word (length bytes)) more in let w = length-word (length bytes) in
        (ap number e ∙ word_again (length bytes) more small, omega (arith, l, a, w), ap (drop 8) e ∙ drop_at (word (length bytes)) more 8 (length-word (length bytes)))

    go : (n : ℕ) → bytes ≡ word (length bytes) ++ (front n c k r ++ rest) → place ≡ 8 + length (front n c k r) → Reaches (reply_in bytes) place
    go zero e at =
        let s = sized (front zero c k r ++ rest) e in let l = s.1 in
        head_low bytes fits (omega (arith, l)) s.0 place (omega (arith, at)) (omega (arith, at)) (omega (arith, at)) (omega (arith, at, l))
    go (suc zero) e at =
        let s = sized (front 1 c k r ++ rest) e in let l = s.1 in
        let a = length-append (front 1 c k r) rest in let f = length-append (word c) [] in let w = length-word c in
        head_low bytes fits (omega (arith, l)) s.0 place (omega (arith, at, f, w)) (omega (arith, at, f, w)) (omega (arith, at)) (omega (arith, at, l, a))
    go (suc (suc zero)) e at =
        let s = sized (front 2 c k r ++ rest) e in let l = s.1 in
        let a = length-append (front 2 c k r) rest in let f = length-append (word c) (word k ++ []) in let g = length-append (word k) [] in let w = length-word c in let v = length-word k in
        head_low bytes fits (omega (arith, l)) s.0 place (omega (arith, at, f, g, w, v)) (omega (arith, at, f, g, w, v)) (omega (arith, at)) (omega (arith, at, l, a))
    go (suc (suc (suc m))) e at =
        let behind : List ℕ = own m r in
        let s = sized (front (suc (suc (suc m))) c k r ++ rest) e in let l = s.1 in
        let code : ℕ = code_of r in
        let parts : drop 8 bytes ≡ word c ++ (word k ++ (word code ++ (behind ++ rest))) =
        s.2 ∙ append_assoc (word c) (word k ++ (word code ++ behind)) rest ∙ ap (λ (l : List ℕ). word c ++ l) (append_assoc (word k) (word code ++ behind) rest
        ∙ ap (λ (l : List ℕ). word k ++ l) (append_assoc (word code) behind rest)) in
        let one = word_at bytes (word k ++ (word code ++ (behind ++ rest))) 8 c b.said.command_fits parts in
        let two = word_at bytes (word code ++ (behind ++ rest)) 16 k b.said.caller_fits one.1 in
        let three = word_at bytes (behind ++ rest) 24 code (code_fits r c b.said.answers) two.1 in
        let a1 = length-append (word c) (word k ++ (word code ++ behind)) in let a2 = length-append (word k) (word code ++ behind) in let a3 = length-append (word code) behind in
        let w1 = length-word c in let w2 = length-word k in let w3 = length-word code in
        let a = length-append (front (suc (suc (suc m))) c k r) rest in
        let head : 32 ≤ length bytes = omega (arith, l, a, a1, a2, a3, w1, w2, w3) in
        λ x f.
        let own_place = own_reaches bytes rest fits small head m c r b.said.typed b.said.answers three.1 x
        (sym (behind_is bytes c one.0 r b.said.answers three.0) ∙ head_whole bytes fits (omega (arith, head)) s.0 head x f) in
        omega (arith, own_place, at, a1, a2, a3, w1, w2, w3)
