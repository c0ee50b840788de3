-- A reply that is written is read again.
use Rattle.std.proofs.Common.{◌≡◌, ℕ, zero, suc, ◌+◌, ◌*◌, ◌-◌, ◌^◌, ◌<◌, ◌≤◌, Bool, true, false, cond, ◌&&◌, eqb, ltb, leb, List, [], ◌∷◌, ◌++◌, length, take, drop, replicate, Option, Some, None, Ok, Err, refl, sym, ap, ◌∙◌, eq-eqb, append_assoc, length-append, length-drop, arith}
use Rattle.std.specs.Prelude.{◌≢◌}
use Rattle.std.specs.Str.{is_utf8}
use Rattle.std.specs.List.{AllByRecursion}
use Rattle.std.proofs.lemmas.Bool.{le-ltb, ne_eqb}
use Rattle.std.proofs.lemmas.List.{append-nil, take_at, drop_at, drop-drop, length-replicate}
use Rattle.kd_item.specs.Spelling.{Fits, words, number, padding, item_length, spelling}
use Rattle.kd_item.specs.Reading.{are_zeros}
use Rattle.kd_item.proofs.Zeros.{zeros_pass}
use Rattle.kd_item.proofs.OneItem.{item_again}
use Rattle.kd_item.proofs.Words.{length-words}
use Rattle.kd_item.proofs.Sizes.{length-body}
use Rattle.kd_types.specs.declared.reply_error.ReplyError.TheVariants.{Bad}
use Rattle.kd_types.specs.declared.refusal.Refusal.{Refusal}
use Rattle.kd_types.specs.declared.refusal.Refusal.TheVariants.{Malformed, Unsupported, BadFlags, MissingItem, DoubledItem, BadName, NotPermitted, NoSuchName, NoSuchConnection, NameMoved, NameTaken, AlreadyOwned, NotOwner, TooMany, PoolFull, Quota, NotStarted, NoMessage, NoSuchPriority, NoSuchSlice, NotReceived, Busy, BloomSize, TooLong, BroadcastMisuse, NoSuchBus, BusExists, WrongPrefix, NoSuchEndpoint, EndpointExists, WrongState, MessagesQueued, NoSuchMatch, NoSuchSeal, BadCookie, SlicesSpent, TurnsSpent, OutOfMemory}
use Rattle.kd_types.specs.Refusal as refusals
use Rattle.kd_wire.specs.declared.opcode.Opcode.{Opcode}
use Rattle.kd_wire.specs.declared.opcode.Opcode.TheVariants as opcodes
use Rattle.kd_wire.specs.declared.reply.ListedItem.{ListedItem}
use Rattle.kd_wire.specs.declared.reply.Reply.{Reply}
use Rattle.kd_wire.specs.declared.reply.Reply.TheVariants as replies
use Rattle.kd_wire.specs.Opcodes.{opcode_number, opcode_of}
use Rattle.kd_wire.specs.Kinds.{nth}
use Rattle.kd_wire.specs.Frames.{command_word, caller_word}
use Rattle.kd_wire.specs.Refusals.{words_from}
use Rattle.kd_wire.specs.Replies.{listed_entry, listing_bytes, code_of, reply_words, tail_of, reply_length, reply_frame, IsReplyTo}
use Rattle.kd_wire.specs.ReplyReading.{code_word, head_break, words_break, unbroken, with_words, acquired_in, run_of, read_in, line_in, lines_in, listed_reply, listing_in, answer_in, refusal_from, if_alone, refused_in, done_in, behind_head, head_then, reply_in}
use Rattle.kd_wire.specs.Typed.{AreWords, IsTypedLine, IsTypedReply}
use Rattle.kd_wire.proofs.Lengths.{length_line}
use Rattle.kd_wire.proofs.ReadAgain.{words_again, words_here, behind_words, named_again}
use Rattle.kd_wire.proofs.ReplyLaws.{lines_more}

-- words at a later place are the words of what stands there
shifted_by : (n at k : ℕ) (bytes : List ℕ) → words_from n (k + at) bytes ≡ words_from n at (drop k bytes)
shifted_by zero at k bytes = refl
shifted_by (suc n) at k bytes =
    let first : drop (k + at) bytes ≡ drop at (drop k bytes) = sym (drop-drop at k bytes) in
    let place : k + at + 8 ≡ k + (at + 8) = omega arith in
    ap (λ (l : List ℕ). number l ∷ words_from n (k + at + 8) bytes) first ∙ ap (λ (l : List ℕ). number (drop at (drop k bytes)) ∷ l) (ap (λ p. words_from n p bytes) place ∙ shifted_by n (at + 8) k bytes)

-- what stands in a reply at each place
record Laid (bytes : List ℕ) (command caller : ℕ) (reply : Reply) : Type 0 where
  size_is : number bytes ≡ length bytes
  long_is : length bytes ≡ reply_length reply
  command_is : command_word bytes ≡ command
  caller_is : caller_word bytes ≡ caller
  code_is : code_word bytes ≡ code_of reply
  own_are : words_from (length (reply_words reply)) 32 bytes ≡ reply_words reply
  behind : drop 32 bytes ≡ words (reply_words reply) ++ tail_of reply

number_small : (refusal : Refusal) → refusals.refusal_number refusal < 2 ^ 64
number_small (Malformed x) = omega arith
number_small (Unsupported x) = omega arith
number_small BadFlags = omega arith
number_small MissingItem = omega arith
number_small DoubledItem = omega arith
number_small BadName = omega arith
number_small NotPermitted = omega arith
number_small NoSuchName = omega arith
number_small NoSuchConnection = omega arith
number_small (NameMoved x) = omega arith
number_small NameTaken = omega arith
number_small AlreadyOwned = omega arith
number_small NotOwner = omega arith
number_small (TooMany x) = omega arith
number_small PoolFull = omega arith
number_small Quota = omega arith
number_small NotStarted = omega arith
number_small (NoMessage x) = omega arith
number_small NoSuchPriority = omega arith
number_small NoSuchSlice = omega arith
number_small NotReceived = omega arith
number_small (Busy x) = omega arith
number_small BloomSize = omega arith
number_small TooLong = omega arith
number_small BroadcastMisuse = omega arith
number_small (NoSuchBus x) = omega arith
number_small BusExists = omega arith
number_small WrongPrefix = omega arith
number_small NoSuchEndpoint = omega arith
number_small EndpointExists = omega arith
number_small WrongState = omega arith
number_small MessagesQueued = omega arith
number_small NoSuchMatch = omega arith
number_small NoSuchSeal = omega arith
number_small BadCookie = omega arith
number_small SlicesSpent = omega arith
number_small TurnsSpent = omega arith
number_small OutOfMemory = omega arith

code_fits : (reply : Reply) → code_of reply < 2 ^ 64
code_fits (replies.Hello id size hashes) = omega arith
code_fits replies.Send = omega arith
code_fits (replies.Recv number offset size dropped) = omega arith
code_fits (replies.Read run) = omega arith
code_fits replies.Free = omega arith
code_fits replies.Byebye = omega arith
code_fits replies.Close = omega arith
code_fits (replies.NameAcquire queued) = omega arith
code_fits replies.NameRelease = omega arith
code_fits (replies.NameList lines) = omega arith
code_fits replies.MatchAdd = omega arith
code_fits replies.MatchRemove = omega arith
code_fits replies.PolicySet = omega arith
code_fits replies.EndpointMake = omega arith
code_fits replies.MakeBus = omega arith
code_fits (replies.Tick moment) = omega arith
code_fits (replies.Seal number) = omega arith
code_fits replies.Unseal = omega arith
code_fits replies.Enter = omega arith
code_fits (replies.Refused refusal) = number_small refusal

laid : (bytes : List ℕ) (command caller : ℕ) (reply : Reply) → command < 2 ^ 64 → caller < 2 ^ 64 → AreWords (reply_words reply) → reply_length reply < 2 ^ 64 → bytes ≡ reply_frame command caller reply → Laid bytes command caller reply
laid bytes command caller reply command-fits caller-fits own-fits size-fits e =
    let size = reply_length reply in
    let head = size ∷ command ∷ caller ∷ code_of reply ∷ [] in
    let rest = words (reply_words reply) ++ tail_of reply in
    let parts : bytes ≡ words head ++ rest = e ∙ append_assoc (words head) (words (reply_words reply)) (tail_of reply) in
    let front : words_from 4 0 bytes ≡ head = words_here head rest bytes (size-fits, (command-fits, (caller-fits, (code_fits reply, tt)))) parts in
    let after : drop 32 bytes ≡ rest = behind_words head rest bytes 32 refl parts in
    let long : length bytes ≡ size = omega (arith, ap length parts, length-append (words head) rest, length-words head, length-append (words (reply_words reply)) (tail_of reply), length-words (reply_words reply)) in
    record {
      size_is = ap (λ l. nth l 0) front ∙ sym long;
      long_is = long;
      command_is = ap (λ l. nth l 1) front;
      caller_is = ap (λ l. nth l 2) front;
      code_is = ap (λ l. nth l 3) front;
      own_are = shifted_by (length (reply_words reply)) 0 32 bytes ∙ words_here (reply_words reply) (tail_of reply) (drop 32 bytes) own-fits after;
      behind = after;
    }

-- ---- answers of words alone

words_unbroken : (k : ℕ) (bytes : List ℕ) → length bytes ≡ 32 + 8 * k → words_break k bytes ≡ None
words_unbroken k bytes len =
    let low : ltb (length bytes) (32 + 8 * k) ≡ false = le-ltb _ _ (omega (arith, len)) in
    let high : ltb (32 + 8 * k) (length bytes) ≡ false = le-ltb _ _ (omega (arith, len)) in
    rw (low, high) refl

words_answer : (k : ℕ) (bytes : List ℕ) (reply made : Reply) → length bytes ≡ 32 + 8 * k → made ≡ reply → with_words k bytes made ≡ Ok reply
words_answer k bytes reply made len e = ap (λ (o : Option ℕ). unbroken o made) (words_unbroken k bytes len) ∙ ap (λ r. Ok r) e

three_words : (make : ℕ → ℕ → ℕ → Reply) (a b c x y z : ℕ) → a ∷ b ∷ c ∷ [] ≡ x ∷ y ∷ z ∷ [] → make a b c ≡ make x y z
three_words make a b c x y z e = ap (λ w. make (nth w 0) (nth w 1) (nth w 2)) e

four_words : (make : ℕ → ℕ → ℕ → ℕ → Reply) (a b c d x y z u : ℕ) → a ∷ b ∷ c ∷ d ∷ [] ≡ x ∷ y ∷ z ∷ u ∷ [] → make a b c d ≡ make x y z u
four_words make a b c d x y z u e = ap (λ w. make (nth w 0) (nth w 1) (nth w 2) (nth w 3)) e

which_answer : (queued : Bool) → eqb (cond queued 2 1) 2 ≡ queued
which_answer true = refl
which_answer false = refl

is_answer : (queued : Bool) → (leb 1 (cond queued 2 1) && leb (cond queued 2 1) 2) ≡ true
is_answer true = refl
is_answer false = refl

acquired_again : (bytes : List ℕ) (queued : Bool) → length bytes ≡ 40 → number (drop 32 bytes) ≡ cond queued 2 1 → acquired_in bytes ≡ Ok (replies.NameAcquire queued)
acquired_again bytes queued len e =
    let low : ltb (length bytes) 40 ≡ false = le-ltb _ _ (omega (arith, len)) in
    let high : ltb 40 (length bytes) ≡ false = le-ltb _ _ (omega (arith, len)) in
    rw (low, e, is_answer queued, high, which_answer queued) refl

-- ---- bytes

run_again : (run : List ℕ) (rest : List ℕ) (count : ℕ) → count ≡ length run → rest ≡ run ++ replicate (padding (length run)) 0 → run_of count rest ≡ Ok (replies.Read run)
run_again run rest count count-is e =
    let zs : List ℕ = replicate (padding (length run)) 0 in
    let pad = padding count in
    let zs_len : length zs ≡ pad = length-replicate (padding (length run)) 0 ∙ ap padding (sym count-is) in
    let len : length rest ≡ count + pad = omega (arith, ap length e, length-append run zs, zs_len, count-is) in
    let a : ltb (length rest) count ≡ false = le-ltb _ _ (omega (arith, len)) in
    let b : ltb (length rest) (count + pad) ≡ false = le-ltb _ _ (omega (arith, len)) in
    let c : ltb (count + pad) (length rest) ≡ false = le-ltb _ _ (omega (arith, len)) in
    let tail : drop count rest ≡ zs = ap (drop count) e ∙ drop_at run zs count (sym count-is) in
    let all : take pad zs ≡ zs = ap (take pad) (sym (append-nil zs)) ∙ take_at zs [] pad zs_len in
    let zeros : are_zeros (take pad (drop count rest)) ≡ true = ap (λ (l : List ℕ). are_zeros (take pad l)) tail ∙ ap are_zeros all ∙ zeros_pass (padding (length run)) in
    let front : take count rest ≡ run = ap (take count) e ∙ take_at run zs count (sym count-is) in
    rw (a, b, zeros, c, front) refl

read_again : (bytes run : List ℕ) → number (drop 32 bytes) ≡ length run → drop 32 bytes ≡ words (length run ∷ []) ++ (run ++ replicate (padding (length run)) 0) → read_in bytes ≡ Ok (replies.Read run)
read_again bytes run count e =
    let rest : List ℕ = run ++ replicate (padding (length run)) 0 in
    let after : drop 40 bytes ≡ rest = sym (drop-drop 8 32 bytes) ∙ behind_words (length run ∷ []) rest (drop 32 bytes) 8 refl e in
    let long : ltb (length bytes) 40 ≡ false = le-ltb _ _ (omega (arith, ap length e, length-body (length run ∷ []) rest, length-drop 32 bytes)) in
    ap (λ (b : Bool). cond b (Err (Bad 32)) (run_of (number (drop 32 bytes)) (drop 40 bytes))) long ∙ run_again run (drop 40 bytes) (number (drop 32 bytes)) count after

-- ---- lines

line_of : (body : List ℕ) (line : ListedItem) → 16 ≤ length body → number body ≡ line.id → number (drop 8 body) ≡ line.standing → drop 16 body ≡ line.name → is_utf8 line.name ≡ true → line_in (record { kind = 24; body = body }) ≡ Some line
unfolding line_in
line_of body line long id standing name text =
    let short : ltb (length body) 16 ≡ false = le-ltb _ _ long in
    rw (short, id, standing, name, text) refl

line_again : (line : ListedItem) → IsTypedLine line → line_in (listed_entry line) ≡ Some line
unfolding line_in
line_again line typed =
    let ws = line.id ∷ line.standing ∷ [] in
    let body = words ws ++ line.name in
    let read : words_from 2 0 body ≡ ws = words_again ws line.name typed.words in
    let behind : drop 16 body ≡ line.name = behind_words ws line.name body 16 refl refl in
    line_of body line (omega (arith, length-body ws line.name)) (ap (λ l. nth l 0) read) (ap (λ l. nth l 1) read) behind typed.text

lines_again : (lines before : List ListedItem) (at : ℕ) → AllByRecursion IsTypedLine lines → length (listing_bytes lines) < 2 ^ 63 → lines_in (length lines) at before (listing_bytes lines) ≡ Ok (before ++ lines)
unfolding lines_in
lines_again [] before at typed few = ap (λ l. Ok l) (sym (append-nil before))
lines_again (line ∷ lines) before at typed few =
    let e = listed_entry line in
    let rest = listing_bytes lines in
    let len = length-append (spelling e) rest in
    let one : length (spelling e) ≡ item_length (16 + length line.name) = length_line line in
    let body : length e.body ≡ 16 + length line.name = length-body (line.id ∷ line.standing ∷ []) line.name in
    let fits : Fits e = record { kind = omega arith; size = omega (arith, len, one, body) } in
    lines_more (length lines) at before (spelling e ++ rest) (e, rest) line (item_again e rest fits) (line_again line typed.0)
    ∙ lines_again lines (before ++ line ∷ []) (at + (length (spelling e ++ rest) - length rest)) typed.1 (omega (arith, len))
    ∙ ap (λ l. Ok l) (append_assoc before (line ∷ []) lines)

listing_again : (bytes : List ℕ) (lines : List ListedItem) → AllByRecursion IsTypedLine lines → reply_length (replies.NameList lines) < 2 ^ 63 → number (drop 32 bytes) ≡ length lines → drop 32 bytes ≡ words (length lines ∷ []) ++ listing_bytes lines → listing_in bytes ≡ Ok (replies.NameList lines)
listing_again bytes lines typed few count e =
    let rest = listing_bytes lines in
    let after : drop 40 bytes ≡ rest = sym (drop-drop 8 32 bytes) ∙ behind_words (length lines ∷ []) rest (drop 32 bytes) 8 refl e in
    let long : ltb (length bytes) 40 ≡ false = le-ltb _ _ (omega (arith, ap length e, length-body (length lines ∷ []) rest, length-drop 32 bytes)) in
    let read : lines_in (number (drop 32 bytes)) 40 [] (drop 40 bytes) ≡ Ok lines = ap (λ n. lines_in n 40 [] (drop 40 bytes)) count ∙ ap (lines_in (length lines) 40 []) after ∙ lines_again lines [] 40 typed (omega (arith, few)) in
    ap (λ (b : Bool). cond b (Err (Bad 32)) (listed_reply (lines_in (number (drop 32 bytes)) 40 [] (drop 40 bytes)))) long ∙ ap listed_reply read

-- ---- refusals

refusal_again : (refusal : Refusal) → refusal ≢ OutOfMemory → refusal_from (refusals.refusal_number refusal) (refusals.refusal_value refusal) ≡ Some refusal
refusal_again (Malformed x) named = refl
refusal_again (Unsupported x) named = refl
refusal_again BadFlags named = refl
refusal_again MissingItem named = refl
refusal_again DoubledItem named = refl
refusal_again BadName named = refl
refusal_again NotPermitted named = refl
refusal_again NoSuchName named = refl
refusal_again NoSuchConnection named = refl
refusal_again (NameMoved x) named = refl
refusal_again NameTaken named = refl
refusal_again AlreadyOwned named = refl
refusal_again NotOwner named = refl
refusal_again (TooMany x) named = refl
refusal_again PoolFull named = refl
refusal_again Quota named = refl
refusal_again NotStarted named = refl
refusal_again (NoMessage x) named = refl
refusal_again NoSuchPriority named = refl
refusal_again NoSuchSlice named = refl
refusal_again NotReceived named = refl
refusal_again (Busy x) named = refl
refusal_again BloomSize named = refl
refusal_again TooLong named = refl
refusal_again BroadcastMisuse named = refl
refusal_again (NoSuchBus x) named = refl
refusal_again BusExists named = refl
refusal_again WrongPrefix named = refl
refusal_again NoSuchEndpoint named = refl
refusal_again EndpointExists named = refl
refusal_again WrongState named = refl
refusal_again MessagesQueued named = refl
refusal_again NoSuchMatch named = refl
refusal_again NoSuchSeal named = refl
refusal_again BadCookie named = refl
refusal_again SlicesSpent named = refl
refusal_again TurnsSpent named = refl
refusal_again OutOfMemory named = absurd (named refl)

some_code : (refusal : Refusal) → refusal ≢ OutOfMemory → (refusals.refusal_number refusal ≡ 0 → ⊥) × (refusals.refusal_number refusal ≤ 37)
some_code (Malformed x) named = (λ e. omega (arith, e), omega arith)
some_code (Unsupported x) named = (λ e. omega (arith, e), omega arith)
some_code BadFlags named = (λ e. omega (arith, e), omega arith)
some_code MissingItem named = (λ e. omega (arith, e), omega arith)
some_code DoubledItem named = (λ e. omega (arith, e), omega arith)
some_code BadName named = (λ e. omega (arith, e), omega arith)
some_code NotPermitted named = (λ e. omega (arith, e), omega arith)
some_code NoSuchName named = (λ e. omega (arith, e), omega arith)
some_code NoSuchConnection named = (λ e. omega (arith, e), omega arith)
some_code (NameMoved x) named = (λ e. omega (arith, e), omega arith)
some_code NameTaken named = (λ e. omega (arith, e), omega arith)
some_code AlreadyOwned named = (λ e. omega (arith, e), omega arith)
some_code NotOwner named = (λ e. omega (arith, e), omega arith)
some_code (TooMany x) named = (λ e. omega (arith, e), omega arith)
some_code PoolFull named = (λ e. omega (arith, e), omega arith)
some_code Quota named = (λ e. omega (arith, e), omega arith)
some_code NotStarted named = (λ e. omega (arith, e), omega arith)
some_code (NoMessage x) named = (λ e. omega (arith, e), omega arith)
some_code NoSuchPriority named = (λ e. omega (arith, e), omega arith)
some_code NoSuchSlice named = (λ e. omega (arith, e), omega arith)
some_code NotReceived named = (λ e. omega (arith, e), omega arith)
some_code (Busy x) named = (λ e. omega (arith, e), omega arith)
some_code BloomSize named = (λ e. omega (arith, e), omega arith)
some_code TooLong named = (λ e. omega (arith, e), omega arith)
some_code BroadcastMisuse named = (λ e. omega (arith, e), omega arith)
some_code (NoSuchBus x) named = (λ e. omega (arith, e), omega arith)
some_code BusExists named = (λ e. omega (arith, e), omega arith)
some_code WrongPrefix named = (λ e. omega (arith, e), omega arith)
some_code NoSuchEndpoint named = (λ e. omega (arith, e), omega arith)
some_code EndpointExists named = (λ e. omega (arith, e), omega arith)
some_code WrongState named = (λ e. omega (arith, e), omega arith)
some_code MessagesQueued named = (λ e. omega (arith, e), omega arith)
some_code NoSuchMatch named = (λ e. omega (arith, e), omega arith)
some_code NoSuchSeal named = (λ e. omega (arith, e), omega arith)
some_code BadCookie named = (λ e. omega (arith, e), omega arith)
some_code SlicesSpent named = (λ e. omega (arith, e), omega arith)
some_code TurnsSpent named = (λ e. omega (arith, e), omega arith)
some_code OutOfMemory named = absurd (named refl)

refused_again : (bytes : List ℕ) (refusal : Refusal) → refusal ≢ OutOfMemory → length bytes ≡ 40 → number (drop 32 bytes) ≡ refusals.refusal_value refusal → refused_in (refusals.refusal_number refusal) bytes ≡ Ok (replies.Refused refusal)
refused_again bytes refusal named len e =
    let known : refusals.refusal_number refusal ≤ 37 = (some_code refusal named).1 in
    let a : ltb 37 (refusals.refusal_number refusal) ≡ false = le-ltb _ _ known in
    let low : ltb (length bytes) 40 ≡ false = le-ltb _ _ (omega (arith, len)) in
    let high : ltb 40 (length bytes) ≡ false = le-ltb _ _ (omega (arith, len)) in
    let found : refusal_from (refusals.refusal_number refusal) (number (drop 32 bytes)) ≡ Some refusal = ap (refusal_from (refusals.refusal_number refusal)) e ∙ refusal_again refusal named in
    ap (λ (b : Bool). cond b (Err (Bad 24)) (cond (ltb (length bytes) 40) (Err (Bad 32)) (if_alone bytes (refusal_from (refusals.refusal_number refusal) (number (drop 32 bytes)))))) a
    ∙ ap (λ (b : Bool). cond b (Err (Bad 32)) (if_alone bytes (refusal_from (refusals.refusal_number refusal) (number (drop 32 bytes))))) low
    ∙ ap (if_alone bytes) found
    ∙ ap (λ (b : Bool). cond b (Err (Bad 40)) (Ok (replies.Refused refusal))) high

-- ---- all replies

done_again : (bytes : List ℕ) (command : ℕ) (opcode : Opcode) (reply : Reply) → command_word bytes ≡ command → code_word bytes ≡ 0 → command ≡ opcode_number opcode → answer_in opcode bytes ≡ Ok reply → behind_head bytes ≡ Ok reply
done_again bytes command opcode reply command-is code-is named e =
    let done : eqb (code_word bytes) 0 ≡ true = eq-eqb _ _ code-is in
    let found : opcode_of (command_word bytes) ≡ Some opcode = ap opcode_of (command-is ∙ named) ∙ named_again opcode in
    ap (λ (b : Bool). cond b (done_in (opcode_of (command_word bytes)) bytes) (refused_in (code_word bytes) bytes)) done ∙ ap (λ (o : Option Opcode). done_in o bytes) found ∙ e

behind_again : (bytes : List ℕ) (command caller : ℕ) (reply : Reply) → IsTypedReply reply → IsReplyTo command reply → reply_length reply < 2 ^ 63 → Laid bytes command caller reply → behind_head bytes ≡ Ok reply
behind_again bytes command caller (replies.Hello id size hashes) typed answers few l = done_again bytes command opcodes.Hello (replies.Hello id size hashes) l.command_is l.code_is answers (words_answer 3 bytes (replies.Hello id size hashes) _ l.long_is (three_words replies.Hello _ _ _ id size hashes l.own_are))
behind_again bytes command caller replies.Send typed answers few l = done_again bytes command opcodes.Send replies.Send l.command_is l.code_is answers (words_answer 0 bytes replies.Send replies.Send l.long_is refl)
behind_again bytes command caller (replies.Recv number offset size dropped) typed answers few l = done_again bytes command opcodes.Recv (replies.Recv number offset size dropped) l.command_is l.code_is answers (words_answer 4 bytes (replies.Recv number offset size dropped) _ l.long_is (four_words replies.Recv _ _ _ _ number offset size dropped l.own_are))
behind_again bytes command caller (replies.Read run) typed answers few l = done_again bytes command opcodes.Read (replies.Read run) l.command_is l.code_is answers (read_again bytes run (ap (λ w. nth w 0) l.own_are) l.behind)
behind_again bytes command caller replies.Free typed answers few l = done_again bytes command opcodes.Free replies.Free l.command_is l.code_is answers (words_answer 0 bytes replies.Free replies.Free l.long_is refl)
behind_again bytes command caller replies.Byebye typed answers few l = done_again bytes command opcodes.Byebye replies.Byebye l.command_is l.code_is answers (words_answer 0 bytes replies.Byebye replies.Byebye l.long_is refl)
behind_again bytes command caller replies.Close typed answers few l = done_again bytes command opcodes.Close replies.Close l.command_is l.code_is answers (words_answer 0 bytes replies.Close replies.Close l.long_is refl)
behind_again bytes command caller (replies.NameAcquire queued) typed answers few l = done_again bytes command opcodes.NameAcquire (replies.NameAcquire queued) l.command_is l.code_is answers (acquired_again bytes queued l.long_is (ap (λ w. nth w 0) l.own_are))
behind_again bytes command caller replies.NameRelease typed answers few l = done_again bytes command opcodes.NameRelease replies.NameRelease l.command_is l.code_is answers (words_answer 0 bytes replies.NameRelease replies.NameRelease l.long_is refl)
behind_again bytes command caller (replies.NameList lines) typed answers few l = done_again bytes command opcodes.NameList (replies.NameList lines) l.command_is l.code_is answers (listing_again bytes lines typed.lines few (ap (λ w. nth w 0) l.own_are) l.behind)
behind_again bytes command caller replies.MatchAdd typed answers few l = done_again bytes command opcodes.MatchAdd replies.MatchAdd l.command_is l.code_is answers (words_answer 0 bytes replies.MatchAdd replies.MatchAdd l.long_is refl)
behind_again bytes command caller replies.MatchRemove typed answers few l = done_again bytes command opcodes.MatchRemove replies.MatchRemove l.command_is l.code_is answers (words_answer 0 bytes replies.MatchRemove replies.MatchRemove l.long_is refl)
behind_again bytes command caller replies.PolicySet typed answers few l = done_again bytes command opcodes.PolicySet replies.PolicySet l.command_is l.code_is answers (words_answer 0 bytes replies.PolicySet replies.PolicySet l.long_is refl)
behind_again bytes command caller replies.EndpointMake typed answers few l = done_again bytes command opcodes.EndpointMake replies.EndpointMake l.command_is l.code_is answers (words_answer 0 bytes replies.EndpointMake replies.EndpointMake l.long_is refl)
behind_again bytes command caller replies.MakeBus typed answers few l = done_again bytes command opcodes.MakeBus replies.MakeBus l.command_is l.code_is answers (words_answer 0 bytes replies.MakeBus replies.MakeBus l.long_is refl)
behind_again bytes command caller (replies.Tick moment) typed answers few l = done_again bytes command opcodes.Tick (replies.Tick moment) l.command_is l.code_is answers (words_answer 1 bytes (replies.Tick moment) _ l.long_is (ap replies.Tick (ap (λ w. nth w 0) l.own_are)))
behind_again bytes command caller (replies.Seal number) typed answers few l = done_again bytes command opcodes.Seal (replies.Seal number) l.command_is l.code_is answers (words_answer 1 bytes (replies.Seal number) _ l.long_is (ap replies.Seal (ap (λ w. nth w 0) l.own_are)))
behind_again bytes command caller replies.Unseal typed answers few l = done_again bytes command opcodes.Unseal replies.Unseal l.command_is l.code_is answers (words_answer 0 bytes replies.Unseal replies.Unseal l.long_is refl)
behind_again bytes command caller replies.Enter typed answers few l = done_again bytes command opcodes.Enter replies.Enter l.command_is l.code_is answers (words_answer 0 bytes replies.Enter replies.Enter l.long_is refl)
behind_again bytes command caller (replies.Refused refusal) typed answers few l =
    let code : eqb (code_word bytes) 0 ≡ false = ap (λ n. eqb n 0) l.code_is ∙ ne_eqb (refusals.refusal_number refusal) 0 (some_code refusal answers).0 in
    ap (λ (b : Bool). cond b (done_in (opcode_of (command_word bytes)) bytes) (refused_in (code_word bytes) bytes)) code
    ∙ ap (λ n. refused_in n bytes) l.code_is
    ∙ refused_again bytes refusal answers l.long_is (ap (λ w. nth w 0) l.own_are)

pub reply_again : (bytes : List ℕ) (command caller : ℕ) (reply : Reply) → IsTypedReply reply → command < 2 ^ 64 → caller < 2 ^ 64 → IsReplyTo command reply → reply_length reply < 2 ^ 63 → bytes ≡ reply_frame command caller reply → reply_in bytes ≡ Ok reply
unfolding reply_in
reply_again bytes command caller reply typed command-fits caller-fits answers few e =
    let l = laid bytes command caller reply command-fits caller-fits typed.words (omega (arith, few)) e in
    let long : length bytes ≡ reply_length reply = l.long_is in
    let a : ltb (length bytes) 8 ≡ false = le-ltb _ _ (omega (arith, long)) in
    let b : eqb (number bytes) (length bytes) ≡ true = eq-eqb _ _ l.size_is in
    let c : ltb (length bytes) 16 ≡ false = le-ltb _ _ (omega (arith, long)) in
    let d : ltb (length bytes) 24 ≡ false = le-ltb _ _ (omega (arith, long)) in
    let f : ltb (length bytes) 32 ≡ false = le-ltb _ _ (omega (arith, long)) in
    let head : head_break bytes ≡ None = rw (a, b, c, d, f) refl in
    ap (λ (o : Option ℕ). head_then o bytes) head ∙ behind_again bytes command caller reply typed answers few l
