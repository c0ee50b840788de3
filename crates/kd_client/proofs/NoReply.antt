-- Bytes that are no reply to a command, nor the beginning of one.
use Rattle.std.proofs.Common.{◌≡◌, Bool, true, false, ℕ, ◌^◌, ◌<◌, ◌≤◌, List, [], ◌++◌, length, Option, Result, Ok, Err, refl, sym, ap, subst, inl, inr, ◌∙◌, length-append, arith}
use Rattle.std.proofs.lemmas.List.{append-nil, nil_from_length}
use Rattle.kd_item.specs.Spelling.{number}
use Rattle.kd_types.specs.declared.reply_error.ReplyError.{ReplyError}
use Rattle.kd_wire.specs.declared.reply.Reply.{Reply}
use Rattle.kd_wire.specs.declared.opcode.Opcode.{Opcode}
use Rattle.kd_wire.specs.declared.opcode.Opcode.TheVariants as opcodes
use Rattle.kd_wire.specs.Opcodes.{opcode_number}
use Rattle.kd_wire.specs.Frames.{command_word, caller_word}
use Rattle.kd_wire.specs.Replies.{reply_length, reply_frame}
use Rattle.kd_types.specs.declared.reply_error.ReplyError.TheVariants.{Bad}
use Rattle.kd_wire.specs.ReplyReading.{IsBreak, reply_in}
use Rattle.kd_wire.proofs.RepliesAgain.{reply_again}
use Rattle.kd_outside.specs.Told.{Side}
use Rattle.kd_client.specs.declared.error.ClientError.{ClientError}
use Rattle.kd_client.specs.declared.error.ClientError.TheVariants.{LinkFault, Ended, BadReply, OutOfMemory}
use Rattle.kd_client.specs.Causes.{IsReply, IsNoReply, IsWhole, Came, HasNone, HasWhy, StopsShort}
use Rattle.kd_client.proofs.Coming.{number_front, came_more, all_came}
use Rattle.kd_client.proofs.Heads.{Head, head_of, length_of_reply}

pub opcode_small : (opcode : Opcode) → opcode_number opcode < 2 ^ 64
opcode_small opcodes.Hello = omega arith
opcode_small opcodes.Send = omega arith
opcode_small opcodes.Recv = omega arith
opcode_small opcodes.Read = omega arith
opcode_small opcodes.Free = omega arith
opcode_small opcodes.Byebye = omega arith
opcode_small opcodes.Close = omega arith
opcode_small opcodes.NameAcquire = omega arith
opcode_small opcodes.NameRelease = omega arith
opcode_small opcodes.NameList = omega arith
opcode_small opcodes.MatchAdd = omega arith
opcode_small opcodes.MatchRemove = omega arith
opcode_small opcodes.PolicySet = omega arith
opcode_small opcodes.EndpointMake = omega arith
opcode_small opcodes.MakeBus = omega arith
opcode_small opcodes.Tick = omega arith
opcode_small opcodes.Seal = omega arith
opcode_small opcodes.Unseal = omega arith
opcode_small opcodes.Enter = omega arith

-- the head of a reply with bytes behind it, and of the beginning of one
head_begins : (command : ℕ) (reply : Reply) (rest bytes : List ℕ) → IsReply command reply → bytes ≡ reply_frame command 0 reply ++ rest → Head bytes (reply_length reply) command 0
head_begins command reply rest bytes r e = head_of command 0 reply rest bytes (let size = r.size in omega (arith, size)) e

size_begun : (command : ℕ) (reply : Reply) (rest bytes : List ℕ) → 8 ≤ length bytes → IsReply command reply → bytes ++ rest ≡ reply_frame command 0 reply → number bytes ≡ reply_length reply
size_begun command reply rest bytes long r e =
    let h = head_begins command reply [] (bytes ++ rest) r (e ∙ sym (append-nil (reply_frame command 0 reply))) in
    sym (number_front bytes rest long) ∙ h.size_is

-- a reply with bytes behind it, which are as many as its size word says
exact_begins : (command : ℕ) (reply : Reply) (rest bytes : List ℕ) → IsWhole bytes → IsReply command reply → bytes ≡ reply_frame command 0 reply ++ rest → bytes ≡ reply_frame command 0 reply
exact_begins command reply rest bytes w r e =
    let frame = reply_frame command 0 reply in
    let size : number bytes ≡ reply_length reply = (head_begins command reply rest bytes r e).size_is in
    let same : number bytes ≡ length bytes = w.size in
    let none : length rest ≡ 0 = omega (arith, size, same, ap length e, length-append frame rest, length_of_reply command 0 reply) in
    e ∙ ap (λ (l : List ℕ). frame ++ l) (nil_from_length rest none) ∙ append-nil frame

exact_begun : (command : ℕ) (reply : Reply) (rest bytes : List ℕ) → IsWhole bytes → IsReply command reply → bytes ++ rest ≡ reply_frame command 0 reply → bytes ≡ reply_frame command 0 reply
exact_begun command reply rest bytes w r e =
    let low = w.low in
    let size : number bytes ≡ reply_length reply = size_begun command reply rest bytes (omega (arith, low)) r e in
    let same : number bytes ≡ length bytes = w.size in
    let none : length rest ≡ 0 = omega (arith, size, same, ap length e, length-append bytes rest, length_of_reply command 0 reply) in
    sym (append-nil bytes) ∙ ap (λ (l : List ℕ). bytes ++ l) (sym (nil_from_length rest none)) ∙ e

-- bytes that came whole, and are none of the replies
pub none_whole : (command : ℕ) (bytes : List ℕ) → IsWhole bytes → ((reply : Reply) → IsReply command reply → bytes ≡ reply_frame command 0 reply → ⊥) → IsNoReply command bytes
none_whole command bytes w never =
    record {
      begins = λ reply rest r e. never reply r (exact_begins command reply rest bytes w r e);
      begun = λ reply rest r e. never reply r (exact_begun command reply rest bytes w r e);
    }

-- a size word below that of any reply
pub none_small : (command : ℕ) (bytes : List ℕ) → length bytes ≡ 8 → number bytes < 32 → IsNoReply command bytes
none_small command bytes long small =
    record {
      begins = λ reply rest r e. let size : number bytes ≡ reply_length reply = (head_begins command reply rest bytes r e).size_is in omega (arith, size, small);
      begun = λ reply rest r e. let size : number bytes ≡ reply_length reply = size_begun command reply rest bytes (omega (arith, long)) r e in omega (arith, size, small);
    }

-- the reply to another command, or to another caller
pub none_other : (command : ℕ) (bytes : List ℕ) → IsWhole bytes → command < 2 ^ 64 → (command_word bytes ≡ command → ⊥) → IsNoReply command bytes
none_other command bytes w fits other =
    none_whole command bytes w (λ reply r e. other ((head_begins command reply [] bytes r (e ∙ sym (append-nil (reply_frame command 0 reply)))).command_is fits))

pub none_called : (command : ℕ) (bytes : List ℕ) → IsWhole bytes → (caller_word bytes ≡ 0 → ⊥) → IsNoReply command bytes
none_called command bytes w other =
    none_whole command bytes w (λ reply r e. other ((head_begins command reply [] bytes r (e ∙ sym (append-nil (reply_frame command 0 reply)))).caller_is (omega arith)))

abbrev done : Reply → Result Reply ReplyError
done reply = Ok reply

no_value : (reply : Reply) (error : ReplyError) → done reply ≡ Err error → ⊥
no_value reply error e = cc

-- what isn't read
pub none_read : (command : ℕ) (bytes : List ℕ) (error : ReplyError) → IsWhole bytes → command < 2 ^ 64 → reply_in bytes ≡ Err error → IsNoReply command bytes
none_read command bytes error w fits read =
    none_whole command bytes w (λ reply r e. no_value reply error (sym (reply_again bytes command 0 reply r.typed fits (omega arith) r.answers r.size e) ∙ read))

pub none_broken : (command : ℕ) (bytes : List ℕ) (place : ℕ) (error : ReplyError) → error ≡ Bad place → IsWhole bytes → command < 2 ^ 64 → IsBreak error (reply_in bytes) → IsNoReply command bytes
none_broken command bytes place error is w fits (inl e) = absurd cc
none_broken command bytes place error is w fits (inr e) = none_read command bytes error w fits e

pub not_both : (b : Bool) → b ≡ true → b ≡ false → ⊥
not_both true h k = cc
not_both false h k = cc

-- a reply to a caller other than 0
pub none_for : (command caller : ℕ) (reply : Reply) (bytes : List ℕ) → IsWhole bytes → caller < 2 ^ 64 → (caller ≡ 0 → ⊥) → bytes ≡ reply_frame (command_word bytes) caller reply → reply_length reply ≡ length bytes → IsNoReply command bytes
none_for command caller reply bytes w fits other e long =
    let high = w.high in
    let h = head_of (command_word bytes) caller reply [] bytes (omega (arith, high, long)) (e ∙ sym (append-nil (reply_frame (command_word bytes) caller reply))) in
    none_called command bytes w (λ same. other (sym (h.caller_is fits) ∙ same))

-- ---- what was read instead of a reply

pub small_head : (command at : ℕ) (before after : Side) (held now : List ℕ) → held ≡ [] → Came before.bytes after.bytes held now → length now ≡ 8 → number now < 32 → HasNone command at before after (BadReply at)
small_head command at before after held now none came long small =
    record {
      bytes = now;
      read = all_came before.bytes after.bytes now (subst (λ (l : List ℕ). Came before.bytes after.bytes l now) none came);
      why = (refl, inl (none_small command now long small));
    }

pub whole_is : (a b : Option (List ℕ)) (first now : List ℕ) (n : ℕ) → Came a b first now → length first ≡ 8 → number first ≡ n → 32 ≤ n → n ≤ 2097152 → length now ≡ n → IsWhole now
whole_is a b first now n came long size low high all =
    let same : number now ≡ number first = ap number came.joined ∙ number_front first came.bytes (omega (arith, long)) in
    record {
      size = same ∙ size ∙ sym all;
      low = omega (arith, low, all);
      high = omega (arith, high, all);
    }

stops_why : (command at total : ℕ) (before mid after : Side) (bytes : List ℕ) (error : ClientError) → mid.faults ≡ before.faults → number bytes ≡ total → StopsShort at total mid after bytes error → HasWhy command at before after bytes error
stops_why command at total before mid after bytes LinkFault same size h = rw (← same) h
stops_why command at total before mid after bytes (Ended end) same size h = (h.0, inr (let short = h.1 in omega (arith, short, size)), h.2)
stops_why command at total before mid after bytes (BadReply place) same size h = absurd h
stops_why command at total before mid after bytes OutOfMemory same size h = tt

pub stops_none : (command at total : ℕ) (before mid after : Side) (held first now : List ℕ) (error : ClientError) → held ≡ [] → Came before.bytes mid.bytes held first → Came mid.bytes after.bytes first now → mid.faults ≡ before.faults → length first ≡ 8 → number first ≡ total
    → StopsShort at total mid after now error → HasNone command at before after error
stops_none command at total before mid after held first now error none one two same long size stops =
    let all : Came before.bytes after.bytes held now = came_more before.bytes mid.bytes after.bytes held first now one two in
    let front : number now ≡ number first = ap number two.joined ∙ number_front first two.bytes (omega (arith, long)) in
    record {
      bytes = now;
      read = all_came before.bytes after.bytes now (subst (λ (l : List ℕ). Came before.bytes after.bytes l now) none all);
      why = stops_why command at total before mid after now error same (front ∙ size) stops;
    }
