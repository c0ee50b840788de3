-- Exchanges one after the other, and what is left where one isn't answered.
use Rattle.std.proofs.Common.{◌≡◌, ℕ, ◌+◌, List, [], ◌∷◌, ◌++◌, length, take, map, refl, sym, ap, subst, ◌∙◌, append_assoc, length-append, inl, inr, arith}
use Rattle.std.proofs.lemmas.List.{append-nil, map-append, take_all}
use Rattle.std.proofs.lemmas.Grind.{flat_map-append}
use Rattle.std.proofs.Math.Seq.{take-append-add}
use Rattle.std.specs.Io.KnownBytes.{Appends, Consumes}
use Rattle.kd_outside.specs.Causes.{Rose}
use Rattle.kd_outside.specs.Told.{Side, LinkState}
use Rattle.kd_outside.proofs.Known.{appends_nothing, appends_more, consumes_nothing, consumes_more}
use Rattle.kd_wire.specs.declared.command.Command.{Command}
use Rattle.kd_wire.specs.declared.reply.Reply.{Reply}
use Rattle.kd_wire.specs.Frames.{frame_of}
use Rattle.kd_wire.specs.Replies.{reply_frame, IsReplyTo}
use Rattle.kd_client.specs.declared.error.ClientError.{ClientError}
use Rattle.kd_client.specs.declared.error.ClientError.TheVariants.{LinkFault, Ended, BadReply, OutOfMemory}
use Rattle.kd_client.specs.Exchanges.{Exchange, Exchanged, AreAnswered, exchange, commands_of, number_of, paired, frames, replies}
use Rattle.kd_client.specs.Causes.{Broke, HasNone, HasWhy, IsCause, IsFault, IsUnsent}

pub frames_append : (xs ys : List Command) → frames (xs ++ ys) ≡ frames xs ++ frames ys
unfolding frames
frames_append xs ys = flat_map-append (λ c. frame_of 0 c) xs ys

pub frames_one : (command : Command) → frames (command ∷ []) ≡ frame_of 0 command
unfolding frames
frames_one command = append-nil (frame_of 0 command)

pub frames_none : frames [] ≡ []
unfolding frames
frames_none = refl

pub replies_append : (es fs : List Exchange) → replies (es ++ fs) ≡ replies es ++ replies fs
unfolding replies
replies_append es fs = flat_map-append (λ e. reply_frame (number_of e.command) 0 e.reply) es fs

pub replies_one : (command : Command) (reply : Reply) → replies (exchange command reply ∷ []) ≡ reply_frame (number_of command) 0 reply
unfolding replies
replies_one command reply = append-nil (reply_frame (number_of command) 0 reply)

pub replies_none : replies [] ≡ []
unfolding replies
replies_none = refl

pub answered_append : (es fs : List Exchange) → AreAnswered es → AreAnswered fs → AreAnswered (es ++ fs)
answered_append [] fs h k = k
answered_append (e ∷ es) fs h k = (h.0, answered_append es fs h.1 k)

-- one command and its reply
pub exchanged_one : (before after : LinkState) (command : Command) (reply : Reply) → Appends before.writing.bytes after.writing.bytes (frames (command ∷ [])) → Consumes before.reading.bytes after.reading.bytes (reply_frame (number_of command) 0 reply)
    → IsReplyTo (number_of command) reply → after.reading.faults ≡ before.reading.faults → after.writing.faults ≡ before.writing.faults → Exchanged before after (exchange command reply ∷ [])
exchanged_one before after command reply written read answers reads writes =
    record {
      written = written;
      read = rw (replies_one command reply) read;
      answered = (answers, tt);
      reads = reads;
      writes = writes;
    }

-- ---- what wasn't written

unsent_cause : (at : ℕ) (before after : LinkState) (left : List Command) (bytes : List ℕ) (count total : ℕ) (error : ClientError) → IsFault before.writing.faults after.writing.faults error → IsCause at before after left bytes count total error
unsent_cause at before after left bytes count total LinkFault h = inr h
unsent_cause at before after left bytes count total (Ended end) h = absurd h
unsent_cause at before after left bytes count total (BadReply place) h = absurd h
unsent_cause at before after [] bytes count total OutOfMemory h = tt
unsent_cause at before after (c ∷ left) bytes count total OutOfMemory h = tt

pub broke_unsent : (from : ℕ) (before after : LinkState) (commands : List Command) (error : ClientError) → IsUnsent before.writing after.writing (frames commands) error → after.reading ≡ before.reading → Broke from before after [] commands error
broke_unsent from before after commands error u same =
    record {
      count = u.count;
      bytes = [];
      written = u.written;
      read = rw (replies_none, same) (consumes_nothing before.reading.bytes);
      answered = tt;
      cause = unsent_cause (from + length (replies [])) before after commands [] u.count (length (frames commands)) error u.cause;
    }

pub memory_cause : (at : ℕ) (before after : LinkState) (left : List Command) (bytes : List ℕ) (count total : ℕ) → IsCause at before after left bytes count total OutOfMemory
memory_cause at before after [] bytes count total = tt
memory_cause at before after (c ∷ left) bytes count total = tt

-- memory ran out before anything was written
pub broke_none : (from : ℕ) (link : LinkState) (left : List Command) → Broke from link link [] left OutOfMemory
broke_none from link left =
    record {
      count = 0;
      bytes = [];
      written = appends_nothing link.writing.bytes;
      read = rw replies_none (consumes_nothing link.reading.bytes);
      answered = tt;
      cause = memory_cause (from + length (replies [])) link link left [] 0 (length (frames left));
    }

-- the frames were written, and handing them on failed
pub unsent_whole : (before mid after : Side) (bytes : List ℕ) → Appends before.bytes mid.bytes bytes → mid.faults ≡ before.faults → after.bytes ≡ mid.bytes → Rose mid.faults after.faults → IsUnsent before after bytes LinkFault
unsent_whole before mid after bytes written same kept rose =
    record {
      count = length bytes;
      written = rw (kept, take_all (length bytes) bytes (omega arith)) written;
      cause = rw (← same) rose;
    }

-- ---- what wasn't read

unheard_cause : (at : ℕ) (before after : LinkState) (mid : Side) (command : Command) (left : List Command) (bytes : List ℕ) (total : ℕ) (error : ClientError) → mid.faults ≡ before.reading.faults → HasWhy (number_of command) at mid after.reading bytes error → IsCause at before after (command ∷ left) bytes total total error
unheard_cause at before after mid command left bytes total LinkFault same h = inl (rw (← same) h)
unheard_cause at before after mid command left bytes total (Ended end) same h = (refl, h.0, h.1, h.2)
unheard_cause at before after mid command left bytes total (BadReply place) same h = (refl, h.0, h.1)
unheard_cause at before after mid command left bytes total OutOfMemory same h = tt

pub broke_unheard : (from : ℕ) (before after : LinkState) (mid : Side) (done : List Exchange) (command : Command) (left : List Command) (error : ClientError)
    → Appends before.writing.bytes after.writing.bytes (frames (commands_of done ++ command ∷ left)) → Consumes before.reading.bytes mid.bytes (replies done) → mid.faults ≡ before.reading.faults → AreAnswered done
    → HasNone (number_of command) (from + length (replies done)) mid after.reading error → Broke from before after done (command ∷ left) error
broke_unheard from before after mid done command left error written read same answered none =
    let all = frames (commands_of done ++ command ∷ left) in
    record {
      count = length all;
      bytes = none.bytes;
      written = rw (take_all (length all) all (omega arith)) written;
      read = consumes_more before.reading.bytes mid.bytes after.reading.bytes (replies done) none.bytes read none.read;
      answered = answered;
      cause = unheard_cause (from + length (replies done)) before after mid command left none.bytes (length all) error same none.why;
    }

-- the first reply wasn't read
pub broke_first : (from at : ℕ) (before mid after : LinkState) (command : Command) (error : ClientError) → Appends before.writing.bytes mid.writing.bytes (frames (command ∷ [])) → after.writing ≡ mid.writing → mid.reading ≡ before.reading → at ≡ from
    → HasNone (number_of command) at mid.reading after.reading error → Broke from before after [] (command ∷ []) error
broke_first from at before mid after command error written kept same here none =
    let none_at : HasNone (number_of command) (from + length (replies [])) mid.reading after.reading error = subst (λ (n : ℕ). HasNone (number_of command) n mid.reading after.reading error) (omega (arith, here, ap length replies_none)) none in
    broke_unheard from before after mid.reading [] command [] error (rw kept written) (rw (replies_none, same) (consumes_nothing before.reading.bytes)) (ap (λ (s : Side). s.faults) same) tt none_at

-- ---- one list of commands after another

pub exchanged_more : (a b c : LinkState) (es fs : List Exchange) → Exchanged a b es → Exchanged b c fs → Exchanged a c (es ++ fs)
exchanged_more a b c es fs first second =
    record {
      written = rw (map-append (λ (e : Exchange). e.command) es fs, frames_append (commands_of es) (commands_of fs)) (appends_more a.writing.bytes b.writing.bytes c.writing.bytes (frames (commands_of es)) (frames (commands_of fs)) first.written second.written);
      read = rw (replies_append es fs) (consumes_more a.reading.bytes b.reading.bytes c.reading.bytes (replies es) (replies fs) first.read second.read);
      answered = answered_append es fs first.answered second.answered;
      reads = second.reads ∙ first.reads;
      writes = second.writes ∙ first.writes;
    }

-- ---- lists of commands with their replies

pub pairs_back : (es : List Exchange) → paired (commands_of es) (map (λ e. e.reply) es) ≡ es
pairs_back [] = refl
pairs_back (e ∷ es) = ap (λ (l : List Exchange). e ∷ l) (pairs_back es)

-- ---- a call that breaks off behind what was answered

cause_behind : (at at' : ℕ) (a b c : LinkState) (left : List Command) (bytes : List ℕ) (count total k : ℕ) (error : ClientError) → at ≡ at' → b.reading.faults ≡ a.reading.faults → b.writing.faults ≡ a.writing.faults
    → IsCause at b c left bytes count total error → IsCause at' a c left bytes (k + count) (k + total) error
cause_behind at at' a b c left bytes count total k LinkFault place reads writes (inl h) = inl (rw (← reads) h)
cause_behind at at' a b c left bytes count total k LinkFault place reads writes (inr h) = inr (rw (← writes) h)
cause_behind at at' a b c [] bytes count total k (Ended end) place reads writes h = h
cause_behind at at' a b c (command ∷ left) bytes count total k (Ended end) place reads writes h = (ap (λ n. k + n) h.0, h.1, h.2, h.3 ∙ ap (λ n. n + length bytes) place)
cause_behind at at' a b c [] bytes count total k (BadReply found) place reads writes h = h
cause_behind at at' a b c (command ∷ left) bytes count total k (BadReply found) place reads writes h = (ap (λ n. k + n) h.0, h.1 ∙ place, h.2)
cause_behind at at' a b c [] bytes count total k OutOfMemory place reads writes h = tt
cause_behind at at' a b c (command ∷ left) bytes count total k OutOfMemory place reads writes h = tt

all_frames : (es done : List Exchange) (left : List Command) → frames (commands_of (es ++ done) ++ left) ≡ frames (commands_of es) ++ frames (commands_of done ++ left)
all_frames es done left =
    ap (λ (l : List Command). frames (l ++ left)) (map-append (λ (e : Exchange). e.command) es done) ∙ ap frames (append_assoc (commands_of es) (commands_of done) left) ∙ frames_append (commands_of es) (commands_of done ++ left)

pub broke_behind : (from : ℕ) (a b c : LinkState) (es done : List Exchange) (left : List Command) (error : ClientError) → Exchanged a b es → Broke (from + length (replies es)) b c done left error → Broke from a c (es ++ done) left error
broke_behind from a b c es done left error first then =
    let one = frames (commands_of es) in
    let two = frames (commands_of done ++ left) in
    let all : frames (commands_of (es ++ done) ++ left) ≡ one ++ two = all_frames es done left in
    let place : from + length (replies es) + length (replies done) ≡ from + length (replies (es ++ done)) = omega (arith, ap length (replies_append es done), length-append (replies es) (replies done)) in
    let total : length one + length two ≡ length (frames (commands_of (es ++ done) ++ left)) = sym (ap length all ∙ length-append one two) in
    record {
      count = length one + then.count;
      bytes = then.bytes;
      written = rw (all, take-append-add one two then.count) (appends_more a.writing.bytes b.writing.bytes c.writing.bytes one (take then.count two) first.written then.written);
      read = rw (replies_append es done, append_assoc (replies es) (replies done) then.bytes) (consumes_more a.reading.bytes b.reading.bytes c.reading.bytes (replies es) (replies done ++ then.bytes) first.read then.read);
      answered = answered_append es done first.answered then.answered;
      cause = subst (λ n. IsCause (from + length (replies (es ++ done))) a c left then.bytes (length one + then.count) n error) total (cause_behind _ _ a b c left then.bytes then.count (length two) (length one) error place first.reads first.writes then.cause);
    }
