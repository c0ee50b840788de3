-- Replies that are read one after the other, to commands that were written ahead of them.
use Rattle.std.proofs.Common.{◌≡◌, ℕ, suc, ◌+◌, ◌<◌, List, [], ◌∷◌, ◌++◌, length, take, drop, get_or, refl, sym, ap, subst, ◌∙◌, length-append, arith, Result, Ok, Err}
use Rattle.std.specs.Prelude.{IfErr}
use Rattle.std.specs.Result.{IsErrAnd}
use Rattle.std.specs.Io.KnownBytes.{Appends, Consumes}
use Rattle.std.proofs.lemmas.List.{take-append-drop, length-take-le}
use Rattle.std.proofs.Math.Seq.{drop-cons, take-suc}
use Rattle.kd_outside.specs.Told.{Side, LinkState}
use Rattle.kd_outside.proofs.Known.{consumes_nothing, consumes_more}
use Rattle.kd_wire.specs.declared.command.Command.{Command}
use Rattle.kd_wire.specs.declared.reply.Reply.{Reply}
use Rattle.kd_wire.specs.Replies.{reply_frame, IsReplyTo}
use Rattle.kd_client.specs.declared.error.ClientError.{ClientError}
use Rattle.kd_client.specs.declared.error.ClientError.TheVariants.{OutOfMemory}
use Rattle.kd_client.specs.Exchanges.{Exchange, Heard, Went, exchange, commands_of, frames, number_of, paired, replies}
use Rattle.kd_client.specs.Causes.{BrokeAhead, HasNone, HeardFront, IsUnsent}
use Rattle.kd_client.proofs.Spoken.{answered_append, broke_none, broke_unheard, broke_unsent, replies_append, replies_none, replies_one}

-- ---- as many replies as commands

pub commands_paired : (cs : List Command) (rs : List Reply) → length cs ≡ length rs → commands_of (paired cs rs) ≡ cs
commands_paired [] rs e = refl
commands_paired (c ∷ cs) [] e = absurd (omega (arith, e))
commands_paired (c ∷ cs) (r ∷ rs) e = ap (λ (l : List Command). c ∷ l) (commands_paired cs rs (omega (arith, e)))

paired_more : (cs : List Command) (rs : List Reply) (c : Command) (r : Reply) → length cs ≡ length rs → paired (cs ++ c ∷ []) (rs ++ r ∷ []) ≡ paired cs rs ++ exchange c r ∷ []
paired_more [] [] c r e = refl
paired_more [] (y ∷ ys) c r e = absurd (omega (arith, e))
paired_more (x ∷ xs) [] c r e = absurd (omega (arith, e))
paired_more (x ∷ xs) (y ∷ ys) c r e = ap (λ (l : List Exchange). exchange x y ∷ l) (paired_more xs ys c r (omega (arith, e)))

-- ---- one reply more

pub heard_none : (s : Side) (n : ℕ) → Heard s s n n []
heard_none s n = record { read = rw replies_none (consumes_nothing s.bytes); answered = tt; faults = refl; place = omega (arith, ap length replies_none) }

heard_one : (a b c : Side) (from at to : ℕ) (es : List Exchange) (command : Command) (reply : Reply) → Heard a b from at es → Consumes b.bytes c.bytes (reply_frame (number_of command) 0 reply)
    → IsReplyTo (number_of command) reply → c.faults ≡ b.faults → to ≡ at + length (reply_frame (number_of command) 0 reply) → Heard a c from to (es ++ exchange command reply ∷ [])
heard_one a b c from at to es command reply h read answers same place =
    let one = reply_frame (number_of command) 0 reply in
    let all : replies (es ++ exchange command reply ∷ []) ≡ replies es ++ one = replies_append es (exchange command reply ∷ []) ∙ ap (λ (l : List ℕ). replies es ++ l) (replies_one command reply) in
    record {
      read = rw all (consumes_more a.bytes b.bytes c.bytes (replies es) one h.read read);
      answered = answered_append es (exchange command reply ∷ []) h.answered (answers, tt);
      faults = same ∙ h.faults;
      place = omega (arith, place, h.place, ap length all, length-append (replies es) one);
    }

taken_one : (cs : List Command) (i : ℕ) (c : Command) → i < length cs → c ≡ get_or cs i c → take (i + 1) cs ≡ take i cs ++ c ∷ []
taken_one cs i c lt is =
    let s : i + 1 ≡ suc i = omega arith in
    ap (λ n. take n cs) s ∙ take-suc cs i c lt ∙ ap (λ (x : Command). take i cs ++ x ∷ []) (sym is)

taken_length : (cs : List Command) (i : ℕ) → i < length cs → length (take i cs) ≡ i
taken_length cs i lt = length-take-le i cs (omega (arith, lt))

pub heard_more : (a b c : Side) (from at to : ℕ) (cs : List Command) (rs : List Reply) (i : ℕ) (command : Command) (reply : Reply) → i < length cs → command ≡ get_or cs i command → length rs ≡ i → Heard a b from at (paired (take i cs) rs)
    → Consumes b.bytes c.bytes (reply_frame (number_of command) 0 reply) → IsReplyTo (number_of command) reply → c.faults ≡ b.faults → to ≡ at + length (reply_frame (number_of command) 0 reply)
    → Heard a c from to (paired (take (i + 1) cs) (rs ++ reply ∷ []))
heard_more a b c from at to cs rs i command reply lt is many h read answers same place =
    let all : paired (take (i + 1) cs) (rs ++ reply ∷ []) ≡ paired (take i cs) rs ++ exchange command reply ∷ [] =
    ap (λ (l : List Command). paired l (rs ++ reply ∷ [])) (taken_one cs i command lt is) ∙ paired_more (take i cs) rs command reply (taken_length cs i lt ∙ sym many) in
    subst (λ (l : List Exchange). Heard a c from to l) (sym all) (heard_one a b c from at to (paired (take i cs) rs) command reply h read answers same place)

-- ---- a reply that isn't read

pub heard_front : (a b c : Side) (from at : ℕ) (cs : List Command) (rs : List Reply) (i : ℕ) (command : Command) (error : ClientError) → i < length cs → command ≡ get_or cs i command → length rs ≡ i → Heard a b from at (paired (take i cs) rs)
    → HasNone (number_of command) at b c error → HeardFront from a c cs error
heard_front a b c from at cs rs i command error lt is many h none =
    let behind : drop i cs ≡ command ∷ drop (suc i) cs = drop-cons cs i command lt ∙ ap (λ (x : Command). x ∷ drop (suc i) cs) (sym is) in
    record {
      done = paired (take i cs) rs;
      next = command;
      left = drop (suc i) cs;
      parts = sym (take-append-drop i cs) ∙ ap (λ (l : List Command). take i cs ++ l) behind ∙ ap (λ (l : List Command). l ++ command ∷ drop (suc i) cs) (sym (commands_paired (take i cs) rs (taken_length cs i lt ∙ sym many)));
      mid = b;
      place = at;
      heard = h;
      none = none;
    }

pub err_as : {X : Type 0} (P : ClientError → Type 0) (r : Result X ClientError) (e : ClientError) → IsErrAnd r (λ f. f ≡ e) → P e → IfErr r P
err_as P (Ok x) e is h = tt
err_as P (Err f) e is h = subst P (sym is) h

-- ---- frames that are written in one piece

pub ahead_none : (from : ℕ) (link : LinkState) (cs : List Command) → BrokeAhead from link link cs OutOfMemory
ahead_none from link cs = record { done = []; left = cs; parts = refl; broke = broke_none from link cs }

pub ahead_unsent : (from : ℕ) (before after : LinkState) (cs : List Command) (error : ClientError) → IsUnsent before.writing after.writing (frames cs) error → after.reading ≡ before.reading → BrokeAhead from before after cs error
ahead_unsent from before after cs error u same = record { done = []; left = cs; parts = refl; broke = broke_unsent from before after cs error u same }

pub ahead_unheard : (from at : ℕ) (before mid after : LinkState) (cs : List Command) (error : ClientError) → at ≡ from → Appends before.writing.bytes mid.writing.bytes (frames cs) → mid.reading ≡ before.reading → after.writing ≡ mid.writing
    → HeardFront at mid.reading after.reading cs error → BrokeAhead from before after cs error
ahead_unheard from at before mid after cs error here written kept still f =
    let all : Appends before.writing.bytes after.writing.bytes (frames cs) = rw still written in
    let none : HasNone (number_of f.next) (from + length (replies f.done)) f.mid after.reading error = subst (λ n. HasNone (number_of f.next) n f.mid after.reading error) (f.heard.place ∙ ap (λ n. n + length (replies f.done)) here) f.none in
    record {
      done = f.done;
      left = f.next ∷ f.left;
      parts = f.parts;
      broke = broke_unheard from before after f.mid f.done f.next f.left error
          (subst (λ (l : List Command). Appends before.writing.bytes after.writing.bytes (frames l)) f.parts all)
          (subst (λ (r : Side). Consumes r.bytes f.mid.bytes (replies f.done)) kept f.heard.read)
          (f.heard.faults ∙ ap (λ (r : Side). r.faults) kept) f.heard.answered none;
    }

pub ahead_went : (from at to : ℕ) (before mid after : LinkState) (cs : List Command) (rs : List Reply) → at ≡ from → Appends before.writing.bytes mid.writing.bytes (frames cs) → mid.writing.faults ≡ before.writing.faults → mid.reading ≡ before.reading → after.writing ≡ mid.writing
    → length rs ≡ length cs → Heard mid.reading after.reading at to (paired cs rs) → Went before after from to (paired cs rs)
ahead_went from at to before mid after cs rs here written faults kept still many h =
    let all : Appends before.writing.bytes after.writing.bytes (frames cs) = rw still written in
    record {
      exchanged = record {
        written = subst (λ (l : List Command). Appends before.writing.bytes after.writing.bytes (frames l)) (sym (commands_paired cs rs (sym many))) all;
        read = subst (λ (r : Side). Consumes r.bytes after.reading.bytes (replies (paired cs rs))) kept h.read;
        answered = h.answered;
        reads = h.faults ∙ ap (λ (r : Side). r.faults) kept;
        writes = ap (λ (w : Side). w.faults) still ∙ faults;
      };
      place = h.place ∙ ap (λ n. n + length (replies (paired cs rs))) here;
    }
