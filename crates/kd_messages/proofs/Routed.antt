-- Where a message to one receiver goes: why it is refused, test behind test.
use Rattle.std.proofs.Common.{◌≡◌, ◌≢◌, ◌<◌, ℕ, Bool, false, not, ◌&&◌, List, [], ◌∷◌, ◌++◌, Option, Some, None, Result, Ok, Err, IsErr, IsErrAnd, sym, ap, ◌∙◌, arith}
use Rattle.std.specs.Prelude.{nat_le}
use Rattle.std.proofs.lemmas.Bool.Decides.{nat_tests}
use Rattle.kd_types.specs.declared.refusal.Refusal.{Refusal}
use Rattle.kd_types.specs.declared.refusal.Refusal.TheVariants as why
use Rattle.kd_model.specs.Words.{first_that_holds}
use Rattle.kd_commands.specs.declared.conn.Conn.{Conn}
use Rattle.kd_commands.specs.declared.sent.Sent.{Sent}
use Rattle.kd_commands.specs.Rights.{may_talk}
use Rattle.kd_commands.specs.Send.{is_reply, receiver, refusals_of_unicast, some_passes}
use Rattle.kd_commands.specs.State.{Desk}
use Rattle.kd_messages.specs.Sending.{Judges, refusals_of_request, refusals_of_talk, refusals_of_target}
use Rattle.kd_messages.proofs.Planned.{first_passes, passed_on}

-- the tests, where the message reaches somebody
ways : (d : Desk) (s : Conn) (m : Sent) (r : Conn) (b : Bool) → receiver d m ≡ Some r → b ≡ is_reply d s m
    → refusals_of_unicast d s m ≡ refusals_of_target d s m ++ (refusals_of_talk d s r b ++ refusals_of_request d s m)
ways d s m r b reached replies =
    ap (λ (found : Option Conn). refusals_of_target d s m ++ (not (some_passes (may_talk d s) found) && not (is_reply d s m), why.NotPermitted) ∷ refusals_of_request d s m) reached
    ∙ ap (λ x. refusals_of_target d s m ++ (not (may_talk d s r) && not x, why.NotPermitted) ∷ refusals_of_request d s m) (sym replies)

-- what is judged behind tests that pass
pub passes_on : {X : Type 0} (ts us : List (Bool × Refusal)) (r : Result X Refusal) → first_that_holds ts ≡ None → Judges us r → Judges (ts ++ us) r
passes_on ts us (Ok x) none judged = first_passes ts us none ∙ judged
passes_on ts us (Err e) none judged = λ memory. first_passes ts us none ∙ judged memory

judged_as : {X : Type 0} (ts us : List (Bool × Refusal)) (r : Result X Refusal) → ts ≡ us → Judges us r → Judges ts r
judged_as ts us (Ok x) e judged = ap first_that_holds e ∙ judged
judged_as ts us (Err y) e judged = λ memory. ap first_that_holds e ∙ judged memory

-- it may not be sent to whom it reaches
pub talk_refuses : {X : Type 0} (d : Desk) (s : Conn) (m : Sent) (x : Conn) (b : Bool) (e : Refusal) (r : Result X Refusal) → receiver d m ≡ Some x → b ≡ is_reply d s m
    → first_that_holds (refusals_of_target d s m) ≡ None → IsErr r × IsErrAnd r (λ y. y ≡ e)
    → (e ≢ why.OutOfMemory → first_that_holds (refusals_of_talk d s x b) ≡ Some e) → Judges (refusals_of_unicast d s m) r
talk_refuses d s m x b e r reached replies target is judged =
    judged_as (refusals_of_unicast d s m) _ r (ways d s m x b reached replies)
    (passes_on (refusals_of_target d s m) _ r target (passed_on (refusals_of_talk d s x b) (refusals_of_request d s m) e r is judged))

-- the sender may not ask for one reply more
pub request_refuses : {X : Type 0} (d : Desk) (s : Conn) (m : Sent) (x : Conn) (b : Bool) (e : Refusal) (r : Result X Refusal) → receiver d m ≡ Some x → b ≡ is_reply d s m
    → first_that_holds (refusals_of_target d s m) ≡ None → first_that_holds (refusals_of_talk d s x b) ≡ None → IsErr r × IsErrAnd r (λ y. y ≡ e)
    → (e ≢ why.OutOfMemory → first_that_holds (refusals_of_request d s m) ≡ Some e) → Judges (refusals_of_unicast d s m) r
request_refuses d s m x b e r reached replies target talk is judged =
    judged_as (refusals_of_unicast d s m) _ r (ways d s m x b reached replies)
    (passes_on (refusals_of_target d s m) _ r target (passes_on (refusals_of_talk d s x b) (refusals_of_request d s m) r talk (passed_on (refusals_of_request d s m) [] e r is judged)))

-- ---- one request more

-- where the table isn't full there is room
pub has_room : (n : ℕ) → nat_le 8192 n ≡ false → n < 8192
has_room n e = grind (arith, nat_tests)
