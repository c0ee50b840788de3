-- Items that are written, and what a recorder has written.
use Rattle.std.proofs.Common.{◌≡◌, ℕ, true, List, [], ◌∷◌, ◌++◌, append_assoc, refl, sym, ap, subst, ◌∙◌}
use Rattle.std.specs.Prelude.{◌&&◌, is_none, not}
use Rattle.kd_model.proofs.Truth.{both_true}
use Rattle.kd_item.specs.Spelling.{Fits}
use Rattle.kd_wire.specs.Commands.{opcode_in}
use Rattle.kd_wire.specs.Ports.{takes_opcode}
use Rattle.kd_wire.specs.declared.command.Command.{Command}
use Rattle.kd_wire.specs.declared.command.Command.TheVariants as cmd
use Rattle.kd_wire.specs.declared.port.Port.TheVariants.{Replay}
use Rattle.kd_wire.specs.WellFormed.{is_well_formed}
use Rattle.kd_wire.proofs.Formed.{formed}
use Rattle.kd_world.specs.State.{World}
use Rattle.kd_world.specs.Holding.{holds_desk}
use Rattle.kd_world.specs.Legal.{Event, take, visit, leave, publishes, receives, reads, frees, is_caller, is_for_desk, legal}
use Rattle.kd_core.specs.declared.event.Answer.{Answer}
use Rattle.kd_replay.specs.Hearing.{Heard, IsTypedEvent, MayHappen}
use Rattle.kd_trace.specs.Items.{IsOutcome, MayStand, caller_of, outcome_entry}
use Rattle.kd_trace.specs.Trace.{ArePairs, IsPair, Pair, event_bytes, outcome_bytes, trace_bytes}
use Rattle.kd_trace.specs.Right.{outcome_of}
use Rattle.kd_trace.specs.Judging.{number_with}
use Rattle.kd_trace.specs.Recorded.{HasPlace, IsAwaited, IsWritten, number_heard, pairs_heard}
use Rattle.kd_trace.proofs.Runs.{pairs_more, trace_more}

-- ---- an event that may happen may stand in a trace

desk_replayed : (x : Command) → is_for_desk x ≡ true → takes_opcode Replay (opcode_in x) ≡ true
desk_replayed (cmd.Recv flags limit) d = absurd cc
desk_replayed (cmd.Read sealed number) d = absurd cc
desk_replayed (cmd.Free number) d = absurd cc
desk_replayed (cmd.MakeBus size hashes bus) d = absurd cc
desk_replayed (cmd.Hello flags pool send receive is) d = refl
desk_replayed (cmd.Send flags priority dst source payload_type cookie last is) d = refl
desk_replayed cmd.Byebye d = refl
desk_replayed cmd.Close d = refl
desk_replayed (cmd.NameAcquire flags name) d = refl
desk_replayed (cmd.NameRelease name) d = refl
desk_replayed (cmd.NameList flags) d = refl
desk_replayed (cmd.MatchAdd replace cookie is) d = refl
desk_replayed (cmd.MatchRemove cookie) d = refl
desk_replayed (cmd.PolicySet is) d = refl
desk_replayed (cmd.EndpointMake is) d = refl
desk_replayed (cmd.Tick moment) d = refl
desk_replayed (cmd.Seal bytes) d = refl
desk_replayed (cmd.Unseal number) d = refl
desk_replayed (cmd.Enter creds) d = refl

stands_in : (w : World) (e : Event) → legal w e ≡ true → IsTypedEvent e → HasPlace e → MayStand e
unfolding legal
stands_in w (take n x) l typed place =
    let a = both_true (is_caller n && is_none w.holder && is_for_desk x) (is_well_formed x) l in
    let b = both_true (is_caller n && is_none w.holder) (is_for_desk x) a.0 in
    let c = both_true (is_caller n) (is_none w.holder) b.0 in
    record { caller = c.0; form = record { form = formed x a.1; typed = typed; run = desk_replayed x b.1 } }
stands_in w (visit n s) l typed place = record { caller = (both_true (is_caller n) _ l).0; form = place }
stands_in w (leave n) l typed place = record { caller = (both_true (is_caller n) _ l).0; form = tt }
stands_in w (publishes n s k) l typed place = record { caller = (both_true (is_caller n) _ (both_true (is_caller n && not (holds_desk w n)) _ l).0).0; form = place }
stands_in w (receives n mode) l typed place = record { caller = (both_true (is_caller n) _ (both_true (is_caller n && not (holds_desk w n)) _ l).0).0; form = typed }
stands_in w (reads n k sealed) l typed place = record { caller = (both_true (is_caller n) _ l).0; form = place }
stands_in w (frees n k) l typed place = record { caller = (both_true (is_caller n) _ l).0; form = place }

pub may_stand : (e : Event) → MayHappen e → HasPlace e → MayStand e
may_stand e m place = stands_in m.world e m.legal m.typed place

-- ---- one event more

heard_more : (k : ℕ) (hs : List Heard) (h : Heard) → pairs_heard k (hs ++ h ∷ []) ≡ pairs_heard k hs ++ record { event = h.event; outcome = outcome_of (number_with h.event (number_heard k hs)) h.answer } ∷ []
heard_more k [] h = refl
heard_more k (g ∷ hs) h =
    let j = number_with g.event k in
    ap (λ (l : List Pair). record { event = g.event; outcome = outcome_of j g.answer } ∷ l) (heard_more j hs h)

number_more : (k : ℕ) (hs : List Heard) (h : Heard) → number_heard k (hs ++ h ∷ []) ≡ number_with h.event (number_heard k hs)
number_more k [] h = refl
number_more k (g ∷ hs) h = number_more (number_with g.event k) hs h

pub awaits : (bytes now : List ℕ) (caller number next : ℕ) (hs : List Heard) (e : Event) → IsWritten bytes number hs → MayStand e → now ≡ bytes ++ event_bytes e → caller ≡ caller_of e → next ≡ number_with e number → IsAwaited now caller next hs e
awaits bytes now caller number next hs e w stands spelled is with_it = record {
  bytes_are = spelled ∙ ap (λ (l : List ℕ). l ++ event_bytes e) w.bytes_are;
  each = w.each;
  stands = stands;
  caller_is = is;
  number_is = with_it ∙ ap (number_with e) w.number_is;
}

pub answered : (bytes now : List ℕ) (caller number : ℕ) (hs : List Heard) (e : Event) (a : Answer) → IsAwaited bytes caller number hs e → now ≡ bytes ++ outcome_bytes caller (outcome_of number a)
    → IsOutcome caller (outcome_of number a) → Fits (outcome_entry caller (outcome_of number a)) → IsWritten now number (hs ++ record { event = e; answer = a } ∷ [])
answered bytes now caller number hs e a w spelled stands fits =
    let p : Pair = record { event = e; outcome = outcome_of number a } in
    let h : Heard = record { event = e; answer = a } in
    let all : pairs_heard 0 (hs ++ h ∷ []) ≡ pairs_heard 0 hs ++ p ∷ [] =
    heard_more 0 hs h ∙ ap (λ (k : ℕ). pairs_heard 0 hs ++ record { event = e; outcome = outcome_of k a } ∷ []) (sym w.number_is) in
    let pair : IsPair p = record {
      event = w.stands;
      outcome = subst (λ (n : ℕ). IsOutcome n (outcome_of number a)) w.caller_is stands;
      size = subst (λ (n : ℕ). Fits (outcome_entry n (outcome_of number a))) w.caller_is fits;
    } in
    record {
      bytes_are = spelled ∙ ap (λ (n : ℕ). bytes ++ outcome_bytes n (outcome_of number a)) w.caller_is ∙ ap (λ (l : List ℕ). l ++ outcome_bytes (caller_of e) (outcome_of number a)) w.bytes_are
          ∙ append_assoc (trace_bytes (pairs_heard 0 hs)) (event_bytes e) (outcome_bytes (caller_of e) (outcome_of number a)) ∙ sym (trace_more (pairs_heard 0 hs) p) ∙ ap trace_bytes (sym all);
      each = subst ArePairs (sym all) (pairs_more (pairs_heard 0 hs) p w.each pair);
      number_is = w.number_is ∙ sym (number_more 0 hs h);
    }
