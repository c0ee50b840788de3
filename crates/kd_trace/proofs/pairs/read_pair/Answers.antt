use Rattle.std.proofs.Common.{ℕ, List, drop, subst, Option}
use Rattle.std.specs.Prelude.{IfSome}
use Rattle.kd_core.specs.declared.event.Event as code
use Rattle.kd_core.specs.Running.{event_of}
use Rattle.kd_trace.specs.declared.outcome.Outcome.{Outcome}
use Rattle.kd_trace.specs.Fronts.{BeginsWithEvent, BeginsWithOutcome}
use Rattle.kd_trace.proofs.Fronts.{pair_begins}
use Rattle.kd_trace.proofs.pairs.read_pair.Goals as goal

pub returns-clause-found : goal.returns-clause-found
returns-clause-found c =
    let bytes = c.args.bytes.now in
    let front = c.in-Some.front in
    let f = subst (λ (o : Option (code.Event × ℕ)). IfSome o (λ x. BeginsWithEvent bytes (event_of x.0) x.1)) c.in-Some.is c.in_ok-event.ensures.found in
    let g = subst (λ (o : Option (Outcome × ℕ)). IfSome o (λ x. BeginsWithOutcome c.caller_of.result c.split_at.result.1.now x.0 x.1)) c.in-Some-2.is c.in_ok-outcome.ensures.found in
    let h = subst (λ (l : List ℕ). BeginsWithOutcome c.caller_of.result l c.in-Some-2.outcome c.in-Some-2.size) c.split_at.ensures.back g in
    let k = subst (λ (n : ℕ). BeginsWithOutcome n (drop front bytes) c.in-Some-2.outcome c.in-Some-2.size) c.caller_of.ensures h in
    pair_begins bytes (event_of c.in-Some.event) front c.in-Some-2.outcome c.in-Some-2.size f k
