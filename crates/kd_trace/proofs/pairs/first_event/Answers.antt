use Rattle.std.proofs.Common.{drop, subst, arith, Option}
use Rattle.std.specs.Prelude.{IfNone, IfSome}
use Rattle.kd_item.specs.Reading.{item_entry}
use Rattle.kd_core.specs.declared.event.Event as code
use Rattle.kd_core.specs.Running.{event_of}
use Rattle.kd_trace.specs.Items.{IsEventItem, IsNoEvent}
use Rattle.kd_trace.proofs.Fronts.{event_begins, no_event_here, no_event_item}
use Rattle.kd_trace.proofs.pairs.first_event.Goals as goal

pub returns-in_default-clause-none : goal.returns-in_default-clause-none
returns-in_default-clause-none c = no_event_item c.args.bytes.now c.in_default.ensures.value

pub returns-in_default-2-clause-none : goal.returns-in_default-2-clause-none
returns-in_default-2-clause-none c =
    no_event_here c.args.bytes.now (drop c.in-Some.size c.args.bytes.now) (item_entry c.in-Some.item) c.in-Some.ensures.value
    (subst (λ (o : Option code.Event). IfNone o (IsNoEvent (item_entry c.in-Some.item))) c.in_default-2.is c.in_ok-event.ensures.none)

pub returns-clause-found : goal.returns-clause-found
returns-clause-found c =
    event_begins c.args.bytes.now (item_entry c.in-Some.item) c.in-Some.size (event_of c.in-Some-2.event) (λ i. omega (arith, c.type_inv.bytes i)) c.in-Some.ensures.inside c.in-Some.ensures.some c.in-Some.ensures.value
    (subst (λ (o : Option code.Event). IfSome o (λ e. IsEventItem (item_entry c.in-Some.item) (event_of e))) c.in-Some-2.is c.in_ok-event.ensures.read)
