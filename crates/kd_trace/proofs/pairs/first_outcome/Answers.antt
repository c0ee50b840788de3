use Rattle.std.proofs.Common.{drop, sym, ◌∙◌, arith}
use Rattle.kd_item.specs.Reading.{item_entry}
use Rattle.kd_trace.proofs.Fronts.{no_outcome_here, no_outcome_item, outcome_begins}
use Rattle.kd_trace.proofs.pairs.first_outcome.Goals as goal

pub returns-in_default-clause-none : goal.returns-in_default-clause-none
returns-in_default-clause-none c = no_outcome_item c.args.caller c.args.bytes.now c.in_default.ensures.value

pub returns-in_default-2-clause-none : goal.returns-in_default-2-clause-none
returns-in_default-2-clause-none c =
    no_outcome_here c.args.caller c.args.bytes.now (drop c.in-Some.size c.args.bytes.now) (item_entry c.in-Some.item) c.ranges.caller.fits c.in-Some.ensures.value (sym c.in_default-2.is ∙ c.in_ok-outcome.ensures)

pub returns-clause-found : goal.returns-clause-found
returns-clause-found c =
    outcome_begins c.args.caller c.args.bytes.now (item_entry c.in-Some.item) c.in-Some.size c.in-Some-2.outcome (λ i. omega (arith, c.type_inv.bytes i)) c.in-Some.ensures.inside c.in-Some.ensures.some c.in-Some.ensures.value (sym c.in-Some-2.is ∙ c.in_ok-outcome.ensures)
