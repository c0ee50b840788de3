use Rattle.std.proofs.Common.{rules, sym, ap, ◌∙◌, inr}
use Rattle.kd_item.specs.Reading.{item_entry}
use Rattle.kd_wire.specs.Reading.{item_behind}
use Rattle.kd_wire.proofs.ItemsRead.{goes_on, all_read, no_item_here, refused_here}
use Rattle.kd_wire.proofs.reading_items.read_items.Goals as goal

pub returns-in_default-clause-refused : goal.returns-in_default-clause-refused
returns-in_default-clause-refused c = inr (no_item_here c.args.kinds.now c.args.start c.args.bytes.now c.items.items.items c.items.rest.now c.items.at c.items.invariant (search rules) c.in_default.ensures.value)

pub returns-in_default-2-clause-refused : goal.returns-in_default-2-clause-refused
returns-in_default-2-clause-refused c =
    let refuses = sym c.in_default-2.is ∙ c.in_ok-item.ensures ∙ ap (λ b. item_behind c.args.kinds.now b (item_entry c.in-Some.found)) c.deref.ensures.value in
    inr (refused_here c.args.kinds.now c.args.start c.args.bytes.now c.items.items.items c.items.rest.now c.items.at c.in-Some.size (item_entry c.in-Some.found) c.items.invariant c.in-Some.ensures.inside c.in-Some.ensures.value refuses)

pub items-preserved : goal.items-preserved
items-preserved c =
    let takes = sym c.in-Some-2.is ∙ c.in_ok-item.ensures ∙ ap (λ b. item_behind c.args.kinds.now b (item_entry c.in-Some.found)) c.deref.ensures.value in
    let on = goes_on c.args.kinds.now c.args.start c.args.bytes.now c.items.items.items c.items.rest.now c.split_at.result.1.now c.items.at c.in-Some.size (item_entry c.in-Some.found) c.in-Some-2.item c.items.invariant c.in-Some.ensures.inside c.in-Some.ensures.value c.split_at.ensures.back takes in
    rw c.in_ok-push.ensures.items on

pub returns-clause-ok : goal.returns-clause-ok
returns-clause-ok c = all_read c.args.kinds.now c.args.start c.args.bytes.now c.items.items.items c.items.rest.now c.items.at c.items.invariant (search rules)
