use Rattle.std.proofs.Common.{rules, sym, ◌∙◌, arith}
use Rattle.kd_item.specs.Reading.{item_entry}
use Rattle.kd_image.specs.Reading.{with_item}
use Rattle.kd_image.proofs.Read.{starts, ends, no_item_here, refused_here, taken_here, was_refused, was_taken}
use Rattle.kd_image.proofs.contents.read_contents.Goals as goal

pub items-init : goal.items-init
items-init c = (c.requires, starts c.args.size c.blank-draft.result c.args.area.now c.blank-draft.ensures)

pub returns-in_default-clause-refused : goal.returns-in_default-clause-refused
returns-in_default-clause-refused c = λ _. sym c.items.invariant.1 ∙ no_item_here c.args.size c.items.at c.items.draft c.items.rest.now (search rules) c.items.invariant.0 c.in_default.ensures.value

pub returns-then-not-branch-clause-refused : goal.returns-then-not-branch-clause-refused
returns-then-not-branch-clause-refused c = λ _.
    let e = item_entry c.in-Some.item in
    let none = was_refused c.in_ok-add.field-0 c.add.new.self (with_item c.args.size c.items.draft e) c.if-not-branch.true c.in_ok-add.ensures.ok in
    sym c.items.invariant.1 ∙ refused_here c.args.size c.items.at c.in-Some.taken c.items.draft e c.items.rest.now c.in-Some.ensures.inside c.in-Some.ensures.value none

pub items-preserved : goal.items-preserved
items-preserved c =
    let e = item_entry c.in-Some.item in
    let some = was_taken c.in_ok-add.field-0 c.add.new.self (with_item c.args.size c.items.draft e) c.if-not-branch.false c.in_ok-add.ensures.ok in
    let next = taken_here c.args.size c.items.at c.in-Some.taken c.items.draft c.add.new.self e c.items.rest.now c.split_at.result.1.now c.in-Some.ensures.inside c.in-Some.ensures.value c.split_at.ensures.back some in
    (omega (arith, c.items.invariant.0, c.split_at.ensures.back_len), sym next ∙ c.items.invariant.1)

pub returns-clause-read : goal.returns-clause-read
returns-clause-read c = sym c.items.invariant.1 ∙ ends c.args.size c.items.at c.items.draft c.items.rest.now (search rules)
