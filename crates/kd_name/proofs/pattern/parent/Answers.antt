use Rattle.std.proofs.Common.{true, false, sym, ap, ◌∙◌, ◌++◌, rules}
use Rattle.std.proofs.lemmas.List.{nil_from_length}
use Rattle.kd_name.proofs.Pieces.{stops_at_dot, parent_none}
use Rattle.kd_name.specs.Patterns.{parent}
use Rattle.kd_name.proofs.pattern.parent.Goals as goal

pub returns-then-is_element : goal.returns-then-is_element
returns-then-is_element c =
    let i = c.back.invariant in
    stops_at_dot c.args.name.now c.back.front.now c.in-Some.before.now i.0 _ _ true i.1 i.2 c.in-Some.ensures.cases.0 c.if-byte-eq46.true c.split_at.ensures.back (search rules)

pub returns-else-is_element : goal.returns-else-is_element
returns-else-is_element c =
    let i = c.back.invariant in
    stops_at_dot c.args.name.now c.back.front.now c.in-Some.before.now i.0 _ _ false i.1 i.2 c.in-Some.ensures.cases.0 c.if-byte-eq46.true c.split_at.ensures.back (search rules)

pub returns : goal.returns
returns c =
    let i = c.back.invariant in
    let front = nil_from_length c.back.front.now c.in_default.ensures.cases in
    sym (ap parent (i.1 ∙ ap (◌++ i.0) front) ∙ parent_none i.0 i.2)
