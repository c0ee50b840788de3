use Rattle.std.proofs.Common.{◌≡◌, ◌+◌, ◌<◌, ◌≤◌, length, rules, arith, sym, ◌∙◌, inr}
use Rattle.kd_item.specs.Reading.{item_entry}
use Rattle.kd_wire.proofs.ReplyLaws.{line_read, no_item_left, no_line_here, lines_left_over, lines_all_read}
use Rattle.kd_wire.proofs.reply_reading.read_lines.Goals as goal

pub returns-in_default-clause-bad : goal.returns-in_default-clause-bad
returns-in_default-clause-bad c = inr (sym c.lines.invariant.1 ∙ no_item_left c.lines.left c.lines.at c.lines.lines.items c.lines.rest.now c.lines-test.true c.in_default.ensures.value)

pub returns-in_default-2-clause-bad : goal.returns-in_default-2-clause-bad
returns-in_default-2-clause-bad c =
    inr (sym c.lines.invariant.1 ∙ no_line_here c.lines.left c.lines.at c.lines.lines.items c.lines.rest.now _ (item_entry c.in-Some.found) c.lines-test.true c.in-Some.ensures.value (sym c.in_default-2.is ∙ c.in_ok-line.ensures))

pub lines-preserved : goal.lines-preserved
lines-preserved c =
    let on = line_read c.lines.left c.lines.at c.in-Some.size c.lines.lines.items c.lines.rest.now c.split_at.result.1.now (item_entry c.in-Some.found) c.in-Some-2.line c.lines-test.true c.in-Some.ensures.inside c.in-Some.ensures.value c.split_at.ensures.back (sym c.in-Some-2.is ∙ c.in_ok-line.ensures) in
    let place : c.lines.at + length c.lines.rest.now ≡ c.args.start + length c.args.bytes.now = c.lines.invariant.0 in
    let inside : c.in-Some.size ≤ length c.lines.rest.now = c.in-Some.ensures.inside in
    (omega (arith, place, inside, c.split_at.ensures.back_len), rw c.in_ok-push.ensures.items (on ∙ c.lines.invariant.1))

pub returns-then-not-is_empty-clause-bad : goal.returns-then-not-is_empty-clause-bad
returns-then-not-is_empty-clause-bad c =
    let some : 0 < length c.lines.rest.now = search rules in
    inr (sym c.lines.invariant.1 ∙ lines_left_over c.lines.left c.lines.at c.lines.lines.items c.lines.rest.now c.lines-test.false some)

pub returns-clause-ok : goal.returns-clause-ok
returns-clause-ok c =
    let none : length c.lines.rest.now ≡ 0 = search rules in
    sym c.lines.invariant.1 ∙ lines_all_read c.lines.left c.lines.at c.lines.lines.items c.lines.rest.now c.lines-test.false none
