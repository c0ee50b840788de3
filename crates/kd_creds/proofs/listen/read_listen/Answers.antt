use Rattle.std.proofs.Common.{◌≡◌, ◌+◌, Some, None, true, false, length, sym, arith, refl}
use Rattle.kd_types.specs.Words.{some_of}
use Rattle.kd_creds.specs.Lines.{pieces_left, bytes_left}
use Rattle.kd_creds.specs.Listen.{said_with, is_socket}
use Rattle.kd_creds.proofs.Reading.{stops, goes_on, ends, nothing_left}
use Rattle.kd_creds.proofs.listen.read_listen.Goals as goal

pub returns-then-not-branch-clause-malformed : goal.returns-then-not-branch-clause-malformed
returns-then-not-branch-clause-malformed c =
    let broken : said_with c.lines.given.items c.cut_at.result.0.now ≡ None = rw c.if-not-branch.true at c.in_ok-add_line.ensures in
    stops c.args.text.now c.lines.at c.lines.given.items (pieces_left 10 c.lines.rest) c.cut_at.result.0.now (pieces_left 10 c.cut_at.result.1) c.lines.invariant.0 (rw c.in-Some.is c.cut_at.ensures.pieces) broken

pub lines-preserved : goal.lines-preserved
lines-preserved c =
    let kept : said_with c.lines.given.items c.cut_at.result.0.now ≡ Some c.add_line.new.given.items = rw c.if-not-branch.false at c.in_ok-add_line.ensures in
    let left : bytes_left c.lines.rest ≡ length c.in-Some.here.now + 1 = rw c.in-Some.is refl in
    (goes_on c.args.text.now c.lines.at c.lines.given.items c.add_line.new.given.items (pieces_left 10 c.lines.rest) c.cut_at.result.0.now (pieces_left 10 c.cut_at.result.1) c.lines.invariant.0 (rw c.in-Some.is c.cut_at.ensures.pieces) kept, omega (arith, left, c.lines.invariant.1, c.cut_at.ensures.sizes))

pub returns-then-has_socket-clause-lines : goal.returns-then-has_socket-clause-lines
returns-then-has_socket-clause-lines c =
    let told : some_of is_socket c.lines.given.items ≡ true = rw (← c.as_slice.ensures.value) (sym c.if-has_socket.ensures) in
    ends c.args.text.now c.lines.at c.lines.given.items (pieces_left 10 c.lines.rest) true c.lines.invariant.0 (nothing_left 10 c.lines.rest c.in_default.not-Some) told

pub returns-else-has_socket-clause-malformed : goal.returns-else-has_socket-clause-malformed
returns-else-has_socket-clause-malformed c =
    let told : some_of is_socket c.lines.given.items ≡ false = rw (← c.as_slice.ensures.value) (sym c.if-has_socket.ensures) in
    ends c.args.text.now c.lines.at c.lines.given.items (pieces_left 10 c.lines.rest) false c.lines.invariant.0 (nothing_left 10 c.lines.rest c.in_default.not-Some) told
