use Rattle.std.proofs.Common.{◌≡◌, ◌<◌, length, rules, arith}
use Rattle.kd_lines.specs.Making.{line_length}
use Rattle.kd_lines.proofs.OneLine.{line_within, line_some, front_line}
use Rattle.kd_lines.proofs.tokens.line_size.Goals as goal

pub returns-clause-inside : goal.returns-clause-inside
returns-clause-inside c =
    let is : c.first_line.result ≡ line_length c.args.bytes.now = c.first_line.ensures in
    omega (arith, is, line_within c.args.bytes.now)

pub returns-clause-some : goal.returns-clause-some
returns-clause-some c =
    let is : c.first_line.result ≡ line_length c.args.bytes.now = c.first_line.ensures in
    let some : 0 < length c.args.bytes.now = search rules in
    omega (arith, is, line_some c.args.bytes.now some)

pub returns-clause-line : goal.returns-clause-line
returns-clause-line c =
    let is : c.first_line.result ≡ line_length c.args.bytes.now = c.first_line.ensures in
    let some : 0 < length c.args.bytes.now = search rules in
    rw is (front_line c.args.bytes.now some)
