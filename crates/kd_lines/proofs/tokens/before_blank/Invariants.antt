use Rattle.std.proofs.Common.{◌≡◌}
use Rattle.kd_lines.proofs.tokens.before_blank.Given as goal

abbrev pub invariant-bytes : goal.invariant-bytes
invariant-bytes l = l.count ≡ l.byte-index
