use Rattle.std.proofs.Common.{◌≡◌, ◌+◌, length}
use Rattle.kd_lines.specs.Making.{line_length}
use Rattle.kd_lines.proofs.tokens.first_line.Given as goal

abbrev pub invariant-bytes : goal.invariant-bytes
invariant-bytes l = (line_length l.bytes ≡ l.size + line_length l.rest) × (l.size + length l.rest ≡ length l.bytes)

abbrev pub decreases-bytes : goal.decreases-bytes
decreases-bytes l = length l.rest
