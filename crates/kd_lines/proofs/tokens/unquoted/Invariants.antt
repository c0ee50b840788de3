use Rattle.std.proofs.Common.{length}
use Rattle.kd_lines.proofs.tokens.unquoted.Given as goal

abbrev pub decreases-bytes : goal.decreases-bytes
decreases-bytes l = length l.rest
