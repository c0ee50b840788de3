use Rattle.std.proofs.Common.{length}
use Rattle.kd_lines.proofs.tokens.tokens_of.Given as goal

abbrev pub decreases-tokens : goal.decreases-tokens
decreases-tokens l = length l.rest
