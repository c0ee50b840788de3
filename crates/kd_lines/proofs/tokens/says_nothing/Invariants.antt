use Rattle.std.proofs.Common.{◌≡◌, length}
use Rattle.kd_lines.specs.Making.{says_nothing}
use Rattle.kd_lines.proofs.tokens.says_nothing.Given as goal

abbrev pub invariant-blanks : goal.invariant-blanks
invariant-blanks l = says_nothing l.line ≡ says_nothing l.rest

abbrev pub decreases-blanks : goal.decreases-blanks
decreases-blanks l = length l.rest
