use Rattle.std.proofs.Common.{◌≡◌, false, take}
use Rattle.std.specs.List.{list_any}
use Rattle.kd_match.specs.Told.{subject_told}
use Rattle.kd_match.specs.Rules.{rule_admits}
use Rattle.kd_match.proofs.table.any_admits.Given as goal

-- no rule so far admits it
abbrev pub invariant-rules : goal.invariant-rules
invariant-rules l = list_any (rule_admits (subject_told l.subject)) (take l.rule-index l.rules) ≡ false
