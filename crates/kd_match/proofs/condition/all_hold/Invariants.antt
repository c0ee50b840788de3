use Rattle.std.proofs.Common.{◌≡◌, true, take}
use Rattle.std.specs.List.{list_all}
use Rattle.kd_match.specs.Told.{subject_told, condition_holds}
use Rattle.kd_match.proofs.condition.all_hold.Given as goal

-- the conditions so far hold
abbrev pub invariant-conditions : goal.invariant-conditions
invariant-conditions l = list_all (condition_holds (subject_told l.subject)) (take l.condition-index l.conditions) ≡ true
