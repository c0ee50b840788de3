use Rattle.std.proofs.Common.{◌≡◌, fold, take}
use Rattle.kd_policy.specs.Level.{greater, levels}
use Rattle.kd_policy.proofs.granted.Granted.and.Given as goal

abbrev pub invariant-loop-entry : goal.invariant-loop-entry
invariant-loop-entry l = l.level ≡ fold greater l.self.level (levels l.uid l.gid (take l.entry-index l.entries))
