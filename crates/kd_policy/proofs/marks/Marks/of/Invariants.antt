use Rattle.std.proofs.Common.{take}
use Rattle.kd_policy.specs.Marks.{AreMarked}
use Rattle.kd_policy.proofs.marks.Marks.of.Given as goal

abbrev pub invariant-entries : goal.invariant-entries
invariant-entries l = AreMarked l.marks.words (take l.entry-index l.entries)
