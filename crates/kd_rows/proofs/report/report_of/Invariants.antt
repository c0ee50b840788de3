use Rattle.std.proofs.Common.{take}
use Rattle.kd_rows.specs.Trials.{AreOutcomes}
use Rattle.kd_rows.proofs.report.report_of.Given as goal

abbrev pub invariant-trials : goal.invariant-trials
invariant-trials l = AreOutcomes (take l.trial-index l.trials) l.outcomes.items
