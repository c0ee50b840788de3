use Rattle.std.proofs.Common.{arith}
use Rattle.kd_policy.proofs.Marking.{set_same, set_kept}
use Rattle.kd_policy.proofs.marks.Marks.set.Goals as goal

pub returns-clause-set : goal.returns-clause-set
returns-clause-set c = set_same c.args.self.now.words c.args.mark (omega arith)

pub returns-clause-kept : goal.returns-clause-kept
returns-clause-kept c = λ other is. set_kept c.args.self.now.words c.args.mark other (omega arith) is
