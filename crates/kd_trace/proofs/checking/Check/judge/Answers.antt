use Rattle.kd_trace.specs.Fronts.{pair_of}
use Rattle.kd_trace.proofs.Runs.{ok_is, right_goes_on, wrong_stays}
use Rattle.kd_trace.proofs.checking.Check.judge.Goals as goal

pub returns-in_default-clause-judged : goal.returns-in_default-clause-judged
returns-in_default-clause-judged c = λ ps j place. wrong_stays ps (pair_of c.args.pair) _ _ _ c.args.self.now.verdict c.in_default.not-Yes j

pub returns-then-branch-clause-judged : goal.returns-then-branch-clause-judged
returns-then-branch-clause-judged c = λ ps j place.
    let ok = ok_is c.if-branch.true in
    let a = c.in-Yes.is in
    right_goes_on ps (pair_of c.args.pair) _ _ _ _ _ c.args.self.now.verdict a j (c.in_ok-is_right.ensures.right ok) (c.in_ok-is_right.ensures.next ok) (c.in_ok-is_right.ensures.number ok)
