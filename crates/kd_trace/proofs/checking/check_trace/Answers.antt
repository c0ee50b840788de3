use Rattle.std.proofs.Common.{sym}
use Rattle.kd_trace.specs.Fronts.{pair_of}
use Rattle.kd_trace.proofs.Runs.{same_ok}
use Rattle.kd_trace.proofs.Checks.{breaks, err_is, has_verdict, is_legal, nothing_left, some_left, stands_more}
use Rattle.kd_trace.proofs.checking.check_trace.Goals as goal

pub returns-in_err-pair-clause-malformed : goal.returns-in_err-pair-clause-malformed
returns-in_err-pair-clause-malformed c = λ at is.
    let same = err_is c.from_residual-in_err-pair.result _ _ c.from_residual-in_err-pair.ensures.1 is in
    breaks c.args.bytes.now c.pairs.rest.now c.pairs.at _ _ _ _ _ at c.pairs.invariant (some_left c.pairs.rest.now (sym c.pairs-test.ensures)) (c.in_err-pair.ensures.malformed at same)

pub pairs-preserved : goal.pairs-preserved
pairs-preserved c =
    stands_more c.args.bytes.now c.pairs.rest.now c.split_at.result.1.now c.pairs.at c.in_ok-pair.pair.size (pair_of c.in_ok-pair.pair) _ _ _ _ _ _ _ _ _ _ c.pairs.invariant c.in_ok-pair.ensures.found c.split_at.ensures.back
    c.in_ok-judge.ensures.judged c.judge.ensures.steps c.judge.ensures.count

pub returns-clause-judged : goal.returns-clause-judged
returns-clause-judged c = has_verdict c.args.bytes.now c.pairs.rest.now c.pairs.at _ _ _ _ _ c.pairs.invariant (nothing_left c.pairs.rest.now (sym c.pairs-test.ensures))

pub returns-clause-legal : goal.returns-clause-legal
returns-clause-legal c = λ is. is_legal c.args.bytes.now c.pairs.rest.now c.pairs.at _ _ _ _ _ c.pairs.invariant (nothing_left c.pairs.rest.now (sym c.pairs-test.ensures)) (same_ok _ _ is)
