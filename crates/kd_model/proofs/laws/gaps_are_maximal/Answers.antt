-- The law, both ways.
use Rattle.kd_model.proofs.Gaps.{gaps_maximal, maximal_gaps}
use Rattle.kd_model.proofs.laws.gaps_are_maximal.Goals as goal

pub returns-clause-each : goal.returns-clause-each
returns-clause-each c = gaps_maximal

pub returns-clause-all : goal.returns-clause-all
returns-clause-all c = maximal_gaps
