-- Plan by plan.
use Rattle.kd_settled.proofs.Callers as callers
use Rattle.kd_settled.proofs.laws.replies_answer.Goals as goal

pub returns : goal.returns
returns c = callers.replies_answer
