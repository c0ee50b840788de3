-- Plan by plan.
use Rattle.kd_settled.proofs.Callers as callers
use Rattle.kd_settled.proofs.laws.callers_are_at_home.Goals as goal

pub returns : goal.returns
returns c = callers.callers_are_at_home
