-- Plan by plan.
use Rattle.kd_settled.proofs.Callers as callers
use Rattle.kd_settled.proofs.laws.others_stay_at_home.Goals as goal

pub returns : goal.returns
returns c = callers.others_stay_at_home
