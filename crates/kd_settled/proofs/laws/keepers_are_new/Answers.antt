-- Plan by plan.
use Rattle.kd_settled.proofs.Callers as callers
use Rattle.kd_settled.proofs.laws.keepers_are_new.Goals as goal

pub returns : goal.returns
returns c = callers.keepers_are_new
