-- Plan by plan.
use Rattle.kd_settled.proofs.Callers as callers
use Rattle.kd_settled.proofs.laws.left_seats_are_free.Goals as goal

pub returns : goal.returns
returns c = callers.left_seats_are_free
