-- Plan by plan.
use Rattle.kd_settled.proofs.Callers as callers
use Rattle.kd_settled.proofs.laws.old_free_their_seats.Goals as goal

pub returns : goal.returns
returns c = callers.old_free_their_seats
