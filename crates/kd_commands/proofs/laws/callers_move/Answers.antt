-- By what a plan does to who sits where.
use Rattle.kd_commands.proofs.Callers as callers
use Rattle.kd_commands.proofs.laws.callers_move.Goals as goal

pub returns : goal.returns
returns c = callers.callers_move
