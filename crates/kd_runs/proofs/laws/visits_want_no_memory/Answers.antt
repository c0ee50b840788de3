-- Visit by visit.
use Rattle.kd_runs.proofs.Answered as answered
use Rattle.kd_runs.proofs.laws.visits_want_no_memory.Goals as goal

pub returns : goal.returns
returns c = answered.visits_want_no_memory
