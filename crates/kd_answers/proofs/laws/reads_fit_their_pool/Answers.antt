-- By the soundness of its pool.
use Rattle.kd_answers.proofs.Slices as slices
use Rattle.kd_answers.proofs.laws.reads_fit_their_pool.Goals as goal

pub returns : goal.returns
returns c = slices.reads_fit_their_pool
