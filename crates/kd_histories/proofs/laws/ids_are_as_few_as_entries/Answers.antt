use Rattle.kd_histories.proofs.Numbers.{ids_are_few}
use Rattle.kd_histories.proofs.laws.ids_are_as_few_as_entries.Goals as goal

pub returns : goal.returns
returns c = ids_are_few
