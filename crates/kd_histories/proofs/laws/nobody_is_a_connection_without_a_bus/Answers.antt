use Rattle.kd_histories.proofs.Numbers.{nobody_without_bus}
use Rattle.kd_histories.proofs.laws.nobody_is_a_connection_without_a_bus.Goals as goal

pub returns : goal.returns
returns c = nobody_without_bus
