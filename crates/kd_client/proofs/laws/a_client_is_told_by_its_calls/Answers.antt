use Rattle.kd_client.proofs.Called.{one_more}
use Rattle.kd_client.proofs.laws.a_client_is_told_by_its_calls.Goals as goal

pub returns : goal.returns
returns g c = λ link now call calls. one_more link now call calls
