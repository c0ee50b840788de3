use Rattle.kd_client.proofs.Settled.{found_settles}
use Rattle.kd_client.proofs.laws.a_settled_request_waited.Goals as goal

pub returns : goal.returns
returns c = λ requests reception. found_settles requests reception
