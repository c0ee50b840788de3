use Rattle.kd_client.proofs.Called.{no_call}
use Rattle.kd_client.proofs.laws.a_new_client_was_not_called.Goals as goal

pub returns : goal.returns
returns g c = λ link. no_call link
