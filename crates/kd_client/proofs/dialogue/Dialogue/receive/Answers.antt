use Rattle.kd_client.proofs.Received.{received_one}
use Rattle.kd_client.proofs.dialogue.Dialogue.receive.Goals as goal

pub returns-in-Recv-clause-ok : goal.returns-in-Recv-clause-ok
returns-in-Recv-clause-ok g c = received_one _ _ _ _ c.in_ok-reply.reply c.in-Recv.number c.in-Recv.offset c.in-Recv.length c.in-Recv.dropped c.in-Recv.is c.in_ok-reply.ensures.ok c.in_ok-reply.ensures.read
