use Rattle.kd_client.specs.Requests.{request_to}
use Rattle.kd_client.proofs.Forms.{request_forms}
use Rattle.kd_client.proofs.dialogue.Dialogue.request.Goals as goal

pub ask-requires-clause-form : goal.ask-requires-clause-form
ask-requires-clause-form g c =
    rw c.in_ok-command.ensures.command (request_forms (request_to c.args.cookie c.args.dst) c.args.payload.items c.args.deadline c.requires.some c.requires.one c.requires.payload)
