-- One more has its form.
use Rattle.std.proofs.lemmas.List.Elements.{All-push}
use Rattle.kd_wire.specs.Refusals.{IsWellFormed}
use Rattle.kd_client_tests.proofs.talk.commands_of.Goals as goal

pub frames-preserved : goal.frames-preserved
frames-preserved c = rw c.in_ok-push.ensures.items (All-push IsWellFormed c.frames.commands.items c.in_ok-command.command c.frames.invariant c.in_ok-command.ensures)
