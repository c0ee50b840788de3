-- Those so far have their form.
use Rattle.std.specs.Prelude.{All}
use Rattle.kd_wire.specs.Refusals.{IsWellFormed}
use Rattle.kd_client_tests.proofs.talk.commands_of.Given as goal

abbrev pub invariant-frames : goal.invariant-frames
invariant-frames l = All IsWellFormed l.commands.items
