use Rattle.std.proofs.Common.{IsTrue, sym, subst}
use Rattle.kd_wire.specs.declared.command.Command.{Command}
use Rattle.kd_wire.specs.WellFormed.{is_well_formed}
use Rattle.kd_storm.proofs.Formed.{hello_formed}
use Rattle.kd_storm.proofs.commands.hello.Goals as goal

pub returns-clause-form : goal.returns-clause-form
returns-clause-form c = subst (λ (x : Command). IsTrue (is_well_formed x)) (sym c.plain_hello.ensures) hello_formed
