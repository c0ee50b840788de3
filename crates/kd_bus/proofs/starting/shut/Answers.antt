use Rattle.std.proofs.Common.{[]}
use Rattle.kd_tables.specs.Drafts.{IsVisitable}
use Rattle.kd_bus.proofs.Begun.{made_for_close}
use Rattle.kd_bus.proofs.starting.shut.Goals as goal

pub visit-requires-clause-visitable : goal.visit-requires-clause-visitable
unfolding IsVisitable
visit-requires-clause-visitable g c = c.requires.seat

pub visit-requires-clause-ready : goal.visit-requires-clause-ready
visit-requires-clause-ready g c = ([], made_for_close c.args.made.now c.args.seat c.requires.made)

pub returns-clause-made : goal.returns-clause-made
returns-clause-made g c = c.visit.ensures.made [] (made_for_close c.args.made.now c.args.seat c.requires.made)
