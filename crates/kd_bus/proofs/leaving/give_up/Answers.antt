use Rattle.kd_hands.specs.Views.{part}
use Rattle.kd_bus.proofs.Left.{idle_put, idle_so, idle_stands}
use Rattle.kd_bus.proofs.leaving.give_up.Goals as goal

pub put-requires-clause-stands : goal.put-requires-clause-stands
put-requires-clause-stands c = idle_stands (part c.args.pass.now.view 0).seen c.args.pass.now.view.name c.idle.result c.args.slot c.requires.value c.idle.ensures

pub put-requires-clause-tie : goal.put-requires-clause-tie
put-requires-clause-tie c = idle_put c.args.pass.now.view c.idle.result c.requires.desk.desk c.requires.shut c.idle.ensures

pub returns-clause-leaves : goal.returns-clause-leaves
returns-clause-leaves c = idle_so c.args.pass.now.view c.put.new.self.view c.idle.result c.idle.ensures c.put.ensures.passed
