use Rattle.std.proofs.Common.{◌∙◌}
use Rattle.kd_toy_bus.proofs.Backs.{last_new, before_last}
use Rattle.kd_toy_bus.proofs.passes.two_of.Goals as goal

pub returns-clause-first : goal.returns-clause-first
returns-clause-first g c = before_last c.args.gate.now c.args.passes.items c.pop.new.self.items c.pop-2.new.self.items c.in-Some.second c.in-Some-pop.first 0 c.in-Some.ensures.items c.in-Some-pop.ensures.items (c.requires.new.count ∙ c.requires.two) c.requires.new

pub returns-clause-second : goal.returns-clause-second
returns-clause-second g c = last_new c.args.gate.now c.args.passes.items c.pop.new.self.items c.in-Some.second 1 c.in-Some.ensures.items (c.requires.new.count ∙ c.requires.two) c.requires.new
