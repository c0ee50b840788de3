use Rattle.std.proofs.Common.{ap, ◌∙◌}
use Rattle.std.specs.Ordering.{is_lt}
use Rattle.kd_model.proofs.Texts.{below_is}
use Rattle.kd_registry.proofs.search.is_below.Goals as goal

pub returns : goal.returns
returns c = c.is_lt.ensures ∙ ap is_lt c.cmp.ensures ∙ below_is c.args.a.now c.args.b.now
