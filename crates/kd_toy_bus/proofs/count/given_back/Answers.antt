use Rattle.std.proofs.Common.{ap, ◌∙◌}
use Rattle.kd_hands.specs.Lists.{hand_has}
use Rattle.kd_hands.specs.Views.{hand}
use Rattle.kd_hands.proofs.Hands.{gone_from}
use Rattle.kd_toy_bus.proofs.count.given_back.Goals as goal

pub returns-clause-gone : goal.returns-clause-gone
returns-clause-gone c = ap (hand_has c.args.number) c.mark.ensures.marked.hand_is ∙ gone_from c.args.number (hand c.args.pass.view 0)
