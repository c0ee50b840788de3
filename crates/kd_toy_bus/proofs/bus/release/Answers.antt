use Rattle.std.proofs.Common.{◌+◌, ap, ◌∙◌}
use Rattle.kd_hands.specs.Lists.{hand_has}
use Rattle.kd_hands.specs.Views.{hand}
use Rattle.kd_hands.proofs.Hands.{gone_from}
use Rattle.kd_toy_bus.proofs.bus.release.Goals as goal

pub returns-clause-gone : goal.returns-clause-gone
returns-clause-gone c = ap (hand_has 200) c.mark.ensures.marked.hand_is ∙ gone_from 200 (hand c.args.pass.now.view (c.args.seat + 1))
