use Rattle.std.proofs.Common.{◌∙◌}
use Rattle.kd_name.proofs.Pieces.{counts_one}
use Rattle.kd_name.proofs.element.is_element.Goals as goal

pub returns : goal.returns
returns c = c.eq.ensures ∙ counts_one c.args.text.now _ c.element_count.ensures
