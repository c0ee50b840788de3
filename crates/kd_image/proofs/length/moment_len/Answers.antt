use Rattle.std.proofs.Common.{sym, ◌∙◌}
use Rattle.kd_image.proofs.Lengths.{length-moment}
use Rattle.kd_image.proofs.length.moment_len.Goals as goal

pub returns-in-Some-clause-value : goal.returns-in-Some-clause-value
returns-in-Some-clause-value c = rw c.in-Some.is (c.item_len.ensures ∙ sym (length-moment c.in-Some.field-0))
