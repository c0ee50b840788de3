use Rattle.std.proofs.Common.{sym, ◌∙◌}
use Rattle.kd_image.proofs.Lengths.{length-creds}
use Rattle.kd_image.proofs.length.creds_len.Goals as goal

pub returns-in-Some-clause-value : goal.returns-in-Some-clause-value
returns-in-Some-clause-value c = rw c.in-Some.is (c.item_len.ensures ∙ sym (length-creds c.in-Some.field-0))
