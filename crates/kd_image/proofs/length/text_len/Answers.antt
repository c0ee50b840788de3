use Rattle.std.proofs.Common.{arith}
use Rattle.kd_image.proofs.Lengths.{text_there}
use Rattle.kd_image.proofs.length.text_len.Goals as goal

pub returns-in-Some-clause-value : goal.returns-in-Some-clause-value
returns-in-Some-clause-value c =
    omega (arith, text_there c.args.text.now c.in-Some.text c.bytes.result.now c.in-Some.is c.bytes.ensures, c.item_len.ensures, c.min.ensures)
