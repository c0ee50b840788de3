use Rattle.std.proofs.Common.{arith}
use Rattle.kd_image.proofs.Lengths.{length-image}
use Rattle.kd_image.proofs.length.image_len.Goals as goal

pub returns-clause-whole : goal.returns-clause-whole
returns-clause-whole c = λ source dst.
    omega (arith, length-image c.args.message.now source dst c.args.attached.now, c.whole_len.ensures, c.requires)
