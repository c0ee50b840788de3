use Rattle.std.proofs.Common.{arith}
use Rattle.kd_image.proofs.Round.{gives, found_by}
use Rattle.kd_image.proofs.reading.read_image.Goals as goal

pub returns-clause-found : goal.returns-clause-found
returns-clause-found c = found_by c.read_bytes.result c.args.bytes.now c.read_bytes.ensures.fits (λ i. omega (arith, c.type_inv.bytes i)) c.read_bytes.ensures.read

pub returns-clause-built : goal.returns-clause-built
returns-clause-built c = λ o sound is. gives c.read_bytes.result c.args.bytes.now o c.read_bytes.ensures.read c.read_bytes.ensures.refused sound is
