use Rattle.std.proofs.Common.{◌≡◌, take}
use Rattle.kd_image.specs.Images.{laid}
use Rattle.kd_said.proofs.message.lay.Given as goal

abbrev pub invariant-payloads : goal.invariant-payloads
invariant-payloads l = l.out.items ≡ laid (take l.payload-index l.payloads)
