use Rattle.std.proofs.Common.{◌≡◌, length, ◌^◌, take, min}
use Rattle.kd_image.specs.Images.{laid}
use Rattle.kd_image.proofs.length.payloads_len.Given as goal

abbrev pub invariant-payloads : goal.invariant-payloads
invariant-payloads l = l.total ≡ min (length (laid (take l.payload-index l.payloads))) (2 ^ 32)
