use Rattle.std.proofs.Common.{◌≡◌, ◌+◌, [], length, drop}
use Rattle.kd_image.specs.Reading.{payloads_from}
use Rattle.kd_image.proofs.payloads.read_payloads.Given as goal

abbrev pub invariant-payloads : goal.invariant-payloads
invariant-payloads l =
    (l.at + length l.rest ≡ l.begin + length l.bytes)
    × (payloads_from l.payloads.items l.at (drop l.count-index l.lengths) l.rest ≡ payloads_from [] l.begin l.lengths l.bytes)
