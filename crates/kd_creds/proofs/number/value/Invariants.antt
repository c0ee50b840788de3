use Rattle.std.proofs.Common.{◌≡◌, ◌≤◌, drop}
use Rattle.kd_creds.specs.Numbers.{digits_value}
use Rattle.kd_creds.proofs.Digits.{value_behind}
use Rattle.kd_creds.proofs.number.value.Given as goal

abbrev pub invariant-digits : goal.invariant-digits
invariant-digits l = (value_behind l.value (drop l.digit-index l.digits) ≡ digits_value l.digits) × (l.value ≤ 4294967295)
