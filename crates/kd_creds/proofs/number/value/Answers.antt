use Rattle.std.proofs.Common.{◌+◌, ◌-◌, ◌*◌, ◌<◌, get_or, refl, arith}
use Rattle.kd_creds.proofs.Digits.{value_whole, too_great}
use Rattle.kd_creds.proofs.number.value.Goals as goal

pub digits-init : goal.digits-init
digits-init c = (value_whole c.args.digits.now, omega arith)

pub returns-then-value-from : goal.returns-then-value-from
returns-then-value-from c =
    let above : 4294967295 < c.digits.value * 10 + (get_or c.args.digits.now c.digits.digit-index 0 - 48) = omega arith in
    rw (too_great c.args.digits.now c.digits.digit-index c.digits.value c.digits-test.true c.digits.invariant.0 above) refl
