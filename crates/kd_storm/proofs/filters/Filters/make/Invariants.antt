use Rattle.std.proofs.Common.{◌≡◌, length}
use Rattle.kd_storm.proofs.Built.{AreFirst}
use Rattle.kd_storm.proofs.filters.Filters.make.Given as goal

abbrev pub invariant-digits : goal.invariant-digits
invariant-digits l = (length l.each.items ≡ l.digit) × AreFirst l.digit l.each.items
