use Rattle.std.proofs.Common.{◌≡◌, false, ◌≤◌, drop}
use Rattle.kd_name.proofs.Counted.{scan}
use Rattle.kd_name.proofs.element.element_count.Given as goal

abbrev pub invariant-loop-byte : goal.invariant-loop-byte
invariant-loop-byte l = (l.dots ≤ l.byte-index) × (scan l.is_begun l.dots (drop l.byte-index l.text) ≡ scan false 0 l.text)
