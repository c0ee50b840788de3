use Rattle.std.proofs.Common.{◌≡◌, [], take, drop}
use Rattle.kd_wire.specs.Reading.{stand}
use Rattle.kd_wire.proofs.forming.all_stand.Given as goal

abbrev pub invariant-standing : goal.invariant-standing
invariant-standing l = (l.place ≡ l.item-index) × (stand l.kinds (take l.item-index l.items) (drop l.item-index l.items) ≡ stand l.kinds [] l.items)
