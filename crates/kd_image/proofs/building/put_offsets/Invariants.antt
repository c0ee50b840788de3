use Rattle.std.proofs.Common.{◌≡◌, [], ◌++◌, take, map, length}
use Rattle.kd_item.specs.Spelling.{spellings}
use Rattle.kd_image.specs.Items.{begins, off_items}
use Rattle.kd_image.proofs.building.put_offsets.Given as goal

abbrev pub invariant-payloads : goal.invariant-payloads
invariant-payloads l =
    (l.out.items ≡ l.initial.out.items ++ spellings (off_items l.begin [] (map length (take l.payload-index l.payloads))))
    × (l.at ≡ begins l.begin (map length (take l.payload-index l.payloads)))
