use Rattle.std.proofs.Common.{◌≡◌, ◌++◌, take, map}
use Rattle.kd_item.specs.Spelling.{spellings}
use Rattle.kd_image.specs.Items.{owned_item}
use Rattle.kd_image.proofs.building.put_names.Given as goal

abbrev pub invariant-names : goal.invariant-names
invariant-names l = l.out.items ≡ l.initial.out.items ++ spellings (map owned_item (take l.name-index l.names))
