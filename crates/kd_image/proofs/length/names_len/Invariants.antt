use Rattle.std.proofs.Common.{◌≡◌, length, ◌^◌, take, map, min}
use Rattle.kd_item.specs.Spelling.{spellings}
use Rattle.kd_image.specs.Items.{owned_item}
use Rattle.kd_image.proofs.length.names_len.Given as goal

abbrev pub invariant-names : goal.invariant-names
invariant-names l = l.total ≡ min (length (spellings (map owned_item (take l.name-index l.names)))) (2 ^ 32)
