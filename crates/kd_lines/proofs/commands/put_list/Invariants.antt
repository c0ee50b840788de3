use Rattle.std.proofs.Common.{◌≡◌, ◌++◌, take}
use Rattle.std.specs.List.{flat_map}
use Rattle.kd_lines.specs.Commands.{item_text}
use Rattle.kd_lines.proofs.commands.put_list.Given as goal

abbrev pub invariant-items : goal.invariant-items
invariant-items l = l.out.items ≡ l.initial.out.items ++ flat_map item_text (take l.item-index l.items)
