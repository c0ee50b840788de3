use Rattle.std.proofs.Common.{◌≡◌, ◌++◌, take}
use Rattle.std.specs.Prelude.{codes}
use Rattle.std.specs.List.{flat_map}
use Rattle.kd_lines.specs.Marks.{word_text}
use Rattle.kd_lines.proofs.images.put_owned.Given as goal

abbrev pub invariant-names : goal.invariant-names
invariant-names l = l.out.items ≡ l.initial.out.items ++ flat_map (word_text (codes " OWNED")) (take l.name-index l.names)
