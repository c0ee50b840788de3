use Rattle.std.proofs.Common.{◌≡◌, ◌++◌, take}
use Rattle.std.specs.Prelude.{codes}
use Rattle.std.specs.List.{flat_map}
use Rattle.kd_lines.specs.Marks.{word_text}
use Rattle.kd_lines.proofs.images.put_payloads.Given as goal

abbrev pub invariant-payloads : goal.invariant-payloads
invariant-payloads l = l.out.items ≡ l.initial.out.items ++ flat_map (word_text (codes " PAYLOAD")) (take l.payload-index l.payloads)
