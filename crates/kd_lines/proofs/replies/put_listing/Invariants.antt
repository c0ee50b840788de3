use Rattle.std.proofs.Common.{◌≡◌, ◌++◌, take}
use Rattle.std.specs.List.{flat_map}
use Rattle.kd_lines.specs.Replies.{listed_text}
use Rattle.kd_lines.proofs.replies.put_listing.Given as goal

abbrev pub invariant-lines : goal.invariant-lines
invariant-lines l = l.out.items ≡ l.initial.out.items ++ flat_map listed_text (take l.line-index l.lines)
