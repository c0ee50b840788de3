use Rattle.std.proofs.Common.{◌≡◌, [], ◌++◌, map, take}
use Rattle.kd_commands.specs.Plans.{notices}
use Rattle.kd_tables.specs.Drafts.{parts_with}
use Rattle.kd_desk.proofs.Dues.{late}
use Rattle.kd_desk.proofs.ticking.tell_due.Given as goal

abbrev pub invariant-due : goal.invariant-due
invariant-due l = parts_with [] l.parts.items ≡ parts_with [] l.initial.parts.items ++ notices l.desk (map late (take l.request-index l.request-items))
