use Rattle.std.proofs.Common.{◌≡◌, [], ◌++◌, map}
use Rattle.kd_commands.specs.Audience.{new_owner}
use Rattle.kd_tables.specs.Drafts.{parts_with}
use Rattle.kd_messages.specs.News.{without_leavers}
use Rattle.kd_commands.specs.Plans.{notices}
use Rattle.kd_desk.proofs.leaving.tell_owners.Given as goal

abbrev pub invariant-changes : goal.invariant-changes
invariant-changes l = (l.initial.change-iterator.rest.items ≡ l.yielded ++ l.change-iterator.rest.items) × (parts_with [] l.parts.items ≡ parts_with [] l.initial.parts.items ++ notices (without_leavers l.leavers l.desk) (map new_owner l.yielded))
