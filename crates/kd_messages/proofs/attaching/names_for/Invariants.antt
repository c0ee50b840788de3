use Rattle.std.proofs.Common.{◌≡◌, take}
use Rattle.kd_model.specs.Words.{those}
use Rattle.kd_commands.specs.Rights.{may_see_name}
use Rattle.kd_messages.proofs.attaching.names_for.Given as goal

abbrev pub invariant-names : goal.invariant-names
invariant-names l = l.seen.items ≡ those (may_see_name l.desk l.receiver) (take l.name-index l.names)
