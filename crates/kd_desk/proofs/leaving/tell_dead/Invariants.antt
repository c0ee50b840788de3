use Rattle.std.proofs.Common.{◌≡◌, [], ◌++◌, map, take}
use Rattle.kd_replies.specs.declared.request.Request.{Request}
use Rattle.kd_commands.specs.Audience.{reply_dead}
use Rattle.kd_tables.specs.Drafts.{parts_with}
use Rattle.kd_messages.specs.News.{without_leavers}
use Rattle.kd_commands.specs.Plans.{notices}
use Rattle.kd_desk.proofs.leaving.tell_dead.Given as goal

abbrev pub invariant-dead : goal.invariant-dead
invariant-dead l = parts_with [] l.parts.items ≡ parts_with [] l.initial.parts.items ++ notices (without_leavers l.leavers l.desk) (map (λ (q : Request). reply_dead q.asker q.cookie) (take l.request-index l.request-items))
