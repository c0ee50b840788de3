-- What the code's answer to an event is replied as.
use Rattle.kd_types.specs.declared.refusal.Refusal.TheVariants.{WrongState}
use Rattle.kd_wire.specs.declared.reply.Reply.{Reply}
use Rattle.kd_wire.specs.declared.reply.Reply.TheVariants as reply
use Rattle.kd_core.specs.declared.event.Answer.{Answer}
use Rattle.kd_core.specs.declared.event.Answer.TheVariants as answer

unfoldable pub reply_with : Answer → Reply
reply_with (answer.Left r) = r
reply_with (answer.Got g) = reply.Recv g.number g.offset g.length g.dropped
reply_with (answer.Bytes bytes) = reply.Read bytes
reply_with answer.Freed = reply.Free
reply_with (answer.Refused why) = reply.Refused why
reply_with _ = reply.Refused WrongState
