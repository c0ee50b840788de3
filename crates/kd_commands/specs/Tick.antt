-- TICK: the moment goes on. Nothing refuses it.
use Rattle.std.specs.Prelude.{ℕ, map, max}
use Rattle.kd_model.specs.Words.{but_those}
use Rattle.kd_wire.specs.declared.reply.Reply.TheVariants as reply
use Rattle.kd_replies.specs.declared.request.Request.{Request}
use Rattle.kd_replies.specs.Requests.{due, is_due}
use Rattle.kd_commands.specs.declared.conn.Conn.{Conn}
use Rattle.kd_commands.specs.State.{Desk}
use Rattle.kd_commands.specs.Audience.{reply_timeout}
use Rattle.kd_commands.specs.Plans.{Plan, announced}

-- the moment never goes back; requests that are due go, each with a notice
unfoldable pub tick : Desk → Conn → ℕ → Plan
tick d c moment =
    let now : ℕ = max d.moment moment in
    announced c (reply.Tick now)
    (record d { moment = now; requests = but_those (is_due now) d.requests })
    (map (λ (q : Request). reply_timeout q.asker q.cookie) (due now d.requests))
