-- What is told when the moment goes on.
use Rattle.std.specs.Prelude.{◌≡◌, ℕ, List, [], ◌∷◌, ◌++◌, map, max, refl}
use Rattle.std.proofs.Common.{ap}
use Rattle.kd_wire.specs.declared.reply.Reply.TheVariants as reply
use Rattle.kd_replies.specs.declared.request.Request.{Request}
use Rattle.kd_replies.specs.Requests.{due}
use Rattle.kd_commands.specs.declared.conn.Conn.{Conn}
use Rattle.kd_commands.specs.State.{Desk}
use Rattle.kd_commands.specs.Audience.{Subject, audience, is_shown, reply_timeout}
use Rattle.kd_commands.specs.Plans.{itself, notices, posts}
use Rattle.kd_commands.specs.Tick.{tick}
use Rattle.kd_tables.specs.declared.change.Change.TheVariants as change
use Rattle.kd_tables.specs.declared.part.Part as code
use Rattle.kd_tables.specs.Drafts.{applied, drafted, parts_with}

abbrev pub late : Request → Subject
late q = reply_timeout q.asker q.cookie

-- the askers are told by their ids alone
told_alike : (d : Desk) (now : ℕ) (left qs : List Request) → notices (record d { moment = now; requests = left }) (map late qs) ≡ notices d (map late qs)
unfolding audience is_shown
told_alike d now left [] = refl
told_alike d now left (q ∷ qs) = ap (posts d (late q) ++◌) (told_alike d now left qs)

-- what the code plans is what is asked for
pub tick_planned : (d : Desk) (c : Conn) (moment now : ℕ) (ps : List code.Part) → now ≡ max d.moment moment → parts_with [] ps ≡ notices d (map late (due now d.requests))
    → tick d c moment ≡ drafted d (record { parts = ps; contents = []; reply = reply.Tick now; change = change.Passes now; after = itself c })
unfolding tick drafted applied
tick_planned d c moment now ps e h = rw (← e, h, ← told_alike d now (applied (change.Passes now) d).requests (due now d.requests)) refl
