-- In which order receivers are visited: by rising seat.
use Rattle.std.specs.Prelude.{◌≡◌, Bool, true, nat_lt}
use Rattle.kd_replies.specs.Order.{Rises}
use Rattle.kd_commands.specs.declared.conn.Conn.{Conn}
use Rattle.kd_commands.specs.declared.sent.Sent.{Sent}
use Rattle.kd_commands.specs.State.{Desk, sits_before}
use Rattle.kd_commands.specs.Audience.{Subject, audience}
use Rattle.kd_commands.specs.Messages.{is_broadcast}
use Rattle.kd_commands.specs.Plans.{Part, posts}
use Rattle.kd_commands.specs.Send.{send_parts}
use Rattle.kd_settled.specs.Settled.{IsSettled}

-- its pool has the lower seat
abbrev pub is_lower_part : Part → Part → Bool
is_lower_part p q = nat_lt p.seat q.seat

-- an audience stands by rising seat, and so do the posts of one notice
abbrev pub AudiencesRise : Type 0
AudiencesRise =
    (d : Desk) (s : Subject) → IsSettled d
    → Rises sits_before (audience d s) × Rises is_lower_part (posts d s)

-- and the offers of a broadcast
abbrev pub BroadcastsRise : Type 0
BroadcastsRise =
    (d : Desk) (c : Conn) (m : Sent) → IsSettled d → is_broadcast m ≡ true
    → Rises is_lower_part (send_parts d c m)
