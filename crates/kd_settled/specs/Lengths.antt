-- How long what is attached to a message can be: its image has a length for a pool's numbers.
use Rattle.std.specs.Prelude.{◌≡◌, ◌≤◌, ◌+◌, ℕ, true, List, length, Option, IfSome, Ok}
use Rattle.std.specs.List.{AllByRecursion}
use Rattle.kd_wire.specs.declared.command.Command.{Command}
use Rattle.kd_wire.specs.WellFormed.{is_well_formed}
use Rattle.kd_image.specs.Images.{image_length}
use Rattle.kd_commands.specs.declared.conn.Conn.{Conn}
use Rattle.kd_commands.specs.declared.sent.Sent.{Sent}
use Rattle.kd_commands.specs.declared.who.Who.{Who}
use Rattle.kd_commands.specs.State.{Desk}
use Rattle.kd_commands.specs.Messages.{attached, image_for, message_of, plain_length}
use Rattle.kd_commands.specs.Plans.{Plan}
use Rattle.kd_commands.specs.Step.{plan}
use Rattle.kd_settled.specs.Settled.{IsSettled}

-- what it calls itself has 255 bytes at most, as a HELLO has to spell it
abbrev pub IsDescribed : Conn → Type 0
IsDescribed c = IfSome c.description (λ text. length text ≤ 255)

-- at most 64 names and a description, credentials and a moment: 17,744 bytes
abbrev pub AttachedIsShort : Type 0
AttachedIsShort =
    (d : Desk) (s r : Conn) (m : Sent) → IsSettled d → IsDescribed s
    → image_length (message_of m) (attached d s r) ≤ plain_length m + 17744

-- so the image of a message that isn't too long has fewer than 2 to the 32 bytes
abbrev pub ImagesFit : Type 0
ImagesFit =
    (d : Desk) (s r : Conn) (m : Sent) (dst : ℕ) → IsSettled d → IsDescribed s
    → plain_length m ≤ 65536 → length (image_for d s m dst r) ≤ 83280

-- each connection is
abbrev pub AreDescribed : Desk → Type 0
AreDescribed d = AllByRecursion IsDescribed d.conns

-- and stays so, where commands are well formed
abbrev pub DescriptionsStay : Type 0
DescriptionsStay =
    (d : Desk) (w : Who) (x : Command) (p : Plan) → AreDescribed d → is_well_formed x ≡ true
    → plan d w x ≡ Ok p → AreDescribed p.next
