-- What a command of a frame comes to.
use Rattle.std.specs.Prelude.{◌≡◌, ℕ, length, min, Some, None, if◌then◌else◌, ℤ}
use Rattle.kd_types.specs.declared.flags.RecvFlags.{RecvFlags}
use Rattle.kd_types.specs.declared.refusal.Refusal.{Refusal}
use Rattle.kd_types.specs.declared.refusal.Refusal.TheVariants.{WrongState}
use Rattle.kd_types.specs.Flags.{has_bits}
use Rattle.kd_wire.specs.declared.command.Command.{Command}
use Rattle.kd_wire.specs.declared.command.Command.TheVariants as cmd
use Rattle.kd_wire.specs.declared.reply.Reply.{Reply}
use Rattle.kd_wire.specs.declared.reply.Reply.TheVariants as reply
use Rattle.kd_acts.specs.declared.receive.RecvMode.{RecvMode}
use Rattle.kd_acts.specs.State as pool
use Rattle.kd_world.specs.State.{World, new_world}
use Rattle.kd_world.specs.Legal.{receives, reads, frees}
use Rattle.kd_world.specs.Answers.{Says, turned_away, left, pool_says}
use Rattle.kd_world.specs.Whole.{Whole, alone, whole}

-- the bus of a replay: made by the user 1000, with filters of 64 bytes and 8 hashes
abbrev pub replay_world : World
replay_world = new_world 1000 64 8

-- the world after a frame, and what the frame is answered
pub record Turn : Type 0 where
  pub next : World
  pub reply : Reply

-- a refusal changes nothing
abbrev pub refused : World → Refusal → Turn
refused w why = record { next = w; reply = reply.Refused why }

-- what is replied where a command ends with this answer; with the others none ends
unfoldable pub reply_of : Says → Reply
reply_of (left r) = r
reply_of (turned_away why) = reply.Refused why
reply_of (pool_says (pool.refused why)) = reply.Refused why
reply_of (pool_says (pool.got n offset len dropped)) = reply.Recv n offset len dropped
reply_of (pool_says (pool.bytes_of bytes)) = reply.Read bytes
reply_of (pool_says pool.freed) = reply.Free
reply_of _ = reply.Refused WrongState

-- a command that was run whole
abbrev pub replied : Whole → Turn
replied x = record { next = x.next; reply = reply_of x.answer }

-- a number of a slice; one above all numbers of 32 bits stands for the greatest of them
abbrev pub slice_number : ℕ → ℕ
slice_number n = min n 4294967295

-- a limit counts only with its flag
abbrev pub mode_of : RecvFlags → ℤ → RecvMode
mode_of flags limit = record {
  peek = has_bits flags.0 1;
  drop_it = has_bits flags.0 2;
  limit = if has_bits flags.0 4 then Some limit else None;
}

-- receives, reads and frees are one event, and any other command is run whole at the desk
unfoldable pub turn : World → ℕ → Command → Turn
turn w n (cmd.Recv flags limit) = replied (alone w (receives n (mode_of flags limit)))
turn w n (cmd.Read sealed number) = replied (alone w (reads n (slice_number number) sealed))
turn w n (cmd.Free number) = replied (alone w (frees n (slice_number number)))
turn w n x = replied (whole w n x)

-- nobody holds the desk, and there are 64 callers
pub record IsReady (w : World) : Type 0 where
  pub free : w.holder ≡ None
  pub callers : length w.callers ≡ 64
