-- What a replay writes, and how it ends.
use Rattle.std.specs.Prelude.{◌≡◌, ◌≢◌, ◌⊎◌, ℕ, true, List, [], ◌∷◌, ◌++◌, length, take, Option, Some}
use Rattle.std.specs.Io.KnownBytes.{Appends}
use Rattle.kd_types.specs.declared.refusal.Refusal.{Refusal}
use Rattle.kd_types.specs.declared.status.Status.{Status}
use Rattle.kd_types.specs.declared.status.Status.TheVariants.{Done, WriteFault, BadFrame, OutOfMemory}
use Rattle.kd_wire.specs.declared.command.Command.{Command}
use Rattle.kd_wire.specs.declared.port.Port.TheVariants.{Replay}
use Rattle.kd_wire.specs.declared.reply.Reply.{Reply}
use Rattle.kd_wire.specs.Frames.{command_word, caller_word}
use Rattle.kd_wire.specs.Refusals.{refusal_of}
use Rattle.kd_wire.specs.Replies.{reply_frame}
use Rattle.kd_world.specs.State.{World}
use Rattle.kd_world.specs.Legal.{Event}
use Rattle.kd_world.specs.Runs.{all_legal, world_after}
use Rattle.kd_replay.specs.Turns.{Turn, replay_world, refused, turn}
use Rattle.kd_replay.specs.Events.{IsRunBy, events_of}
use Rattle.kd_replay.specs.Frames.{HasNoFrame, IsCut, IsRead, joined}

-- a frame that breaks the format gets its refusal
abbrev pub IsRefused : World → List ℕ → Turn → Type 0
IsRefused w frame t = (why : Refusal) × (refusal_of Replay frame ≡ Some why) × (t ≡ refused w why)

-- any other is run as the command that it spells
abbrev pub IsCommandRun : World → List ℕ → Turn → Type 0
IsCommandRun w frame t =
    (caller : ℕ) × (command : Command) × IsRead frame caller command × (t ≡ turn w caller command)

-- what a frame comes to
abbrev pub IsTurn : World → List ℕ → Turn → Type 0
IsTurn w frame t = IsRefused w frame t ⊎ IsCommandRun w frame t

-- the bytes of a reply: the frame's command and caller stand in it
abbrev pub reply_bytes : List ℕ → Reply → List ℕ
reply_bytes frame r = reply_frame (command_word frame) (caller_word frame) r

-- frame after frame, from one world to another: the replies, one after the other
abbrev pub Answered : World → List (List ℕ) → List ℕ → World → Type 0
Answered w [] written end = (written ≡ []) × (end ≡ w)
Answered w (f ∷ fs) written end =
    (t : Turn) × (more : List ℕ) × IsTurn w f t × (written ≡ reply_bytes f t.reply ++ more)
    × Answered t.next fs more end

-- a frame is run by these events: by none where it breaks the format, else by those of its command,
-- which are legal, end in the world behind it, and tell its reply
abbrev pub IsFrameRun : World → List ℕ → List Event → Turn → Type 0
IsFrameRun w frame es t =
    (IsRefused w frame t × (es ≡ []))
    ⊎ ((caller : ℕ) × (command : Command) × IsRead frame caller command
    × (t ≡ turn w caller command) × (es ≡ events_of w caller command)
    × IsRunBy w es (t.reply ∷ []) t.next)

-- frame after frame
abbrev pub AreRunBy : World → List (List ℕ) → List Event → World → Type 0
AreRunBy w [] es end = (es ≡ []) × (end ≡ w)
AreRunBy w (f ∷ fs) es end =
    (t : Turn) × (own more : List Event) × IsFrameRun w f own t × (es ≡ own ++ more)
    × AreRunBy t.next fs more end

-- events that are legal one after the other lead from one world to another
pub record Ends (w : World) (es : List Event) (end : World) : Type 0 where
  pub legal : all_legal w es ≡ true
  pub ends : end ≡ world_after w es

-- frames are run by legal events
abbrev pub AreRun : World → List (List ℕ) → World → Type 0
AreRun w frames end = (es : List Event) × AreRunBy w frames es end × Ends w es end

-- the replies to frames from the opening of the bus, which legal events tell
abbrev pub IsTranscript : List (List ℕ) → List ℕ → Type 0
IsTranscript frames written =
    (end : World) × Answered replay_world frames written end × AreRun replay_world frames end

-- a front of the replies to the first frames was written
abbrev pub WritesFront : List ℕ → Option (List ℕ) → Option (List ℕ) → Type 0
WritesFront bytes held_before held_after =
    (frames : List (List ℕ)) × (rest written : List ℕ) × (n : ℕ) × IsCut bytes frames rest
    × IsTranscript frames written × Appends held_before held_after (take n written)

-- the replies to all these frames were written
abbrev pub WritesAll : List (List ℕ) → Option (List ℕ) → Option (List ℕ) → Type 0
WritesAll frames held_before held_after =
    (written : List ℕ) × IsTranscript frames written × Appends held_before held_after written

-- what answering the frames of these bytes came to
abbrev pub ReplayResult : List ℕ → Option (List ℕ) → Option (List ℕ) → Status → Type 0
ReplayResult bytes held_before held_after Done =
    (frames : List (List ℕ)) × IsCut bytes frames [] × WritesAll frames held_before held_after
ReplayResult bytes held_before held_after (BadFrame at) =
    (frames : List (List ℕ)) × (rest : List ℕ) × IsCut bytes frames rest × (rest ≢ [])
    × HasNoFrame rest × (at ≡ length (joined frames)) × WritesAll frames held_before held_after
ReplayResult bytes held_before held_after WriteFault = WritesFront bytes held_before held_after
ReplayResult bytes held_before held_after OutOfMemory = WritesFront bytes held_before held_after
ReplayResult bytes held_before held_after _ = ⊥
