-- The parts that hand messages over, what a holder keeps for them, and what the answers tell.
use Rattle.std.specs.Prelude.{◌≡◌, ◌≤◌, ◌++◌, ℕ, Bool, true, false, List, [], ◌∷◌, length, Ok, Option, Some, None}
use Rattle.std.specs.List.{AllByRecursion}
use Rattle.kd_model.specs.declared.slice_no.TheConstants.{SLICES}
use Rattle.kd_pool.specs.declared.memory.TheConstants.{LARGEST}
use Rattle.kd_acts.specs.State.{Answer, Batch, Content, Image, Pool, Visit, drained}
use Rattle.kd_wire.specs.declared.command.Command.{Command}
use Rattle.kd_wire.specs.WellFormed.{is_well_formed}
use Rattle.kd_commands.specs.declared.who.Who.{Who}
use Rattle.kd_commands.specs.State.{Desk}
use Rattle.kd_commands.specs.Plans.{Plan}
use Rattle.kd_commands.specs.Step.{plan}
use Rattle.kd_commands.specs.Visits.{images_in, with_images}
use Rattle.kd_tables.specs.declared.part.Part as code
use Rattle.kd_tables.specs.declared.part.Part.TheVariants as part
use Rattle.kd_tables.specs.declared.part.Out.{Out}
use Rattle.kd_tables.specs.declared.part.Out.TheVariants as out
use Rattle.kd_tables.specs.Drafts.{part_with, parts_with}
use Rattle.kd_tables.specs.Outs.{out_answer}
use Rattle.kd_holds.specs.Stack.{stack_of}

-- ---- the parts

-- a part that neither drains its pool nor settles there
abbrev pub is_still : code.Part → Bool
is_still (part.Drain seat size) = false
is_still (part.Settle seat) = false
is_still _ = true

abbrev pub AreStill : List code.Part → Type 0
AreStill ps = AllByRecursion (λ (p : code.Part). is_still p ≡ true) ps

-- a settle, and then none
abbrev pub SettlesFirst : List code.Part → Type 0
SettlesFirst (part.Settle seat ∷ ps) = AreStill ps
SettlesFirst _ = ⊥

-- of what is left of a plan only the first part drains, what it drains settles next, and no other
-- part drains or settles
abbrev pub HandsOver : List code.Part → Type 0
HandsOver [] = Unit {0}
HandsOver (part.Drain seat size ∷ ps) = SettlesFirst ps
HandsOver (p ∷ ps) = AreStill ps

-- a pool that a part opens has no more bytes than a pool may have
abbrev pub IsSmall : code.Part → Type 0
IsSmall (part.Raise seat size) = size ≤ LARGEST
IsSmall _ = Unit {0}

-- the parts of a plan are all that can be made for and visited
pub record AreInOrder (ps : List code.Part) : Type 0 where
  pub hands : HandsOver ps
  pub small : AllByRecursion IsSmall ps

-- ---- what a holder keeps for them

-- the memory of a plan: the pools that its parts open, the next one last, the buffer of what is
-- drained, until it settles, and what was drained
pub record Stock : Type 0 where
  pub raised : List Pool
  pub buffer : Option Batch
  pub drained : Option Batch

abbrev pub images_of : Option Batch → List Image
images_of None = []
images_of (Some b) = b.images

-- a buffer with these messages, and room for so many bytes
abbrev pub IsBuffer : ℕ → List Image → Option Batch → Type 0
IsBuffer least images b =
    (room : ℕ) × (least ≤ room) × (b ≡ Some (record { size = room; images = images }))

-- before any message was drained it is empty, and has room for the largest pool
abbrev pub HasRoom : Option Batch → Option Batch → Type 0
HasRoom b took = IsBuffer LARGEST [] b × (took ≡ None)

-- a drain that comes next needs that, and a settle what was drained
abbrev pub HasBuffer : Option Batch → Option Batch → List code.Part → Type 0
HasBuffer b took (part.Drain seat size ∷ ps) = HasRoom b took
HasBuffer b took (part.Settle seat ∷ ps) = IsBuffer 0 (images_of took) b
HasBuffer b took _ = Unit {0}

-- the memory is there for all parts that are left
pub record IsMadeFor (m : Stock) (ps : List code.Part) : Type 0 where
  pub raised : m.raised ≡ stack_of ps
  pub hands : HandsOver ps
  pub buffer : HasBuffer m.buffer m.drained ps
  pub few : length (images_of m.drained) ≤ SLICES

-- ---- what is done, and what is answered

-- a part as its pool meets it: a settle places what was drained
abbrev pub visit_met : Option Content → code.Part → Option Batch → Visit
visit_met c p b = with_images (images_of b) (part_with c p).act

-- what a pool answered to a drain: with what was drained, where it was
abbrev pub drain_told : Out → Option Batch → Answer
drain_told out.Done (Some b) = drained b.images
drain_told o b = out_answer o

-- and to any part
abbrev pub answer_told : code.Part → Out → Option Batch → Answer
answer_told (part.Drain seat size) o b = drain_told o b
answer_told p o b = out_answer o

-- to as many parts as have answers
unfoldable pub answers_told : List code.Part → List Out → Option Batch → List Answer
answers_told [] outs b = []
answers_told (p ∷ ps) [] b = []
answers_told (p ∷ ps) (o ∷ outs) b = answer_told p o b ∷ answers_told ps outs b

-- a drain keeps what it drained, until that settles
pub record HasDrained (o : Out) (was now : Stock) : Type 0 where
  pub told : images_in (drain_told o now.drained) ≡ images_of now.drained
  pub few : length (images_of now.drained) ≤ SLICES
  pub buffer : IsBuffer 0 (images_of now.drained) now.buffer
  pub raised : now.raised ≡ was.raised

-- what a drain answers has just what was drained, and no other part drains
abbrev pub IsDrainedBy : code.Part → Out → Option Batch → Option Batch → Type 0
IsDrainedBy (part.Drain seat size) o was now = images_in (drain_told o now) ≡ images_of now
IsDrainedBy p o was now = now ≡ was

-- the messages that answers tell are those that were drained
abbrev pub images_told : List Answer → List Image
images_told [] = []
images_told (a ∷ rest) = images_in a ++ images_told rest

abbrev pub TellDrained : List code.Part → List Out → Option Batch → Type 0
TellDrained ps outs b = images_told (answers_told ps outs b) ≡ images_of b

-- ---- every plan

-- is in order, where its command is well formed
abbrev pub PlansAreInOrder : Type 0
PlansAreInOrder =
    (d : Desk) (w : Who) (x : Command) (r : Plan) (cs : List (Option Content))
    (ps : List code.Part)
    → is_well_formed x ≡ true → plan d w x ≡ Ok r → r.parts ≡ parts_with cs ps → AreInOrder ps
