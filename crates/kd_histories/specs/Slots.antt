-- The desk's list: what stands behind lock 0 along it.
use Rattle.std.specs.Prelude.{◌≡◌, ℕ, ◌+◌, ◌%◌, ◌==◌, Bool, true, false, not, ◌&&◌, List, [], ◌∷◌, ◌++◌, map, Option, Some, None, Err}
use Rattle.kd_types.specs.declared.refusal.Refusal.TheVariants.{NoSuchBus}
use Rattle.kd_wire.specs.declared.command.Command.{Command}
use Rattle.kd_wire.specs.declared.command.Command.TheVariants as cmd
use Rattle.kd_acts.specs.State.{Answer}
use Rattle.kd_commands.specs.declared.conn.Conn.{Conn}
use Rattle.kd_commands.specs.State.{Desk, opening_desk, seat_set}
use Rattle.kd_commands.specs.Plans.{Part}
use Rattle.kd_commands.specs.Visits.{first_ends, next_part}
use Rattle.kd_commands.specs.Step.{Ended, ended_by, parts_in, plan}
use Rattle.kd_world.specs.Addressed.{Planner}
use Rattle.kd_world.specs.Planner.{is_fresh}
use Rattle.kd_histories.specs.Turns.{Left, Turn, left, started, removed, did, idle}

-- a desk, and which of the slot's buses it is of
pub record Slot : Type 0 where
  pub generation : ℕ
  pub desk : Desk

-- a slot that never had a bus
abbrev pub unborn : Slot
unborn = record { generation = 0; desk = opening_desk 0 8 1 }

-- the generation rises when a bus comes and when it goes: there is one while it is odd
abbrev pub has_bus : ℕ → Bool
has_bus generation = generation % 2 == 1

-- the generation of the next bus, the least odd one above this
abbrev pub next_odd : ℕ → ℕ
next_odd generation = generation + 1 + generation % 2

-- ---- what a command comes to

-- there is a bus, and it is the one at which the pass was aimed, if it was
abbrev pub finds_bus : ℕ → Option ℕ → Bool
finds_bus generation None = has_bus generation
finds_bus generation (Some aim) = has_bus generation && aim == generation

-- whoever is nothing yet gives them to a bus
abbrev pub seeks_bus : Command → Bool
seeks_bus (cmd.Hello flags size send_mask receive_mask is) = true
seeks_bus (cmd.EndpointMake is) = true
seeks_bus _ = false

-- they are refused where their bus isn't there; the desk has all other refusals
unfoldable pub planned : ℕ → Option ℕ → Planner
planned generation aim d w x =
    elim (is_fresh w.member && (seeks_bus x && not (finds_bus generation aim))) [
      | true ↦ Err (NoSuchBus generation)
      | false ↦ plan d w x
    ]

-- the parts of a command that left
abbrev pub parts_left : Slot → Left → List Part
parts_left s l = parts_in (planned s.generation l.aim s.desk l.who l.command)

-- and how it ended
unfoldable pub left_end : Slot → Left → Ended
left_end s l = ended_by s.desk l.who (planned s.generation l.aim s.desk l.who l.command) l.outs

-- ---- a new bus

-- the seats that wait for their callers once all connections of a desk are closed
abbrev pub seats_behind : Desk → List ℕ
seats_behind d = seat_set (d.blocked ++ map (λ (c : Conn). c.seat) d.conns)

-- the desk of a new bus, behind another: the seats of its callers wait for them
unfoldable pub desk_behind : Desk → ℕ → ℕ → ℕ → Desk
desk_behind d creator size hashes =
    record (opening_desk creator size hashes) { blocked = seats_behind d }

-- ---- along the list

-- a slot after one turn; what a removed bus leaves is an empty desk of its user
unfoldable pub slot_after : Turn → Slot → Slot
slot_after (left l) s = record s { desk = (left_end s l).next }
slot_after (started b) s =
    record {
      generation = next_odd s.generation;
      desk = desk_behind s.desk b.creator b.size b.hashes;
    }
slot_after (removed generation) s =
    record {
      generation = s.generation + 1;
      desk = desk_behind s.desk s.desk.creator s.desk.rules.size s.desk.hashes;
    }
slot_after (did d) s = s
slot_after idle s = s

-- and along a list
unfoldable pub slot_from : Slot → List (ℕ × Turn) → Slot
slot_from s [] = s
slot_from s (x ∷ xs) = slot_from (slot_after x.1 s) xs

-- what stands behind lock 0 for its list
abbrev pub slot_of : List (ℕ × Turn) → Slot
slot_of list = slot_from unborn list

-- ---- what is true of an entry of the desk

-- the part that is still to be visited; none where the first one ended all
abbrev pub part_behind : List Part → List Answer → Option Part
part_behind ps outs = elim (first_ends ps outs) [ Some why ↦ None | None ↦ next_part [] ps outs ]

-- a command left the desk with what its step gives, when all was visited
pub record IsLeft (s : Slot) (l : Left) : Type 0 where
  pub generation : l.generation ≡ s.generation
  pub aim : seeks_bus l.command ≡ false → l.aim ≡ None
  pub all : part_behind (parts_left s l) l.outs ≡ None
  pub reply : l.reply ≡ (left_end s l).reply
  pub becomes : l.becomes ≡ (left_end s l).becomes

-- a bus begins with the next generation, and one that is there is removed
unfoldable pub IsTold : Slot → Turn → Type 0
IsTold s (left l) = IsLeft s l
IsTold s (started b) = b.generation ≡ next_odd s.generation
IsTold s (removed generation) = (generation ≡ s.generation) × (has_bus s.generation ≡ true)
IsTold s (did d) = Unit {0}
IsTold s idle = Unit {0}

-- each entry is true where it stands
unfoldable pub AreTold : Slot → List (ℕ × Turn) → Type 0
AreTold s [] = Unit {0}
AreTold s (x ∷ xs) = IsTold s x.1 × AreTold (slot_after x.1 s) xs
