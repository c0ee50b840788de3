-- What the holder of the desk does next, and how its command ends.
use Rattle.std.specs.Prelude.{ℕ, Bool, false, List, [], Option, Some, None, ◌==◌}
use Rattle.kd_commands.specs.Plans.{Part}
use Rattle.kd_commands.specs.Visits.{first_ends, next_part}
use Rattle.kd_commands.specs.Step.{Ended}
use Rattle.kd_world.specs.State.{Holder, World}
use Rattle.kd_world.specs.Planner.{parts_planned, desk_end}

abbrev pub parts_held : World → Holder → List Part
parts_held w h = parts_planned w.desk h.who h.command

-- the next part as its pool meets it; none where the first one ended all
unfoldable pub next_visit : World → Holder → Option Part
next_visit w h =
    elim (first_ends (parts_held w h) h.outs) [
      | Some r ↦ None
      | None ↦ next_part [] (parts_held w h) h.outs
    ]

abbrev pub command_end : World → Holder → Ended
command_end w h = desk_end w.desk h.who h.command h.outs

abbrev pub holds_desk : World → ℕ → Bool
holds_desk w n = elim w.holder [ None ↦ false | Some h ↦ h.caller == n ]
