-- The world after an event.
use Rattle.std.specs.Prelude.{ℕ, [], ◌∷◌, ◌++◌, Option, Some, None, Result, Ok, Err, option_map}
use Rattle.kd_types.specs.declared.refusal.Refusal.{Refusal}
use Rattle.kd_wire.specs.declared.command.Command.{Command}
use Rattle.kd_commands.specs.declared.who.Who.{Who}
use Rattle.kd_commands.specs.State.{Desk}
use Rattle.kd_commands.specs.Plans.{Plan}
use Rattle.kd_world.specs.State.{Holder, World, caller_at}
use Rattle.kd_world.specs.Planner.{planned}
use Rattle.kd_world.specs.Holding.{command_end}
use Rattle.kd_world.specs.Legal.{Event, take, visit, leave}
use Rattle.kd_world.specs.Pools.{pool_answer, pools_after}
use Rattle.kd_world.specs.Callers.{callers_after}

unfoldable pub desk_after : World → Event → Desk
desk_after w (leave n) = elim w.holder [ None ↦ w.desk | Some h ↦ (command_end w h).next ]
desk_after w _ = w.desk

-- a refused command doesn't hold the desk
abbrev pub holder_by : ℕ → Who → Command → Result Plan Refusal → Option Holder
holder_by n w x (Err r) = None
holder_by n w x (Ok p) = Some (record { caller = n; who = w; command = x; outs = [] })

unfoldable pub holder_after : World → Event → Option Holder
holder_after w (take n x) = holder_by n (caller_at w n).who x (planned w.desk (caller_at w n).who x)
holder_after w (visit n seat) =
    option_map (λ (h : Holder). record h { outs = h.outs ++ pool_answer w (visit n seat) ∷ [] })
    w.holder
holder_after w (leave n) = None
holder_after w _ = w.holder

abbrev pub step : World → Event → World
step w e = record {
  desk = desk_after w e;
  holder = holder_after w e;
  pools = pools_after w e;
  callers = callers_after w e;
}
