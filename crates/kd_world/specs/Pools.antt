-- What an event does to a pool, and to which: nothing, or one act.
use Rattle.std.specs.Prelude.{ℕ, List, set, Option, Some, None, option_map}
use Rattle.kd_acts.specs.State.{Hold, Act, by_desk, Answer, publish, receive, read, free, done}
use Rattle.kd_acts.specs.Steps.{pool_step}
use Rattle.kd_commands.specs.Plans.{Part}
use Rattle.kd_world.specs.declared.told.Told.{Told}
use Rattle.kd_world.specs.declared.told.Told.TheVariants.{Peeked, Handed}
use Rattle.kd_world.specs.State.{Pending, World, caller_at, pool_at}
use Rattle.kd_world.specs.Holding.{next_visit}
use Rattle.kd_world.specs.Own.{pending_of, pool_seat, hand_entry}
use Rattle.kd_world.specs.Legal.{Event, take, visit, leave, publishes, receives, reads, frees}

-- an act and the seat of its pool
pub record Aimed : Type 0 where
  pub seat : ℕ
  pub act : Act

abbrev pub act_at : Option ℕ → Act → Option Aimed
act_at None a = None
act_at (Some s) a = Some (record { seat = s; act = a })

abbrev pub publish_of : Option Pending → Option Aimed
publish_of None = None
publish_of (Some p) = Some (record { seat = p.seat; act = publish p.generation p.number p.content })

-- by the hand alone
abbrev pub free_of : Option ℕ → ℕ → Option Told → Option Aimed
free_of s n None = None
free_of s n (Some Peeked) = None
free_of s n (Some Handed) = act_at s (free n)

abbrev pub aimed : Part → Aimed
aimed p = record { seat = p.seat; act = by_desk p.act }

unfoldable pub act_of : World → Event → Option Aimed
act_of w (take n x) = None
act_of w (visit n seat) = elim w.holder [ None ↦ None | Some h ↦ option_map aimed (next_visit w h) ]
act_of w (leave n) = None
act_of w (publishes n seat number) = publish_of (pending_of w n seat number)
act_of w (receives n mode) = act_at (pool_seat (caller_at w n)) (receive mode)
act_of w (reads n number sealed) = act_at (pool_seat (caller_at w n)) (read number sealed)
act_of w (frees n number) =
    free_of (pool_seat (caller_at w n)) number (hand_entry (caller_at w n) number)

-- the pool's answer to it
unfoldable pub pool_answer : World → Event → Answer
pool_answer w e =
    elim (act_of w e) [ None ↦ done | Some p ↦ (pool_step (pool_at w p.seat) p.act).1 ]

unfoldable pub pools_after : World → Event → List Hold
pools_after w e =
    elim (act_of w e) [
      | None ↦ w.pools
      | Some p ↦ set w.pools p.seat (pool_step (pool_at w p.seat) p.act).0
    ]
