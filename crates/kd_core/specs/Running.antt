-- Events and answers of the code, in the words of the definitions.
use Rattle.std.specs.Prelude.{ℕ, ◌+◌}
use Rattle.kd_acts.specs.State as pool
use Rattle.kd_tables.specs.declared.part.Out.{Out}
use Rattle.kd_tables.specs.declared.part.Out.TheVariants as out
use Rattle.kd_world.specs.State.{World}
use Rattle.kd_world.specs.Legal.{Event, take, visit, leave, publishes, receives, reads, frees}
use Rattle.kd_world.specs.Step.{step}
use Rattle.kd_world.specs.Answers.{Says, taken, turned_away, left, pool_says}
use Rattle.kd_core.specs.declared.event.Event as code
use Rattle.kd_core.specs.declared.event.Event.TheVariants as event
use Rattle.kd_core.specs.declared.event.Answer.{Answer}
use Rattle.kd_core.specs.declared.event.Answer.TheVariants as answer

-- a world, and how many events it has run
pub record Running : Type 0 where
  pub world : World
  pub steps : ℕ

abbrev pub event_of : code.Event → Event
event_of (event.Take n x) = take n x
event_of (event.Visit n seat) = visit n seat
event_of (event.Leave n) = leave n
event_of (event.Publish n seat number) = publishes n seat number
event_of (event.Receive n mode) = receives n mode
event_of (event.Read n number sealed) = reads n number sealed
event_of (event.Free n number) = frees n number

-- a pool's answer to a visit
abbrev pub out_of : pool.Answer → Out
out_of (pool.slice n) = out.Slice n
out_of (pool.refused why) = out.Refused why
out_of _ = out.Done

-- and to what its own caller does
abbrev pub told_by_pool : pool.Answer → Answer
told_by_pool pool.placed = answer.Published
told_by_pool pool.gone = answer.Gone
told_by_pool pool.freed = answer.Freed
told_by_pool (pool.refused why) = answer.Refused why
told_by_pool (pool.got n offset len dropped) =
    answer.Got (record { number = n; offset = offset; length = len; dropped = dropped })
told_by_pool (pool.bytes_of bytes) = answer.Bytes bytes
told_by_pool _ = answer.Taken

-- what the code answers to an event
abbrev pub said : Event → Says → Answer
said e taken = answer.Taken
said e (turned_away why) = answer.Refused why
said e (left reply) = answer.Left reply
said (visit n seat) (pool_says a) = answer.Visited (out_of a)
said e (pool_says a) = told_by_pool a

-- a world after an event
unfoldable pub stepped : Running → Event → Running
stepped r e = record { world = step r.world e; steps = r.steps + 1 }
