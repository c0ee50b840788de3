-- What an event answers.
use Rattle.std.specs.Prelude.{ℕ, List, [], ◌∷◌, Option, Some, None, Result, Ok, Err}
use Rattle.kd_types.specs.declared.refusal.Refusal.{Refusal}
use Rattle.kd_types.specs.declared.refusal.Refusal.TheVariants.{NoSuchSlice, NotReceived, WrongState}
use Rattle.kd_wire.specs.declared.reply.Reply.{Reply}
use Rattle.kd_acts.specs.State.{Answer, done, refused, drained, freed}
use Rattle.kd_commands.specs.Plans.{Plan}
use Rattle.kd_world.specs.declared.told.Told.{Told}
use Rattle.kd_world.specs.declared.told.Told.TheVariants.{Peeked, Handed}
use Rattle.kd_world.specs.State.{World, caller_at}
use Rattle.kd_world.specs.Planner.{planned}
use Rattle.kd_world.specs.Holding.{command_end}
use Rattle.kd_world.specs.Own.{pool_seat, hand_entry}
use Rattle.kd_world.specs.Legal.{Event, take, visit, leave, publishes, receives, reads, frees}
use Rattle.kd_world.specs.Pools.{pool_answer}
use Rattle.kd_world.specs.Step.{step}

-- the desk's answer, or a pool's
pub data Says : Type 0 where
  taken : Says
  turned_away : (why : Refusal) → Says
  left : (reply : Reply) → Says
  pool_says : (answer : Answer) → Says

-- a drain that isn't refused tells no images
abbrev pub told_answer : Answer → Answer
told_answer (drained is) = done
told_answer a = a

abbrev pub when_seated : Option ℕ → Answer → Answer
when_seated None a = refused WrongState
when_seated (Some s) a = a

abbrev pub freed_answer : Option Told → Answer
freed_answer None = refused NoSuchSlice
freed_answer (Some Peeked) = refused NotReceived
freed_answer (Some Handed) = freed

abbrev pub taken_answer : Result Plan Refusal → Says
taken_answer (Err r) = turned_away r
taken_answer (Ok p) = taken

unfoldable pub says : World → Event → Says
says w (take n x) = taken_answer (planned w.desk (caller_at w n).who x)
says w (visit n seat) = pool_says (told_answer (pool_answer w (visit n seat)))
says w (leave n) = elim w.holder [ None ↦ taken | Some h ↦ left (command_end w h).reply ]
says w (publishes n seat number) = pool_says (pool_answer w (publishes n seat number))
says w (receives n mode) =
    pool_says (when_seated (pool_seat (caller_at w n)) (pool_answer w (receives n mode)))
says w (reads n number sealed) =
    pool_says (when_seated (pool_seat (caller_at w n)) (pool_answer w (reads n number sealed)))
says w (frees n number) =
    pool_says
    (when_seated (pool_seat (caller_at w n)) (freed_answer (hand_entry (caller_at w n) number)))

-- the answers to events one after the other
unfoldable pub run_says : World → List Event → List Says
run_says w [] = []
run_says w (e ∷ es) = says w e ∷ run_says (step w e) es
