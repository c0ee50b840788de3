-- What holds of every world that legal events lead to: hands agree with pools, and slices keep
-- their place and their bytes until they are freed or let go.
use Rattle.std.specs.Prelude.{◌≡◌, ℕ, ◌==◌, ◌&&◌, Bool, true, false, not, Option, Some, None, IsTrue}
use Rattle.std.specs.List.{AllByRecursion}
use Rattle.kd_model.specs.Slices.{used}
use Rattle.kd_model.specs.Words.{AnyOf}
use Rattle.kd_acts.specs.declared.slot.Slot.{Slot}
use Rattle.kd_acts.specs.State.{Act, Answer, Hold, Pool, Slice, book_of, by_desk, is_freed, raise}
use Rattle.kd_acts.specs.Sound.{IsSoundPool}
use Rattle.kd_acts.specs.Lasting.{IsSame, Lasts, is_handed_in, is_open, lets_go}
use Rattle.kd_commands.specs.declared.who.WhoKind.TheVariants as who
use Rattle.kd_world.specs.declared.told.Told.{Told}
use Rattle.kd_world.specs.declared.told.Told.TheVariants.{Peeked, Handed}
use Rattle.kd_world.specs.State.{Caller, World, caller_at, pool_at}
use Rattle.kd_world.specs.Own.{hand_entry}
use Rattle.kd_world.specs.Legal.{Event, is_caller}
use Rattle.kd_world.specs.Pools.{Aimed, act_of, pool_answer}
use Rattle.kd_world.specs.Step.{step}
use Rattle.kd_world.specs.Runs.{IsReached}

-- ---- hands and pools

abbrev pub is_told_handed : Option Told → Bool
is_told_handed None = false
is_told_handed (Some Peeked) = false
is_told_handed (Some Handed) = true

-- the number is handed in the caller's hand
abbrev pub has_in_hand : Caller → ℕ → Bool
has_in_hand c n = is_told_handed (hand_entry c n)

-- while the pool of a connection is open, a number is handed in its hand exactly where that slice
-- is handed in that pool
abbrev pub HandsAgree : World → Type 0
HandsAgree w =
    (n id seat number : ℕ) → IsTrue (is_caller n) → (caller_at w n).who.member ≡ who.Conn id seat
    → IsTrue (is_open (pool_at w seat))
    → has_in_hand (caller_at w n) number ≡ is_handed_in number (pool_at w seat)

-- ---- slices keep their place and their bytes

abbrev pub IsSoundIfOpen : Option Pool → Type 0
IsSoundIfOpen None = Unit {0}
IsSoundIfOpen (Some p) = IsSoundPool p

-- an open pool is sound
abbrev pub IsSoundHold : Hold → Type 0
IsSoundHold h = IsSoundIfOpen h.pool

-- what its slices take
abbrev pub used_in : Hold → ℕ
used_in h = elim h.pool [ None ↦ 0 | Some p ↦ used (book_of p) ]

abbrev pub is_raise : Act → Bool
is_raise (by_desk (raise size)) = true
is_raise _ = false

-- an act at a seat
abbrev pub act_at_seat : ℕ → Option Aimed → Option Act
act_at_seat seat None = None
act_at_seat seat (Some a) = elim (a.seat == seat) [ true ↦ Some a.act | false ↦ None ]

-- the slices that an event lets go: all by a close of their pool, the waiting ones by a drain, one
-- by a receive that drops it; a raise lets none go
abbrev pub goes_by : Option Act → Answer → Slot → Bool
goes_by None a s = false
goes_by (Some act) a s = not (is_raise act) && lets_go act a s

-- what an event makes of a slice: only a publishing of its own number writes it
abbrev pub LastsBy : Option Act → Answer → Slice → Slice → Type 0
LastsBy None a = IsSame
LastsBy (Some act) a = Lasts act a

-- the slice stands in the pool as the act leaves it
abbrev pub StandsBy : Option Act → Answer → Slice → Option Pool → Type 0
StandsBy act a x None = ⊥
StandsBy act a x (Some q) = AnyOf (LastsBy act a x) q.slices

-- each slice of any pool that isn't freed, and isn't let go, stands after the event as it was; only
-- a publishing of its own number writes it
abbrev pub SlicesStay : World → Event → Type 0
SlicesStay w e =
    (seat : ℕ) (p : Pool) → (pool_at w seat).pool ≡ Some p
    → AllByRecursion
    (λ (x : Slice).
    is_freed x.slot ≡ false
    → goes_by (act_at_seat seat (act_of w e)) (pool_answer w e) x.slot ≡ false
    → StandsBy (act_at_seat seat (act_of w e)) (pool_answer w e) x
    (pool_at (step w e) seat).pool)
    p.slices

-- ---- the laws

abbrev pub HandsAlwaysAgree : Type 0
HandsAlwaysAgree = (w : World) → IsReached w → HandsAgree w

abbrev pub SlicesAlwaysStay : Type 0
SlicesAlwaysStay = (w : World) (e : Event) → IsReached w → SlicesStay w e
