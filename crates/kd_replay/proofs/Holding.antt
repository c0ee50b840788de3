-- Who holds the desk before and after an event, and that the callers stay 64.
use Rattle.std.proofs.Common.{◌≡◌, ℕ, ◌-◌, Bool, length, Option, Some, None, refl, ◌∙◌}
use Rattle.std.proofs.lemmas.List.{length-set}
use Rattle.kd_acts.specs.declared.receive.RecvMode.{RecvMode}
use Rattle.kd_world.specs.State.{World, Holder, new_world}
use Rattle.kd_world.specs.Legal.{Event, take, visit, leave, publishes, receives, reads, frees}
use Rattle.kd_world.specs.Callers.{callers_after}
use Rattle.kd_world.specs.Step.{holder_after, step}
use Rattle.kd_replay.specs.Turns.{IsReady, replay_world}

left_callers : (w : World) (n : ℕ) (o : Option Holder) → o ≡ w.holder → length (callers_after w (leave n)) ≡ length w.callers
unfolding callers_after
left_callers w n None e = rw (← e) refl
left_callers w n (Some h) e = rw (← e) (length-set w.callers (n - 1) _)

-- no event makes or ends a caller
pub callers_stay : (w : World) (e : Event) → length (step w e).callers ≡ length w.callers
unfolding callers_after
callers_stay w (take n x) = refl
callers_stay w (visit n seat) = refl
callers_stay w (leave n) = left_callers w n w.holder refl
callers_stay w (publishes n seat number) = length-set w.callers (n - 1) _
callers_stay w (receives n mode) = length-set w.callers (n - 1) _
callers_stay w (reads n number sealed) = refl
callers_stay w (frees n number) = length-set w.callers (n - 1) _

pub opens_ready : IsReady replay_world
unfolding new_world
opens_ready = record { free = refl; callers = refl }

-- whoever leaves the desk leaves it free
pub free_behind_leave : (w : World) (n : ℕ) → length w.callers ≡ 64 → IsReady (step w (leave n))
unfolding holder_after
free_behind_leave w n len = record { free = refl; callers = callers_stay w (leave n) ∙ len }

pub ready_behind_publish : (w : World) (n seat number : ℕ) → IsReady w → IsReady (step w (publishes n seat number))
unfolding holder_after
ready_behind_publish w n seat number r = record { free = r.free; callers = callers_stay w (publishes n seat number) ∙ r.callers }

pub ready_behind_receive : (w : World) (n : ℕ) (mode : RecvMode) → IsReady w → IsReady (step w (receives n mode))
unfolding holder_after
ready_behind_receive w n mode r = record { free = r.free; callers = callers_stay w (receives n mode) ∙ r.callers }

pub ready_behind_read : (w : World) (n number : ℕ) (sealed : Bool) → IsReady w → IsReady (step w (reads n number sealed))
unfolding holder_after
ready_behind_read w n number sealed r = record { free = r.free; callers = callers_stay w (reads n number sealed) ∙ r.callers }

pub ready_behind_free : (w : World) (n number : ℕ) → IsReady w → IsReady (step w (frees n number))
unfolding holder_after
ready_behind_free w n number r = record { free = r.free; callers = callers_stay w (frees n number) ∙ r.callers }
