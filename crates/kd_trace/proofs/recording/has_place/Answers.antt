use Rattle.std.proofs.Common.{inl, inr, sym, subst}
use Rattle.kd_core.specs.declared.event.Event.{Event}
use Rattle.kd_core.specs.Running.{event_of}
use Rattle.kd_trace.specs.Recorded.{HasPlace}
use Rattle.kd_trace.proofs.recording.has_place.Goals as goal

pub returns-in-Visit : goal.returns-in-Visit
returns-in-Visit c = λ is. subst (λ (e : Event). HasPlace (event_of e)) (sym c.in-Visit.is) (c.is_seat.ensures is)

pub returns-in-Read : goal.returns-in-Read
returns-in-Read c = λ is. elim c.in-Read.is [
  | inl read ↦ subst (λ (e : Event). HasPlace (event_of e)) (sym read.2) (c.is_number-in-Read.ensures is)
  | inr free ↦ subst (λ (e : Event). HasPlace (event_of e)) (sym free.1) (c.is_number-in-Read.ensures is)
]
