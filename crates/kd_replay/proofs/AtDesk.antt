-- What is heard of a command at the desk, and of a frame.
use Rattle.std.proofs.Common.{◌≡◌, ℕ, zero, suc, inl, inr, List, [], ◌∷◌, ◌++◌, Option, Some, None, Result, Ok, Err, refl, sym, ap, subst, ◌∙◌}
use Rattle.kd_model.proofs.Truth.{option_cases}
use Rattle.std.specs.Prelude.{IfOk, OnOk}
use Rattle.kd_wire.specs.declared.command.Command.{Command}
use Rattle.kd_wire.specs.declared.reply.Reply.{Reply}
use Rattle.kd_world.specs.State.{World}
use Rattle.kd_world.specs.Legal.{Event, take, visit, leave}
use Rattle.kd_world.specs.Step.{step}
use Rattle.kd_world.specs.Runs.{world_after}
use Rattle.kd_world.specs.Whole.{next_seat, part_count, pending_count, visits, visits_run}
use Rattle.kd_replay.specs.Turns.{IsReady, Turn, turn}
use Rattle.kd_replay.specs.Events.{events_at_desk, events_held, events_of, publishes_of, visits_of}
use Rattle.kd_replay.specs.Frames.{IsRead}
use Rattle.kd_replay.specs.Transcript.{IsFrameRun}
use Rattle.kd_replay.specs.Hearing.{Heard, Hears, heard_along}
use Rattle.kd_replay.proofs.Along.{more_heard}
use Rattle.kd_replay.proofs.Legal.{command_run}

visits_reach : (k n : ℕ) (w : World) → visits k n w ≡ world_after w (visits_of k n w)
unfolding visits visits_of world_after
visits_reach zero n w = refl
visits_reach (suc k) n w =
    elim (option_cases (next_seat w)) [
      | inl e ↦
          let opened : visits (suc k) n w ≡ w = ap (λ (o : Option ℕ). elim o [ None ↦ w | Some t ↦ visits k n (step w (visit n t)) ]) e in
          let none : visits_of (suc k) n w ≡ [] = ap (λ (o : Option ℕ). elim o [ None ↦ [] | Some t ↦ visit n t ∷ visits_of k n (step w (visit n t)) ]) e in
          opened ∙ ap (world_after w) (sym none)
      | inr some ↦
          let e : Event = visit n some.0 in
          let opened : visits (suc k) n w ≡ visits k n (step w e) = ap (λ (o : Option ℕ). elim o [ None ↦ w | Some t ↦ visits k n (step w (visit n t)) ]) some.1 in
          let events : visits_of (suc k) n w ≡ e ∷ visits_of k n (step w e) = ap (λ (o : Option ℕ). elim o [ None ↦ [] | Some t ↦ visit n t ∷ visits_of k n (step w (visit n t)) ]) some.1 in
          opened ∙ visits_reach k n (step w e) ∙ ap (world_after w) (sym events)
    ]

-- the take, the visits, the leave and the publishes were heard one after the other, each in its world
pub desk_heard : (a b c d e : List Heard → Type 0) (w held seen gone : World) (n : ℕ) (x : Command) → events_at_desk w n x ≡ take n x ∷ events_held (step w (take n x)) n
    → held ≡ step w (take n x) → seen ≡ visits_run held n → gone ≡ step seen (leave n)
    → Hears a b (heard_along w (take n x ∷ [])) → Hears b c (heard_along held (visits_of (part_count held) n held)) → Hears c d (heard_along seen (leave n ∷ []))
    → Hears d e (heard_along gone (publishes_of (pending_count gone n) n gone)) → Hears a e (heard_along w (events_at_desk w n x))
unfolding world_after
desk_heard a b c d e w held seen gone n x all take_is seen_is gone_is taking visiting leaving publishing =
    let vs : List Event = visits_of (part_count held) n held in
    let ps : List Event = publishes_of (pending_count gone n) n gone in
    let behind : Hears c e (heard_along seen (leave n ∷ ps)) = more_heard c d e seen gone (leave n ∷ []) ps gone_is leaving publishing in
    let held_run : Hears b e (heard_along held (vs ++ leave n ∷ ps)) = more_heard b c e held seen vs (leave n ∷ ps) (seen_is ∙ visits_reach (part_count held) n held) visiting behind in
    let whole : Hears a e (heard_along w (take n x ∷ (vs ++ leave n ∷ ps))) = more_heard a b e w held (take n x ∷ []) (vs ++ leave n ∷ ps) take_is taking held_run in
    let its : vs ++ leave n ∷ ps ≡ events_held held n =
    ap (λ (v : World). vs ++ leave n ∷ publishes_of (pending_count v n) n v) (gone_is ∙ ap (λ (v : World). step v (leave n)) seen_is) in
    let is : take n x ∷ (vs ++ leave n ∷ ps) ≡ events_at_desk w n x =
    ap (λ (l : List Event). take n x ∷ l) (its ∙ ap (λ (v : World). events_held v n) take_is) ∙ sym all in
    subst (λ (l : List Event). Hears a e (heard_along w l)) is whole

-- a frame that was run, by what its command came to
pub frame_heard : {E : Type 0} (r : Result Reply E) (w now : World) (frame : List ℕ) (n : ℕ) (x : Command) (before after : List Heard → Type 0) → IsReady w → IsRead frame n x
    → OnOk r (now ≡ (turn w n x).next) → IfOk r (λ y. y ≡ (turn w n x).reply) → OnOk r (Hears before after (heard_along w (events_of w n x)))
    → IfOk r (λ y. (es : List Event) × IsFrameRun w frame es (record { next = now; reply = y }) × Hears before after (heard_along w es))
frame_heard (Ok y) w now frame n x before after ready read next reply told =
    let t : Turn = record { next = now; reply = y } in
    let is : t ≡ turn w n x = ap (λ (v : World). record { next = v; reply = y }) next ∙ ap (λ (q : Reply). record { next = (turn w n x).next; reply = q }) reply in
    (events_of w n x, command_run w frame t n x ready read is, told)
frame_heard (Err e) w now frame n x before after ready read next reply told = tt
