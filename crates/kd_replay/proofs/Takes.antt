-- What a take of the desk comes to.
use Rattle.std.proofs.Common.{◌≡◌, ℕ, true, false, eq-eqb, [], ◌∷◌, Option, Some, None, Result, Ok, Err, refl, sym, ap, ◌∙◌}
use Rattle.std.specs.Prelude.{◌==◌}
use Rattle.kd_types.specs.declared.refusal.Refusal.{Refusal}
use Rattle.kd_wire.specs.declared.command.Command.{Command}
use Rattle.kd_wire.specs.declared.reply.Reply.TheVariants as reply
use Rattle.kd_wire.specs.WellFormed.{is_well_formed}
use Rattle.kd_commands.specs.Plans.{Plan}
use Rattle.kd_core.specs.declared.event.Answer.TheVariants as answer
use Rattle.kd_world.specs.State.{World, Holder, caller_at}
use Rattle.kd_world.specs.Planner.{planned}
use Rattle.kd_world.specs.Holding.{holds_desk}
use Rattle.kd_world.specs.Legal.{take, is_caller, is_for_desk, legal}
use Rattle.kd_world.specs.Step.{holder_by, holder_after, step}
use Rattle.kd_world.specs.Answers.{taken_answer, says}
use Rattle.kd_world.specs.Whole.{Whole, alone, left_and_published, visits_run, whole}
use Rattle.kd_core.specs.Running.{said}
use Rattle.kd_replay.specs.Turns.{IsReady, reply_of}
use Rattle.kd_replay.specs.Events.{events_at_desk, events_held}
use Rattle.kd_replay.specs.Answering.{reply_with}
use Rattle.kd_replay.proofs.Replies.{take_replied}
use Rattle.kd_replay.proofs.Holding.{callers_stay}

abbrev pub plan_of : World → ℕ → Command → Result Plan Refusal
plan_of w n x = planned w.desk (caller_at w n).who x

-- the take was refused
pub record IsTurnedAway (w : World) (n : ℕ) (x : Command) (why : Refusal) : Type 0 where
  pub next : (whole w n x).next ≡ step w (take n x)
  pub reply : reply_of (whole w n x).answer ≡ reply.Refused why
  pub ready : IsReady (step w (take n x))

-- the caller has the desk
pub record IsIn (w : World) (n : ℕ) (x : Command) : Type 0 where
  pub holds : holds_desk (step w (take n x)) n ≡ true
  pub turn : whole w n x ≡ left_and_published (visits_run (step w (take n x)) n) n
  pub events : events_at_desk w n x ≡ take n x ∷ events_held (step w (take n x)) n

pub answer_of : (w : World) (n : ℕ) (x : Command) (r : Result Plan Refusal) → r ≡ plan_of w n x → said (take n x) (says w (take n x)) ≡ said (take n x) (taken_answer r)
unfolding says
answer_of w n x r e = rw e refl

pub holder_of : (w : World) (n : ℕ) (x : Command) (r : Result Plan Refusal) → r ≡ plan_of w n x → (step w (take n x)).holder ≡ holder_by n (caller_at w n).who x r
unfolding holder_after
holder_of w n x r e = rw e refl

turned_away_by : (w : World) (n : ℕ) (x : Command) (why : Refusal) → IsReady w → (step w (take n x)).holder ≡ None → said (take n x) (says w (take n x)) ≡ answer.Refused why → IsTurnedAway w n x why
unfolding whole reply_with
turned_away_by w n x why r none e =
    let turn : whole w n x ≡ alone w (take n x) = ap (λ (o : Option Holder). elim o [ None ↦ alone w (take n x) | Some h ↦ left_and_published (visits_run (step w (take n x)) n) n ]) none in
    record { next = ap (λ (t : Whole). t.next) turn; reply = ap (λ (t : Whole). reply_of t.answer) turn ∙ sym (take_replied n x (says w (take n x))) ∙ ap reply_with e; ready = record { free = none; callers = callers_stay w (take n x) ∙ r.callers } }

turned_by : (w : World) (n : ℕ) (x : Command) (why : Refusal) (r : Result Plan Refusal) → r ≡ plan_of w n x → IsReady w → said (take n x) (says w (take n x)) ≡ answer.Refused why → IsTurnedAway w n x why
turned_by w n x why (Err f) is r e = turned_away_by w n x why r (holder_of w n x (Err f) is) e
turned_by w n x why (Ok p) is r e = let both : answer.Taken ≡ answer.Refused why = sym (answer_of w n x (Ok p) is) ∙ e in absurd cc

pub turned_away : (w : World) (n : ℕ) (x : Command) (why : Refusal) → IsReady w → said (take n x) (says w (take n x)) ≡ answer.Refused why → IsTurnedAway w n x why
turned_away w n x why r e = turned_by w n x why (plan_of w n x) refl r e

pub taken_events : (w : World) (n : ℕ) (x : Command) (o : Option Holder) → (step w (take n x)).holder ≡ o → events_at_desk w n x ≡ elim o [ None ↦ take n x ∷ [] | Some h ↦ take n x ∷ events_held (step w (take n x)) n ]
unfolding events_at_desk
taken_events w n x o e = ap (λ (o : Option Holder). elim o [ None ↦ take n x ∷ [] | Some h ↦ take n x ∷ events_held (step w (take n x)) n ]) e

in_by : (w : World) (n : ℕ) (x : Command) (r : Result Plan Refusal) → r ≡ plan_of w n x → ((why : Refusal) → said (take n x) (says w (take n x)) ≡ answer.Refused why → ⊥) → IsIn w n x
unfolding whole
in_by w n x (Err f) is never = absurd (never f (answer_of w n x (Err f) is))
in_by w n x (Ok p) is never =
    let h = holder_of w n x (Ok p) is in
    record {
      holds = ap (λ (o : Option Holder). elim o [ None ↦ false | Some h ↦ h.caller == n ]) h ∙ eq-eqb n n refl;
      turn = ap (λ (o : Option Holder). elim o [ None ↦ alone w (take n x) | Some h ↦ left_and_published (visits_run (step w (take n x)) n) n ]) h;
      events = taken_events w n x _ h;
    }

pub taken : (w : World) (n : ℕ) (x : Command) → ((why : Refusal) → said (take n x) (says w (take n x)) ≡ answer.Refused why → ⊥) → IsIn w n x
taken w n x never = in_by w n x (plan_of w n x) refl never

pub take_may : (w : World) (n : ℕ) (x : Command) → is_caller n ≡ true → IsReady w → is_for_desk x ≡ true → is_well_formed x ≡ true → legal w (take n x) ≡ true
unfolding legal
take_may w n x c r desk form = rw (c, r.free, desk, form) refl
