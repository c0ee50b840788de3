-- What the holder of the desk does next, by its plan.
use Rattle.std.proofs.Common.{◌≡◌, List, [], Option, Some, None, Result, length, drop, refl, ap, ◌∙◌}
use Rattle.std.specs.Prelude.{option_map}
use Rattle.kd_types.specs.declared.refusal.Refusal.{Refusal}
use Rattle.kd_tables.specs.Drafts.{drafted, parts_with, seat_in}
use Rattle.kd_acts.specs.State.{Answer, Image}
use Rattle.kd_commands.specs.Plans.{Plan, Part}
use Rattle.kd_commands.specs.Visits.{first_ends, met, next_part}
use Rattle.kd_commands.specs.Step.{parts_in}
use Rattle.kd_holds.specs.declared.holder.Holder as code
use Rattle.kd_holds.specs.Handing.{HandsOver, TellDrained, answers_told, images_of}
use Rattle.kd_holds.specs.Lists.{first_of}
use Rattle.kd_holds.specs.Ahead.{part_ahead}
use Rattle.kd_world.specs.State.{World}
use Rattle.kd_world.specs.Planner.{parts_planned}
use Rattle.kd_world.specs.Holding.{next_visit}
use Rattle.kd_core.specs.Held.{IsHeld, holder_of}
use Rattle.kd_holds.proofs.Ahead.{seat_ahead}
use Rattle.kd_holds.proofs.Telling.{ends_alike, next_told}

seat_met : (is : List Image) (o : Option Part) → option_map (λ (p : Part). p.seat) (option_map (met is) o) ≡ option_map (λ (p : Part). p.seat) o
seat_met is None = refl
seat_met is (Some p) = refl

abbrev told_by : code.Holder → List Answer
told_by h = answers_told h.plan.parts h.outs.items h.made.drained

seat_if : (h : code.Holder) (ends : Option Refusal) → HandsOver h.plan.parts → TellDrained h.plan.parts h.outs.items h.made.drained
    → option_map (λ (p : Part). p.seat) (elim ends [ Some r ↦ None | None ↦ next_part [] (parts_with h.plan.contents h.plan.parts) (told_by h) ])
    ≡ option_map seat_in (elim ends [ Some r ↦ None | None ↦ first_of (drop (length h.outs.items) h.plan.parts) ])
seat_if h (Some r) hands told = refl
seat_if h None hands told =
    ap (option_map (λ (p : Part). p.seat)) (next_told h.plan.contents h.plan.parts h.outs.items h.made.drained hands told)
    ∙ seat_met (images_of h.made.drained) (first_of (drop (length h.outs.items) (parts_with h.plan.contents h.plan.parts)))
    ∙ seat_ahead (length h.outs.items) h.plan.contents h.plan.parts

-- the seat that it visits next
pub seat_next :
    (w : World) (h : code.Holder) → IsHeld w.desk h
    → option_map (λ (p : Part). p.seat) (next_visit w (holder_of h)) ≡ option_map seat_in (part_ahead h.plan h.outs.items)
unfolding next_visit parts_planned drafted
seat_next w h held =
    let outs : List Answer = told_by h in
    ap (λ (r : Result Plan Refusal). option_map (λ (p : Part). p.seat) (elim (first_ends (parts_in r) outs) [ Some why ↦ None | None ↦ next_part [] (parts_in r) outs ])) held.plan
    ∙ seat_if h (first_ends (parts_with h.plan.contents h.plan.parts) outs) held.hands held.told
    ∙ ap (λ (o : Option Refusal). option_map seat_in (elim o [ Some r ↦ None | None ↦ first_of (drop (length h.outs.items) h.plan.parts) ])) (ends_alike h.plan.contents h.plan.parts h.outs.items h.made.drained)
