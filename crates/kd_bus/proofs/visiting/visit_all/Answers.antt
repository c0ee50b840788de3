use Rattle.std.proofs.Common.{◌≡◌, ℕ, ◌+◌, ◌<◌, length, List, [], ◌∷◌, ◌++◌, None, get_or, drop, sym, ap, subst, ◌∙◌, arith, refl}
use Rattle.std.specs.Prelude.{Option, Some, is_some, false}
use Rattle.kd_types.specs.declared.refusal.Refusal.{Refusal}
use Rattle.kd_hands.specs.Views.{part}
use Rattle.kd_tables.specs.declared.part.Part as code
use Rattle.kd_tables.specs.Drafts.{content_at, part_with, parts_with, seat_in}
use Rattle.kd_tables.specs.Outs.{why_ended}
use Rattle.kd_acts.specs.State.{raise}
use Rattle.kd_holds.specs.Handing.{IsDrainedBy, IsMadeFor, answer_told, answers_told, visit_met}
use Rattle.kd_holds.proofs.Telling.{ends_alike}
use Rattle.kd_histories.specs.Seats.{sitter}
use Rattle.kd_bus.specs.Visited.{HasVisit}
use Rattle.kd_bus.proofs.Going.{Going, all_done, begins, ended_all, free_next, goes_on, made_next, one_alone, turns_so}
use Rattle.kd_bus.proofs.visiting.visit_all.Goals as goal

none_is : (o : Option Refusal) → is_some o ≡ false → o ≡ None
none_is None e = refl
none_is (Some why) e = absurd cc

pub visiting-init : goal.visiting-init
visiting-init g c = (
  begins c.args.gate.now c.args.pass.now c.args.plan.now c.args.made.now c.args.outs.now.items c.args.generations.now.items c.requires.desk c.requires.made c.requires.none c.requires.outs.0 c.requires.generations.0,
  c.requires.outs.1,
  c.requires.generations.1,
)

pub visit-answered-requires-clause-ready : goal.visit-answered-requires-clause-ready
visit-answered-requires-clause-ready g c =
    let x = c.index-parts-index.result in
    let i = c.visiting.index in
    let plan = c.args.plan.now in
    let long = ap (λ (xs : List code.Part). length xs) c.parts-index-end.ensures in
    let test = c.visiting-test.true in
    let lt : i < length plan.parts = omega (arith, long, test) in
    let here : get_or plan.parts i x ≡ x = sym (c.index-parts-index.is ∙ ap (λ ps. get_or ps i x) c.parts.ensures) in
    (drop (i + 1) plan.parts, subst (λ p. IsMadeFor c.visiting.made (p ∷ drop (i + 1) plan.parts)) here (made_next c.args.gate.now c.args.pass.now c.visiting.pass plan c.visiting.made c.visiting.outs.items c.visiting.generations.items i c.requires.made.hands c.visiting.invariant.0 x lt))

pub visit-answered-requires-clause-raised : goal.visit-answered-requires-clause-raised
visit-answered-requires-clause-raised g c =
    let x = c.index-parts-index.result in
    let i = c.visiting.index in
    let plan = c.args.plan.now in
    let long = ap (λ (xs : List code.Part). length xs) c.parts-index-end.ensures in
    let test = c.visiting-test.true in
    let lt : i < length plan.parts = omega (arith, long, test) in
    let here : get_or plan.parts i x ≡ x = sym (c.index-parts-index.is ∙ ap (λ ps. get_or ps i x) c.parts.ensures) in
    subst (λ p. (size : ℕ) → (part_with (content_at i plan.contents) p).act ≡ raise size → sitter (seat_in p) (part c.visiting.pass.view 0).seen ≡ None) here
    (free_next c.args.gate.now c.args.pass.now c.visiting.pass plan c.visiting.made c.visiting.outs.items c.visiting.generations.items i c.requires.made.hands c.visiting.invariant.0 x lt c.requires.raised)

pub visit-answered-requires-clause-turns : goal.visit-answered-requires-clause-turns
visit-answered-requires-clause-turns g c =
    let i = c.visiting.index in
    let plan = c.args.plan.now in
    let long = ap (λ (xs : List code.Part). length xs) c.parts-index-end.ensures in
    let test = c.visiting-test.true in
    let turns = turns_so c.args.gate.now c.args.pass.now c.visiting.pass plan c.visiting.made c.visiting.outs.items c.visiting.generations.items i c.visiting.invariant.0 in
    let low = c.requires.turns in
    omega (arith, long, test, turns, low)

pub returns-then-is_some-clause-all : goal.returns-then-is_some-clause-all
returns-then-is_some-clause-all g c =
    let plan = c.args.plan.now in
    ended_all (parts_with plan.contents plan.parts) (answers_told plan.parts c.visiting.outs.items c.visiting.made.drained)
    (ap is_some (ends_alike plan.contents plan.parts c.visiting.outs.items c.visiting.made.drained ∙ (ap (λ xs. why_ended plan xs) (sym c.deref.ensures.value) ∙ sym c.refusal.ensures)) ∙ (sym c.is_some.ensures ∙ c.if-is_some.true))

pub visiting-preserved : goal.visiting-preserved
visiting-preserved g c =
    let x = c.index-parts-index.result in
    let i = c.visiting.index in
    let plan = c.args.plan.now in
    let long = ap (λ (xs : List code.Part). length xs) c.parts-index-end.ensures in
    let test = c.visiting-test.true in
    let lt : i < length plan.parts = omega (arith, long, test) in
    let here : get_or plan.parts i x ≡ x = sym (c.index-parts-index.is ∙ ap (λ ps. get_or ps i x) c.parts.ensures) in
    let p : code.Part = get_or plan.parts i x in
    let out = c.visit-answered.result.out in
    let gen = c.visit-answered.result.generation in
    let made' = c.visit-answered.new.made in
    let now' = c.visit-answered.new.pass in
    let quiet : why_ended plan c.visiting.outs.items ≡ None = ap (λ xs. why_ended plan xs) (sym c.deref.ensures.value) ∙ (sym c.refusal.ensures ∙ none_is c.refusal.result (sym c.is_some.ensures ∙ c.if-is_some.false)) in
    let visits : HasVisit (seat_in p) (visit_met (content_at i plan.contents) p made'.drained) (answer_told p out made'.drained) gen c.visiting.pass.view now'.view =
    subst (λ p. HasVisit (seat_in p) (visit_met (content_at i plan.contents) p made'.drained) (answer_told p out made'.drained) gen c.visiting.pass.view now'.view) (sym here) c.visit-answered.ensures.visit in
    let drained : IsDrainedBy p out c.visiting.made.drained made'.drained = subst (λ p. IsDrainedBy p out c.visiting.made.drained made'.drained) (sym here) c.visit-answered.ensures.drained in
    let made = c.visit-answered.ensures.made (drop (i + 1) plan.parts) (subst (λ p. IsMadeFor c.visiting.made (p ∷ drop (i + 1) plan.parts)) here (made_next c.args.gate.now c.args.pass.now c.visiting.pass plan c.visiting.made c.visiting.outs.items c.visiting.generations.items i c.requires.made.hands c.visiting.invariant.0 x lt)) in
    let room = c.visiting.invariant.1 in
    let room₂ = c.visiting.invariant.2 in
    let keeps = c.push_reserved.ensures.capacity in
    let keeps₂ = c.push_reserved-in-visiting.ensures.capacity in (
      subst (λ os. Going c.args.gate.now c.args.pass.now now' plan made' os c.push_reserved-in-visiting.new.self.items (i + 1)) (sym c.push_reserved.ensures.items)
          (subst (λ gs. Going c.args.gate.now c.args.pass.now now' plan made' (c.visiting.outs.items ++ out ∷ []) gs (i + 1)) (sym c.push_reserved-in-visiting.ensures.items)
          (goes_on c.args.gate.now c.args.pass.now c.visiting.pass plan c.visiting.made c.visiting.outs.items c.visiting.generations.items i c.requires.made.hands c.visiting.invariant.0 x lt out gen made' now' drained visits quiet c.visit-answered.ensures.desk made)),
      omega (arith, room, keeps),
      omega (arith, room₂, keeps₂),
    )

pub returns-then-is_some-clause-first : goal.returns-then-is_some-clause-first
returns-then-is_some-clause-first g c = λ ne.
    let going = c.visiting.invariant.0 in
    let n = going.count in
    let few = one_alone c.visiting.index (why_ended c.args.plan.now c.visiting.outs.items) going.first ne in
    omega (arith, n, few)

pub returns-clause-first : goal.returns-clause-first
returns-clause-first g c = λ ne.
    let going = c.visiting.invariant.0 in
    let n = going.count in
    let few = one_alone c.visiting.index (why_ended c.args.plan.now c.visiting.outs.items) going.first ne in
    omega (arith, n, few)

pub returns-clause-all : goal.returns-clause-all
returns-clause-all g c =
    let going = c.visiting.invariant.0 in
    let long = ap (λ (xs : List code.Part). length xs) c.parts-index-end.ensures in
    let test = c.visiting-test.false in
    let within = going.within in
    let done : c.visiting.index ≡ length c.args.plan.now.parts = omega (arith, long, test, within) in
    all_done c.args.gate.now c.args.pass.now c.visiting.pass c.args.plan.now c.visiting.made c.visiting.outs.items c.visiting.generations.items c.visiting.index c.requires.made.hands going done
