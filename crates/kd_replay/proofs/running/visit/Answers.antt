use Rattle.std.proofs.Common.{List, ◌∷◌, ◌++◌, [], ◌∙◌, sym, ap, subst, arith}
use Rattle.kd_world.specs.State.{World}
use Rattle.kd_world.specs.Legal.{Event, visit}
use Rattle.kd_replay.specs.Hearing.{Hears, heard_along}
use Rattle.kd_replay.proofs.Along.{more_heard, none_heard}
use Rattle.kd_replay.proofs.Visits.{Visiting, remaining, visiting_first, visiting_more, visiting_ends, visited_all, visited_one}
use Rattle.kd_replay.proofs.running.visit.Goals as goal

pub parts-init : goal.parts-init
parts-init g c = ([], visiting_first c.args.world.now.world c.args.caller c.requires.holds, none_heard c.args.world.now.world _)

pub advance-requires-clause-may : goal.advance-requires-clause-may
advance-requires-clause-may g c = (visited_one c.parts.world.world c.args.caller c.in-Some.seat (sym c.next_seat.ensures ∙ c.in-Some.is) c.parts.invariant.1.holds).may c.requires.caller

pub parts-preserved : goal.parts-preserved
parts-preserved g c =
    let i = c.parts.invariant in
    let e : Event = visit c.args.caller c.in-Some.seat in (
      i.0 ++ e ∷ [],
      subst (λ (w : World). Visiting c.args.world.now.world w c.args.caller (i.0 ++ e ∷ [])) (sym c.in_ok-advance.ensures.next)
          (visiting_more c.args.world.now.world c.parts.world.world c.args.caller c.in-Some.seat i.0 i.1 (sym c.next_seat.ensures ∙ c.in-Some.is)),
      more_heard (g.W.Witness.has_heard c.args.witness.now) (g.W.Witness.has_heard c.parts.witness) (g.W.Witness.has_heard c.advance.new.witness) c.args.world.now.world c.parts.world.world i.0 (e ∷ []) i.1.reached i.2 c.in_ok-advance.ensures.told,
    )

pub parts-smaller : goal.parts-smaller
parts-smaller g c =
    let v = visited_one c.parts.world.world c.args.caller c.in-Some.seat (sym c.next_seat.ensures ∙ c.in-Some.is) c.parts.invariant.1.holds in
    omega (arith, ap remaining c.in_ok-advance.ensures.next, v.fewer)

pub returns-clause-next : goal.returns-clause-next
returns-clause-next g c = visiting_ends c.args.world.now.world c.parts.world.world c.args.caller c.parts.invariant.0 c.parts.invariant.1 (sym c.next_seat.ensures ∙ c.in_default.is)

pub returns-clause-told : goal.returns-clause-told
returns-clause-told g c =
    let all = visited_all c.args.world.now.world c.parts.world.world c.args.caller c.parts.invariant.0 c.parts.invariant.1 (sym c.next_seat.ensures ∙ c.in_default.is) in
    subst (λ (es : List Event). Hears (g.W.Witness.has_heard c.args.witness.now) (g.W.Witness.has_heard c.parts.witness) (heard_along c.args.world.now.world es)) all c.parts.invariant.2
