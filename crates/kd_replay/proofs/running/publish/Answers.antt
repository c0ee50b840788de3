use Rattle.std.proofs.Common.{◌≡◌, true, List, [], ◌∷◌, ◌++◌, ◌∙◌, sym, ap, subst, arith}
use Rattle.kd_world.specs.State.{World}
use Rattle.kd_world.specs.Legal.{Event, legal, publishes}
use Rattle.kd_world.specs.Step.{step}
use Rattle.kd_world.specs.Whole.{pending_count}
use Rattle.kd_replay.specs.Hearing.{Hears, IsTypedEvent, heard_along}
use Rattle.kd_replay.proofs.Along.{more_heard, none_heard}
use Rattle.kd_replay.proofs.Publishes.{Publishing, publishing_first, publishing_more, publishing_ends, published_all, publish_may, one_fewer}
use Rattle.kd_replay.proofs.running.publish.Goals as goal

pub pendings-init : goal.pendings-init
pendings-init g c = ([], publishing_first c.args.world.now.world c.args.caller c.requires.ready, none_heard c.args.world.now.world _)

pub advance-requires-clause-may : goal.advance-requires-clause-may
advance-requires-clause-may g c =
    subst (λ (e : Event). legal c.pendings.world.world e ≡ true) (sym c.publishing.ensures)
    (publish_may c.pendings.world.world c.args.caller c.in-Some.place.0 c.in-Some.place.1 c.requires.caller c.pendings.invariant.1.ready (sym c.next_publish.ensures ∙ c.in-Some.is))

pub advance-requires-clause-typed : goal.advance-requires-clause-typed
advance-requires-clause-typed g c = subst IsTypedEvent (sym c.publishing.ensures) tt

pub pendings-preserved : goal.pendings-preserved
pendings-preserved g c =
    let i = c.pendings.invariant in
    let now : World = c.pendings.world.world in
    let e : Event = publishes c.args.caller c.in-Some.place.0 c.in-Some.place.1 in
    let heard : Hears (g.W.Witness.has_heard c.pendings.witness) (g.W.Witness.has_heard c.advance.new.witness) (heard_along now (e ∷ [])) =
    subst (λ (x : Event). Hears (g.W.Witness.has_heard c.pendings.witness) (g.W.Witness.has_heard c.advance.new.witness) (heard_along now (x ∷ []))) c.publishing.ensures c.in_ok-advance.ensures.told in (
      i.0 ++ e ∷ [],
      subst (λ (w : World). Publishing c.args.world.now.world w c.args.caller (i.0 ++ e ∷ [])) (sym (c.in_ok-advance.ensures.next ∙ ap (step now) c.publishing.ensures))
          (publishing_more c.args.world.now.world now c.args.caller c.in-Some.place.0 c.in-Some.place.1 i.0 i.1 c.requires.caller (sym c.next_publish.ensures ∙ c.in-Some.is)),
      more_heard (g.W.Witness.has_heard c.args.witness.now) (g.W.Witness.has_heard c.pendings.witness) (g.W.Witness.has_heard c.advance.new.witness) c.args.world.now.world now i.0 (e ∷ []) i.1.reached i.2 heard,
    )

pub pendings-smaller : goal.pendings-smaller
pendings-smaller g c =
    let next = c.in_ok-advance.ensures.next ∙ ap (step c.pendings.world.world) c.publishing.ensures in
    omega (arith, ap (λ (w : World). pending_count w c.args.caller) next, one_fewer c.pendings.world.world c.args.caller c.in-Some.place.0 c.in-Some.place.1 c.requires.caller c.pendings.invariant.1.ready (sym c.next_publish.ensures ∙ c.in-Some.is))

pub returns-clause-next : goal.returns-clause-next
returns-clause-next g c = publishing_ends c.args.world.now.world c.pendings.world.world c.args.caller c.pendings.invariant.0 c.pendings.invariant.1 (sym c.next_publish.ensures ∙ c.in_default.is)

pub returns-clause-told : goal.returns-clause-told
returns-clause-told g c =
    let all = published_all c.args.world.now.world c.pendings.world.world c.args.caller c.pendings.invariant.0 c.pendings.invariant.1 (sym c.next_publish.ensures ∙ c.in_default.is) in
    subst (λ (es : List Event). Hears (g.W.Witness.has_heard c.args.witness.now) (g.W.Witness.has_heard c.pendings.witness) (heard_along c.args.world.now.world es)) all c.pendings.invariant.2
