use Rattle.std.proofs.Common.{◌≡◌, ◌<◌, All, Any, map, ap, sym, subst, ◌∙◌}
use Rattle.kd_turn.specs.Sight.{GateSight, Sight}
use Rattle.kd_turn.specs.Told.{Ended}
use Rattle.kd_histories.specs.Turns.{Turn}
use Rattle.kd_histories.specs.Puts.{BusFact}
use Rattle.kd_bus.specs.Closing.{bare, joined}
use Rattle.kd_bus.specs.Sight.{BusSight}
use Rattle.kd_bus.specs.Values.{stands}
use Rattle.kd_bus.proofs.Closings.{gates, joined_same, named, views_same, whole}
use Rattle.kd_bus.proofs.bus.Bus.close.Goals as goal

pub close-requires-clause-gate : goal.close-requires-clause-gate
close-requires-clause-gate c =
    subst (λ (z : GateSight). All (λ (p : Sight Turn). p.gate ≡ z.id) c.bared-bares.result.0.items) (sym c.self.view_is)
    (subst (λ ys. All (λ (p : Sight Turn). p.gate ≡ c.args.self.id) ys) (sym c.bared-bares.ensures.passes) (gates c.args.self.id c.args.passes.items c.requires.gate))

pub close-requires-clause-all : goal.close-requires-clause-all
close-requires-clause-all c = λ j lt.
    subst (λ ys. Any (λ (p : Sight Turn). p.view.name ≡ j) ys) (sym c.bared-bares.ensures.passes)
    (named j c.args.passes.items (c.requires.all j (subst (λ (z : GateSight). j < z.passes) c.self.view_is lt)))

pub emptied-requires-clause-whole : goal.emptied-requires-clause-whole
emptied-requires-clause-whole c =
    let e = c.in-Ok-close.ensures.ended in
    whole e.world.told.lists c.in-Ok-close.values.items (c.in-Ok-close.ensures.count ∙ c.self.invariant) e.stood

pub returns-in-Ok-close-clause-ended : goal.returns-in-Ok-close-clause-ended
returns-in-Ok-close-clause-ended c =
    let xs = c.args.passes.items in
    let bares = c.bared-bares.result.0.items in
    let values = c.in-Ok-close.values.items in
    subst (λ vs. Ended stands BusFact c.args.self.passes (map (λ (p : BusSight). p.view) xs) vs) (sym c.emptied.ensures)
    (subst (λ ks. Ended stands BusFact c.args.self.passes ks values) (ap (map (λ (p : Sight Turn). p.view)) c.bared-bares.ensures.passes ∙ views_same xs)
    (subst (λ (z : GateSight). Ended stands BusFact z.passes (map (λ (p : Sight Turn). p.view) bares) values) c.self.view_is c.in-Ok-close.ensures.ended))

pub returns-in-Err-clause-untouched : goal.returns-in-Err-clause-untouched
returns-in-Err-clause-untouched c =
    let xs = c.args.passes.items in (
      c.in-Err.ensures.untouched.0 ∙ c.self.view_is,
      c.aimed.ensures
          ∙ (ap (λ ys. joined ys c.deref.result.now) (c.in-Err.ensures.untouched.1 ∙ c.bared-bares.ensures.passes)
          ∙ (ap (λ ys. joined (map bare xs) ys) (c.deref.ensures.value ∙ c.bared-bares.ensures.aims) ∙ joined_same xs)),
    )
