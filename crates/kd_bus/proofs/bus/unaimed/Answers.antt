use Rattle.std.proofs.Common.{ap, sym, ◌∙◌, [], ◌∷◌, ◌++◌}
use Rattle.kd_bus.specs.Sight.{unaimed}
use Rattle.kd_bus.proofs.Opening.{others_rest, unaimed_more}
use Rattle.kd_bus.proofs.bus.unaimed.Goals as goal

pub passes-preserved : goal.passes-preserved
passes-preserved c =
    let p = c.in-Some.pass in (
      c.in_ok-push.ensures.items ∙ (ap (λ xs. xs ++ unaimed p ∷ []) c.passes.invariant.0 ∙ sym (unaimed_more c.passes.yielded p)),
      others_rest p c.next.new.self.rest.items c.passes.pass-iterator.rest.items c.in-Some.ensures.steps.0 c.passes.invariant.1,
    )
