use Rattle.std.proofs.Common.{sym, subst, ◌∙◌}
use Rattle.kd_registry.specs.Counts.{IsGapFor}
use Rattle.kd_registry.proofs.Finding.{none_in_gap}
use Rattle.kd_registry.proofs.Counting.{count_read, none_counted}
use Rattle.kd_registry.proofs.holdings.Holdings.of.Goals as goal

pub returns-in-Ok : goal.returns-in-Ok
returns-in-Ok c = count_read c.deref.result.now c.self.inside.rows.items c.args.self.now c.args.id c.in-Ok.place c.index.result.now c.deref.ensures.value c.self.view_is c.self.invariant.0 c.in-Ok.ensures.found c.index.ensures

pub returns-in-Err : goal.returns-in-Err
returns-in-Err c =
    let gap = subst (λ z. IsGapFor z c.args.id c.in-Err.field-0) (c.deref.ensures.value ∙ c.self.view_is) c.in-Err.ensures.absent in
    sym (none_counted c.args.self.now c.args.id (none_in_gap c.args.self.now c.args.id c.in-Err.field-0 gap))
