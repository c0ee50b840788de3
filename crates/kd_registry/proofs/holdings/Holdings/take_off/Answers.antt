use Rattle.std.proofs.Common.{◌-◌, subst, ◌∙◌, arith}
use Rattle.kd_registry.specs.Counts.{IsAt, IsGapFor}
use Rattle.kd_registry.proofs.Finding.{none_in_gap, rows_remove, rows_set, some_count}
use Rattle.kd_registry.proofs.Counting.{none_counted}
use Rattle.kd_registry.proofs.holdings.Holdings.take_off.Goals as goal

-- a connection that has claims has a row
pub returns-in_default : goal.returns-in_default
returns-in_default c =
    let gap = subst (λ z. IsGapFor z c.args.id c.in_default.field-0) (c.deref.ensures.value ∙ c.self.view_is) c.in_default.ensures.absent in
    absurd (omega (arith, c.requires, none_counted c.args.self.now c.args.id (none_in_gap c.args.self.now c.args.id c.in_default.field-0 gap)))

pub invariant_of-self : goal.invariant_of-self
invariant_of-self c =
    let at = subst (λ z. IsAt z c.args.id c.in-Ok.place) c.deref.ensures.value c.in-Ok.ensures.found in
    (rw c.remove.ensures.items (rows_remove c.self.inside.rows.items c.self.invariant.0 c.args.id c.in-Ok.place at), omega (arith, c.remove.ensures.capacity, c.self.invariant.1))

pub invariant_of-self-else-count-eq1 : goal.invariant_of-self-else-count-eq1
invariant_of-self-else-count-eq1 c =
    let l = c.self.inside.rows.items in
    let at = subst (λ z. IsAt z c.args.id c.in-Ok.place) c.deref.ensures.value c.in-Ok.ensures.found in
    let some = some_count l c.self.invariant.0 c.args.id c.in-Ok.place at c.index.result.now c.index.ensures in
    (rows_set l c.self.invariant.0 c.args.id c.in-Ok.place at (c.index.result.now.count - 1) (omega (arith, some, c.if-count-eq1.false)), c.self.invariant.1)
