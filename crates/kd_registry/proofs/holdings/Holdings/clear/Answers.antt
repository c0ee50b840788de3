use Rattle.std.proofs.Common.{ap, subst, ◌∙◌, arith}
use Rattle.kd_registry.specs.Counts.{IsAt, IsGapFor, but, claim_count}
use Rattle.kd_registry.proofs.Finding.{none_in_gap, rows_remove}
use Rattle.kd_registry.proofs.Counting.{counted_cleared, none_less}
use Rattle.kd_registry.proofs.holdings.Holdings.clear.Goals as goal

pub returns-in-Ok : goal.returns-in-Ok
returns-in-Ok c chosen =
    let at = subst (λ z. IsAt z c.args.id c.in-Ok.place) c.deref.ensures.value c.in-Ok.ensures.found in
    ap (claim_count chosen) c.remove.ensures.items
    ∙ counted_cleared c.self.inside.rows.items c.self.invariant.0 c.args.id c.in-Ok.place at chosen
    ∙ ap (claim_count (but chosen c.args.id)) c.self.view_is

pub returns-in_default : goal.returns-in_default
returns-in_default c chosen =
    let gap = subst (λ z. IsGapFor z c.args.id c.in_default.field-0) (c.deref.ensures.value ∙ c.self.view_is) c.in_default.ensures.absent in
    none_less chosen c.args.self.now c.args.id (none_in_gap c.args.self.now c.args.id c.in_default.field-0 gap)

pub invariant_of-self : goal.invariant_of-self
invariant_of-self c =
    let at = subst (λ z. IsAt z c.args.id c.in-Ok.place) c.deref.ensures.value c.in-Ok.ensures.found in
    (rw c.remove.ensures.items (rows_remove c.self.inside.rows.items c.self.invariant.0 c.args.id c.in-Ok.place at), omega (arith, c.remove.ensures.capacity, c.self.invariant.1))
