use Rattle.std.proofs.Common.{◌+◌, ◌≡◌, ap, subst, arith, true}
use Rattle.std.specs.Prelude.{is_ok}
use Rattle.kd_registry.specs.Counts.{IsAt, IsGapFor, anyone, claim_count}
use Rattle.kd_registry.proofs.Finding.{rows_insert, rows_set}
use Rattle.kd_registry.proofs.Counting.{few_rows}
use Rattle.kd_registry.proofs.holdings.Holdings.add.Goals as goal

pub unwrap-requires : goal.unwrap-requires
unwrap-requires c = c.insert.ensures.succeeds (omega (arith, few_rows c.self.inside.rows.items c.self.invariant.0, ap (claim_count anyone) c.self.view_is, c.requires, c.self.invariant.1, c.self.inside.rows.ok.0))

pub invariant_of-self-in-Err : goal.invariant_of-self-in-Err
invariant_of-self-in-Err c =
    let ok : is_ok c.insert.result ≡ true = ap is_ok c.unwrap.ensures in
    let gap = subst (λ z. IsGapFor z c.args.id c.in-Err.place) c.deref.ensures.value c.in-Err.ensures.absent in
    (rw (c.insert.ensures.items, ok) (rows_insert c.self.inside.rows.items c.args.id c.in-Err.place 1 c.self.invariant.0 gap (omega arith)), omega (arith, c.insert.ensures.capacity, c.self.invariant.1))

pub invariant_of-self : goal.invariant_of-self
invariant_of-self c =
    let at = subst (λ z. IsAt z c.args.id c.in-Ok.place) c.deref.ensures.value c.in-Ok.ensures.found in
    (rows_set c.self.inside.rows.items c.self.invariant.0 c.args.id c.in-Ok.place at (c.index.result.now.count + 1) (omega arith), c.self.invariant.1)
