use Rattle.std.proofs.Common.{arith}
use Rattle.std.specs.Prelude.{not, ◌&&◌}
use Rattle.kd_registry.specs.Claims.{is_claim_of, is_on}
use Rattle.kd_registry.specs.Spans.{IsSpanOf}
use Rattle.kd_registry.proofs.Ranked.{ranked_filter}
use Rattle.kd_registry.proofs.registry.Registry.release.Goals as goal

pub invariant_of-self : goal.invariant_of-self
invariant_of-self c =
    let r = c.self.inside.book in
    let n = c.args.name.now in
    let found : IsSpanOf r n c.in_ok-span.span = c.in_ok-span.ensures.span in
    (rw (c.withdraw.ensures.items n found) (ranked_filter (λ q. not (is_on n q && is_claim_of c.args.id q)) r c.self.invariant.0), omega (arith, c.withdraw.ensures.len n found, c.self.invariant.1))
