use Rattle.std.specs.Prelude.{not}
use Rattle.kd_registry.specs.declared.claim.Claim.{Claim}
use Rattle.kd_registry.specs.Claims.{is_on}
use Rattle.kd_registry.proofs.Spans.{found_at, found_nowhere}
use Rattle.kd_registry.proofs.search.count_on.Goals as goal

pub returns-in-Some : goal.returns-in-Some
returns-in-Some c = found_at (λ (d : Claim). not (is_on c.args.name.now d)) c.args.claims.now c.in-Some.count c.in-Some.ensures

pub returns-in-None : goal.returns-in-None
returns-in-None c = found_nowhere (λ (d : Claim). not (is_on c.args.name.now d)) c.args.claims.now c.in-None.ensures
