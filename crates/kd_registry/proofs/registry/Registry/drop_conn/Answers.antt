use Rattle.std.proofs.Common.{length, refl, ap, arith}
use Rattle.std.proofs.lemmas.List.Filters.{length-filter_both}
use Rattle.std.specs.Prelude.{not, ◌==◌}
use Rattle.kd_registry.specs.declared.claim.Claim.{Claim}
use Rattle.kd_registry.proofs.Ranked.{ranked_filter}
use Rattle.kd_registry.proofs.registry.Registry.drop_conn.Goals as goal

pub invariant_of-self : goal.invariant_of-self
invariant_of-self c = (rw c.leave.ensures (ranked_filter (λ (q : Claim). not (q.id == c.args.id)) c.self.inside.book c.self.invariant.0), omega (arith, ap length c.leave.ensures, length-filter_both (λ (q : Claim). q.id == c.args.id) (λ (q : Claim). not (q.id == c.args.id)) (λ q. refl) c.self.inside.book, c.self.invariant.1))
