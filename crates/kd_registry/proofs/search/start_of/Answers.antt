use Rattle.std.proofs.Common.{rules, of_calls}
use Rattle.std.proofs.lemmas.Fn.{always_returns_same}
use Rattle.kd_model.specs.Words.{text_below}
use Rattle.kd_registry.specs.declared.claim.Claim.{Claim}
use Rattle.kd_registry.proofs.Filters.{point_is_count}
use Rattle.kd_registry.proofs.Ranked.{lower_first}
use Rattle.kd_registry.proofs.search.start_of.Goals as goal

pub returns-clause-place : goal.returns-clause-place
returns-clause-place c =
    let r = c.args.claims.now in
    let n = c.args.name.now in
    let point = c.partition_point.ensures.partitioned (λ (d : Claim). text_below d.name n) (always_returns_same _ _ _ (λ a r f k. search (rules, of_calls))) (lower_first r n c.requires) in
    point_is_count (λ (d : Claim). text_below d.name n) r c.partition_point.result c.partition_point.ensures.bound point.0 point.1
