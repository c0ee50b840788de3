use Rattle.std.proofs.Common.{refl}
use Rattle.kd_registry.proofs.Spans.{span_within, there_in}
use Rattle.kd_registry.proofs.search.ranks.Goals as goal

pub claims_at-requires : goal.claims_at-requires
claims_at-requires c = span_within c.args.claims.now c.args.name.now c.span_of.result c.requires c.span_of.ensures

pub returns : goal.returns
returns c = there_in c.claims_at.result.now c.args.claims.now c.args.claims.now c.args.name.now c.span_of.result c.requires c.span_of.ensures c.claims_at.ensures refl
