use Rattle.std.proofs.Common.{◌∙◌, Some, None}
use Rattle.kd_registry.proofs.Leaving.{owners_at}
use Rattle.kd_registry.proofs.listing.is_owners.Goals as goal

pub returns-in-Some : goal.returns-in-Some
returns-in-Some c = c.is_same.ensures ∙ owners_at c.args.claims.now c.args.claim.now (Some c.in-Some.owner.now) c.bytes.result.now c.in-Some.ensures c.bytes.ensures

pub returns-in-None : goal.returns-in-None
returns-in-None c = owners_at c.args.claims.now c.args.claim.now None c.bytes.result.now c.in-None.ensures c.bytes.ensures
