use Rattle.std.proofs.Common.{◌≡◌, take, map}
use Rattle.std.specs.Prelude.{◌&&◌}
use Rattle.kd_model.specs.Words.{those, contains}
use Rattle.kd_registry.specs.declared.claim.Claim.{Claim}
use Rattle.kd_registry.specs.Changes.{is_owners, change}
use Rattle.kd_registry.proofs.listing.changes.Given as goal

abbrev pub invariant-loop-claim : goal.invariant-loop-claim
invariant-loop-claim l = l.changes.items ≡ map (change l.ids l.claims) (those (λ (c : Claim). contains c.id l.ids && is_owners l.claims c) (take l.claim-index l.claims))
