use Rattle.std.proofs.Common.{◌≡◌, take, map}
use Rattle.std.specs.Prelude.{◌&&◌, ◌==◌}
use Rattle.kd_model.specs.Words.{those}
use Rattle.kd_registry.specs.declared.claim.Claim.{Claim}
use Rattle.kd_registry.specs.Changes.{is_owners, name_in}
use Rattle.kd_registry.proofs.listing.owned_names.Given as goal

abbrev pub invariant-loop-claim : goal.invariant-loop-claim
invariant-loop-claim l = l.names.items ≡ map name_in (those (λ (c : Claim). c.id == l.id && is_owners l.claims c) (take l.claim-index l.claims))
