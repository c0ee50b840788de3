use Rattle.std.proofs.Common.{◌≡◌, take, map}
use Rattle.kd_model.specs.Words.{those}
use Rattle.kd_registry.specs.Changes.{is_wanted, row, claim_standing}
use Rattle.kd_registry.proofs.listing.rows.Given as goal

abbrev pub invariant-loop-claim : goal.invariant-loop-claim
invariant-loop-claim l = l.rows.items ≡ map (row l.claims) (those (λ c. is_wanted l.flags.0 (claim_standing l.claims c)) (take l.claim-index l.claims))
