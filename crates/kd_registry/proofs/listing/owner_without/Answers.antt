use Rattle.std.proofs.Common.{ap, ◌∙◌}
use Rattle.std.specs.Prelude.{not}
use Rattle.kd_model.specs.Words.{contains, first}
use Rattle.kd_registry.specs.declared.claim.Claim.{Claim}
use Rattle.kd_registry.specs.Claims.{id_of}
use Rattle.kd_registry.proofs.Leaving.{owner_after}
use Rattle.kd_registry.proofs.listing.owner_without.Goals as goal

pub returns : goal.returns
returns c =
    c.first_without.ensures
    ∙ ap (λ z. id_of (first (λ (q : Claim). not (contains q.id c.args.ids.now)) z)) c.ranks.ensures
    ∙ owner_after c.args.claims.now c.args.ids.now c.args.name.now c.requires
