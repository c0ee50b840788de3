use Rattle.std.proofs.Common.{sym, ◌∙◌}
use Rattle.kd_registry.proofs.Leaving.{owner_by_head}
use Rattle.kd_registry.proofs.search.owner_of.Goals as goal

pub returns : goal.returns
returns c = c.first_of.ensures ∙ sym (owner_by_head c.args.claims.now c.ranks.result.now c.args.name.now c.requires c.ranks.ensures)
