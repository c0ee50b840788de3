use Rattle.std.proofs.Common.{◌≡◌, ◌∙◌, true}
use Rattle.std.proofs.lemmas.Result.{IfOk-weaker}
use Rattle.kd_registry.specs.Claims.{ranked}
use Rattle.kd_registry.specs.Changes.{TellsOwners, changes_without}
use Rattle.kd_registry.proofs.Leaving.{tell_by}
use Rattle.kd_registry.proofs.registry.Registry.changes_without.Goals as goal

pub returns-clause-owners : goal.returns-clause-owners
returns-clause-owners c =
    let z = c.claims.result.now in
    let ids = c.args.ids.now in
    let in_order : ranked z ≡ true = rw c.claims.ensures c.self.invariant.0 in
    IfOk-weaker c.changes.result (λ x. x.items ≡ changes_without z ids) (λ x. TellsOwners c.args.self.now ids x.items) (λ x f. tell_by z c.args.self.now ids x.items (c.claims.ensures ∙ c.self.view_is) in_order f) c.changes.ensures
