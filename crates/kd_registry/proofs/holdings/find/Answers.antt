use Rattle.std.proofs.Common.{rules}
use Rattle.std.proofs.lemmas.List.Sorted.{answers_always}
use Rattle.kd_registry.specs.declared.holdings.Holding.{Holding}
use Rattle.kd_registry.proofs.Finding.{searched}
use Rattle.kd_registry.proofs.holdings.find.Goals as goal

-- the closure gives a row's id
pub returns : goal.returns
returns c =
    let facts = c.binary_search_by_key.ensures in
    let by_id = facts.position (λ (h : Holding). h.id) (answers_always _ _ _ (λ f a r g called. search rules)) in
    rw (← c.id.view_is) (searched c.args.rows.now c.requires c.id.inside.0 c.binary_search_by_key.result facts.bound by_id)
