-- The place behind the last rule whose id isn't above.
use Rattle.std.proofs.Common.{rules, leb}
use Rattle.std.proofs.lemmas.List.Sorted.{IsPartitionPoint-from_clause, IsPartitionedBy-leb}
use Rattle.kd_match.specs.declared.rule.Rule.{Rule}
use Rattle.kd_match.proofs.Order.{put_at, put_in_place}
use Rattle.kd_match.proofs.table.insert.Goals as goal

pub returns-clause-items : goal.returns-clause-items
returns-clause-items c =
    let order = rw (← c.deref.ensures.value) at c.requires.order in
    let place = IsPartitionPoint-from_clause (λ (r : Rule). leb r.id c.args.rule.id) c.deref.result.now c.partition_point-place.result c.partition_point-place.ensures.partitioned (IsPartitionedBy-leb (λ (r : Rule). r.id) c.deref.result.now c.args.rule.id order) (λ a r f k. search rules) in
    let at = rw c.deref.ensures.value at place in
    let bound = rw c.deref.ensures.value at c.partition_point-place.ensures.bound in
    let items = c.insert.ensures.items in
    rw (put_at c.args.rule c.args.rules.now.items c.partition_point-place.result bound at) (rw (c.insert.ensures.succeeds c.requires.room) at items)

pub returns-clause-order : goal.returns-clause-order
returns-clause-order c =
    let order = rw (← c.deref.ensures.value) at c.requires.order in
    let place = IsPartitionPoint-from_clause (λ (r : Rule). leb r.id c.args.rule.id) c.deref.result.now c.partition_point-place.result c.partition_point-place.ensures.partitioned (IsPartitionedBy-leb (λ (r : Rule). r.id) c.deref.result.now c.args.rule.id order) (λ a r f k. search rules) in
    let at = rw c.deref.ensures.value at place in
    let bound = rw c.deref.ensures.value at c.partition_point-place.ensures.bound in
    let items = c.insert.ensures.items in
    rw (rw (c.insert.ensures.succeeds c.requires.room) at items) (put_in_place c.args.rule c.args.rules.now.items c.partition_point-place.result bound at c.requires.order)
