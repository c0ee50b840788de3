-- Two searches find the ends of the connection's rules.
use Rattle.std.proofs.Common.{rules, ltb, leb}
use Rattle.std.proofs.lemmas.List.Sorted.{IsPartitionPoint-from_clause, IsPartitionedBy-ltb, IsPartitionedBy-leb}
use Rattle.kd_match.specs.declared.rule.Rule.{Rule}
use Rattle.kd_match.proofs.Order.{own_part, in_order_rest}
use Rattle.kd_match.proofs.table.rules_of.Goals as goal

pub returns : goal.returns
returns c =
    let start = IsPartitionPoint-from_clause (λ (r : Rule). ltb r.id c.args.id) c.args.rules.now c.partition_point-start.result c.partition_point-start.ensures.partitioned (IsPartitionedBy-ltb (λ (r : Rule). r.id) c.args.rules.now c.args.id c.requires) (λ a r f k. search rules) in
    let rest = c.split_at.ensures.back in
    let len = IsPartitionPoint-from_clause (λ (r : Rule). leb r.id c.args.id) c.split_at.result.1.now c.partition_point-len.result c.partition_point-len.ensures.partitioned (IsPartitionedBy-leb (λ (r : Rule). r.id) c.split_at.result.1.now c.args.id (rw rest (in_order_rest c.partition_point-start.result c.args.rules.now c.requires))) (λ a r f k. search rules) in
    let found = rw rest at len in
    rw (c.split_at-2.ensures.front, rest) (own_part c.args.id c.args.rules.now c.partition_point-start.result c.partition_point-len.result c.partition_point-start.ensures.bound start (rw rest at c.partition_point-len.ensures.bound) found)
