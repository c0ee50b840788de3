-- Numbers in two rings, by arrival and by priority.
use Rattle.std.specs.Prelude.{ℕ, ℤ, List, map, negsuc}
use Rattle.kd_order.specs.declared.node.Node.{Node}

-- the number behind each number, and the one before it
abbrev pub nexts : List Node → List ℕ
nexts ns = map (λ (n : Node). n.next) ns

abbrev pub previouses : List Node → List ℕ
previouses ns = map (λ (n : Node). n.previous) ns

abbrev pub priorities : List Node → List ℤ
priorities ns = map (λ (n : Node). n.priority) ns

-- what a chain is: the slices in order of arrival, the nodes of their priorities in order of these,
-- and the priority of each node
pub record Chained : Type 0 where
  pub arrivals : List ℕ
  pub ranks : List ℕ
  pub priorities : List ℤ

-- the least priority that there is: that of the head and of what has none yet
abbrev pub lowest : ℤ
lowest = negsuc 9223372036854775807
