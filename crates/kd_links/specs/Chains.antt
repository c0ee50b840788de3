-- Slices and gaps in two rings, each with a span.
use Rattle.std.specs.Prelude.{ℕ, List, map}
use Rattle.kd_links.specs.declared.node.Node.{Node}
use Rattle.kd_links.specs.declared.node.Span.{Span}

-- the number behind each number, and the one before it
abbrev pub nexts : List Node → List ℕ
nexts ns = map (λ (n : Node). n.next) ns

abbrev pub previouses : List Node → List ℕ
previouses ns = map (λ (n : Node). n.previous) ns

abbrev pub spans : List Node → List Span
spans ns = map (λ (n : Node). n.span) ns

-- what a chain is: the numbers of its slices, and those of its gaps, in order, and the span of each
-- number
pub record Chained : Type 0 where
  pub order : List ℕ
  pub gaps : List ℕ
  pub spans : List Span

-- the span of a number that isn't used
abbrev pub no_span : Span
no_span = record { offset = 0; len = 0 }
