-- Where the claims on a name stand among all.
use Rattle.std.specs.Prelude.{◌≡◌, ℕ, List, length}
use Rattle.kd_registry.specs.declared.claim.Claim.{Claim}
use Rattle.kd_registry.specs.declared.search.Span.{Span}
use Rattle.kd_registry.specs.Claims.{lower, ranks}

-- they begin behind the claims on lower names, and the span counts them
pub record IsSpanOf (r : List Claim) (n : List ℕ) (s : Span) : Type 0 where
  pub start : s.start ≡ length (lower r n)
  pub count : s.count ≡ length (ranks r n)
