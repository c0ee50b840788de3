-- What the search for a gap asks.
use Rattle.std.specs.Prelude.{ℕ, Bool, nat_le}
use Rattle.kd_model.specs.declared.placed.Gap.{Gap}

-- whether a gap holds a length
abbrev pub gap_holds : ℕ → Gap → Bool
gap_holds len g = nat_le len g.len
