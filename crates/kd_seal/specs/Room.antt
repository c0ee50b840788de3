-- Why the vectors of the seals never grow.
use Rattle.std.specs.Prelude.{◌≤◌, vec_capacity}
use Rattle.kd_seal.specs.declared.seals.Seals.TheInside.{Inside}
use Rattle.kd_seal.specs.declared.seals.TheConstants.{SEALS, CONNECTIONS}
use Rattle.kd_seal.specs.Book.{SealBook}

-- what is in the two vectors
abbrev pub seal_book : Inside → SealBook
seal_book s = record { seals = s.seals.items; counters = s.counters.items }

-- the vectors were made with room for all seals and counters
pub record HasRoom (s : Inside) : Type 0 where
  pub seals : SEALS ≤ vec_capacity s.seals
  pub counters : CONNECTIONS ≤ vec_capacity s.counters
