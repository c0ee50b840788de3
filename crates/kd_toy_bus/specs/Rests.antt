-- Passes between two calls.
use Rattle.std.specs.Prelude.{◌≡◌, ℕ, ◌<◌, false, List, [], length, slice_index_or}
use mathlib.Core.Option.{some}
use lib.ListN.{get_elem?}
use Rattle.kd_hands.specs.Views.{part}
use Rattle.kd_turn.specs.Sight.{GateSight, Sight}
use Rattle.kd_turn.specs.Told.{IsFresh}

-- a pass of this gate that holds no lock
pub record Rests {E : Type 0} (gate : GateSight) (p : Sight E) : Type 0 where
  pub same : p.gate ≡ gate.id
  pub held : p.held ≡ []
  pub holds : (k : ℕ) → (part p.view k).holds ≡ false

-- the pass of this gate with this number, which has seen nothing
pub record IsNew {E : Type 0} (gate : GateSight) (k : ℕ) (p : Sight E) : Type 0 where
  pub same : p.gate ≡ gate.id
  pub held : p.held ≡ []
  pub fresh : IsFresh k p.view

-- all passes of the gate in their order, as they were made
pub record AreNew {E : Type 0} (gate : GateSight) (passes : List (Sight E)) : Type 0 where
  pub count : length passes ≡ gate.passes
  pub each : (k : ℕ) (p : Sight E) → get_elem? passes k ≡ some p → IsNew gate k p

-- all passes of the gate in their order, each between two calls
pub record AreBack {E : Type 0} (gate : GateSight) (passes : List (Sight E)) : Type 0 where
  pub count : length passes ≡ gate.passes
  pub each :
      (k : ℕ) (d : Sight E) → k < length passes
      → Rests gate (slice_index_or passes k d) × ((slice_index_or passes k d).view.name ≡ k)

-- each of the passes has taken so many turns
abbrev pub HaveTaken : {E : Type 0} → ℕ → List (Sight E) → Type 0
HaveTaken {E} n passes =
    (k : ℕ) (d : Sight E) → k < length passes → (slice_index_or passes k d).view.turns ≡ n
