-- What contracts see of a bus and of its passes.
use Rattle.std.specs.Prelude.{◌≡◌, ℕ, false, [], Option, None}
use Rattle.atomic_table.specs.Seated.{TableId}
use Rattle.kd_hands.specs.declared.views.View.{View}
use Rattle.kd_hands.specs.Views.{part}
use Rattle.kd_turn.specs.Sight.{GateSight, Sight}
use Rattle.kd_histories.specs.Turns.{Turn}

-- of which bus it is a pass, what it knows of the lists, and the generation at which its next HELLO
-- or ENDPOINT_MAKE is aimed, if it is
pub record BusSight : Type 0 where
  pub gate : TableId
  pub view : View Turn
  pub aim : Option ℕ

-- between two calls a pass holds no lock
pub record Rests (p : Sight Turn) : Type 0 where
  pub held : p.held ≡ []
  pub holds : (k : ℕ) → (part p.view k).holds ≡ false

-- a pass of this gate of a desk and 64 pools, between two calls
pub record IsIdle (gate : GateSight) (p : Sight Turn) : Type 0 where
  pub same : p.gate ≡ gate.id
  pub locks : gate.locks ≡ 65
  pub rests : Rests p

-- a pass that has seen nothing
abbrev pub unaimed : Sight Turn → BusSight
unaimed p = record { gate = p.gate; view = p.view; aim = None }
