-- What a slot has come to when all its passes came back.
use Rattle.std.specs.Prelude.{◌≡◌, ℕ, ◌∷◌, List, [], length, map, Option}
use Rattle.std.specs.List.{AllByRecursion}
use Rattle.kd_acts.specs.State.{Hold}
use Rattle.kd_turn.specs.Sight.{Sight}
use Rattle.kd_histories.specs.Turns.{Turn}
use Rattle.kd_histories.specs.Slots.{Slot}
use Rattle.kd_bus.specs.declared.closing.Closed.{Closed}
use Rattle.kd_bus.specs.declared.locked.Locked.{Locked}
use Rattle.kd_bus.specs.declared.locked.Locked.TheVariants as locked
use Rattle.kd_bus.specs.Sight.{BusSight}

-- pools as the values behind their locks
abbrev pub pools_as_values : List Hold → List Locked
pools_as_values hs = map (λ (h : Hold). locked.Pool h) hs

-- the values of all locks
abbrev pub values_in : Closed → List Locked
values_in c =
    locked.Desk (record { generation = c.generation; desk = c.desk }) ∷ pools_as_values c.pools.items

abbrev pub IsPool : Locked → Type 0
IsPool (locked.Pool h) = Unit {0}
IsPool (locked.Desk s) = ⊥

-- behind lock 0 is a desk, and behind the others are 64 pools
pub record IsWhole (values : List Locked) : Type 0 where
  pub slot : Slot
  pub rest : List Locked
  pub are : values ≡ locked.Desk slot ∷ rest
  pub pools : AllByRecursion IsPool rest
  pub count : length rest ≡ 64

-- a pass without its aim
abbrev pub bare : BusSight → Sight Turn
bare p = record { gate = p.gate; view = p.view; held = [] }

-- what passes are aimed at
abbrev pub aims_of : List BusSight → List (Option ℕ)
aims_of passes = map (λ (p : BusSight). p.aim) passes

-- passes with their aims again
abbrev pub aimed : Sight Turn → Option ℕ → BusSight
aimed p a = record { gate = p.gate; view = p.view; aim = a }

abbrev pub joined : List (Sight Turn) → List (Option ℕ) → List BusSight
joined [] aims = []
joined (p ∷ ps) [] = []
joined (p ∷ ps) (a ∷ aims) = aimed p a ∷ joined ps aims
