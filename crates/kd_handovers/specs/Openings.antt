-- How large the pools are that a plan opens: a HELLO may ask for a mebibyte.
use Rattle.std.specs.Prelude.{◌≡◌, ◌≤◌, true, List, Ok}
use Rattle.std.specs.List.{AllByRecursion}
use Rattle.kd_wire.specs.declared.command.Command.{Command}
use Rattle.kd_wire.specs.WellFormed.{is_well_formed}
use Rattle.kd_acts.specs.State.{Visit, raise}
use Rattle.kd_commands.specs.declared.who.Who.{Who}
use Rattle.kd_commands.specs.State.{Desk}
use Rattle.kd_commands.specs.Plans.{Part, Plan}
use Rattle.kd_commands.specs.Step.{plan}

-- a visit that opens no pool, or one of a mebibyte at most
abbrev pub IsSmall : Visit → Type 0
IsSmall (raise size) = size ≤ 1048576
IsSmall _ = Unit {0}

abbrev pub AreSmall : List Part → Type 0
AreSmall ps = AllByRecursion (λ (p : Part). IsSmall p.act) ps

abbrev pub PoolsAreSmall : Type 0
PoolsAreSmall =
    (d : Desk) (w : Who) (x : Command) (p : Plan) → is_well_formed x ≡ true → plan d w x ≡ Ok p
    → AreSmall p.parts
