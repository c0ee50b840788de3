-- Which parts of a plan hand messages over: the first two, or none.
use Rattle.std.specs.Prelude.{◌≡◌, ◌⊎◌, ℕ, Bool, true, false, List, [], ◌∷◌, Ok}
use Rattle.std.specs.List.{AllByRecursion}
use Rattle.kd_wire.specs.declared.command.Command.{Command}
use Rattle.kd_acts.specs.State.{Visit, drain, settle}
use Rattle.kd_commands.specs.declared.who.Who.{Who}
use Rattle.kd_commands.specs.State.{Desk}
use Rattle.kd_commands.specs.Plans.{Part, Plan}
use Rattle.kd_commands.specs.Step.{plan}

-- a visit that neither drains its pool nor settles there
abbrev pub is_still : Visit → Bool
is_still drain = false
is_still (settle images) = false
is_still _ = true

abbrev pub AreStill : List Part → Type 0
AreStill ps = AllByRecursion (λ (p : Part). is_still p.act ≡ true) ps

-- what the first part drains settles by the second, and no other part drains or settles
pub record IsHandover (ps : List Part) : Type 0 where
  pub from : ℕ
  pub to : ℕ
  pub rest : List Part
  pub parts :
      ps
      ≡ record { seat = from; act = drain } ∷ record { seat = to; act = settle [] } ∷ rest
  pub still : AreStill rest

-- or none does
abbrev pub HandsOver : List Part → Type 0
HandsOver ps = IsHandover ps ⊎ AreStill ps

abbrev pub HandoversComeFirst : Type 0
HandoversComeFirst =
    (d : Desk) (w : Who) (x : Command) (p : Plan) → plan d w x ≡ Ok p → HandsOver p.parts
