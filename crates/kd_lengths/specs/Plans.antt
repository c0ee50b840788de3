-- What a plan brings to pools has the lengths that keep them sound.
use Rattle.std.specs.Prelude.{◌≡◌, true, List, Ok}
use Rattle.std.specs.List.{AllByRecursion}
use Rattle.kd_wire.specs.declared.command.Command.{Command}
use Rattle.kd_wire.specs.WellFormed.{is_well_formed}
use Rattle.kd_acts.specs.State.{by_desk}
use Rattle.kd_sound.specs.Lengths.{HasLengths}
use Rattle.kd_commands.specs.declared.who.Who.{Who}
use Rattle.kd_commands.specs.State.{Desk}
use Rattle.kd_commands.specs.Plans.{Part, Plan}
use Rattle.kd_commands.specs.Step.{plan}

-- each part, by what it does to its pool
abbrev pub PartsHaveLengths : List Part → Type 0
PartsHaveLengths ps = AllByRecursion (λ (p : Part). HasLengths (by_desk p.act)) ps

-- those of every plan have, where its command is well formed
abbrev pub PlansHaveLengths : Type 0
PlansHaveLengths =
    (d : Desk) (w : Who) (x : Command) (p : Plan) → is_well_formed x ≡ true → plan d w x ≡ Ok p
    → PartsHaveLengths p.parts
