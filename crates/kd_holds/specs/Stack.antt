-- The pools that are made before the visits of a plan.
use Rattle.std.specs.Prelude.{List, [], ◌∷◌, ◌++◌}
use Rattle.kd_acts.specs.State.{Pool}
use Rattle.kd_acts.specs.Steps.{new_pool}
use Rattle.kd_tables.specs.declared.part.Part.{Part}
use Rattle.kd_tables.specs.declared.part.Part.TheVariants as part

-- what a part opens
abbrev pub pool_in : Part → List Pool
pool_in (part.Raise seat size) = new_pool size ∷ []
pool_in _ = []

-- the pools that parts open, the next one last
abbrev pub stack_of : List Part → List Pool
stack_of [] = []
stack_of (p ∷ ps) = stack_of ps ++ pool_in p
