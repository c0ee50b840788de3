-- The pools so far, and those that are left to make, are all that the parts open.
use Rattle.std.specs.Prelude.{◌≡◌, ◌++◌, drop, flat_map}
use Rattle.kd_holds.specs.Stack.{pool_in}
use Rattle.kd_holds.proofs.made.pools_of.Given as goal

abbrev pub invariant-parts : goal.invariant-parts
invariant-parts l = l.raised.items ++ flat_map pool_in (drop l.part-index l.parts) ≡ flat_map pool_in l.parts
