-- Nothing is in it, and there is room.
use Rattle.std.specs.Prelude.{ℕ, List, None, Option}
use Rattle.std.proofs.Common.{arith}
use Rattle.std.proofs.lemmas.List.{length-replicate}
use Rattle.kd_model.specs.declared.slice_no.TheConstants.{SLICES}
use Rattle.kd_pool.proofs.Sharing.{apart_none}
use Rattle.kd_pool.proofs.drained.Drained.make.Goals as goal

pub invariant_of-result : goal.invariant_of-result
invariant_of-result c = rw (c.in_ok-with_capacity.ensures.items, c.in_ok-none.ensures) (record {
  each = tt;
  apart = apart_none;
  few = omega arith;
  enough = omega (arith, c.in_ok-with_capacity.ensures.capacity);
  wide = length-replicate {A = Option (List ℕ)} SLICES None;
})
