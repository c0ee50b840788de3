-- No slot is in the table, and nothing has a share.
use Rattle.std.specs.Prelude.{refl}
use Rattle.std.proofs.Common.{arith}
use Rattle.std.proofs.lemmas.List.{length-replicate}
use Rattle.kd_pool.proofs.Kept.{none_sound}
use Rattle.kd_pool.proofs.Queued.{queued_none}
use Rattle.kd_pool.proofs.Sharing.{shared_none}
use Rattle.kd_pool.proofs.pool.Pool.make.Goals as goal

pub invariant_of-result : goal.invariant_of-result
invariant_of-result c = rw (c.in_ok-with_capacity.ensures.items, c.in_ok-none.ensures, c.in_ok-zeros.ensures, c.in_ok-make.ensures.empty, c.in_ok-make-2.ensures.empty) (record {
  kept = record {
    tied = refl;
    sound = none_sound c.args.size c.requires.eights;
    whole = length-replicate c.args.size 0;
    fits = omega (arith, c.ranges.size);
    enough = omega (arith, c.in_ok-with_capacity.ensures.capacity);
  };
  queued = queued_none 0;
  shared = shared_none;
})
