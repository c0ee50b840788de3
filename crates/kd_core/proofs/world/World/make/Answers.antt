use Rattle.std.proofs.Common.{arith, length, ap, sym, subst, None}
use Rattle.std.specs.List.{AllByRecursion}
use Rattle.kd_holds.specs.Counts.{IsBelow}
use Rattle.kd_world.proofs.Reached.{reached_at_first}
use Rattle.kd_world.specs.State.{new_world}
use Rattle.kd_world.specs.Runs.{IsReached}
use Rattle.kd_holds.proofs.Counting.{closed_below}
use Rattle.kd_core.proofs.Wholes.{starts_low}
use Rattle.kd_core.proofs.world.World.make.Goals as goal

pub invariant_of-result : goal.invariant_of-result
invariant_of-result c = record {
  pools = ap length c.in_ok-closed_pools.ensures;
  callers = ap length c.in_ok-strangers.ensures;
  below = subst (AllByRecursion (IsBelow 0)) (sym c.in_ok-closed_pools.ensures) (closed_below 64 0);
  ids = starts_low c.args.creator c.args.param.size c.args.param.hashes c.in_ok-make.field-0 c.in_ok-make.ensures.opening;
  steps = omega arith;
  holder = tt;
}

pub returns-clause-reached : goal.returns-clause-reached
unfolding new_world
returns-clause-reached c = subst IsReached (λ i. record {
  desk = sym c.in_ok-make.ensures.opening i;
  holder = None;
  pools = sym c.in_ok-closed_pools.ensures i;
  callers = sym c.in_ok-strangers.ensures i;
}) (reached_at_first c.args.creator c.args.param.size c.args.param.hashes)
