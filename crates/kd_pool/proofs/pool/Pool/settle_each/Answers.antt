-- The message in hand settles, and behind the last nothing is left.
use Rattle.std.specs.Prelude.{length, map}
use Rattle.std.proofs.Common.{ap, arith, sym, ◌∙◌}
use Rattle.std.proofs.lemmas.List.{drop_all}
use Rattle.kd_pool.proofs.Drains.{all_at, settles_on}
use Rattle.kd_acts.specs.Steps.{settled}
use Rattle.kd_pool.specs.Table.{IsCarried, carried}
use Rattle.kd_pool.proofs.pool.Pool.settle_each.Goals as goal

pub settle_one-requires : goal.settle_one-requires
settle_one-requires c = record {
  carried = all_at (IsCarried (length c.args.memory.now)) c.args.rows.now c.rows.row-index c.row-item.result c.rows-test.true c.row-item.is c.requires.each;
  arrivals = omega (arith, c.rows.invariant.1, c.requires.arrivals, c.requires.few);
  misses = omega (arith, c.rows.invariant.2, c.requires.misses, c.requires.few);
}

pub rows-preserved : goal.rows-preserved
rows-preserved c = (
  settles_on c.args.memory.now c.rows.shares.items c.take-share.new.shares.items c.args.rows.now c.rows.row-index c.row-item.result c.rows.self c.settle_one.new.self c.rows-test.true c.row-item.is c.requires.apart c.take-share.ensures.rest (rw c.take-share.ensures.share at c.settle_one.ensures.state) ∙ c.rows.invariant.0,
  omega (arith, c.rows.invariant.1, c.settle_one.ensures.arrivals),
  omega (arith, c.rows.invariant.2, c.settle_one.ensures.misses),
)

pub returns : goal.returns
returns c =
    let none = drop_all c.rows.row-index c.args.rows.now c.rows-test.false in
    sym (ap (λ xs. settled (map (carried c.args.memory.now c.rows.shares.items) xs) c.rows.self) none) ∙ c.rows.invariant.0
