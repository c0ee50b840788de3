-- Book and table lose all slots.
use Rattle.std.specs.Prelude.{map, true, vec_capacity}
use Rattle.std.proofs.Common.{ap, arith}
use Rattle.kd_model.specs.Slices.{Book}
use Rattle.kd_pool.proofs.Kept.{kept_these, same_view}
use Rattle.kd_pool.proofs.Queued.{queued_none}
use Rattle.kd_pool.proofs.Sharing.{shared_less}
use Rattle.kd_pool.proofs.Sweeps.{none_stay}
use Rattle.kd_pool.specs.Table.{slice_shown}
use Rattle.kd_pool.proofs.pool.Pool.close.Goals as goal

pub invariant_of-self : goal.invariant_of-self
invariant_of-self c =
    let ended = rw c.deref.ensures.value at c.end_all.ensures in
    let none = none_stay c.self.inside.slots.items in
    rw (c.clear.ensures.items, c.clear-2.ensures, ended) (record {
      kept = kept_these c.self.inside.memory.items c.self.inside.book _ c.self.inside.slots.items _ (vec_capacity c.self.inside.slots) _ c.self.invariant.kept c.give_back_all.ensures.all c.give_back_all.ensures.sound (omega (arith, c.clear.ensures.capacity));
      queued = queued_none c.self.inside.next_arrival;
      shared = rw none at (shared_less (λ _. true) c.self.inside.slots.items c.self.inside.shares.items c.self.invariant.shared);
    })

pub returns : goal.returns
returns c =
    let m = c.self.inside.memory.items in
    rw (← c.self.view_is) (same_view m _ _ _ _ c.self.inside.next_arrival c.self.inside.dropped c.self.inside.offered (ap (λ (b : Book). b.size) c.give_back_all.ensures.all) (ap (map (slice_shown m c.end_all.new.shares.items)) c.clear.ensures.items))
