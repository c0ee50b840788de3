-- The queue names the slot, and the table has it.
use Rattle.std.specs.Prelude.{vec_capacity}
use Rattle.std.proofs.Common.{ap, sym, ◌∙◌}
use Rattle.std.specs.List.{find}
use Rattle.kd_acts.specs.State.{slot_numbered}
use Rattle.kd_pool.proofs.Kept.{kept_apart}
use Rattle.kd_pool.proofs.Queued.{named_found, named_none}
use Rattle.kd_pool.proofs.Views.{slots_shown}
use Rattle.kd_pool.proofs.pool.Pool.next.Goals as goal

pub returns-in-None : goal.returns-in-None
returns-in-None c = rw (← c.self.view_is, slots_shown c.self.inside.memory.items c.self.inside.shares.items c.self.inside.slots.items) (named_none c.self.inside.slots.items c.self.inside.queue c.self.inside.next_arrival c.args.limit c.self.invariant.queued (sym c.next.ensures.next ∙ c.in-None.is))

pub returns-in-Some : goal.returns-in-Some
returns-in-Some c =
    let m = c.self.inside.memory.items in
    let h = c.self.inside.shares.items in
    let ss = c.self.inside.slots.items in
    rw (← c.self.view_is, slots_shown m h ss)
    (c.find.ensures ∙ ap (find (slot_numbered c.in-Some.number)) c.deref.ensures.value
    ∙ named_found ss c.self.inside.queue c.self.inside.next_arrival c.args.limit c.in-Some.number (kept_apart m c.self.inside.book ss (vec_capacity c.self.inside.slots) c.self.invariant.kept) c.self.invariant.queued (sym c.next.ensures.next ∙ c.in-Some.is))
