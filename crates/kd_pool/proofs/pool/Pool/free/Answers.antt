-- The refusal goes by the table.
use Rattle.std.specs.Prelude.{◌≡◌, None}
use Rattle.std.proofs.Common.{sym, ◌∙◌}
use Rattle.kd_acts.specs.Steps.{free_refusal}
use Rattle.kd_pool.proofs.Queued.{freed_waits}
use Rattle.kd_pool.proofs.Views.{slots_shown}
use Rattle.kd_pool.proofs.pool.Pool.free.Goals as goal

pub returns-in-Some-clause-refused : goal.returns-in-Some-clause-refused
returns-in-Some-clause-refused c = rw (← c.self.view_is, slots_shown c.self.inside.memory.items c.self.inside.shares.items c.self.inside.slots.items, ← c.deref.ensures.value) (sym c.why_not_freed.ensures ∙ c.in-Some.is)

pub set_phase-requires : goal.set_phase-requires
set_phase-requires c =
    let m = c.self.inside.memory.items in
    let h = c.self.inside.shares.items in
    let ss = c.self.inside.slots.items in
    let free : free_refusal c.args.number ss ≡ None = rw (← c.deref.ensures.value) (sym c.why_not_freed.ensures ∙ c.in_default.is) in
    record { waits = rw (← c.self.view_is, slots_shown m h ss) (freed_waits c.args.number ss free); taken = λ e. cc }

pub returns-clause-ok : goal.returns-clause-ok
returns-clause-ok c = rw (← c.self.view_is, slots_shown c.self.inside.memory.items c.self.inside.shares.items c.self.inside.slots.items, ← c.deref.ensures.value) (sym c.why_not_freed.ensures ∙ c.in_default.is)
