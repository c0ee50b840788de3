-- The answer goes by the table.
use Rattle.std.specs.Prelude.{refl}
use Rattle.std.proofs.Common.{ap, sym, ◌∙◌}
use Rattle.kd_model.specs.Words.{first}
use Rattle.kd_pool.proofs.Views.{reserved_seen, slots_shown}
use Rattle.kd_acts.specs.State.{slot_numbered}
use Rattle.kd_acts.specs.Steps.{length_reserved}
use Rattle.kd_pool.proofs.pool.Pool.reserved.Goals as goal

pub returns : goal.returns
returns c =
    let ss = c.self.inside.slots.items in
    rw (← c.self.view_is) (c.reserved_length.ensures ∙ ap (λ xs. length_reserved (first (slot_numbered c.args.number) xs)) c.deref.ensures.value ∙ sym (reserved_seen _ ss c.args.number _ (slots_shown c.self.inside.memory.items c.self.inside.shares.items ss) refl))
