-- All messages of the buffer settle in the pool after its sweep.
use Rattle.std.specs.Prelude.{ℕ, List, map}
use Rattle.std.proofs.Common.{ap, sym, ◌∙◌}
use Rattle.kd_acts.specs.State.{Pool}
use Rattle.kd_acts.specs.Steps.{settled}
use Rattle.kd_acts.specs.declared.slot.Slot.{Slot}
use Rattle.kd_pool.specs.Table.{carried}
use Rattle.kd_pool.proofs.pool.Pool.settle.Goals as goal

pub returns : goal.returns
returns c =
    let P : List ℕ → List Slot → Pool = λ m rs. settled (map (carried m c.into_parts-memory.result.2.items) rs) c.sweep.new.self in
    c.settle_each.ensures ∙ ap (λ m. P m c.deref-2.result.now) c.deref.ensures.value ∙ ap (P c.into_parts-memory.result.0.items) c.deref-2.ensures.value
    ∙ ap (λ is. settled is c.sweep.new.self) (sym c.into_parts-memory.ensures.images) ∙ ap (settled c.args.from.images) c.sweep.ensures
