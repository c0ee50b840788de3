-- What a world's parts say of what contracts see.
use Rattle.std.proofs.Common.{◌≡◌, Option, Some, None, ap, ◌∙◌, subst}
use Rattle.std.specs.Prelude.{option_map}
use Rattle.kd_tables.specs.Drafts.{seat_in}
use Rattle.kd_commands.specs.Plans.{Part}
use Rattle.kd_holds.specs.declared.holder.Holder as code
use Rattle.kd_core.specs.declared.world.World.TheInside.{Inside}
use Rattle.kd_holds.specs.Ahead.{part_ahead}
use Rattle.kd_world.specs.State.{World}
use Rattle.kd_world.specs.Holding.{next_visit}
use Rattle.kd_world.specs.Whole.{next_seat}
use Rattle.kd_core.specs.Held.{IsHeld, IsHeldBy, holder_of, world_of}
use Rattle.kd_core.proofs.Holding.{seat_next}

abbrev pub inner : Inside → World
inner w = (world_of w).world

pub held_in : (w : Inside) (h : code.Holder) → w.holder ≡ Some h → IsHeldBy w.desk w.holder → IsHeld w.desk h
held_in w h e i = subst (IsHeldBy w.desk) e i

pub seat_ahead_in : (w : Inside) (h : code.Holder) → w.holder ≡ Some h → IsHeldBy w.desk w.holder → next_seat (inner w) ≡ option_map seat_in (part_ahead h.plan h.outs.items)
seat_ahead_in w h e i =
    ap (λ (o : Option code.Holder). elim (option_map holder_of o) [ None ↦ None | Some held ↦ option_map (λ (p : Part). p.seat) (next_visit (inner w) held) ]) e
    ∙ seat_next (inner w) h (held_in w h e i)
