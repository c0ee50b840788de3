use Rattle.std.proofs.Common.{false, sym, subst, refl}
use Rattle.kd_wire.specs.Refusals.{flaw_of}
use Rattle.kd_holds.specs.Handing.{AreInOrder, IsMadeFor}
use Rattle.kd_bus.proofs.Begun.{asks_nothing}
use Rattle.kd_bus.proofs.starting.nothing_planned.Goals as goal

pub plan-requires-clause-form : goal.plan-requires-clause-form
unfolding flaw_of
plan-requires-clause-form c = refl

pub of-requires-clause-order : goal.of-requires-clause-order
of-requires-clause-order c =
    subst AreInOrder (sym (asks_nothing c.args.desk.now (record { uid = 0; gid = 0; privileged = false }) c.in-Ok.plan c.in-Ok.ensures)) record { hands = tt; small = tt }

pub returns : goal.returns
returns c =
    subst (IsMadeFor c.in_ok-made.made) (asks_nothing c.args.desk.now (record { uid = 0; gid = 0; privileged = false }) c.in-Ok.plan c.in-Ok.ensures) c.in_ok-made.ensures.made
