use Rattle.std.proofs.Common.{◌≤◌, length}
use Rattle.std.specs.Prelude.{vec_capacity}
use Rattle.kd_bus.proofs.Going.{Going}
use Rattle.kd_bus.proofs.visiting.visit_all.Given as goal

abbrev pub invariant-visiting : goal.invariant-visiting
invariant-visiting g l = Going l.gate l.initial.pass l.pass l.plan l.made l.outs.items l.generations.items l.index × (length l.plan.parts ≤ vec_capacity l.outs) × (length l.plan.parts ≤ vec_capacity l.generations)
