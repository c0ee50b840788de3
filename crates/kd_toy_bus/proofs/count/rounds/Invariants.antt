use Rattle.std.proofs.Common.{◌≡◌, ◌+◌, ◌*◌}
use Rattle.kd_toy_bus.specs.Counts.{turns_of_round}
use Rattle.kd_toy_bus.specs.Rests.{Rests}
use Rattle.kd_toy_bus.proofs.count.rounds.Given as goal

abbrev pub invariant-turning : goal.invariant-turning
invariant-turning g l = record {
  rests : Rests l.gate l.pass;
  name : l.pass.view.name ≡ l.initial.pass.view.name;
  turns : l.pass.view.turns ≡ l.initial.pass.view.turns + turns_of_round l.lock * l.round;
}
