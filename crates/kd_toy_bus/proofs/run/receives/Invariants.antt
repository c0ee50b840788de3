use Rattle.std.proofs.Common.{◌≡◌, ◌+◌, length}
use Rattle.kd_hands.specs.Views.{part}
use Rattle.kd_toy_bus.specs.Bus.{IsBetweenCalls}
use Rattle.kd_toy_bus.proofs.run.receives.Given as goal

abbrev pub invariant-receiving : goal.invariant-receiving
invariant-receiving g l = record {
  idle : IsBetweenCalls l.gate l.pass;
  desk : part l.pass.view 0 ≡ part l.initial.pass.view 0;
  received : length (part l.pass.view 1).own ≡ length (part l.initial.pass.view 1).own + l.round;
  turns : l.pass.view.turns ≡ l.initial.pass.view.turns + l.round;
  name : l.pass.view.name ≡ l.initial.pass.view.name;
}
