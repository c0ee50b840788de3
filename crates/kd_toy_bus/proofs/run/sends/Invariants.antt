use Rattle.std.proofs.Common.{◌≡◌, ◌+◌, ◌*◌, ◌≤◌, length}
use Rattle.kd_hands.specs.Views.{part}
use Rattle.kd_toy_bus.specs.Bus.{IsBetweenCalls}
use Rattle.kd_toy_bus.proofs.run.sends.Given as goal

abbrev pub invariant-sending : goal.invariant-sending
invariant-sending g l = record {
  idle : IsBetweenCalls l.gate l.pass;
  sent : length (part l.pass.view 0).own ≡ length (part l.initial.pass.view 0).own + l.round;
  turns : l.pass.view.turns ≤ l.initial.pass.view.turns + 2 * l.round;
  name : l.pass.view.name ≡ l.initial.pass.view.name;
}
