use Rattle.kd_toy_bus.proofs.Backs.{same_gate, all_idle, every}
use Rattle.kd_toy_bus.proofs.passes.values_of.Goals as goal

pub close-requires : goal.close-requires
close-requires g c = record {
  gate = same_gate c.args.gate c.args.passes.items c.requires.back;
  idle = all_idle c.args.gate c.args.passes.items c.requires.back;
  all = every c.args.gate c.args.passes.items c.requires.back;
}
