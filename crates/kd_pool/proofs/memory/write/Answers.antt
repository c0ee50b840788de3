-- Two pieces one behind the other are one.
use Rattle.std.specs.Prelude.{◌+◌, length}
use Rattle.std.proofs.Common.{ap, ◌∙◌}
use Rattle.kd_pool.proofs.Writes.{written_twice}
use Rattle.kd_acts.specs.Steps.{written}
use Rattle.kd_pool.proofs.memory.write.Goals as goal

pub returns : goal.returns
returns c = c.write_piece-2.ensures ∙ ap (λ m. written m (c.args.at + length c.args.first.now) c.args.second.now) c.write_piece.ensures ∙ written_twice c.args.memory.now.items c.args.first.now c.args.second.now c.args.at c.requires.inside
