use Rattle.std.proofs.Common.{ap, ◌∙◌}
use Rattle.kd_bus.specs.Slips.{read_turn, turn_told}
use Rattle.kd_bus.proofs.slip.Slip.read.Goals as goal

pub returns : goal.returns
unfolding turn_told
returns c =
    c.of-5.ensures
    ∙ (ap (λ g. read_turn g c.of-2.result.value c.of-3.result.value c.of-4.result.value) c.of.ensures
    ∙ (ap (λ n. read_turn c.args.generation n c.of-3.result.value c.of-4.result.value) c.of-2.ensures
    ∙ (ap (λ s. read_turn c.args.generation c.args.number s c.of-4.result.value) c.of-3.ensures
    ∙ ap (λ r. read_turn c.args.generation c.args.number c.args.sealed r) c.of-4.ensures)))
