use Rattle.std.proofs.Common.{ℕ, ap, ◌∙◌}
use Rattle.kd_bloom.specs.declared.param.Param.{Param}
use Rattle.kd_histories.specs.Turns.{Turn, started}
use Rattle.kd_bus.specs.Slips.{turn_told}
use Rattle.kd_bus.proofs.slip.Slip.started.Goals as goal

pub returns : goal.returns
unfolding turn_told
returns c =
    let say : ℕ → ℕ → Param → Turn = λ g u p. started (record { generation = g; creator = u; size = p.size; hashes = p.hashes }) in
    c.of-4.ensures
    ∙ (ap (λ g. say g c.of-2.result.value c.of-3.result.value) c.of.ensures
    ∙ (ap (λ u. say c.args.generation u c.of-3.result.value) c.of-2.ensures
    ∙ ap (λ p. say c.args.generation c.args.creator p) c.of-3.ensures))
