use Rattle.std.proofs.Common.{ℕ, List, ap, ◌∙◌}
use Rattle.kd_acts.specs.State.{by_desk}
use Rattle.kd_tables.specs.Drafts.{Draft, content_at}
use Rattle.kd_tables.specs.declared.part.Part as code
use Rattle.kd_tables.specs.declared.part.Out.{Out}
use Rattle.kd_holds.specs.Handing.{Stock, answer_told, visit_met}
use Rattle.kd_histories.specs.Turns.{Turn, did}
use Rattle.kd_histories.specs.Pools.{marked_numbers}
use Rattle.kd_bus.specs.Slips.{turn_told, words_in}
use Rattle.kd_bus.proofs.slip.Slip.visited.Goals as goal

abbrev say : ℕ → List ℕ → code.Part → Draft → ℕ → Stock → Out → Turn
say g marks p plan i made out = did (record { generation = g; freed = marked_numbers (words_in marks); act = by_desk (visit_met (content_at i plan.contents) p made.drained); answer = answer_told p out made.drained })

pub returns : goal.returns
unfolding turn_told
returns c =
    c.of-8.ensures
    ∙ (ap (λ g. say g c.of-2.result.value c.of-3.result.value c.of-4.result.value c.of-5.result.value c.of-6.result.value c.of-7.result.value) c.of.ensures
    ∙ (ap (λ m. say c.args.generation m c.of-3.result.value c.of-4.result.value c.of-5.result.value c.of-6.result.value c.of-7.result.value) c.of-2.ensures
    ∙ (ap (λ p. say c.args.generation c.args.marks.now p c.of-4.result.value c.of-5.result.value c.of-6.result.value c.of-7.result.value) c.of-3.ensures
    ∙ (ap (λ d. say c.args.generation c.args.marks.now c.args.part.now d c.of-5.result.value c.of-6.result.value c.of-7.result.value) c.of-4.ensures
    ∙ (ap (λ i. say c.args.generation c.args.marks.now c.args.part.now c.args.plan.now i c.of-6.result.value c.of-7.result.value) c.of-5.ensures
    ∙ (ap (λ m. say c.args.generation c.args.marks.now c.args.part.now c.args.plan.now c.args.index m c.of-7.result.value) c.of-6.ensures
    ∙ ap (λ o. say c.args.generation c.args.marks.now c.args.part.now c.args.plan.now c.args.index c.args.made.now o) c.of-7.ensures))))))
