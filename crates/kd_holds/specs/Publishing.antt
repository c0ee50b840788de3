-- A publishing, and what it answers.
use Rattle.std.specs.Prelude.{ℕ, true, false}
use Rattle.kd_acts.specs.State.{Answer, Content, Pool, gone, placed}
use Rattle.kd_acts.specs.Steps.{filled, is_reserved_for}
use Rattle.kd_holds.specs.declared.pending.Published.{Published}
use Rattle.kd_holds.specs.declared.pending.Published.TheVariants as published

-- what a publishing answers
abbrev pub publish_answer : Published → Answer
publish_answer published.Placed = placed
publish_answer published.Gone = gone

-- in an open pool of the right generation the content is queued where its slice is reserved
abbrev pub publish_step : ℕ → Content → Pool → Pool × Answer
publish_step n c p =
    elim (is_reserved_for n c p) [ false ↦ (p, gone) | true ↦ (filled n c p, placed) ]
