-- The size of an open pool follows from the acts on it and their answers.
use Rattle.std.specs.Prelude.{◌≡◌, ℕ, true, false, Option, Some, None, option_map}
use Rattle.kd_acts.specs.Lasting.{is_let_be}
use Rattle.kd_acts.specs.State.{Act, Answer, Hold, Pool, by_desk, close, raise}
use Rattle.kd_acts.specs.Steps.{after, answer}

-- the size of an open pool; none of a closed one
abbrev pub size_of : Hold → Option ℕ
size_of h = option_map (λ (p : Pool). p.size) h.pool

-- the size after an act that was answered so: a raise gives one, a close that isn't refused ends
-- it, and no other act changes it
abbrev pub size_by : Act → Answer → Option ℕ → Option ℕ
size_by (by_desk (raise size)) a was = Some size
size_by (by_desk (close force)) a was = elim (is_let_be force a) [ true ↦ was | false ↦ None ]
size_by _ a was = was

abbrev pub SizesFollow : Type 0
SizesFollow = (h : Hold) (a : Act) → size_of (after h a) ≡ size_by a (answer h a) (size_of h)
