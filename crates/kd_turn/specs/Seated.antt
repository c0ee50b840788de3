-- What is true of each pass outside a call.
use Rattle.std.specs.Prelude.{◌≡◌, ℕ, true, cond, length, All, ◌==◌}
use Rattle.std.specs.List.{count_by}
use Rattle.atomic_table.specs.Table.{Me}
use Rattle.kd_turn.specs.declared.views.Cell.{Cell}
use Rattle.kd_hands.specs.declared.views.View.{View}
use Rattle.kd_hands.specs.Views.{part}
use Rattle.kd_turn.specs.Rule.{hollow}

-- it knows its turns at run time and each of the locks, was not taken in, and carries a hollow cell
-- for each lock that it holds
pub record IsSeated {X E : Type 0} (turns locks : ℕ) (m : Me (Cell X E) (View E)) : Type 0 where
  pub counted : turns ≡ m.0.turns
  pub parts : length m.0.parts ≡ locks
  pub hands : length m.0.hands ≡ locks
  pub live : m.0.live ≡ true
  pub carried : (l : ℕ) → count_by (λ x. x.0 == l) m.1 ≡ cond (part m.0 l).holds 1 0
  pub hollows : All (λ x. x.1 ≡ hollow) m.1
