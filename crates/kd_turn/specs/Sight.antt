-- What contracts see of a gate and of a pass.
use Rattle.std.specs.Prelude.{ℕ, List}
use Rattle.atomic_table.specs.Seated.{TableId}
use Rattle.kd_hands.specs.declared.views.View.{View}

-- which gate it is, and how many locks and passes it has
pub record GateSight : Type 0 where
  pub id : TableId
  pub locks : ℕ
  pub passes : ℕ

-- of which gate it is a pass, what it knows, and the locks that it holds, the one taken last before
-- the others
pub record Sight (E : Type 0) : Type 0 where
  pub gate : TableId
  pub view : View E
  pub held : List ℕ
