-- What is known of the lists after a run of the bus.
use Rattle.std.specs.Prelude.{◌≡◌, ℕ, ◌+◌, ◌≤◌, List, [], length}
use mathlib.Core.Option.{some}
use lib.ListN.{get_elem?}
use Rattle.kd_hands.specs.Lists.{made_by}
use Rattle.kd_hands.specs.Locks.{Histories}
use Rattle.kd_toy_bus.specs.declared.act.Slip.{Slip}
use Rattle.kd_toy_bus.specs.declared.locked.Locked.{Locked}
use Rattle.kd_toy_bus.specs.Bus.{Tie, stands}

-- After a run of so many rounds the lists have every entry of the member, which is pass 0 and had
-- seat 0, and of the sender, which is pass 1
pub record HasAll (rounds : ℕ) (values : List Locked) : Type 0 where
  pub told : Histories Slip
  -- each value stands for the whole list of its lock, and the lists are tied
  pub stood : (l : ℕ) (x : Locked) → get_elem? values l ≡ some x → stands l (told.lists l) x
  pub tied : Tie told
  pub shut : told.opened ≡ []
  -- on the desk, the member's joining and leaving; on its pool, the opening, each receive and the
  -- closing
  pub seat : length (made_by 0 (told.lists 0)) ≡ 2
  pub received : length (made_by 0 (told.lists 1)) ≡ rounds + 2
  pub sent : length (made_by 1 (told.lists 0)) ≡ rounds
  -- no other pass made any
  pub nobody : (j l : ℕ) → 2 ≤ j → made_by j (told.lists l) ≡ []
