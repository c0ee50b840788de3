-- The ids of connections along the desk's list, and slots without a bus.
use Rattle.std.specs.Prelude.{◌≡◌, ◌≤◌, ◌+◌, ℕ, Bool, false, List, [], ◌∷◌, length, Option, None, refl}
use Rattle.std.proofs.Common.{arith}
use Rattle.kd_commands.specs.State.{opening_desk}
use Rattle.kd_histories.specs.Turns.{Turn, left, started, removed, did, idle}
use Rattle.kd_histories.specs.Slots.{AreTold, IsTold, Slot, desk_behind, has_bus, slot_after, slot_from, unborn}
use Rattle.kd_histories.specs.Visits.{addressed_by}
use Rattle.kd_histories.specs.Seats.{AreFair, IsFair, Sitter, move_of, sitter_after}
use Rattle.kd_histories.specs.Known.{IdsAreFew, Knows, NobodyWithoutBus, open_by}
use Rattle.kd_histories.proofs.Knowing.{knows_after, left_bare, left_ids, unborn_knows}

-- an entry gives at most one id
ids_after : (s : Slot) (k : ℕ → Option Sitter) (up : ℕ → Bool) (j : ℕ) (t : Turn) → Knows s k up → IsTold s t → ((c : ℕ) → IsFair c j t (k c))
    → (slot_after t s).desk.next_id ≤ s.desk.next_id + 1
unfolding IsTold IsFair slot_after desk_behind opening_desk
ids_after s k up j (left l) w is fair = left_ids s k up j l w is (λ c. (fair c).0)
ids_after s k up j (started b) w is fair = omega arith
ids_after s k up j (removed g) w is fair = omega arith
ids_after s k up j (did d) w is fair = omega arith
ids_after s k up j idle w is fair = omega arith

-- a slot without a bus has no connection
abbrev IsBare : Slot → Type 0
IsBare s = has_bus s.generation ≡ false → s.desk.conns ≡ []

bare_after : (s : Slot) (k : ℕ → Option Sitter) (up : ℕ → Bool) (j : ℕ) (t : Turn) → Knows s k up → IsTold s t → ((c : ℕ) → IsFair c j t (k c)) → IsBare s → IsBare (slot_after t s)
unfolding IsTold IsFair slot_after desk_behind opening_desk
bare_after s k up j (left l) w is fair bare = λ dead. left_bare s k up j l w is (λ c. (fair c).0) dead (bare dead)
bare_after s k up j (started b) w is fair bare = λ dead. refl
bare_after s k up j (removed g) w is fair bare = λ dead. refl
bare_after s k up j (did d) w is fair bare = bare
bare_after s k up j idle w is fair bare = bare

along : (s : Slot) (k : ℕ → Option Sitter) (up : ℕ → Bool) (xs : List (ℕ × Turn)) → Knows s k up → AreTold s xs → ((c : ℕ) → AreFair c (k c) xs) → IsBare s
    → ((slot_from s xs).desk.next_id ≤ s.desk.next_id + length xs) × IsBare (slot_from s xs)
unfolding AreTold AreFair slot_from
along s k up [] w told fair bare = (omega arith, bare)
along s k up (x ∷ xs) w told fair bare =
    let one = ids_after s k up x.0 x.1 w told.0 (λ c. (fair c).0) in
    let more = along (slot_after x.1 s) (λ c. sitter_after c x.0 (move_of x.1) (k c)) (λ c. open_by (addressed_by c s x.1) (up c)) xs
    (knows_after s k up x.0 x.1 w told.0 (λ c. (fair c).0)) told.1 (λ c. (fair c).1) (bare_after s k up x.0 x.1 w told.0 (λ c. (fair c).0) bare) in
    let ids = more.0 in
    (omega (arith, one, ids), more.1)

unborn_bare : IsBare unborn
unfolding opening_desk
unborn_bare dead = refl

pub ids_are_few : IdsAreFew
unfolding opening_desk
ids_are_few list told fair = let a = (along unborn (λ c. None) (λ c. false) list unborn_knows told fair unborn_bare).0 in omega (arith, a)

pub nobody_without_bus : NobodyWithoutBus
nobody_without_bus list told fair = (along unborn (λ c. None) (λ c. false) list unborn_knows told fair unborn_bare).1
