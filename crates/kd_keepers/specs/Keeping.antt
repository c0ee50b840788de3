-- Who keeps which endpoint, along the desk's list.
use Rattle.std.specs.Prelude.{◌≡◌, ℕ, ◌==◌, ◌&&◌, Bool, true, cond, List, [], ◌∷◌, Option, Some, None}
use Rattle.kd_commands.specs.declared.who.WhoKind.{WhoKind}
use Rattle.kd_commands.specs.declared.who.WhoKind.TheVariants as who
use Rattle.kd_histories.specs.Turns.{Turn, left, started, removed, did, idle}

-- an endpoint: of which of the slot's buses it is, and its number there
pub record Endpoint : Type 0 where
  pub generation : ℕ
  pub number : ℕ

abbrev pub is_same : Endpoint → Endpoint → Bool
is_same x y = x.generation == y.generation && x.number == y.number

-- what an entry does to who keeps an endpoint
pub data Change : Type 0 where
  makes : (x : Endpoint) → Change
  ends : (x : Endpoint) → Change
  unchanged : Change

-- whoever was no keeper and is one made its endpoint
abbrev pub making : ℕ → WhoKind → Change
making generation (who.Keeper n) = makes (record { generation = generation; number = n })
making generation _ = unchanged

-- whoever was a keeper and is none any more ended its endpoint
abbrev pub ending : Endpoint → WhoKind → Change
ending x (who.Keeper n) = unchanged
ending x _ = ends x

-- what whoever was the one and is the other then did
abbrev pub changed : ℕ → WhoKind → WhoKind → Change
changed generation who.Fresh now = making generation now
changed generation (who.Conn id s) now = making generation now
changed generation (who.Keeper n) now =
    ending (record { generation = generation; number = n }) now
changed generation (who.Old s) now = making generation now

-- no other entry does: the endpoints of a bus that goes are gone with its generation
unfoldable pub change_of : Turn → Change
change_of (left l) = changed l.generation l.who.member l.becomes
change_of _ = unchanged

-- which pass keeps the endpoint after a change by the pass j
abbrev pub keeping_after : Endpoint → ℕ → Change → Option ℕ → Option ℕ
keeping_after x j (makes y) k = cond (is_same y x) (Some j) k
keeping_after x j (ends y) k = cond (is_same y x) None k
keeping_after x j unchanged k = k

-- and along a list
unfoldable pub keeping_from : Endpoint → Option ℕ → List (ℕ × Turn) → Option ℕ
keeping_from x k [] = k
keeping_from x k (e ∷ es) = keeping_from x (keeping_after x e.0 (change_of e.1) k) es

-- which pass keeps it; of a pass's own entries alone, whether it does by these
abbrev pub keeping : Endpoint → List (ℕ × Turn) → Option ℕ
keeping x list = keeping_from x None list

-- ---- commands of a keeper come from the pass that made its endpoint

-- where the caller is the keeper of this endpoint, this pass keeps it
abbrev pub IsKeeper : Endpoint → ℕ → ℕ → WhoKind → Option ℕ → Type 0
IsKeeper x generation j (who.Keeper n) k =
    is_same (record { generation = generation; number = n }) x ≡ true → k ≡ Some j
IsKeeper x generation j who.Fresh k = Unit {0}
IsKeeper x generation j (who.Conn id s) k = Unit {0}
IsKeeper x generation j (who.Old s) k = Unit {0}

-- an entry that the pass j made, where this pass keeps the endpoint
unfoldable pub IsKeptAt : Endpoint → ℕ → Turn → Option ℕ → Type 0
IsKeptAt x j (left l) k = IsKeeper x l.generation j l.who.member k
IsKeptAt x j (started b) k = Unit {0}
IsKeptAt x j (removed generation) k = Unit {0}
IsKeptAt x j (did d) k = Unit {0}
IsKeptAt x j idle k = Unit {0}

-- each entry is so where it stands
unfoldable pub AreKept : Endpoint → Option ℕ → List (ℕ × Turn) → Type 0
AreKept x k [] = Unit {0}
AreKept x k (e ∷ es) =
    IsKeptAt x e.0 e.1 k × AreKept x (keeping_after x e.0 (change_of e.1) k) es
