-- Offers and their publishings, along a pool's list.
use Rattle.std.specs.Prelude.{◌≡◌, ℕ, ◌==◌, ◌&&◌, true, cond, List, [], ◌∷◌, Option, Some, None}
use Rattle.kd_acts.specs.State.{Act, Answer, Content, Visit, by_desk, offer, placed, publish, slice}
use Rattle.kd_hands.specs.Lists.{made_by}
use Rattle.kd_world.specs.State.{closed_pool}
use Rattle.kd_histories.specs.Turns.{Turn, left, started, removed, did, idle}
use Rattle.kd_histories.specs.Pools.{AreDone, hold_of}

-- ---- each publishing that isn't gone is of the last offer before it that reserved its number: by
-- the same pass, of the content of that offer, and none other between the two

-- a number that was reserved and isn't published: by which pass, in which generation, for what
pub record Due : Type 0 where
  pub pass : ℕ
  pub generation : ℕ
  pub content : Content

-- what is due of the number n after a visit of the pass j in the generation g
abbrev pub due_by_visit : ℕ → ℕ → ℕ → Visit → Answer → Option Due → Option Due
due_by_visit n j g (offer user len source must c) (slice m) k =
    cond (m == n) (Some (record { pass = j; generation = g; content = c })) k
due_by_visit n j g _ _ k = k

-- and after a publishing
abbrev pub due_by_publish : ℕ → ℕ → Answer → Option Due → Option Due
due_by_publish n m placed k = cond (m == n) None k
due_by_publish n m _ k = k

-- no other act changes it
abbrev pub due_by_act : ℕ → ℕ → ℕ → Act → Answer → Option Due → Option Due
due_by_act n j g (by_desk v) a k = due_by_visit n j g v a k
due_by_act n j g (publish generation m c) a k = due_by_publish n m a k
due_by_act n j g _ a k = k

-- what is due of n after an entry
unfoldable pub due_by : ℕ → ℕ → Turn → Option Due → Option Due
due_by n j (did d) k = due_by_act n j d.generation d.act d.answer k
due_by n j (left l) k = k
due_by n j (started b) k = k
due_by n j (removed generation) k = k
due_by n j idle k = k

-- and along a list
unfoldable pub due_from : ℕ → Option Due → List (ℕ × Turn) → Option Due
due_from n k [] = k
due_from n k (x ∷ xs) = due_from n (due_by n x.0 x.1 k) xs

-- what is due of n at the end of a list
abbrev pub due : ℕ → List (ℕ × Turn) → Option Due
due n list = due_from n None list

-- an act of the pass j pairs with what is due of the number n
abbrev pub IsPairedAct : ℕ → ℕ → Act → Answer → Option Due → Type 0
IsPairedAct n j (publish generation m c) placed k =
    (m == n) ≡ true → k ≡ Some (record { pass = j; generation = generation; content = c })
IsPairedAct n j _ _ k = Unit {0}

-- so does an entry
unfoldable pub IsPaired : ℕ → ℕ → Turn → Option Due → Type 0
IsPaired n j (did d) k = IsPairedAct n j d.act d.answer k
IsPaired n j (left l) k = Unit {0}
IsPaired n j (started b) k = Unit {0}
IsPaired n j (removed generation) k = Unit {0}
IsPaired n j idle k = Unit {0}

-- so does each where it stands
unfoldable pub ArePaired : ℕ → Option Due → List (ℕ × Turn) → Type 0
ArePaired n k [] = Unit {0}
ArePaired n k (x ∷ xs) = IsPaired n x.0 x.1 k × ArePaired n (due_by n x.0 x.1 k) xs

-- ---- what a pass has yet to publish, by its own entries alone: of the number n that it was given
-- in the generation g, the content

-- a visit adds it
abbrev pub owed_by_visit : ℕ → ℕ → ℕ → Visit → Answer → Option Content → Option Content
owed_by_visit g n now (offer user len source must c) (slice m) k =
    cond (m == n && now == g) (Some c) k
owed_by_visit g n now _ _ k = k

-- its publishing takes it, placed or gone
abbrev pub owed_by_act : ℕ → ℕ → ℕ → Act → Answer → Option Content → Option Content
owed_by_act g n now (by_desk v) a k = owed_by_visit g n now v a k
owed_by_act g n now (publish generation m c) a k = cond (generation == g && m == n) None k
owed_by_act g n now _ a k = k

-- what is owed after an entry
unfoldable pub owed_by : ℕ → ℕ → Turn → Option Content → Option Content
owed_by g n (did d) k = owed_by_act g n d.generation d.act d.answer k
owed_by g n (left l) k = k
owed_by g n (started b) k = k
owed_by g n (removed generation) k = k
owed_by g n idle k = k

-- and along a list
unfoldable pub owed_from : ℕ → ℕ → Option Content → List (ℕ × Turn) → Option Content
owed_from g n k [] = k
owed_from g n k (x ∷ xs) = owed_from g n (owed_by g n x.1 k) xs

-- what is owed at the end of a list
abbrev pub owed : ℕ → ℕ → List (ℕ × Turn) → Option Content
owed g n own = owed_from g n None own

-- ---- what a pass owes by its own entries is due, while the pool has that generation

-- so it is in every list
abbrev pub OwedIsDue : Type 0
OwedIsDue =
    (j g n : ℕ) (c : Content) (list : List (ℕ × Turn)) → AreDone closed_pool list
    → ArePaired n None list → owed g n (made_by j list) ≡ Some c → g ≡ (hold_of list).generation
    → due n list ≡ Some (record { pass = j; generation = g; content = c })
