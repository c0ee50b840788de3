-- What the values stand for, and the tie between the desk's list and the pools' lists.
use Rattle.std.specs.Prelude.{◌≡◌, ℕ, zero, suc, ◌<◌, ◌==◌, Bool, true, false, cond, List, [], ◌∷◌, ◌++◌, length, slice_index_or, Option, Some, None, is_some}
use Rattle.kd_hands.specs.declared.views.View.{View}
use Rattle.kd_hands.specs.Views.{part}
use Rattle.kd_turn.specs.Sight.{GateSight, Sight}
use Rattle.kd_hands.specs.Locks.{Histories}
use Rattle.kd_toy_bus.specs.declared.act.Slip.{Slip}
use Rattle.kd_toy_bus.specs.declared.act.Act.{Act}
use Rattle.kd_toy_bus.specs.declared.act.Act.TheVariants.{Join, Leave, Send, Raise, Close, Offer, Receive, Idle}
use Rattle.kd_toy_bus.specs.declared.locked.Locked.{Locked}
use Rattle.kd_toy_bus.specs.declared.locked.Locked.TheVariants as locked
use Rattle.kd_toy_bus.specs.declared.locked.Desk.{Desk}
use Rattle.kd_toy_bus.specs.declared.locked.Pool.{Pool}
use Rattle.kd_toy_bus.specs.declared.locked.Pool.TheVariants.{Closed, Free, Placed, Handed}

abbrev pub slip_act : Slip → Act
slip_act e = e.act.value

-- the pool after an offer, whose sweep had its slice or not
abbrev pub offered : Bool → Pool → Pool
offered swept Closed = Closed
offered swept Free = Placed
offered swept Placed = Placed
offered swept Handed = cond swept Placed Handed

-- the pool after a receive, which takes a slice that was offered
abbrev pub received : Pool → Pool
received Closed = Closed
received Free = Free
received Placed = Handed
received Handed = Handed

-- the pool after one act
abbrev pub pool_after : Act → Pool → Pool
pool_after Raise p = Free
pool_after Close p = Closed
pool_after (Offer swept) p = offered swept p
pool_after Receive p = received p
pool_after (Join s) p = p
pool_after (Leave s) p = p
pool_after (Send s) p = p
pool_after Idle p = p

-- the pool after its whole list
abbrev pub pool_from : Pool → List (ℕ × Slip) → Pool
pool_from p [] = p
pool_from p (x ∷ xs) = pool_from (pool_after (slip_act x.1) p) xs

abbrev pub pool_of : List (ℕ × Slip) → Pool
pool_of list = pool_from Closed list

-- the pass that has the seat c, after an act of the pass j
abbrev pub keeper_after : ℕ → ℕ → Act → Option ℕ → Option ℕ
keeper_after c j (Join s) k = cond (s == c) (Some j) k
keeper_after c j (Leave s) k = cond (s == c) None k
keeper_after c j (Send s) k = k
keeper_after c j Raise k = k
keeper_after c j Close k = k
keeper_after c j (Offer swept) k = k
keeper_after c j Receive k = k
keeper_after c j Idle k = k

abbrev pub kept_from : ℕ → Option ℕ → List (ℕ × Slip) → Option ℕ
kept_from c k [] = k
kept_from c k (x ∷ xs) = kept_from c (keeper_after c x.0 (slip_act x.1) k) xs

-- of a pool's lock, the pass that has its seat by the desk's list; nobody has numbers of the desk's
-- lock
abbrev pub keeper : ℕ → List (ℕ × Slip) → Option ℕ
keeper zero list = None
keeper (suc c) list = kept_from c None list

-- only a free seat is taken, and only its keeper gives it back
abbrev pub IsFair : ℕ → ℕ → Act → Option ℕ → Type 0
IsFair c j (Join s) k = (s == c) ≡ true → k ≡ None
IsFair c j (Leave s) k = (s == c) ≡ true → k ≡ Some j
IsFair c j (Send s) k = Unit {0}
IsFair c j Raise k = Unit {0}
IsFair c j Close k = Unit {0}
IsFair c j (Offer swept) k = Unit {0}
IsFair c j Receive k = Unit {0}
IsFair c j Idle k = Unit {0}

abbrev pub AreFair : ℕ → Option ℕ → List (ℕ × Slip) → Type 0
AreFair c k [] = Unit {0}
AreFair c k (x ∷ xs) = IsFair c x.0 (slip_act x.1) k × AreFair c (keeper_after c x.0 (slip_act x.1) k) xs

-- whether a pass has the seat c, by its own entries on the desk
abbrev pub sits : ℕ → Act → Bool → Bool
sits c (Join s) b = cond (s == c) true b
sits c (Leave s) b = cond (s == c) false b
sits c (Send s) b = b
sits c Raise b = b
sits c Close b = b
sits c (Offer swept) b = b
sits c Receive b = b
sits c Idle b = b

abbrev pub seated_from : ℕ → Bool → List (ℕ × Slip) → Bool
seated_from c b [] = b
seated_from c b (x ∷ xs) = seated_from c (sits c (slip_act x.1) b) xs

abbrev pub is_seated : ℕ → List (ℕ × Slip) → Bool
is_seated c own = seated_from c false own

-- what the desk's list asks of a pool, and what a pool's list has of it
pub data Errand : Type 0 where
  raised : Errand
  closed : Errand
  offer : Errand

-- the errand of one entry of the desk at the seat c
abbrev pub errand_at : ℕ → Act → List Errand
errand_at c (Join s) = cond (s == c) (raised ∷ []) []
errand_at c (Leave s) = cond (s == c) (closed ∷ []) []
errand_at c (Send s) = cond (s == c) (offer ∷ []) []
errand_at c Raise = []
errand_at c Close = []
errand_at c (Offer swept) = []
errand_at c Receive = []
errand_at c Idle = []

-- what the desk's list addresses to the seat c, in order
abbrev pub errands : ℕ → List (ℕ × Slip) → List Errand
errands c [] = []
errands c (x ∷ xs) = errand_at c (slip_act x.1) ++ errands c xs

-- the errand that one entry of a pool is
abbrev pub made_by_one : Act → List Errand
made_by_one Raise = raised ∷ []
made_by_one Close = closed ∷ []
made_by_one (Offer swept) = offer ∷ []
made_by_one (Join s) = []
made_by_one (Leave s) = []
made_by_one (Send s) = []
made_by_one Receive = []
made_by_one Idle = []

-- what a pool's list was offered, in order
abbrev pub made : List (ℕ × Slip) → List Errand
made [] = []
made (x ∷ xs) = made_by_one (slip_act x.1) ++ made xs

-- what the holder of the desk has made on the lock l since it took the desk
abbrev pub opened_at : ℕ → List (ℕ × ℕ × Slip) → List Errand
opened_at l [] = []
opened_at l (x ∷ xs) = cond (x.0 == l) (made_by_one (slip_act x.2)) [] ++ opened_at l xs

-- each pool was offered just what the desk's list addresses to it, but for what the holder of the
-- desk has made since
pub record Tie (h : Histories Slip) : Type 0 where
  pub addressed :
      (c : ℕ) → made (h.lists (suc c)) ≡ errands c (h.lists 0) ++ opened_at (suc c) h.opened
  pub fair : (c : ℕ) → AreFair c None (h.lists 0)

-- the desk knows of each seat whether it has a keeper
abbrev pub KnowsSeats : List (ℕ × Slip) → Desk → Type 0
KnowsSeats list desk =
    (length desk.taken ≡ 3)
    × ((c : ℕ) → c < 3 → slice_index_or desk.taken c false ≡ is_some (kept_from c None list))

abbrev pub stands : ℕ → List (ℕ × Slip) → Locked → Type 0
stands zero list x = (desk : Desk) × (x ≡ locked.Desk desk) × KnowsSeats list desk
stands (suc c) list x = x ≡ locked.Pool (pool_of list)

-- a closed pool lends every number, and one whose slice was received that number
abbrev pub pool_lends : Pool → ℕ → Type 0
pool_lends Closed n = Unit {0}
pool_lends Free n = ⊥
pool_lends Placed n = ⊥
pool_lends Handed n = n ≡ 200

abbrev pub pool_out : Pool → ℕ → Type 0
pool_out Closed n = ⊥
pool_out Free n = ⊥
pool_out Placed n = ⊥
pool_out Handed n = n ≡ 200

abbrev pub lends : ℕ → List (ℕ × Slip) → ℕ → Type 0
lends zero list n = ⊥
lends (suc c) list n = pool_lends (pool_of list) n

abbrev pub out : ℕ → List (ℕ × Slip) → ℕ → Type 0
out zero list n = ⊥
out (suc c) list n = pool_out (pool_of list) n

-- a receive puts the slice into the hand
abbrev pub hand_with : Act → List ℕ → List ℕ
hand_with Receive hand = 200 ∷ hand
hand_with (Join s) hand = hand
hand_with (Leave s) hand = hand
hand_with (Send s) hand = hand
hand_with Raise hand = hand
hand_with Close hand = hand
hand_with (Offer swept) hand = hand
hand_with Idle hand = hand

abbrev pub slip_hand : ℕ → Slip → List ℕ → List ℕ
slip_hand l e hand = hand_with (slip_act e) hand

-- giving a seat back empties the hand of its pool
abbrev pub emptied_by : Act → Option ℕ
emptied_by (Leave s) = Some (suc s)
emptied_by (Join s) = None
emptied_by (Send s) = None
emptied_by Raise = None
emptied_by Close = None
emptied_by (Offer swept) = None
emptied_by Receive = None
emptied_by Idle = None

abbrev pub empties : Slip → Option ℕ
empties e = emptied_by (slip_act e)

-- a pass of this gate of a desk and three pools, between two calls
pub record IsBetweenCalls (gate : GateSight) (p : Sight Slip) : Type 0 where
  pub same : p.gate ≡ gate.id
  pub four : gate.locks ≡ 4
  pub held : p.held ≡ []
  pub holds : (k : ℕ) → (part p.view k).holds ≡ false

-- the pass made one entry on the lock l, which says this
pub record Adds (l : ℕ) (a : Act) (v v' : View Slip) : Type 0 where
  pub entry : Slip
  pub says : slip_act entry ≡ a
  pub own : (part v' l).own ≡ (part v l).own ++ (v.name, entry) ∷ []
