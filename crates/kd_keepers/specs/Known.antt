-- What the desk's list says of the desk and of keepers, once its entries are true and come from the
-- passes that have their seats and keep their endpoints.
use Rattle.std.specs.Prelude.{◌≡◌, ◌≢◌, ◌≤◌, ℕ, true, List, [], ◌∷◌, ◌++◌, Option, Some, None}
use Rattle.kd_commands.specs.declared.who.WhoKind.TheVariants as who
use Rattle.kd_hands.specs.Lists.{made_by}
use Rattle.kd_settled.specs.Owners.{is_there}
use Rattle.kd_settled.specs.Settled.{IsSettled}
use Rattle.kd_histories.specs.Turns.{Left, Turn, left}
use Rattle.kd_histories.specs.Slots.{AreTold, Slot, slot_of, unborn}
use Rattle.kd_histories.specs.Seats.{AreFair}
use Rattle.kd_keepers.specs.Keeping.{AreKept, Endpoint, change_of, ends, keeping, makes}

-- a list of the desk: each entry is true where it stands, and comes from its caller's pass
pub record IsOfDesk (list : List (ℕ × Turn)) : Type 0 where
  pub told : AreTold unborn list
  pub fair : (c : ℕ) → AreFair c None list
  pub kept : (x : Endpoint) → AreKept x None list

-- an endpoint is of this bus or of one before it, and of this one it is there
pub record HasEndpoint (s : Slot) (x : Endpoint) : Type 0 where
  pub past : x.generation ≤ s.generation
  pub there : x.generation ≡ s.generation → is_there s.desk.endpoints x.number ≡ true

-- the desk is settled, and has each endpoint that is kept
pub record IsHome (s : Slot) (k : Endpoint → Option ℕ) : Type 0 where
  pub settled : IsSettled s.desk
  pub kept : (x : Endpoint) (j : ℕ) → k x ≡ Some j → HasEndpoint s x

-- so it is along every such list
abbrev pub ListsAreHome : Type 0
ListsAreHome =
    (list : List (ℕ × Turn)) → IsOfDesk list → IsHome (slot_of list) (λ x. keeping x list)

-- where a keeper gave a command, its pass kept its endpoint, and it was there at the desk that the
-- command met
abbrev pub KeepersAreThere : Type 0
KeepersAreThere =
    (list more : List (ℕ × Turn)) (j n : ℕ) (l : Left) → IsOfDesk (list ++ (j, left l) ∷ more)
    → l.who.member ≡ who.Keeper n
    → (keeping (record { generation = (slot_of list).generation; number = n }) list ≡ Some j)
    × (is_there (slot_of list).desk.endpoints n ≡ true)

-- no two passes keep one endpoint: whoever makes one makes one that nobody keeps
abbrev pub KeepersAreApart : Type 0
KeepersAreApart =
    (list more : List (ℕ × Turn)) (j : ℕ) (x : Endpoint) (l : Left)
    → IsOfDesk (list ++ (j, left l) ∷ more) → change_of (left l) ≡ makes x → keeping x list ≡ None

-- and whoever ends one kept it
abbrev pub EndedByKeepers : Type 0
EndedByKeepers =
    (list more : List (ℕ × Turn)) (j : ℕ) (x : Endpoint) (l : Left)
    → IsOfDesk (list ++ (j, left l) ∷ more) → change_of (left l) ≡ ends x
    → keeping x list ≡ Some j

-- a pass's own entries tell whether it keeps an endpoint, whatever others did
abbrev pub OwnKeepersTell : Type 0
OwnKeepersTell =
    (x : Endpoint) (j i : ℕ) (list : List (ℕ × Turn)) → IsOfDesk list
    → keeping x (made_by j list) ≡ Some i → keeping x list ≡ Some j

-- and it keeps it through every entry of its own that doesn't end it
abbrev pub OwnKeepersStay : Type 0
OwnKeepersStay =
    (x : Endpoint) (j i : ℕ) (own : List (ℕ × Turn)) (e : Turn) → keeping x own ≡ Some i
    → change_of e ≢ ends x → (h : ℕ) × (keeping x (own ++ (j, e) ∷ []) ≡ Some h)
