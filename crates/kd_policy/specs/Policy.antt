-- The policy of a bus: whose entries there are, and which of them make up a list.
use Rattle.std.specs.Prelude.{ℕ, Bool, true, false, not, ◌&&◌, ◌==◌, nat_lt, List, [], ◌∷◌, ◌++◌, length, flat_map, position, slice_set, Option, Some, None}
use Rattle.kd_types.specs.declared.creds.Level.{Level}
use Rattle.kd_types.specs.declared.refusal.Refusal.{Refusal}
use Rattle.kd_types.specs.declared.refusal.Refusal.TheVariants.{BadName, BadFlags, TooMany}
use Rattle.kd_types.specs.Words.{but_those, some_of, first, first_that_holds}
use Rattle.kd_name.specs.Patterns.{is_pattern, is_wildcard}
use Rattle.kd_policy.specs.declared.entry.Entry.{Entry}
use Rattle.kd_policy.specs.declared.owner.Owner.{Owner}
use Rattle.kd_policy.specs.declared.owner.Owner.TheVariants as owner
use Rattle.kd_policy.specs.declared.owner.Scope.{Scope}
use Rattle.kd_policy.specs.declared.owner.Scope.TheVariants as scope
use Rattle.kd_policy.specs.Level.{level_of}
use Rattle.kd_policy.specs.Order.{by_pattern}

-- an owner and its entries
pub record Held : Type 0 where
  pub owner : Owner
  pub entries : List Entry

-- the owners in the order in which they first came, each once, with their entries by their patterns
abbrev pub Policy : Type 0
Policy = List Held

abbrev pub same_owner : Owner → Owner → Bool
same_owner (owner.Conn a) (owner.Conn b) = a == b
same_owner (owner.Endpoint a) (owner.Endpoint b) = a == b
same_owner _ _ = false

abbrev pub is_held_by : Owner → Held → Bool
is_held_by o h = same_owner h.owner o

-- the bus's list is made of the entries of its connections, an endpoint's list of its own ones
abbrev pub is_in : Scope → Owner → Bool
is_in scope.Bus (owner.Conn id) = true
is_in (scope.Endpoint a) (owner.Endpoint b) = a == b
is_in _ _ = false

-- the entries of one owner that stand in a list
abbrev pub part_of : Scope → Held → List Entry
part_of s h = elim (is_in s h.owner) [ true ↦ h.entries | false ↦ [] ]

-- the list of the bus or of an endpoint
abbrev pub list_of : Scope → Policy → List Entry
list_of s p = flat_map (part_of s) p

-- the level that the list grants on a name
unfoldable pub level_in : Policy → Scope → List ℕ → ℕ → ℕ → Option Level
level_in p s name uid gid = level_of (list_of s p) name uid gid

abbrev pub is_endpoint : Owner → Bool
is_endpoint (owner.Conn id) = false
is_endpoint (owner.Endpoint number) = true

-- the entry's pattern is no pattern
abbrev pub is_ill_named : Entry → Bool
is_ill_named e = not (is_pattern e.pattern)

-- the entry's pattern has a star
abbrev pub has_star : Entry → Bool
has_star e = is_wildcard e.pattern

-- why the owner can't have these entries, as the first of these that holds
unfoldable pub put_refusal : Owner → List Entry → Option Refusal
put_refusal o es =
    first_that_holds
    ((some_of is_ill_named es, BadName)
    ∷ (is_endpoint o && some_of has_star es, BadFlags)
    ∷ (nat_lt 256 (length es), TooMany 256)
    ∷ [])

-- where the owner stands
abbrev pub place_of : Policy → Owner → Option ℕ
place_of p o = position (is_held_by o) p

-- the entries that the owner has
abbrev pub entries_of : Policy → Owner → List Entry
entries_of p o = elim (first (is_held_by o) p) [ Some h ↦ h.entries | None ↦ [] ]

-- the policy with this in place of what its owner had; a new owner comes last
abbrev pub with_held : Policy → Held → Policy
with_held p h = elim (place_of p h.owner) [ Some i ↦ slice_set p i h | None ↦ p ++ h ∷ [] ]

-- the policy after the entries were put, or not
unfoldable pub after_put : Policy → Owner → List Entry → Policy
after_put p o es =
    elim (put_refusal o es) [
      | Some refusal ↦ p
      | None ↦ with_held p (record { owner = o; entries = by_pattern es })
    ]

-- the policy without the owner and its entries
unfoldable pub after_drop : Policy → Owner → Policy
after_drop p o = but_those (is_held_by o) p
