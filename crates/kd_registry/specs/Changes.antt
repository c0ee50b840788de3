-- Which names a connection owns, what is listed, and who owns what when connections leave.
use Rattle.std.specs.Prelude.{◌≡◌, ℕ, Bool, false, ◌&&◌, List, [], ◌∷◌, map, Some, None, ◌==◌, if◌then◌else◌}
use Rattle.std.specs.Bool.{beq}
use Rattle.kd_model.specs.Words.{same, those, but_those, first, contains}
use Rattle.kd_types.specs.Flags.{has_bits}
use Rattle.kd_types.specs.declared.flags.ListFlags.{ListFlags}
use Rattle.kd_registry.specs.declared.claim.Claim.{Claim}
use Rattle.kd_types.specs.declared.owner_change.OwnerChange.{OwnerChange}
use Rattle.kd_registry.specs.declared.claim.Listed.{Listed}
use Rattle.kd_registry.specs.Claims.{is_ordinary_claim, is_placeholder, owner, owner_id, left_by}

-- two claims on a name are one: a connection has one of each kind at most
abbrev pub is_same_claim : Claim → Claim → Bool
is_same_claim a b = a.id == b.id && beq (is_ordinary_claim a) (is_ordinary_claim b)

-- it is the owner's claim on its name
abbrev pub is_owners : List Claim → Claim → Bool
is_owners r c = elim (owner r c.name) [ Some o ↦ is_same_claim o c | None ↦ false ]

abbrev pub name_in : Claim → List ℕ
name_in c = c.name

-- the names that a connection owns, in byte order
abbrev pub names_of : List Claim → ℕ → List (List ℕ)
names_of r id = map name_in (those (λ (c : Claim). c.id == id && is_owners r c) r)

-- Listing

-- 4 for an activator, 1 for another owner, 2 in the queue
abbrev pub claim_standing : List Claim → Claim → ℕ
claim_standing r c = if is_placeholder c then 4 else if is_owners r c then 1 else 2

-- owners are asked for by the flag 2, the queue by 8, activators by 4
abbrev pub is_wanted : ℕ → ℕ → Bool
is_wanted flags claim_standing =
    if claim_standing == 4 then has_bits flags 4
    else if claim_standing == 1 then has_bits flags 2 else has_bits flags 8

abbrev pub row : List Claim → Claim → Listed
row r c = record { id = c.id; standing = claim_standing r c; name = c.name }

-- the claims that are asked for, by name and rank, an activator behind the queue
abbrev pub listing : List Claim → ListFlags → List Listed
listing r flags = map (row r) (those (λ c. is_wanted flags.0 (claim_standing r c)) r)

-- Leaving

-- without all that some connections have
abbrev pub claims_without : List ℕ → List Claim → List Claim
claims_without ids r = but_those (λ (c : Claim). contains c.id ids) r

-- a name whose owner leaves, and who owns it then
abbrev pub change : List ℕ → List Claim → Claim → OwnerChange
change ids r c = record { name = c.name; old = c.id; new = owner_id (claims_without ids r) c.name }

-- the owner changes if all of them leave at once, by name
abbrev pub changes_without : List Claim → List ℕ → List OwnerChange
changes_without r ids =
    map (change ids r) (those (λ (c : Claim). contains c.id ids && is_owners r c) r)

-- the owner of a name by a list of changes: the one that it tells, else the old one
abbrev pub owner_told : List OwnerChange → List ℕ → ℕ → ℕ
owner_told cs n old =
    elim (first (λ (c : OwnerChange). same c.name n) cs) [ Some c ↦ c.new | None ↦ old ]

-- one connection after the other leaves
abbrev pub left_by_each : List Claim → List ℕ → List Claim
left_by_each r [] = r
left_by_each r (id ∷ ids) = left_by_each (left_by r id) ids

-- the same ids, in any order
abbrev pub SameIds : List ℕ → List ℕ → Type 0
SameIds xs ys = (id : ℕ) → contains id xs ≡ contains id ys

-- however the connections leave, the owners are those that the changes tell
abbrev pub TellsOwners : List Claim → List ℕ → List OwnerChange → Type 0
TellsOwners r ids cs =
    (order : List ℕ) → SameIds order ids → (n : List ℕ)
    → owner_id (left_by_each r order) n ≡ owner_told cs n (owner_id r n)
