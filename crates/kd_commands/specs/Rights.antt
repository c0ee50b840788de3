-- The four rights, by credentials, policy and the names that somebody owns.
use Rattle.std.specs.Prelude.{ℕ, Bool, false, ◌&&◌, ◌||◌, List, [], ◌∷◌, ◌==◌, nat_le, Option, Some, None}
use Rattle.kd_types.specs.declared.creds.Creds.{Creds}
use Rattle.kd_types.specs.declared.creds.Level.{Level}
use Rattle.kd_types.specs.declared.creds.Level.TheVariants.{See, Talk, Own}
use Rattle.kd_model.specs.Words.{some_of}
use Rattle.kd_policy.specs.Level.{rank}
use Rattle.kd_policy.specs.Policy.{Policy, level_in}
use Rattle.kd_policy.specs.declared.owner.Scope.{Scope}
use Rattle.kd_policy.specs.declared.owner.Scope.TheVariants as scope
use Rattle.kd_registry.specs.Changes.{names_of}
use Rattle.kd_commands.specs.declared.conn.Conn.{Conn}
use Rattle.kd_commands.specs.State.{Desk}

-- a greater level includes the lesser ones
abbrev pub reaches : Level → Option Level → Bool
reaches wanted None = false
reaches wanted (Some l) = nat_le (rank wanted) (rank l)

-- the list grants the level on the name
abbrev pub grants : Policy → Scope → Level → Creds → List ℕ → Bool
grants p s wanted creds n = reaches wanted (level_in p s n creds.uid creds.gid)

-- on the default endpoint always, on a custom one where its list grants the level on one of the
-- names
abbrev pub endpoint_grants : Desk → Conn → Level → List (List ℕ) → Bool
endpoint_grants d a wanted ns =
    a.endpoint == 0 || some_of (grants d.policy (scope.Endpoint a.endpoint) wanted a.creds) ns

-- the bus's list grants the level on one of the names
abbrev pub bus_grants : Desk → Creds → Level → List (List ℕ) → Bool
bus_grants d creds wanted ns = some_of (grants d.policy scope.Bus wanted creds) ns

-- by its own credentials, or as the user who made the bus
abbrev pub is_privileged : Desk → Creds → Bool
is_privileged d c = c.privileged || c.uid == d.creator

-- that somebody owns the name, and who
unfoldable pub may_see_name : Desk → Conn → List ℕ → Bool
may_see_name d a n = endpoint_grants d a See (n ∷ [])

-- whoever it is, by what the other owns
unfoldable pub may_see : Desk → Conn → ℕ → Bool
may_see d a b = endpoint_grants d a See (names_of d.registry b)

-- by the bus's list and by the endpoint's
unfoldable pub may_own : Desk → Conn → List ℕ → Bool
may_own d a n =
    (is_privileged d a.creds || bus_grants d a.creds Own (n ∷ []))
    && endpoint_grants d a Own (n ∷ [])

-- an endpoint's list binds privileged callers and callers of one user as well
unfoldable pub may_talk : Desk → Conn → Conn → Bool
may_talk d a b =
    (is_privileged d a.creds || a.creds.uid == b.creds.uid
    || bus_grants d a.creds Talk (names_of d.registry b.id))
    && endpoint_grants d a Talk (names_of d.registry b.id)
