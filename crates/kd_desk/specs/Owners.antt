-- Names and their owners, as the code plans them.
use Rattle.std.specs.Prelude.{◌≡◌, ℕ, Bool, ◌==◌, true, false, List, [], ◌∷◌, Some, None, Result, Ok, Err}
use Rattle.kd_types.specs.declared.flags.NameFlags.{NameFlags}
use Rattle.kd_types.specs.declared.refusal.Refusal.{Refusal}
use Rattle.kd_types.specs.declared.refusal.Refusal.TheVariants.{NoSuchName, NotOwner}
use Rattle.kd_model.specs.Words.{first_that_holds}
use Rattle.kd_registry.specs.declared.claim.Verdict.{Verdict}
use Rattle.kd_registry.specs.declared.claim.Verdict.TheVariants.{Owner, Queued}
use Rattle.kd_registry.specs.Claims.{asked, owner_id, release_answer, released}
use Rattle.kd_commands.specs.declared.conn.Conn.{Conn}
use Rattle.kd_commands.specs.State.{Desk}
use Rattle.kd_commands.specs.Audience.{Subject, new_owner}
use Rattle.kd_commands.specs.Names.{acquire_refusals, release_refusals}

-- what is told of a name, where its new owner isn't the old one
abbrev pub moved : ℕ → ℕ → List ℕ → List Subject
moved old new n =
    elim (old == new) [
      | true ↦ []
      | false ↦ new_owner (record { name = n; old = old; new = new }) ∷ []
    ]

-- who owns the name after an acquire
abbrev pub owner_by : Verdict → ℕ → ℕ → ℕ
owner_by (Owner old activator) id before = id
owner_by Queued id before = before

-- the verdict on an acquire, or the first refusal that holds
unfoldable pub acquire_judged : Desk → Conn → NameFlags → List ℕ → Result Verdict Refusal
acquire_judged d c flags n =
    elim (first_that_holds (acquire_refusals d c n)) [
      | Some r ↦ Err r
      | None ↦ asked d.registry c.id n flags
    ]

-- who may not see a name isn't told that others own it
abbrev pub hidden : Refusal → Bool → Refusal
hidden NotOwner sees = elim sees [ true ↦ NotOwner | false ↦ NoSuchName ]
hidden r sees = r

-- the owner after a release, or the first refusal that holds
unfoldable pub release_judged : Desk → Conn → List ℕ → Result ℕ Refusal
release_judged d c n =
    elim (first_that_holds (release_refusals d c n)) [
      | Some r ↦ Err r
      | None ↦ Ok (owner_id (released d.registry c.id n) n)
    ]

-- the registry answers a release with this owner
abbrev pub IsOwnerThen : Desk → Conn → List ℕ → ℕ → Type 0
IsOwnerThen d c n owner = release_answer d.registry c.id n ≡ Ok owner
