-- NAME_ACQUIRE and NAME_RELEASE. The last refusals of an acquire are the registry's (`asked`): the
-- caller is the owner, has 64 claims, or may not take the name. The pool of an activator whose
-- messages are taken over may refuse it as well. A release has only refusals of the desk's own.
use Rattle.std.specs.Prelude.{ℕ, Bool, true, false, not, ◌&&◌, ◌||◌, List, [], ◌∷◌, ◌++◌, map, Option, Some, None, Result, Ok, Err, is_none, option_map, unwrap_or}
use Rattle.kd_types.specs.declared.flags.NameFlags.{NameFlags}
use Rattle.kd_types.specs.declared.refusal.Refusal.{Refusal}
use Rattle.kd_types.specs.declared.refusal.Refusal.TheVariants.{BadName, NotPermitted, NoSuchName, NotOwner}
use Rattle.kd_model.specs.Words.{some_of, first_that_holds}
use Rattle.kd_name.specs.Names.{is_name}
use Rattle.kd_wire.specs.declared.reply.Reply.TheVariants as reply
use Rattle.kd_registry.specs.declared.claim.Verdict.{Verdict}
use Rattle.kd_registry.specs.declared.claim.Verdict.TheVariants.{Owner, Queued}
use Rattle.kd_registry.specs.Claims.{owner, ranks, is_claim_of, asked, acquired, claim_of, released}
use Rattle.kd_replies.specs.declared.request.Request.{Request}
use Rattle.kd_replies.specs.Renaming.{renamed}
use Rattle.kd_acts.specs.State.{drain, settle}
use Rattle.kd_commands.specs.declared.conn.Conn.{Conn}
use Rattle.kd_commands.specs.State.{Desk, conn_of}
use Rattle.kd_commands.specs.Rights.{may_see_name, may_own}
use Rattle.kd_commands.specs.Audience.{owner_change}
use Rattle.kd_commands.specs.Plans.{Part, Plan, unless, itself, notices, announced}

-- ---- acquiring

-- the activator whose place is taken
abbrev pub activator_in : Verdict → Option ℕ
activator_in (Owner old activator) = activator
activator_in Queued = None

-- it waits behind the owner
abbrev pub is_queued : Verdict → Bool
is_queued (Owner old activator) = false
is_queued Queued = true

-- the seat of an activator, which is connected
abbrev pub seat_of_id : Desk → ℕ → ℕ
seat_of_id d id = unwrap_or (option_map (λ (c : Conn). c.seat) (conn_of d id)) 0

-- the messages that wait for an activator go to the new owner
abbrev pub handover : Desk → Conn → Option ℕ → List Part
handover d c None = []
handover d c (Some a) =
    record { seat = seat_of_id d a; act = drain } ∷ record { seat = c.seat; act = settle [] } ∷ []

-- and so do the requests that it was to answer
abbrev pub requests_handed : List Request → ℕ → Option ℕ → List Request
requests_handed qs id None = qs
requests_handed qs id (Some a) = map (renamed a id) qs

-- the desk after an acquire by the connection of this id
unfoldable pub with_claim : Desk → ℕ → NameFlags → List ℕ → Verdict → Desk
with_claim d id flags n v = record d {
  registry = acquired d.registry (claim_of id n flags) (Ok v);
  requests = requests_handed d.requests id (activator_in v);
}

-- all that may see the name are told of its new owner
abbrev pub acquire_plan : Desk → Conn → NameFlags → List ℕ → Verdict → Plan
acquire_plan d c flags n v =
    let after : Desk = with_claim d c.id flags n v in
    record {
      parts =
          handover d c (activator_in v) ++ notices after (owner_change d.registry after.registry n);
      reply = reply.NameAcquire (is_queued v);
      next = after;
      becomes = itself c;
    }

-- what the desk refuses, before the registry is asked
abbrev pub acquire_refusals : Desk → Conn → List ℕ → List (Bool × Refusal)
acquire_refusals d c n = (not (is_name n), BadName) ∷ (not (may_own d c n), NotPermitted) ∷ []

-- what the registry answers comes last
unfoldable pub name_acquire : Desk → Conn → NameFlags → List ℕ → Result Plan Refusal
name_acquire d c flags n =
    elim (first_that_holds (acquire_refusals d c n)) [
      | Some r ↦ Err r
      | None ↦ elim (asked d.registry c.id n flags) [
        | Err r ↦ Err r
        | Ok v ↦ Ok (acquire_plan d c flags n v)
      ]
    ]

-- ---- releasing

-- it owns the name or waits for it
abbrev pub has_claim : Desk → ℕ → List ℕ → Bool
has_claim d id n = some_of (is_claim_of id) (ranks d.registry n)

-- the desk after a release by the connection of this id
unfoldable pub without_claim : Desk → ℕ → List ℕ → Desk
without_claim d id n = record d { registry = released d.registry id n }

-- why nothing is released; who may not see a name isn't told that others own it
unfoldable pub release_refusals : Desk → Conn → List ℕ → List (Bool × Refusal)
release_refusals d c n =
    (not (is_name n), BadName)
    ∷ (
      is_none (owner d.registry n)
          || (not (has_claim d c.id n) && not (may_see_name d c n)),
      NoSuchName,
    )
    ∷ (not (has_claim d c.id n), NotOwner)
    ∷ []

-- all that may see the name are told of its next owner
unfoldable pub name_release : Desk → Conn → List ℕ → Result Plan Refusal
name_release d c n =
    let after : Desk = without_claim d c.id n in
    unless (release_refusals d c n)
    (announced c reply.NameRelease after (owner_change d.registry after.registry n))
