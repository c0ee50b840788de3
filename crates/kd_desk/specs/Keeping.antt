-- Endpoints, as the code judges them before it makes them.
use Rattle.std.specs.Prelude.{ℕ, Bool, not, ◌||◌, List, [], ◌∷◌, length, Some, None, Result, Ok, Err, is_some, is_none, nat_lt}
use Rattle.kd_types.specs.declared.creds.Creds.{Creds}
use Rattle.kd_types.specs.declared.refusal.Refusal.{Refusal}
use Rattle.kd_types.specs.declared.refusal.Refusal.TheVariants.{BadName, BadFlags, TooMany, NotPermitted, EndpointExists}
use Rattle.kd_model.specs.Words.{first_that_holds, some_of}
use Rattle.kd_name.specs.Names.{is_label}
use Rattle.kd_policy.specs.declared.entry.Entry.{Entry}
use Rattle.kd_policy.specs.Policy.{is_ill_named, has_star}
use Rattle.kd_endpoint.specs.Labels.{free_place, label_number}
use Rattle.kd_commands.specs.State.{Desk}
use Rattle.kd_commands.specs.Endpoints.{next_endpoint}
use Rattle.kd_commands.specs.Rights.{is_privileged}

-- the refusals of an endpoint of this label and with these entries
abbrev pub endpoint_tests : Desk → Creds → List ℕ → List Entry → List (Bool × Refusal)
endpoint_tests d creds label es =
    (not (is_label label) || some_of is_ill_named es, BadName)
    ∷ (some_of has_star es, BadFlags)
    ∷ (not (is_privileged d creds), NotPermitted)
    ∷ (is_some (label_number d.endpoints label), EndpointExists)
    ∷ (nat_lt 256 (length es), TooMany 256)
    ∷ (is_none (free_place d.endpoints), TooMany 8)
    ∷ []

-- its number, or the first refusal that holds
unfoldable pub endpoint_judged : Desk → Creds → List ℕ → List Entry → Result ℕ Refusal
endpoint_judged d creds label es =
    elim (first_that_holds (endpoint_tests d creds label es)) [
      | Some r ↦ Err r
      | None ↦ Ok (next_endpoint d)
    ]
