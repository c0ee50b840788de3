-- The claims on names: who owns a name, and what an acquire, a release and an activator make of
-- them.
use Rattle.std.specs.Prelude.{ℕ, Bool, true, false, not, ◌&&◌, ◌||◌, List, [], ◌∷◌, ◌++◌, map, drop, length, Option, Some, None, Result, Ok, Err, ◌==◌, nat_le, option_map, unwrap_or, if◌then◌else◌}
use Rattle.kd_model.specs.Words.{same, text_below, is_empty, those, but_those, first, some_of, all_of, first_that_holds}
use Rattle.kd_types.specs.Flags.{has_bits}
use Rattle.kd_types.specs.declared.flags.NameFlags.{NameFlags}
use Rattle.kd_types.specs.declared.refusal.Refusal.{Refusal}
use Rattle.kd_types.specs.declared.refusal.Refusal.TheVariants.{BadName, AlreadyOwned, TooMany, NameTaken, NoSuchName, NotOwner}
use Rattle.kd_name.specs.Names.{is_name}
use Rattle.kd_registry.specs.declared.claim.Claim.{Claim}
use Rattle.kd_registry.specs.declared.claim.Stake.{Stake}
use Rattle.kd_registry.specs.declared.claim.Stake.TheVariants.{Ordinary, Activator}
use Rattle.kd_registry.specs.declared.claim.Verdict.{Verdict}
use Rattle.kd_registry.specs.declared.claim.Verdict.TheVariants.{Owner, Queued}

-- the flags of an ordinary claim; an activator's has none
abbrev pub flag_word : Stake → ℕ
flag_word (Ordinary flags) = flags.0
flag_word Activator = 0

-- a claim of an ordinary connection, not of an activator
abbrev pub is_ordinary_stake : Stake → Bool
is_ordinary_stake (Ordinary flags) = true
is_ordinary_stake Activator = false

abbrev pub is_ordinary_claim : Claim → Bool
is_ordinary_claim c = is_ordinary_stake c.stake

-- an activator's claim
abbrev pub is_placeholder : Claim → Bool
is_placeholder c = not (is_ordinary_claim c)

-- its owner lets others take its place
abbrev pub allows : Claim → Bool
allows c = has_bits (flag_word c.stake) 2

-- its connection waits in the queue where it isn't the owner
abbrev pub queues : Claim → Bool
queues c = has_bits (flag_word c.stake) 4

-- a claim on the name
abbrev pub is_on : List ℕ → Claim → Bool
is_on n c = same c.name n

-- an ordinary claim of the connection
abbrev pub is_claim_of : ℕ → Claim → Bool
is_claim_of id c = is_ordinary_claim c && c.id == id

-- the ordinary claims, by name and then by rank
abbrev pub claims : List Claim → List Claim
claims r = those is_ordinary_claim r

-- the activators, by name
abbrev pub activators : List Claim → List Claim
activators r = but_those is_ordinary_claim r

-- the claims on a name by rank, an activator's behind all others
abbrev pub ranks : List Claim → List ℕ → List Claim
ranks r n = those (is_on n) r

-- how many ordinary claims the connection has on the name: one or none
abbrev pub held_on : List Claim → ℕ → List ℕ → ℕ
held_on r id n = length (those (is_claim_of id) (ranks r n))

-- the first of some claims
abbrev pub head : List Claim → Option Claim
head [] = None
head (c ∷ cs) = Some c

-- the first claim, else the activator
abbrev pub owner : List Claim → List ℕ → Option Claim
owner r n =
    elim (first (is_on n) (claims r)) [ Some c ↦ Some c | None ↦ first (is_on n) (activators r) ]

-- an owner's id, and whether it is an activator
abbrev pub as_owner : Claim → ℕ × Bool
as_owner c = (c.id, is_placeholder c)

-- the owner's id, 0 for none
abbrev pub id_of : Option Claim → ℕ
id_of o = unwrap_or (option_map (λ (c : Claim). c.id) o) 0

abbrev pub owner_id : List Claim → List ℕ → ℕ
owner_id r n = id_of (owner r n)

-- how many ordinary claims a connection has, as owner or in a queue
abbrev pub held : List Claim → ℕ → ℕ
held r id = length (those (is_claim_of id) r)

-- the claims on lower names and on higher names
abbrev pub lower : List Claim → List ℕ → List Claim
lower r n = those (λ (c : Claim). text_below c.name n) r

abbrev pub higher : List Claim → List ℕ → List Claim
higher r n = those (λ (c : Claim). text_below n c.name) r

-- the claims with those on one name replaced
abbrev pub with_ranks : List Claim → List ℕ → List Claim → List Claim
with_ranks r n mine = lower r n ++ (mine ++ higher r n)

-- one claim stands before another: on a lower name, or on the same name, where it is ordinary and
-- of another connection or before the activator's
abbrev pub claim_stands_before : Claim → Claim → Bool
claim_stands_before c d =
    text_below c.name d.name
    || (same c.name d.name && is_ordinary_claim c && not (is_claim_of c.id d))

-- each claim stands before all later ones
abbrev pub ranked : List Claim → Bool
ranked [] = true
ranked (c ∷ cs) = all_of (claim_stands_before c) cs && ranked cs

-- Acquiring

-- what an acquire is answered, by the claims on the name: the first of six cases that holds.
-- `is_over` says that the connection has no claim on the name and can't have one more
abbrev pub judged : ℕ → NameFlags → Bool → List Claim → Result Verdict Refusal
judged id flags is_over mine =
    elim (head mine) [
      | None ↦ if is_over then Err (TooMany 64) else Ok (Owner 0 None)
      | Some o ↦ unwrap_or (first_that_holds (
          (o.id == id, Err AlreadyOwned)
          ∷ (is_over, Err (TooMany 64))
          ∷ (is_placeholder o, Ok (Owner o.id (Some o.id)))
          ∷ (allows o && has_bits flags.0 1, Ok (Owner o.id None))
          ∷ (has_bits flags.0 4, Ok Queued) ∷ [])) (Err NameTaken)
    ]

-- the connection has no claim on the name, and 64 on others
abbrev pub is_over : List Claim → ℕ → List ℕ → Bool
is_over r id n = not (some_of (is_claim_of id) (ranks r n)) && nat_le 64 (held r id)

abbrev pub asked : List Claim → ℕ → List ℕ → NameFlags → Result Verdict Refusal
asked r id n flags = if is_name n then judged id flags (is_over r id n) (ranks r n) else Err BadName

-- the owner hadn't asked to queue, so its claim goes where another takes its place
abbrev pub gives_way : List Claim → Bool
gives_way mine = elim (head mine) [ Some o ↦ is_ordinary_claim o && not (queues o) | None ↦ false ]

-- what stays behind a new owner
abbrev pub staying : List Claim → List Claim
staying mine = if gives_way mine then drop 1 mine else mine

-- x becomes the first, and an older claim of its connection goes
abbrev pub taken : Claim → List Claim → List Claim
taken x mine = x ∷ staying (but_those (is_claim_of x.id) mine)

-- an older claim of the connection keeps its place and takes the new flags; else x is the last,
-- before the activator
abbrev pub queued_claims : Claim → List Claim → List Claim
queued_claims x mine =
    if some_of (is_claim_of x.id) mine then map (λ c. if is_claim_of x.id c then x else c) mine
    else those is_ordinary_claim mine ++ x ∷ but_those is_ordinary_claim mine

-- the claim that an acquire makes
abbrev pub claim_of : ℕ → List ℕ → NameFlags → Claim
claim_of id n flags = record { name = n; id = id; stake = Ordinary flags }

-- the claims after an acquire by x, which was answered so
abbrev pub acquired : List Claim → Claim → Result Verdict Refusal → List Claim
acquired r x (Ok (Owner old activator)) = with_ranks r x.name (taken x (ranks r x.name))
acquired r x (Ok Queued) = with_ranks r x.name (queued_claims x (ranks r x.name))
acquired r x (Err why) = r

-- Releasing and leaving

-- without a connection's claim on a name
abbrev pub released : List Claim → ℕ → List ℕ → List Claim
released r id n = but_those (λ c. is_on n c && is_claim_of id c) r

-- who is first among the claims on a name without those of a connection, 0 for nobody
abbrev pub heir : List Claim → ℕ → ℕ
heir mine id = id_of (first (λ c. not (is_claim_of id c)) mine)

-- what a release is answered: the owner after it, 0 for none
abbrev pub release_answer : List Claim → ℕ → List ℕ → Result ℕ Refusal
release_answer r id n =
    unwrap_or (first_that_holds (
    (not (is_name n), Err BadName)
    ∷ (is_empty (ranks r n), Err NoSuchName)
    ∷ (not (some_of (is_claim_of id) (ranks r n)), Err NotOwner)
    ∷ [])) (Ok (owner_id (released r id n) n))

-- the claims after it
abbrev pub after_release : List Claim → ℕ → List ℕ → Result ℕ Refusal → List Claim
after_release r id n (Ok owner) = released r id n
after_release r id n (Err why) = r

-- without all that one connection has
abbrev pub left_by : List Claim → ℕ → List Claim
left_by r id = but_those (λ (c : Claim). c.id == id) r

-- Activators

-- what an activator is answered: a name has one at most
abbrev pub activator_answer : List Claim → List ℕ → Result (Unit {0}) Refusal
activator_answer r n =
    unwrap_or (first_that_holds (
    (not (is_name n), Err BadName)
    ∷ (some_of is_placeholder (ranks r n), Err NameTaken) ∷ [])) (Ok tt)

-- an activator's claim is the last on its name
abbrev pub after_activator : List Claim → ℕ → List ℕ → Result (Unit {0}) Refusal → List Claim
after_activator r id n (Ok done) =
    with_ranks r n (ranks r n ++ record { name = n; id = id; stake = Activator } ∷ [])
after_activator r id n (Err why) = r
