-- Which bytes are a trace: an event and what it was answered, in turn.
use Rattle.std.specs.Prelude.{◌≡◌, ◌≢◌, ◌⊎◌, ℕ, ◌+◌, List, [], ◌++◌, length, map}
use Rattle.std.specs.List.{flat_map, AllByRecursion}
use Rattle.kd_item.specs.Spelling.{Fits, spelling}
use Rattle.kd_world.specs.Legal.{Event}
use Rattle.kd_trace.specs.declared.outcome.Outcome.{Outcome}
use Rattle.kd_trace.specs.Items.{IsOutcome, MayStand, caller_of, event_entry, outcome_entry}

-- an event and what it was answered
pub record Pair : Type 0 where
  pub event : Event
  pub outcome : Outcome

-- the item of an event, and that of an answer to a caller
abbrev pub event_bytes : Event → List ℕ
event_bytes e = spelling (event_entry e)

abbrev pub outcome_bytes : ℕ → Outcome → List ℕ
outcome_bytes n o = spelling (outcome_entry n o)

abbrev pub pair_bytes : Pair → List ℕ
pair_bytes p = event_bytes p.event ++ outcome_bytes (caller_of p.event) p.outcome

-- the one spelling of a list of pairs
abbrev pub trace_bytes : List Pair → List ℕ
trace_bytes ps = flat_map pair_bytes ps

abbrev pub events : List Pair → List Event
events ps = map (λ (p : Pair). p.event) ps

-- a pair that a trace can have, right or not; the size of an answer fits its word
pub record IsPair (p : Pair) : Type 0 where
  pub event : MayStand p.event
  pub outcome : IsOutcome (caller_of p.event) p.outcome
  pub size : Fits (outcome_entry (caller_of p.event) p.outcome)

abbrev pub ArePairs : List Pair → Type 0
ArePairs ps = AllByRecursion IsPair ps

-- the bytes are these pairs
pub record IsTrace (bytes : List ℕ) (ps : List Pair) : Type 0 where
  pub spelled : bytes ≡ trace_bytes ps
  pub each : ArePairs ps

-- no item of an event begins the bytes
abbrev pub HasNoEvent : List ℕ → Type 0
HasNoEvent bytes =
    (e : Event) (rest : List ℕ) → MayStand e → bytes ≡ event_bytes e ++ rest → ⊥

-- no item of an answer to this caller begins them
abbrev pub HasNoOutcome : ℕ → List ℕ → Type 0
HasNoOutcome n bytes =
    (o : Outcome) (rest : List ℕ) → IsOutcome n o → Fits (outcome_entry n o)
    → bytes ≡ outcome_bytes n o ++ rest → ⊥

-- behind whole pairs there are more bytes, and no event begins them
pub record BreaksAtEvent (bytes : List ℕ) (at : ℕ) : Type 0 where
  pub before : List Pair
  pub rest : List ℕ
  pub each : ArePairs before
  pub parts : bytes ≡ trace_bytes before ++ rest
  pub place : at ≡ length (trace_bytes before)
  pub more : rest ≢ []
  pub here : HasNoEvent rest

-- behind whole pairs and an event no answer begins what is left, if anything is
pub record BreaksAtOutcome (bytes : List ℕ) (at : ℕ) : Type 0 where
  pub before : List Pair
  pub event : Event
  pub rest : List ℕ
  pub each : ArePairs before
  pub stands : MayStand event
  pub parts : bytes ≡ trace_bytes before ++ (event_bytes event ++ rest)
  pub place : at ≡ length (trace_bytes before) + length (event_bytes event)
  pub here : HasNoOutcome (caller_of event) rest

-- the first item that isn't one begins here, or an answer is missing at the end
abbrev pub BreaksAt : List ℕ → ℕ → Type 0
BreaksAt bytes at = BreaksAtEvent bytes at ⊎ BreaksAtOutcome bytes at
