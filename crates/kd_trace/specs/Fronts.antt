-- What a reader finds at the front of bytes: an event, an answer, or both.
use Rattle.std.specs.Prelude.{◌≡◌, ◌⊎◌, ℕ, ◌+◌, ◌<◌, ◌≤◌, List, length, take, drop}
use Rattle.kd_item.specs.Spelling.{Fits}
use Rattle.kd_world.specs.Legal.{Event}
use Rattle.kd_core.specs.Running.{event_of}
use Rattle.kd_trace.specs.declared.outcome.Outcome.{Outcome}
use Rattle.kd_trace.specs.declared.pairs.PairRead.{PairRead}
use Rattle.kd_trace.specs.Items.{IsOutcome, MayStand, caller_of, outcome_entry}
use Rattle.kd_trace.specs.Trace.{HasNoEvent, HasNoOutcome, IsPair, Pair, event_bytes, outcome_bytes, pair_bytes}

-- the first bytes, so many, are an event
pub record BeginsWithEvent (bytes : List ℕ) (e : Event) (size : ℕ) : Type 0 where
  pub stands : MayStand e
  pub spelled : take size bytes ≡ event_bytes e
  pub inside : size ≤ length bytes
  pub some : 0 < size

-- they are an answer to this caller
pub record BeginsWithOutcome (n : ℕ) (bytes : List ℕ) (o : Outcome) (size : ℕ) : Type 0 where
  pub stands : IsOutcome n o
  pub fits : Fits (outcome_entry n o)
  pub spelled : take size bytes ≡ outcome_bytes n o
  pub inside : size ≤ length bytes
  pub some : 0 < size

-- they are a pair
pub record BeginsWithPair (bytes : List ℕ) (p : Pair) (size : ℕ) : Type 0 where
  pub pair : IsPair p
  pub spelled : take size bytes ≡ pair_bytes p
  pub inside : size ≤ length bytes
  pub some : 0 < size

-- behind the event at the front no answer begins, at this place
pub record BreaksBehindEvent (bytes : List ℕ) (at place : ℕ) : Type 0 where
  pub event : Event
  pub size : ℕ
  pub front : BeginsWithEvent bytes event size
  pub place_is : place ≡ at + size
  pub here : HasNoOutcome (caller_of event) (drop size bytes)

-- no pair stands at the front of bytes that begin at a place: the item that isn't one begins here
abbrev pub BreaksFrom : List ℕ → ℕ → ℕ → Type 0
BreaksFrom bytes at place =
    ((place ≡ at) × HasNoEvent bytes) ⊎ BreaksBehindEvent bytes at place

-- the pair that was read
abbrev pub pair_of : PairRead → Pair
pair_of p = record { event = event_of p.event; outcome = p.outcome }
