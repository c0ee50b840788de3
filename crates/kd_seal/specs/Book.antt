-- The sealed payloads of a bus, and how far each connection has counted.
use Rattle.std.specs.Prelude.{ℕ, Bool, true, false, ◌&&◌, ◌+◌, List, [], ◌∷◌, ◌++◌, length, slice_range, Option, Some, None, nat_le, nat_lt, ◌==◌}
use Rattle.std.specs.declared.result.Result.{Result}
use Rattle.std.specs.declared.result.Result.TheVariants.{Ok, Err}
use Rattle.kd_model.specs.Words.{but_those, first, first_that_holds, some_of, those}
use Rattle.kd_types.specs.declared.refusal.Refusal.{Refusal}
use Rattle.kd_types.specs.declared.refusal.Refusal.TheVariants.{NoSuchSeal, TooLong, TooMany}
use Rattle.kd_seal.specs.declared.seals.Counter.{Counter}
use Rattle.kd_seal.specs.declared.seals.Seal.{Seal}
use Rattle.kd_seal.specs.declared.seals.TheConstants.{SEALS_OF_ONE, LONGEST}

-- the seals in the order of sealing, and for each connection that has sealed the number of its next
-- seal
pub record SealBook : Type 0 where
  pub seals : List Seal
  pub counters : List Counter

-- nothing is sealed, and nobody has counted
abbrev pub no_seals : SealBook
no_seals = record { seals = []; counters = [] }

-- the seal is the connection's
abbrev pub is_seal_of : ℕ → Seal → Bool
is_seal_of id s = s.id == id

-- the seal is the connection's, and has this number
abbrev pub is_seal : ℕ → ℕ → Seal → Bool
is_seal id number s = s.id == id && s.number == number

-- the counter is the connection's
abbrev pub counts : ℕ → Counter → Bool
counts id c = c.id == id

-- whether the connection has sealed
abbrev pub has_counted : SealBook → ℕ → Bool
has_counted b id = some_of (counts id) b.counters

-- what the connection's counter tells; numbers count from 1
abbrev pub next_in : List Counter → ℕ → ℕ
next_in cs id = elim (first (counts id) cs) [ Some c ↦ c.next | None ↦ 1 ]

-- the number of the connection's next seal
abbrev pub next_number : SealBook → ℕ → ℕ
next_number b id = next_in b.counters id

-- whether the connection has as many seals as one may have
abbrev pub has_most : SealBook → ℕ → Bool
has_most b id = nat_le SEALS_OF_ONE (length (those (is_seal_of id) b.seals))

-- why the connection can't seal so many bytes
abbrev pub seal_refusal : SealBook → ℕ → ℕ → Option Refusal
seal_refusal b id len =
    first_that_holds (
    (nat_lt LONGEST len, TooLong) ∷ (has_most b id, TooMany SEALS_OF_ONE) ∷ [])

-- the number that the connection's next seal gets, or why it gets none
abbrev pub seal_answer : SealBook → ℕ → ℕ → Result ℕ Refusal
seal_answer b id len =
    elim (seal_refusal b id len) [ Some why ↦ Err why | None ↦ Ok (next_number b id) ]

-- the bytes are sealed under the connection's next number, which counts on
abbrev pub with_seal : SealBook → ℕ → List ℕ → SealBook
with_seal b id bytes = record {
  seals = b.seals ++ record { id = id; number = next_number b id; content = bytes } ∷ [];
  counters =
      but_those (counts id) b.counters ++ record { id = id; next = next_number b id + 1 } ∷ [];
}

-- the bytes of the connection's seal, if there is one of this number
abbrev pub seal_bytes : SealBook → ℕ → ℕ → Option (List ℕ)
seal_bytes b id number =
    elim (first (is_seal id number) b.seals) [ Some s ↦ Some s.content | None ↦ None ]

-- so many bytes from a start on, if they are all there
abbrev pub seal_range : List ℕ → ℕ → ℕ → Option (List ℕ)
seal_range bytes start len =
    elim (nat_le (start + len) (length bytes)) [
      | true ↦ Some (slice_range bytes start (start + len))
      | false ↦ None
    ]

-- the bytes of a range of the connection's seal; none where there is no such seal, or the range
-- isn't inside it
abbrev pub shared : SealBook → ℕ → ℕ → ℕ → ℕ → Option (List ℕ)
shared b id number start len =
    elim (seal_bytes b id number) [ Some bytes ↦ seal_range bytes start len | None ↦ None ]

-- the connection's seal of this number is gone, and its number is never used again
abbrev pub unsealed : SealBook → ℕ → ℕ → SealBook
unsealed b id number = record b { seals = but_those (is_seal id number) b.seals }

-- whether the connection has a seal of this number, or why it can't be unsealed
abbrev pub unseal_answer : SealBook → ℕ → ℕ → Result (Unit {0}) Refusal
unseal_answer b id number =
    elim (some_of (is_seal id number) b.seals) [ true ↦ Ok tt | false ↦ Err NoSuchSeal ]

-- the connection has left: its seals and its counter are gone
abbrev pub seals_without_conn : SealBook → ℕ → SealBook
seals_without_conn b id = record {
  seals = but_those (is_seal_of id) b.seals;
  counters = but_those (counts id) b.counters;
}
