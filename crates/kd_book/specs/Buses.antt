-- The book of buses: what stands in its four slots, and what it answers.
use Rattle.std.specs.Prelude.{ℕ, Bool, false, not, ◌+◌, ◌%◌, ◌==◌, if◌then◌else◌, List, [], ◌∷◌, Option, Some, None, Result, Ok, Err, is_some, is_none, unwrap_or, position, slice_set, slice_index_or}
use Rattle.kd_types.specs.declared.refusal.Refusal.{Refusal}
use Rattle.kd_types.specs.declared.refusal.Refusal.TheVariants.{BadName, WrongPrefix, BusExists, TooMany, NoSuchBus}
use Rattle.kd_model.specs.Words.{same, first_that_holds}
use Rattle.kd_name.specs.Names.{is_label}
use Rattle.kd_name.specs.BusNames.{has_prefix}
use Rattle.kd_book.specs.declared.book.Found.{Found}

-- of the slots 0 to 3, the generation, and the name of its bus where it has one
pub record Buses : Type 0 where
  pub generations : List ℕ
  pub names : List (Option (List ℕ))

-- the book of a new domain
abbrev pub no_buses : Buses
no_buses = record {
  generations = 0 ∷ 0 ∷ 0 ∷ 0 ∷ [];
  names = None ∷ None ∷ None ∷ None ∷ [];
}

abbrev pub generation_at : Buses → ℕ → ℕ
generation_at b slot = slice_index_or b.generations slot 0

abbrev pub name_at : Buses → ℕ → Option (List ℕ)
name_at b slot = slice_index_or b.names slot None

-- a slot's generation is odd while it has a bus
abbrev pub is_odd : ℕ → Bool
is_odd generation = generation % 2 == 1

-- whether the slot's bus has this name
abbrev pub is_called : List ℕ → Option (List ℕ) → Bool
is_called name None = false
is_called name (Some own) = same own name

-- the slot of the bus with this name
unfoldable pub named_slot : Buses → List ℕ → Option ℕ
named_slot b name = position (is_called name) b.names

-- the lowest slot that has a bus
unfoldable pub lowest_slot : Buses → Option ℕ
lowest_slot b = position is_some b.names

-- the lowest slot that has none
unfoldable pub free_slot : Buses → Option ℕ
free_slot b = position is_none b.names

-- why a user can't make a bus of this name, as the first of these that holds
unfoldable pub make_refusal : Buses → ℕ → List ℕ → Option Refusal
make_refusal b uid name =
    first_that_holds
    ((not (is_label name), BadName)
    ∷ (not (has_prefix uid name), WrongPrefix)
    ∷ (is_some (named_slot b name), BusExists)
    ∷ (is_none (free_slot b), TooMany 4)
    ∷ [])

-- what making the bus answers: a refusal, or the lowest slot without a bus
unfoldable pub make_answer : Buses → ℕ → List ℕ → Result ℕ Refusal
make_answer b uid name =
    elim (make_refusal b uid name) [
      | Some refusal ↦ Err refusal
      | None ↦ Ok (unwrap_or (free_slot b) 0)
    ]

-- the slot that is sought: of the bus with the name, or without a name the lowest with a bus
abbrev pub sought_slot : Buses → Option (List ℕ) → Option ℕ
sought_slot b None = lowest_slot b
sought_slot b (Some name) = named_slot b name

-- what a search answers: the slot and its generation, or that there is no such bus
unfoldable pub find_answer : Buses → Option (List ℕ) → Result Found Refusal
find_answer b name =
    elim (sought_slot b name) [
      | Some slot ↦ Ok (record { slot = slot; generation = generation_at b slot })
      | None ↦ Err (NoSuchBus 0)
    ]

-- the book with a bus in the slot
unfoldable pub with_bus : Buses → ℕ → ℕ → List ℕ → Buses
with_bus b slot generation name = record {
  generations = slice_set b.generations slot generation;
  names = slice_set b.names slot (Some name);
}

-- the book without the slot's bus of this generation; nothing changes where the slot has another
unfoldable pub without_bus : Buses → ℕ → ℕ → Buses
without_bus b slot generation =
    if generation_at b slot == generation
    then record {
      generations = slice_set b.generations slot (generation + 1);
      names = slice_set b.names slot None;
    }
    else b
