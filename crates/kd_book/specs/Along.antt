-- What is done to a book, one thing after another, and what holds along it.
use Rattle.std.specs.Prelude.{◌≡◌, ℕ, ◌<◌, true, List, [], ◌∷◌, Option, Some, None, Result, Ok, Err, is_some, is_none}
use Rattle.kd_types.specs.declared.refusal.Refusal.{Refusal}
use Rattle.kd_book.specs.declared.book.Found.{Found}
use Rattle.kd_book.specs.Buses.{Buses, no_buses, name_at, generation_at, is_odd, lowest_slot, make_answer, find_answer, with_bus, without_bus}

-- one entry of a book's list. A bus was made by a user in a slot, with the generation at which it
-- began; or it was refused. A bus was sought. A slot's bus of a generation was removed. Or nothing
-- was done.
pub data Noted : Type 0 where
  made : (uid : ℕ) (name : List ℕ) (slot generation : ℕ) → Noted
  refused : (uid : ℕ) (name : List ℕ) (why : Refusal) → Noted
  sought : (name : Option (List ℕ)) (answer : Result Found Refusal) → Noted
  removed : (slot generation : ℕ) → Noted
  idle : Noted

-- the book after it
abbrev pub book_after : Noted → Buses → Buses
book_after (made uid name slot generation) b = with_bus b slot generation name
book_after (refused uid name why) b = b
book_after (sought name answer) b = b
book_after (removed slot generation) b = without_bus b slot generation
book_after idle b = b

abbrev pub book_along : Buses → List Noted → Buses
book_along b [] = b
book_along b (x ∷ xs) = book_along (book_after x b) xs

-- whether it is what the book answers where it stands; a bus begins with an odd generation
abbrev pub IsNoted : Buses → Noted → Type 0
IsNoted b (made uid name slot generation) =
    (make_answer b uid name ≡ Ok slot) × (is_odd generation ≡ true)
IsNoted b (refused uid name why) = make_answer b uid name ≡ Err why
IsNoted b (sought name answer) = find_answer b name ≡ answer
IsNoted b (removed slot generation) = (slot < 4) × (is_odd generation ≡ true)
IsNoted b idle = Unit {0}

abbrev pub AreNoted : Buses → List Noted → Type 0
AreNoted b [] = Unit {0}
AreNoted b (x ∷ xs) = IsNoted b x × AreNoted (book_after x b) xs

-- the book of a domain after all that was done to it
abbrev pub book_of : List Noted → Buses
book_of xs = book_along no_buses xs

-- just the slots of odd generations have a bus
abbrev pub SlotsAreOdd : Type 0
SlotsAreOdd =
    (xs : List Noted) → AreNoted no_buses xs → (slot : ℕ) → slot < 4
    → is_some (name_at (book_of xs) slot) ≡ is_odd (generation_at (book_of xs) slot)

-- no two slots have buses of one name
abbrev pub NamesAreDistinct : Type 0
NamesAreDistinct =
    (xs : List Noted) → AreNoted no_buses xs → (i j : ℕ) (name : List ℕ)
    → name_at (book_of xs) i ≡ Some name → name_at (book_of xs) j ≡ Some name → i ≡ j

-- the slot that is found without a name has a bus, and no slot below it has one
abbrev pub LowestIsFound : Type 0
LowestIsFound =
    (b : Buses) (slot : ℕ) → lowest_slot b ≡ Some slot
    → (is_some (name_at b slot) ≡ true)
    × ((below : ℕ) → below < slot → name_at b below ≡ None)
