-- What a sweep along the table knows of the book.
use Rattle.std.specs.Prelude.{◌≡◌, ◌<◌, ◌≤◌, ◌+◌, ℕ, Bool, true, false, List, [], ◌∷◌, ◌++◌, cond, drop, length, map, not, refl, take, if◌then◌else◌, IsTrue}
use Rattle.std.proofs.Common.{ap, append_assoc, get_or, sym, ◌∙◌}
use Rattle.std.proofs.lemmas.List.{append-nil, drop_all, map-append, take_all}
use Rattle.std.proofs.lemmas.List.Elements.{filter_more}
use Rattle.kd_model.proofs.Lists.{rest_at}
use Rattle.kd_model.proofs.Places.{number_in_middle, taken_out}
use Rattle.kd_model.specs.Slices.{Book, IsSound, has_number, is_placed, without_slice}
use Rattle.kd_model.specs.Words.{but_those}
use Rattle.kd_acts.specs.State.{placed_of}
use Rattle.kd_acts.specs.declared.slot.Slot.{Slot}

-- of the first slots those that go are out of the book, and all others are in it
pub record Sweeps (goes : Slot → Bool) (size : ℕ) (slots : List Slot) (i : ℕ) (book : Book) : Type 0 where
  pub size_stays : book.size ≡ size
  pub left : book.slices ≡ map placed_of (but_those goes (take i slots) ++ drop i slots)
  pub sound : IsSound book

here : (goes : Slot → Bool) (slots : List Slot) (i : ℕ) (s : Slot) → i < length slots → s ≡ get_or slots i s → map placed_of (but_those goes (take i slots) ++ drop i slots) ≡ map placed_of (but_those goes (take i slots)) ++ placed_of s ∷ map placed_of (drop (i + 1) slots)
here goes slots i s h e = ap (λ r. map placed_of (but_those goes (take i slots) ++ r)) (rest_at slots i s h e) ∙ map-append placed_of (but_those goes (take i slots)) (s ∷ drop (i + 1) slots)

-- the slot in hand is placed
pub is_in_book : (goes : Slot → Bool) (size : ℕ) (slots : List Slot) (i : ℕ) (s : Slot) (book : Book) → i < length slots → s ≡ get_or slots i s → Sweeps goes size slots i book → IsTrue (is_placed s.number book)
is_in_book goes size slots i s book h e a = rw (a.left ∙ here goes slots i s h e) (number_in_middle (placed_of s) (map placed_of (but_those goes (take i slots))) (map placed_of (drop (i + 1) slots)))

next : (goes : Slot → Bool) (slots : List Slot) (i : ℕ) (s : Slot) → i < length slots → s ≡ get_or slots i s → but_those goes (take (i + 1) slots) ≡ but_those goes (take i slots) ++ cond (not (goes s)) (s ∷ []) []
next goes slots i s h e = filter_more (λ x. not (goes x)) slots i s h ∙ ap (λ (x : Slot). but_those goes (take i slots) ++ cond (not (goes x)) (x ∷ []) []) (sym e)

pub sweeps_on : (goes : Slot → Bool) (size : ℕ) (slots : List Slot) (i : ℕ) (s : Slot) (book after : Book) → i < length slots → s ≡ get_or slots i s → Sweeps goes size slots i book → after ≡ (if goes s then without_slice s.number book else book) → IsSound after → Sweeps goes size slots (i + 1) after
sweeps_on goes size slots i s book after h e a f sound = go (goes s) refl
  where
    go : (b : Bool) → goes s ≡ b → Sweeps goes size slots (i + 1) after
    go true g =
        let front : List Slot = but_those goes (take i slots) in
        let rest : List Slot = drop (i + 1) slots in
        let gone : after ≡ without_slice s.number book = f ∙ ap (λ b. if b then without_slice s.number book else book) g in
        let was : book.slices ≡ map placed_of front ++ placed_of s ∷ map placed_of rest = a.left ∙ here goes slots i s h e in
        let out = taken_out (placed_of s) (map placed_of front) (map placed_of rest) (rw was at a.sound.distinct) in
        let kept : but_those goes (take (i + 1) slots) ≡ front = next goes slots i s h e ∙ ap (λ b. front ++ cond (not b) (s ∷ []) []) g ∙ append-nil front in
        record {
          size_stays = ap (λ (b : Book). b.size) gone ∙ a.size_stays;
          left = ap (λ (b : Book). b.slices) gone ∙ ap (but_those (has_number s.number)) was ∙ out ∙ sym (map-append placed_of front rest) ∙ ap (λ xs. map placed_of (xs ++ rest)) (sym kept);
          sound = sound;
        }
    go false g =
        let front : List Slot = but_those goes (take i slots) in
        let rest : List Slot = drop (i + 1) slots in
        let same : after ≡ book = f ∙ ap (λ b. if b then without_slice s.number book else book) g in
        let kept : but_those goes (take (i + 1) slots) ≡ front ++ s ∷ [] = next goes slots i s h e ∙ ap (λ b. front ++ cond (not b) (s ∷ []) []) g in
        record {
          size_stays = ap (λ (b : Book). b.size) same ∙ a.size_stays;
          left = ap (λ (b : Book). b.slices) same ∙ a.left ∙ ap (λ xs. map placed_of (front ++ xs)) (rest_at slots i s h e) ∙ ap (map placed_of) (sym (append_assoc front (s ∷ []) rest)) ∙ ap (λ xs. map placed_of (xs ++ rest)) (sym kept);
          sound = sound;
        }

-- at the end only those are left that stay
pub swept_all : (goes : Slot → Bool) (size : ℕ) (slots : List Slot) (i : ℕ) (book : Book) → length slots ≤ i → Sweeps goes size slots i book → book ≡ record { size = size; slices = map placed_of (but_those goes slots) }
swept_all goes size slots i book h a =
    let left : book.slices ≡ map placed_of (but_those goes slots) =
    a.left ∙ ap (λ xs. map placed_of (but_those goes (take i slots) ++ xs)) (drop_all i slots h) ∙ ap (map placed_of) (append-nil (but_those goes (take i slots))) ∙ ap (λ xs. map placed_of (but_those goes xs)) (take_all i slots h) in
    let P : ℕ → Book = λ n. record { size = n; slices = book.slices } in
    ap P a.size_stays ∙ ap (λ xs. record { size = size; slices = xs }) left

pub none_stay : (slots : List Slot) → but_those (λ _. true) slots ≡ []
none_stay [] = refl
none_stay (s ∷ ss) = none_stay ss
