-- Along every list the desk is settled, and each keeper has its endpoint.
use Rattle.std.specs.Prelude.{◌≡◌, ℕ, ◌<◌, ◌+◌, Bool, false, List, [], ◌∷◌, ◌++◌, Option, Some, None, refl}
use Rattle.std.proofs.Common.{ap, ◌∙◌, subst, arith}
use Rattle.kd_settled.proofs.Always.{opens_settled}
use Rattle.kd_histories.specs.Turns.{Left, Turn, left, started, removed, did, idle}
use Rattle.kd_histories.specs.Slots.{AreTold, IsLeft, IsTold, Slot, desk_behind, next_odd, slot_after, slot_from, slot_of, unborn}
use Rattle.kd_histories.specs.Visits.{addressed, addressed_by}
use Rattle.kd_histories.specs.Seats.{AreFair, IsAt, IsFair, Sitter, move_of, sitter, sitter_after}
use Rattle.kd_histories.specs.Known.{Knows, open_by}
use Rattle.kd_histories.proofs.Knowing.{knows_after, lists_know, unborn_knows}
use Rattle.kd_keepers.specs.Keeping.{AreKept, Endpoint, IsKeeper, IsKeptAt, change_of, changed, ends, is_same, keeping, keeping_after, keeping_from}
use Rattle.kd_keepers.specs.Known.{EndedByKeepers, IsHome, IsOfDesk, KeepersAreApart, KeepersAreThere, ListsAreHome}
use Rattle.kd_keepers.proofs.Commands.{IsHomeOrOld, Keepings, at, ends_own, home_or_old, left_home, makes_new, same_refl}
use Rattle.kd_keepers.proofs.Desks.{behind_settled}
use Rattle.kd_keepers.proofs.Lists.{fair_cut, fair_first, kept_cut, kept_first, told_cut, told_first}

-- ---- any entry

-- whoever ends an endpoint keeps it
pub keeps_what_it_ends : (j : ℕ) (l : Left) (n : Keepings) (x : Endpoint) → ((x : Endpoint) → IsKeeper x l.generation j l.who.member (n x)) → changed l.generation l.who.member l.becomes ≡ ends x → n x ≡ Some j
keeps_what_it_ends j l n x kept ended =
    let own = ends_own l.generation l.who.member l.becomes x ended in
    let here : at l.generation x.number ≡ x = ap (λ (g : ℕ). at g x.number) own.1 in
    subst (λ m. IsKeeper x l.generation j m (n x)) own.0 (kept x) (ap (λ y. is_same y x) here ∙ same_refl x)

-- a bus goes: its endpoints are those of an older one
behind_home : (s : Slot) (n : Keepings) (g creator size hashes : ℕ) → s.generation < g → IsHome s n → IsHome (record { generation = g; desk = desk_behind s.desk creator size hashes }) n
behind_home s n g creator size hashes more h = record {
  settled = behind_settled s.desk creator size hashes;
  kept = λ x i q. let past = (h.kept x i q).past in record {
    past = omega (arith, past, more);
    there = λ now. absurd (omega (arith, past, more, now));
  };
}

odd_above : (g : ℕ) → g < next_odd g
odd_above g = omega arith

-- what is known of a slot where an entry stands
pub record Stands (s : Slot) (k : ℕ → Option Sitter) (up : ℕ → Bool) (n : Keepings) : Type 0 where
  pub knows : Knows s k up
  pub home : IsHome s n

pub home_after : (s : Slot) (k : ℕ → Option Sitter) (up : ℕ → Bool) (n : Keepings) (j : ℕ) (t : Turn) → Stands s k up n → IsTold s t
    → ((c : ℕ) → IsFair c j t (k c)) → ((x : Endpoint) → IsKeptAt x j t (n x)) → IsHome (slot_after t s) (λ x. keeping_after x j (change_of t) (n x))
unfolding IsTold IsFair IsKeptAt slot_after change_of
home_after s k up n j (left l) a is fair kept =
    left_home s n j l a.home is (home_or_old s k up n j l.generation l.who.member a.knows a.home is.generation (λ c. (fair c).0) kept)
home_after s k up n j (started b) a is fair kept = behind_home s n (next_odd s.generation) b.creator b.size b.hashes (odd_above s.generation) a.home
home_after s k up n j (removed g) a is fair kept = behind_home s n (s.generation + 1) s.desk.creator s.desk.rules.size s.desk.hashes (omega arith) a.home
home_after s k up n j (did d) a is fair kept = a.home
home_after s k up n j idle a is fair kept = a.home

pub stands_after : (s : Slot) (k : ℕ → Option Sitter) (up : ℕ → Bool) (n : Keepings) (j : ℕ) (t : Turn) → Stands s k up n → IsTold s t
    → ((c : ℕ) → IsFair c j t (k c)) → ((x : Endpoint) → IsKeptAt x j t (n x))
    → Stands (slot_after t s) (λ c. sitter_after c j (move_of t) (k c)) (λ c. open_by (addressed_by c s t) (up c)) (λ x. keeping_after x j (change_of t) (n x))
stands_after s k up n j t a is fair kept = record {
  knows = knows_after s k up j t a.knows is fair;
  home = home_after s k up n j t a is fair kept;
}

-- ---- any list

home_along : (s : Slot) (k : ℕ → Option Sitter) (up : ℕ → Bool) (n : Keepings) (es : List (ℕ × Turn)) → Stands s k up n → AreTold s es
    → ((c : ℕ) → AreFair c (k c) es) → ((x : Endpoint) → AreKept x (n x) es) → IsHome (slot_from s es) (λ x. keeping_from x (n x) es)
unfolding AreTold AreFair AreKept slot_from keeping_from
home_along s k up n [] a told fair kept = a.home
home_along s k up n (e ∷ es) a told fair kept =
    home_along (slot_after e.1 s) (λ c. sitter_after c e.0 (move_of e.1) (k c)) (λ c. open_by (addressed_by c s e.1) (up c)) (λ x. keeping_after x e.0 (change_of e.1) (n x)) es
    (stands_after s k up n e.0 e.1 a told.0 (λ c. (fair c).0) (λ x. (kept x).0)) told.1 (λ c. (fair c).1) (λ x. (kept x).1)

pub unborn_stands : Stands unborn (λ c. None) (λ c. false) (λ x. None)
unborn_stands = record {
  knows = unborn_knows;
  home = record { settled = opens_settled 0 8 1; kept = λ x i q. absurd (none i q) };
}
  where
    none : (i : ℕ) → ◌≡◌ {A = Option ℕ} None (Some i) → ⊥
    none i q = cc

pub lists_are_home : ListsAreHome
lists_are_home list it = home_along unborn (λ c. None) (λ c. false) (λ x. None) list unborn_stands it.told it.fair it.kept

-- ---- the entry of a command

pub desk_cut : (list more : List (ℕ × Turn)) → IsOfDesk (list ++ more) → IsOfDesk list
desk_cut list more it = record {
  told = (told_cut unborn list more it.told).0;
  fair = λ c. (fair_cut c None list more (it.fair c)).0;
  kept = λ x. (kept_cut x None list more (it.kept x)).0;
}

-- what is true where it stands
pub record Entered (list : List (ℕ × Turn)) (j : ℕ) (l : Left) : Type 0 where
  pub of_desk : IsOfDesk list
  pub is : IsLeft (slot_of list) l
  pub fair : (c : ℕ) → IsAt c l.generation j l.who.member (sitter c list)
  pub kept : (x : Endpoint) → IsKeeper x l.generation j l.who.member (keeping x list)

pub entered_so : (list more : List (ℕ × Turn)) (j : ℕ) (l : Left) → IsOfDesk (list ++ (j, left l) ∷ more) → Entered list j l
unfolding IsTold IsFair IsKeptAt
entered_so list more j l it =
    let rest : List (ℕ × Turn) = (j, left l) ∷ more in
    record {
      of_desk = desk_cut list rest it;
      is = told_first (slot_of list) (j, left l) more (told_cut unborn list rest it.told).1;
      fair = λ c. (fair_first c (sitter c list) (j, left l) more (fair_cut c None list rest (it.fair c)).1).0;
      kept = λ x. kept_first x (keeping x list) (j, left l) more (kept_cut x None list rest (it.kept x)).1;
    }

pub entered_by : (list : List (ℕ × Turn)) (j : ℕ) (l : Left) → Entered list j l → IsHomeOrOld (slot_of list).desk l.who.member
entered_by list j l it =
    home_or_old (slot_of list) (λ c. sitter c list) (λ c. open_by (addressed c unborn list) false) (λ x. keeping x list) j l.generation l.who.member
    (lists_know list it.of_desk.told it.of_desk.fair) (lists_are_home list it.of_desk) it.is.generation it.fair it.kept

pub keepers_are_there : KeepersAreThere
keepers_are_there list more j m l whole its =
    let it = entered_so list more j l whole in
    let x : Endpoint = at (slot_of list).generation m in
    let keeps : keeping x list ≡ Some j =
    subst (λ (g : ℕ). keeping (at g m) list ≡ Some j) it.is.generation
    (subst (λ w. IsKeeper (at l.generation m) l.generation j w (keeping (at l.generation m) list)) its (it.kept (at l.generation m)) (same_refl (at l.generation m))) in
    (keeps, ((lists_are_home list it.of_desk).kept x j keeps).there refl)

pub keepers_are_apart : KeepersAreApart
unfolding change_of
keepers_are_apart list more j x l whole made =
    let it = entered_so list more j l whole in
    makes_new (slot_of list) (λ x. keeping x list) j l (lists_are_home list it.of_desk) it.is (entered_by list j l it) x made

pub ended_by_keepers : EndedByKeepers
unfolding change_of
ended_by_keepers list more j x l whole ended =
    let it = entered_so list more j l whole in
    keeps_what_it_ends j l (λ x. keeping x list) x it.kept ended
