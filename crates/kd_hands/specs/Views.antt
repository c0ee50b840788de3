-- What a pass knows, and what each step makes of it.
use Rattle.std.specs.Prelude.{ℕ, ◌+◌, ◌^◌, true, false, List, [], ◌∷◌, ◌++◌, length, replicate, slice_index_or, slice_set, Some, None}
use Rattle.kd_hands.specs.declared.views.Part.{Part}
use Rattle.kd_hands.specs.declared.views.View.{View}
use Rattle.kd_hands.specs.Lists.{hand_without, tabled}
use Rattle.kd_hands.specs.Locks.{opened_after}

module _ {E : Type 0} where
  -- a lock of which nothing is known
  abbrev pub blank : Part E
  blank = record { seen = []; own = []; ticket = None; holds = false; swept = [] }

  -- what the pass knows of the lock l
  abbrev pub part : View E → ℕ → Part E
  part v l = slice_index_or v.parts l blank

  -- its hand of the lock l
  abbrev pub hand : View E → ℕ → List ℕ
  hand v l = slice_index_or v.hands l []

  -- the view, which knows this of the lock l
  abbrev pub with_part : View E → ℕ → Part E → View E
  with_part v l p = record v { parts = slice_set v.parts l p }

  -- the view of a pass that has seen nothing
  abbrev pub opening_view : ℕ → ℕ → View E
  opening_view locks name = record {
    name = name;
    parts = replicate locks blank;
    hands = replicate locks [];
    opened = [];
    turns = 0;
    steps = 0;
    made = 0;
    live = true;
    back = [];
  }

  -- the view after a ticket was drawn
  abbrev pub drawn : ℕ → ℕ → View E → View E
  drawn l n v = record (with_part v l (record (part v l) { ticket = Some n })) {
    turns = v.turns + 1;
  }

  -- after it was served, where the lock's list is this one
  abbrev pub holding : ℕ → List (ℕ × E) → View E → View E
  holding l list v = with_part v l (record (part v l) { seen = list; holds = true })

  -- what the pass knows of the lock l once it passed it on with the entry e
  abbrev pub part_passed : ℕ → E → View E → Part E
  part_passed l e v = record {
    seen = (part v l).seen ++ (v.name, e) ∷ [];
    own = (part v l).own ++ (v.name, e) ∷ [];
    ticket = None;
    holds = false;
    swept = [];
  }

  -- the view after the lock was passed on
  abbrev pub passed_on : (ℕ → E → (ℕ → List ℕ) → ℕ → List ℕ) → ℕ → E → View E → View E
  passed_on after l e v =
      record (with_part v l (part_passed l e v)) {
        hands = tabled (length v.hands) (after l e (hand v));
        opened = opened_after l (v.name, e) (part v 0).holds v.opened;
      }

  -- the view after a number was marked, and after a mark word was swept
  abbrev pub marked : ℕ → ℕ → View E → View E
  marked l n v = record (with_part v l (part v l)) {
    hands = slice_set v.hands l (hand_without n (hand v l));
    steps = v.steps + 1;
  }

  abbrev pub cleared : ℕ → ℕ × ℕ → View E → View E
  cleared l word v = with_part v l (record (part v l) { swept = (part v l).swept ++ word ∷ [] })

  -- the view of the pass that was made last, which has seen nothing
  abbrev pub last_view : ℕ → ℕ → View E
  last_view locks name = record (opening_view locks name) { made = name + 1 }

  -- the two views after a split: the new pass is now the last
  abbrev pub parent : View E → View E
  parent v = record v { made = 0 }

  abbrev pub child : View E → View E
  child v = last_view (length v.parts) v.made

  -- a view that was taken in, and the one that took it in
  abbrev pub spent : View E
  spent = record {
    name = 0;
    parts = [];
    hands = [];
    opened = [];
    turns = 2 ^ 43;
    steps = 0;
    made = 0;
    live = false;
    back = [];
  }

  abbrev pub both : View E → View E → View E
  both v w = record v { back = (w.name, w.parts) ∷ v.back }
