-- Numbers along lists of acts: how one comes to be handed or freed, and how long it stays so.
use Rattle.std.specs.Prelude.{◌≡◌, ◌≢◌, ℕ, ◌==◌, Bool, true, false, List, [], ◌∷◌, Some}
use Rattle.std.specs.List.{AllByRecursion}
use Rattle.kd_acts.specs.declared.slot.Phase.TheVariants.{Handed, Freed}
use Rattle.kd_acts.specs.Lasting.{AreNumbered}
use Rattle.kd_acts.specs.State.{Act, Hold, by_desk, close, free, offer, post, raise, receive, settle}
use Rattle.kd_acts.specs.Steps.{after}
use Rattle.kd_numbers.specs.Ways.{phase_in, waits}

abbrev pub is_receive : Act → Bool
is_receive (receive mode) = true
is_receive _ = false

-- a number comes to be handed by a receive alone, which finds it waiting
abbrev pub HandedByReceives : Type 0
HandedByReceives =
    (h : Hold) (a : Act) (n : ℕ) → AreNumbered h.pool → phase_in n h ≢ Some Handed
    → phase_in n (after h a) ≡ Some Handed → (is_receive a ≡ true) × (waits (phase_in n h) ≡ true)

-- and to be freed by its free alone, which finds it handed
abbrev pub FreedByFrees : Type 0
FreedByFrees =
    (h : Hold) (a : Act) (n : ℕ) → AreNumbered h.pool → phase_in n h ≢ Some Freed
    → phase_in n (after h a) ≡ Some Freed → (a ≡ free n) × (phase_in n h ≡ Some Handed)

-- ---- along lists

-- a pool after acts one after the other
unfoldable pub acted : Hold → List Act → Hold
acted h [] = h
acted h (a ∷ acts) = acted (after h a) acts

-- what may end that a number is handed: its free, and whatever ends its pool
abbrev pub ends_handing : ℕ → Act → Bool
ends_handing n (by_desk (raise size)) = true
ends_handing n (by_desk (close force)) = true
ends_handing n (free m) = m == n
ends_handing n _ = false

-- what may end that it is freed: a sweep, and whatever ends its pool
abbrev pub may_sweep : Act → Bool
may_sweep (by_desk (raise size)) = true
may_sweep (by_desk (close force)) = true
may_sweep (by_desk (offer user len source must content)) = true
may_sweep (by_desk (post image)) = true
may_sweep (by_desk (settle images)) = true
may_sweep _ = false

-- while none of these is done
abbrev pub AreNone : (Act → Bool) → List Act → Type 0
AreNone test acts = AllByRecursion (λ (a : Act). test a ≡ false) acts

-- a number that is handed stays so
abbrev pub HandedStays : Type 0
HandedStays =
    (h : Hold) (acts : List Act) (n : ℕ) → AreNumbered h.pool → phase_in n h ≡ Some Handed
    → AreNone (ends_handing n) acts → phase_in n (acted h acts) ≡ Some Handed

-- and so does one that is freed
abbrev pub FreedStays : Type 0
FreedStays =
    (h : Hold) (acts : List Act) (n : ℕ) → AreNumbered h.pool → phase_in n h ≡ Some Freed
    → AreNone may_sweep acts → phase_in n (acted h acts) ≡ Some Freed
