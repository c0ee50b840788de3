-- Arrival numbers tell the order of arrival: what is published goes behind all that waits.
use Rattle.std.specs.Prelude.{◌≡◌, ◌<◌, ◌++◌, ℕ, true, [], ◌∷◌, Some, None, Option}
use Rattle.std.specs.List.{AllByRecursion}
use Rattle.kd_acts.specs.Lasting.{AreNumbered}
use Rattle.kd_acts.specs.State.{Act, Content, Hold, Pool, is_waiting, queue_of, slots}
use Rattle.kd_acts.specs.Steps.{after, filled, is_reserved_for}
use Rattle.kd_acts.specs.declared.slot.Slot.{Slot}

-- a slot that waits arrived before this number is given
abbrev pub IsBefore : ℕ → Slot → Type 0
IsBefore now s = is_waiting s ≡ true → s.arrival < now

-- all that wait in a pool arrived before its next arrival number is given
abbrev pub HaveArrived : Option Pool → Type 0
HaveArrived None = Unit {0}
HaveArrived (Some p) = AllByRecursion (IsBefore p.next_arrival) (slots p)

-- they did after each act as before it
abbrev pub ArrivalsStay : Type 0
ArrivalsStay =
    (h : Hold) (a : Act) → AreNumbered h.pool → HaveArrived h.pool → HaveArrived (after h a).pool

-- a message that is published into its slice waits behind all that waited
abbrev pub PublishesLast : Type 0
PublishesLast =
    (p : Pool) (n : ℕ) (c : Content) → AreNumbered (Some p) → HaveArrived (Some p)
    → is_reserved_for n c p ≡ true
    → queue_of (slots (filled n c p))
    ≡ queue_of (slots p) ++ record { number = n; priority = c.priority } ∷ []
