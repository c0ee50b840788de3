-- The shares of sealed bytes that slices hold, by slice number.
use Rattle.std.specs.Prelude.{if◌then◌else◌, ◌≡◌, ◌&&◌, ℕ, Bool, false, not, List, [], ◌∷◌, get_or, length, set, Option, None}
use Rattle.kd_model.specs.declared.slice_no.TheConstants.{SLICES}
use Rattle.kd_model.specs.Words.{some_of}
use Rattle.kd_acts.specs.State.{slot_numbered, is_reserved}
use Rattle.kd_acts.specs.declared.slot.Slot.{Slot}

-- what each number has
abbrev pub Shares : Type 0
Shares = List (Option (List ℕ))

abbrev pub share_at : Shares → ℕ → Option (List ℕ)
share_at shares n = get_or shares n None

-- without the share of a number, if that goes
abbrev pub without_share : Bool → ℕ → Shares → Shares
without_share goes n shares = if goes then set shares n None else shares

-- without those of the slots that go
abbrev pub without_shares : (Slot → Bool) → List Slot → Shares → Shares
without_shares goes [] shares = shares
without_shares goes (s ∷ ss) shares =
    without_shares goes ss (without_share (goes s) s.number shares)

-- with the share that a number has elsewhere, if that goes
abbrev pub with_moved : Bool → ℕ → Shares → Shares → Shares
with_moved goes n from to = if goes then set to n (share_at from n) else to

-- with those of the slots that go
abbrev pub with_all_moved : (Slot → Bool) → List Slot → Shares → Shares → Shares
with_all_moved goes [] from to = to
with_all_moved goes (s ∷ ss) from to =
    with_all_moved goes ss (without_share (goes s) s.number from)
    (with_moved (goes s) s.number from to)

-- a slot of the number that isn't reserved may hold a share
abbrev pub may_share : ℕ → Slot → Bool
may_share n s = slot_numbered n s && not (is_reserved s)

-- there is room for a share of each number, and a number that no slot has, or one that is reserved,
-- has none
pub record AreShared (table : List Slot) (shares : Shares) : Type 0 where
  pub room : length shares ≡ SLICES
  pub own : (n : ℕ) → some_of (may_share n) table ≡ false → share_at shares n ≡ None
