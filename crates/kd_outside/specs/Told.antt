-- What is told of the outside: links, clocks, listeners and binders.
use Rattle.std.specs.Prelude.{◌≡◌, ℕ, ◌+◌, ◌-◌, ◌≤◌, Bool, true, false, not, ◌&&◌, List, [], ◌∷◌, ◌++◌, nat_lt, option_map, if◌then◌else◌, IfSome}
use Rattle.std.specs.declared.option.Option.{Option}
use Rattle.kd_types.specs.declared.session_end.SessionEnd.{SessionEnd}
use Rattle.std.specs.declared.option.Option.TheVariants.{None, Some}

-- one side of a link: the bytes that are known of it, and how often it has failed
pub record Side : Type 0 where
  pub bytes : Option (List ℕ)
  pub faults : ℕ

-- the other side of what is a source or a sink alone
abbrev pub no_side : Side
no_side = record { bytes = None; faults = 0 }

-- a link: what is left to be read, and what was written
pub record LinkState : Type 0 where
  pub reading : Side
  pub writing : Side

-- known things, and one more behind them
abbrev pub with_last : {X : Type 0} → Option (List X) → X → Option (List X)
with_last known x = option_map (λ xs. xs ++ x ∷ []) known

-- known things, and one more before them
abbrev pub with_first : {X : Type 0} → X → Option (List X) → Option (List X)
with_first x known = option_map (λ xs. x ∷ xs) known

-- a link that came back to its listener, with its session's end
pub record Served : Type 0 where
  pub link : LinkState
  pub end : SessionEnd

-- a clock: the moments to come, the latest that it told, and how often it has failed
pub record ClockState : Type 0 where
  pub coming : Option (List ℕ)
  pub latest : ℕ
  pub faults : ℕ

-- a listener: the links to come, those that came back, how many it gave, how many came back, and
-- how often it has failed
pub record ListenerState : Type 0 where
  pub coming : Option (List LinkState)
  pub back : Option (List Served)
  pub gave : ℕ
  pub returned : ℕ
  pub faults : ℕ

-- a listener that came back to its binder, with the path of its bind
pub record Bound : Type 0 where
  pub path : List ℕ
  pub listener : ListenerState

-- a binder: the listeners to come and those that came back, how many it gave and how many came
-- back; the clocks to come and those that came back, and how many of them are out; and how often
-- it has failed
pub record BinderState : Type 0 where
  pub listeners : Option (List ListenerState)
  pub listeners_back : Option (List Bound)
  pub gave : ℕ
  pub returned : ℕ
  pub clocks : Option (List ClockState)
  pub clocks_back : Option (List ClockState)
  pub lent : ℕ
  pub faults : ℕ

-- the moment that a list of moments tells next: its first, or 0
abbrev pub next_moment : List ℕ → ℕ
next_moment [] = 0
next_moment (m ∷ ms) = m

-- the moments to come after the first was told: the last one stays
abbrev pub later_moments : List ℕ → List ℕ
later_moments [] = []
later_moments (m ∷ []) = m ∷ []
later_moments (m ∷ n ∷ ms) = n ∷ ms

-- a clock that told a moment
pub record Tells (before after : ClockState) (moment : ℕ) : Type 0 where
  pub rising : before.latest ≤ moment
  pub first : IfSome before.coming (λ ms. moment ≡ next_moment ms)
  pub rest : after.coming ≡ option_map later_moments before.coming
  pub latest : after.latest ≡ moment

-- a listener that gave a link: the first of those to come
pub record Accepts (before after : ListenerState) (link : LinkState) : Type 0 where
  pub first : before.coming ≡ with_first link after.coming
  pub gave : after.gave ≡ before.gave + 1
  pub back : after.back ≡ before.back
  pub returned : after.returned ≡ before.returned

-- a listener to which a link came back
abbrev pub with_served : LinkState → SessionEnd → ListenerState → ListenerState
with_served link end n = record n {
  back = with_last n.back (record { link = link; end = end });
  returned = n.returned + 1;
}

-- a binder that gave a listener: the first of those to come
pub record Binds (before after : BinderState) (listener : ListenerState) : Type 0 where
  pub first : before.listeners ≡ with_first listener after.listeners
  pub gave : after.gave ≡ before.gave + 1
  pub rest : after ≡ record before { listeners = after.listeners; gave = after.gave }

-- a clock that tells no moment and never fails
abbrev pub still_clock : ClockState
still_clock = record { coming = Some []; latest = 0; faults = 0 }

-- a binder that gave a clock, which is a spare one where none was to come
abbrev pub Lends : BinderState → BinderState → ClockState → Bool → Type 0
Lends before after clock spare = elim before.clocks [
  | None ↦ after ≡ before
  | Some cs ↦ elim cs [
    | [] ↦ (after ≡ before) × (clock ≡ still_clock) × (spare ≡ true)
    | c ∷ rest ↦
        (after ≡ record before { clocks = Some rest; lent = before.lent + 1 })
        × (clock ≡ c) × (spare ≡ false)
  ]
]

-- a clock that comes back is kept unless it is a spare one; nor is one for which no place is free,
-- since all that were given came back
abbrev pub keeps_clock : Bool → BinderState → Bool
keeps_clock spare b = not spare && nat_lt 0 b.lent

abbrev pub with_clock : ClockState → Bool → BinderState → BinderState
with_clock clock spare b =
    if keeps_clock spare b
    then record b { clocks_back = with_last b.clocks_back clock; lent = b.lent - 1 }
    else b

-- a binder to which a listener and its clock came back
abbrev pub with_bound : Bound → ClockState → Bool → BinderState → BinderState
with_bound n clock spare b = record (with_clock clock spare b) {
  listeners_back = with_last b.listeners_back n;
  returned = b.returned + 1;
}
