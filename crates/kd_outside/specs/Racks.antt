-- Things that are handed out in order, and taken back in order.
use Rattle.std.specs.Prelude.{ℕ, ◌+◌, ◌-◌, List, [], ◌∷◌, ◌++◌, drop}
use Rattle.std.specs.declared.option.Option.{Option}
use Rattle.std.specs.declared.option.Option.TheVariants.{None, Some}

-- those that are to be handed out, those that came back, and how many are out
pub record Rack (X : Type 0) : Type 0 where
  pub coming : List X
  pub back : List X
  pub out : ℕ

-- nothing was handed out yet
abbrev pub full_rack : {X : Type 0} → List X → Rack X
full_rack xs = record { coming = xs; back = []; out = 0 }

-- the one that is handed out next
abbrev pub next_of : {X : Type 0} → List X → Option X
next_of [] = None
next_of (x ∷ xs) = Some x

-- the first was handed out
abbrev pub with_one_out : {X : Type 0} → Rack X → Rack X
with_one_out r = record r { coming = drop 1 r.coming; out = r.out + 1 }

-- one came back
abbrev pub with_one_back : {X : Type 0} → X → Rack X → Rack X
with_one_back x r = record r { back = r.back ++ x ∷ []; out = r.out - 1 }
