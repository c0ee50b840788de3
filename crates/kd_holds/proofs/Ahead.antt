-- The seat of the part that is visited next shows in the parts of the code.
use Rattle.std.proofs.Common.{◌≡◌, ℕ, List, [], ◌∷◌, Option, Some, None, drop, zero, suc, refl, ap}
use Rattle.std.specs.Prelude.{option_map}
use Rattle.kd_acts.specs.State.{Content}
use Rattle.kd_tables.specs.declared.part.Part as code
use Rattle.kd_tables.specs.declared.part.Part.TheVariants as part
use Rattle.kd_tables.specs.Drafts.{part_with, parts_with, seat_in}
use Rattle.kd_commands.specs.Plans.{Part}
use Rattle.kd_holds.specs.Lists.{first_of}

pub seat_with : (c : Option Content) (p : code.Part) → (part_with c p).seat ≡ seat_in p
seat_with c (part.Raise seat size) = refl
seat_with c (part.Close seat force) = refl
seat_with c (part.Offer seat user len from must) = refl
seat_with c (part.Post seat image) = refl
seat_with c (part.Drain seat size) = refl
seat_with c (part.Settle seat) = refl

-- its seat is that of the code's part
pub seat_ahead : (n : ℕ) (cs : List (Option Content)) (ps : List code.Part) → option_map (λ (p : Part). p.seat) (first_of (drop n (parts_with cs ps))) ≡ option_map seat_in (first_of (drop n ps))
seat_ahead zero [] [] = refl
seat_ahead zero (c ∷ cs) [] = refl
seat_ahead zero [] (p ∷ ps) = ap Some (seat_with None p)
seat_ahead zero (c ∷ cs) (p ∷ ps) = ap Some (seat_with c p)
seat_ahead (suc n) [] [] = refl
seat_ahead (suc n) (c ∷ cs) [] = refl
seat_ahead (suc n) [] (p ∷ ps) = seat_ahead n [] ps
seat_ahead (suc n) (c ∷ cs) (p ∷ ps) = seat_ahead n cs ps
