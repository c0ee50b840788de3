-- What a walk along the table knows of the least slot so far.
use Rattle.std.specs.Prelude.{◌≡◌, Bool, true, false, List, [], ◌∷◌, Option}
use Rattle.std.proofs.Common.{ap, arith, sym, ◌∙◌}
use Rattle.std.proofs.lemmas.Bool.Decides.{nat_tests}
use Rattle.std.proofs.lemmas.List.Elements.{filter-append}
use Rattle.kd_model.proofs.Least.{IsRanking, least_of_append, lesser_assoc}
use Rattle.kd_model.specs.Words.{least, lesser, those}
use Rattle.kd_acts.specs.Steps.{of_lower_number}
use Rattle.kd_acts.specs.declared.slot.Slot.{Slot}

-- the best so far and the best of what is left are the best of all
pub record Leads {X : Type 0} (below : X → X → Bool) (test : X → Bool) (best : Option X) (all rest : List X) : Type 0 where
  pub whole : lesser below best (least below (those test rest)) ≡ least below (those test all)

pub leads_on : {X : Type 0} (below : X → X → Bool) (test : X → Bool) → IsRanking below → (best next : Option X) (all xs : List X) (x : X) → Leads below test best all (x ∷ xs) → next ≡ lesser below best (least below (those test (x ∷ []))) → Leads below test next all xs
leads_on below test r best next all xs x h e =
    let here = least below (those test (x ∷ [])) in
    let rest = least below (those test xs) in
    let both : least below (those test (x ∷ xs)) ≡ lesser below here rest = ap (least below) (filter-append test (x ∷ []) xs) ∙ least_of_append below r (those test (x ∷ [])) (those test xs) in
    record { whole = ap (λ o. lesser below o rest) e ∙ lesser_assoc below r best here rest ∙ ap (lesser below best) (sym both) ∙ h.whole }

-- slots rank by their number
pub number_ranks : IsRanking of_lower_number
number_ranks = record { chains = chains; levels = levels }
  where
    chains : (a b c : Slot) → of_lower_number a b ≡ true → of_lower_number b c ≡ true → of_lower_number a c ≡ true
    chains a b c p q = grind (arith, nat_tests)

    levels : (a b c : Slot) → of_lower_number a b ≡ false → of_lower_number b c ≡ false → of_lower_number a c ≡ false
    levels a b c p q = grind (arith, nat_tests)
