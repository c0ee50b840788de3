-- The parts of the code are in order, since those of the definitions are.
use Rattle.std.specs.Prelude.{◌≡◌, ℕ, List, [], ◌∷◌, Option, None, refl}
use Rattle.std.specs.List.{AllByRecursion}
use Rattle.std.proofs.Common.{ap, inl, inr, subst, sym}
use Rattle.kd_acts.specs.State.{Content, drain, settle}
use Rattle.kd_commands.specs.Plans.{Part}
use Rattle.kd_tables.specs.declared.part.Part as code
use Rattle.kd_tables.specs.declared.part.Part.TheVariants as part
use Rattle.kd_tables.specs.Drafts.{part_with, parts_with}
use Rattle.kd_handovers.specs.Handovers as planned
use Rattle.kd_handovers.specs.Openings as planned_small
use Rattle.kd_handovers.proofs.First.{handovers_come_first}
use Rattle.kd_handovers.proofs.Opening.{pools_are_small}
use Rattle.kd_holds.specs.Handing.{AreStill, HandsOver, IsSmall, PlansAreInOrder}
use Rattle.kd_holds.proofs.Stocks.{still_hands}

-- ---- part by part

still_part : (c : Option Content) (p : code.Part) (qs : List Part) (ps : List code.Part) → planned.AreStill (part_with c p ∷ qs) → AreStill ps → AreStill (p ∷ ps)
still_part c (part.Raise seat size) qs ps a b = (refl, b)
still_part c (part.Close seat force) qs ps a b = (refl, b)
still_part c (part.Offer seat user len from must) qs ps a b = (refl, b)
still_part c (part.Post seat image) qs ps a b = (refl, b)
still_part c (part.Drain seat size) qs ps a b = (a.0, b)
still_part c (part.Settle seat) qs ps a b = (a.0, b)

are_still : (cs : List (Option Content)) (ps : List code.Part) → planned.AreStill (parts_with cs ps) → AreStill ps
are_still [] [] a = tt
are_still (c ∷ cs) [] a = tt
are_still [] (p ∷ ps) a = still_part None p (parts_with [] ps) ps a (are_still [] ps a.1)
are_still (c ∷ cs) (p ∷ ps) a = still_part c p (parts_with cs ps) ps a (are_still cs ps a.1)

small_part : (c : Option Content) (p : code.Part) → planned_small.IsSmall (part_with c p).act → IsSmall p
small_part c (part.Raise seat size) a = a
small_part c (part.Close seat force) a = tt
small_part c (part.Offer seat user len from must) a = tt
small_part c (part.Post seat image) a = tt
small_part c (part.Drain seat size) a = tt
small_part c (part.Settle seat) a = tt

are_small : (cs : List (Option Content)) (ps : List code.Part) → planned_small.AreSmall (parts_with cs ps) → AllByRecursion IsSmall ps
are_small [] [] a = tt
are_small (c ∷ cs) [] a = tt
are_small [] (p ∷ ps) a = (small_part None p a.0, are_small [] ps a.1)
are_small (c ∷ cs) (p ∷ ps) a = (small_part c p a.0, are_small cs ps a.1)

-- ---- a handover

drains : (c : Option Content) (p : code.Part) → (part_with c p).act ≡ drain → (seat : ℕ) × (size : ℕ) × (p ≡ part.Drain seat size)
drains c (part.Raise seat size) e = absurd cc
drains c (part.Close seat force) e = absurd cc
drains c (part.Offer seat user len from must) e = absurd cc
drains c (part.Post seat image) e = absurd cc
drains c (part.Drain seat size) e = (seat, size, refl)
drains c (part.Settle seat) e = absurd cc

settles : (c : Option Content) (p : code.Part) → (part_with c p).act ≡ settle [] → (seat : ℕ) × (p ≡ part.Settle seat)
settles c (part.Raise seat size) e = absurd cc
settles c (part.Close seat force) e = absurd cc
settles c (part.Offer seat user len from must) e = absurd cc
settles c (part.Post seat image) e = absurd cc
settles c (part.Drain seat size) e = absurd cc
settles c (part.Settle seat) e = (seat, refl)

first_of_two : (p q x y : Part) (xs ys : List Part) → p ∷ q ∷ xs ≡ x ∷ y ∷ ys → (p ≡ x) × (q ≡ y) × (xs ≡ ys)
first_of_two p q x y xs ys e = (cc, cc, cc)

two_hand : (c d : Option Content) (cs : List (Option Content)) (p q : code.Part) (ps : List code.Part) (from to : ℕ) (rest : List Part)
    → part_with c p ∷ part_with d q ∷ parts_with cs ps ≡ record { seat = from; act = drain } ∷ record { seat = to; act = settle [] } ∷ rest → planned.AreStill rest → HandsOver (p ∷ q ∷ ps)
two_hand c d cs p q ps from to rest e a =
    let same = first_of_two (part_with c p) (part_with d q) (record { seat = from; act = drain }) (record { seat = to; act = settle [] }) (parts_with cs ps) rest e in
    let x = drains c p (ap (λ (r : Part). r.act) same.0) in
    let y = settles d q (ap (λ (r : Part). r.act) same.1) in
    let still : AreStill ps = are_still cs ps (subst planned.AreStill (sym same.2) a) in
    subst (λ (r : code.Part). HandsOver (r ∷ q ∷ ps)) (sym x.2) (subst (λ (r : code.Part). HandsOver (part.Drain x.0 x.1 ∷ r ∷ ps)) (sym y.1) still)

hand_over : (cs : List (Option Content)) (ps : List code.Part) (from to : ℕ) (rest : List Part)
    → parts_with cs ps ≡ record { seat = from; act = drain } ∷ record { seat = to; act = settle [] } ∷ rest → planned.AreStill rest → HandsOver ps
hand_over [] [] from to rest e a = tt
hand_over (c ∷ cs) [] from to rest e a = tt
hand_over [] (p ∷ []) from to rest e a = absurd cc
hand_over (c ∷ []) (p ∷ []) from to rest e a = absurd cc
hand_over (c ∷ d ∷ cs) (p ∷ []) from to rest e a = absurd cc
hand_over [] (p ∷ q ∷ ps) from to rest e a = two_hand None None [] p q ps from to rest e a
hand_over (c ∷ []) (p ∷ q ∷ ps) from to rest e a = two_hand c None [] p q ps from to rest e a
hand_over (c ∷ d ∷ cs) (p ∷ q ∷ ps) from to rest e a = two_hand c d cs p q ps from to rest e a

hands : (cs : List (Option Content)) (ps : List code.Part) → planned.HandsOver (parts_with cs ps) → HandsOver ps
hands cs ps (inl h) = hand_over cs ps h.from h.to h.rest h.parts h.still
hands cs ps (inr a) = still_hands ps (are_still cs ps a)

-- ---- every plan

pub plans_are_in_order : PlansAreInOrder
plans_are_in_order d w x r cs ps form e same = record {
  hands = hands cs ps (subst planned.HandsOver same (handovers_come_first d w x r e));
  small = are_small cs ps (subst planned_small.AreSmall same (pools_are_small d w x r form e));
}
