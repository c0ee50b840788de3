-- The visits of parts that are offers.
use Rattle.std.proofs.Common.{◌≡◌, ◌≤◌, ◌==◌, ℕ, Bool, true, false, cond, List, [], ◌∷◌, ◌++◌, length, refl, arith}
use Rattle.std.specs.Prelude.{None}
use Rattle.std.specs.List.{AllByRecursion}
use Rattle.kd_model.specs.Words.{those}
use Rattle.kd_acts.specs.State.{Answer, Image, Visit, close, drain, offer, post, raise, settle}
use Rattle.kd_commands.specs.Plans.{Part}
use Rattle.kd_commands.specs.Visits.{images_in, next_part, parts_visited, with_images}
use Rattle.kd_histories.specs.Visits.{visits_at}
use Rattle.kd_load.specs.Laws.{IsOffer}

-- the parts of a seat
abbrev pub parts_at : ℕ → List Part → List Part
parts_at c ps = those (λ (p : Part). p.seat == c) ps

-- it is an offer
abbrev pub OffersOnly : List Part → Type 0
OffersOnly ps = AllByRecursion (λ (p : Part). IsOffer p.act) ps

-- all parts behind the last answer are visited
pub has_answers : (is : List Image) (ps : List Part) (outs : List Answer) → next_part is ps outs ≡ None → length ps ≤ length outs
unfolding next_part
has_answers is [] outs e = omega arith
has_answers is (p ∷ ps) [] e = absurd cc
has_answers is (p ∷ ps) (o ∷ outs) e = let rest = has_answers (is ++ images_in o) ps outs e in omega (arith, rest)

offer_met : (is : List Image) (v : Visit) → IsOffer v → IsOffer (with_images is v)
offer_met is (offer user len source must content) h = tt
offer_met is (raise size) h = absurd h
offer_met is (close force) h = absurd h
offer_met is (post image) h = absurd h
offer_met is drain h = absurd h
offer_met is (settle images) h = absurd h

-- visits with their answers, each an offer
abbrev pub AreOffers : List (Visit × Answer) → Type 0
AreOffers vs = AllByRecursion (λ (v : Visit × Answer). IsOffer v.0) vs

one_visited : (b : Bool) (v : Visit) (o : Answer) (vs : List (Visit × Answer)) (p : Part) (ps : List Part) → IsOffer v → length vs ≡ length ps → AreOffers vs
    → let ws = elim b [ true ↦ (v, o) ∷ [] | false ↦ [] ] ++ vs in (length ws ≡ length (cond b (p ∷ ps) ps)) × AreOffers ws
one_visited true v o vs p ps h same all = (omega (arith, same), (h, all))
one_visited false v o vs p ps h same all = (same, all)

-- what is visited at a seat are its parts, each an offer
pub offers_visited : (c : ℕ) (is : List Image) (ps : List Part) (outs : List Answer) → OffersOnly ps → length ps ≤ length outs
    → let vs = visits_at c (parts_visited is ps outs) outs in (length vs ≡ length (parts_at c ps)) × AreOffers vs
unfolding visits_at parts_visited
offers_visited c is [] outs all long = (refl, tt)
offers_visited c is (p ∷ ps) [] all long = absurd (omega arith)
offers_visited c is (p ∷ ps) (o ∷ outs) all long =
    let rest = offers_visited c (is ++ images_in o) ps outs all.1 (omega arith) in
    one_visited (p.seat == c) (with_images is p.act) o (visits_at c (parts_visited (is ++ images_in o) ps outs) outs) p (parts_at c ps) (offer_met is p.act all.0) rest.0 rest.1
