-- The lists of a load's bus, from its front to its end.
use Rattle.std.proofs.Common.{◌≡◌, ◌-◌, ℕ, suc, List, [], ◌∷◌, ◌++◌, append_assoc, refl, ap, sym, subst, ◌∙◌}
use Rattle.std.proofs.lemmas.List.{append-nil}
use Rattle.kd_acts.specs.State.{raise}
use Rattle.kd_world.specs.State.{closed_pool}
use Rattle.kd_histories.specs.Turns.{Turn}
use Rattle.kd_histories.specs.Slots.{AreTold, Slot, slot_after, slot_from, slot_of, unborn}
use Rattle.kd_histories.specs.Visits.{addressed, addressed_by, visits_made, visits_opened}
use Rattle.kd_load.specs.Laws.{HasOffered, LoadsAreCounted}
use Rattle.kd_load.proofs.Pools.{raised_counted, stays_closed}
use Rattle.kd_load.proofs.Runs.{IsRun, runs}
use Rattle.kd_load.proofs.Shares.{counted_as_loaded}

pub slot_append : (s : Slot) (xs ys : List (ℕ × Turn)) → slot_from s (xs ++ ys) ≡ slot_from (slot_from s xs) ys
unfolding slot_from
slot_append s [] ys = refl
slot_append s (x ∷ xs) ys = slot_append (slot_after x.1 s) xs ys

pub addressed_append : (c : ℕ) (s : Slot) (xs ys : List (ℕ × Turn)) → addressed c s (xs ++ ys) ≡ addressed c s xs ++ addressed c (slot_from s xs) ys
unfolding addressed slot_from
addressed_append c s [] ys = refl
addressed_append c s (x ∷ xs) ys =
    (λ t. addressed_by c s x.1 ++ addressed_append c (slot_after x.1 s) xs ys t)
    ∙ sym (append_assoc (addressed_by c s x.1) (addressed c (slot_after x.1 s) xs) (addressed c (slot_from (slot_after x.1 s) xs) ys))

pub told_behind : (s : Slot) (xs ys : List (ℕ × Turn)) → AreTold s (xs ++ ys) → AreTold (slot_from s xs) ys
unfolding AreTold slot_from
told_behind s [] ys told = told
told_behind s (x ∷ xs) ys told = told_behind (slot_after x.1 s) xs ys told.1

nothing_open : (l : ℕ) → visits_opened l [] ≡ []
unfolding visits_opened
nothing_open l = refl

pub loads_are_counted : LoadsAreCounted
loads_are_counted filters seed n sends h front run ms few are tie shut list is_front sendings of_load = record {
  desk = ap (λ (xs : List (ℕ × Turn)). (slot_of xs).desk) list ∙ (ap (λ (s : Slot). s.desk) (slot_append unborn front run) ∙ (ap (λ (s : Slot). s.desk) ran.same ∙ is_front.desk));
  pools = λ id some low.
      let r = is_front.raised id some low in
      let made : visits_made (h.lists (suc (id - 1))) ≡ (raise 1048576, r.0) ∷ addressed (id - 1) (slot_of front) run = visits (id - 1) ∙ (λ t. r.1 t ++ addressed (id - 1) (slot_of front) run) in
      subst (HasOffered _) (ran.here id some low ∙ counted_as_loaded id seed n sends ms of_load)
      (raised_counted (h.lists (suc (id - 1))) closed_pool 1048576 r.0 (addressed (id - 1) (slot_of front) run) made (ran.offers (id - 1)));
  others = λ c past. stays_closed (h.lists (suc c)) closed_pool (visits c ∙ (λ t. is_front.nobody c past t ++ ran.nobody c past t)) refl;
}
  where
    ran : IsRun filters n few are (slot_of front) ms run
    ran = runs filters n few are (slot_of front) is_front.desk ms run of_load.each sendings (told_behind unborn front run (subst (AreTold unborn) list tie.told))

    visits : (c : ℕ) → visits_made (h.lists (suc c)) ≡ addressed c unborn front ++ addressed c (slot_of front) run
    visits c = tie.addressed c ∙ ((λ t. addressed c unborn (list t) ++ (ap (visits_opened (suc c)) shut ∙ nothing_open (suc c)) t) ∙ (append-nil (addressed c unborn (front ++ run)) ∙ addressed_append c unborn front run))
