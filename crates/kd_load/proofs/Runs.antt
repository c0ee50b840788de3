-- Along the list of a load's desk: it stays as it is, and offers each message to those that it is
-- for.
use Rattle.std.proofs.Common.{◌≡◌, ◌≤◌, ℕ, ◌+◌, ◌-◌, Bool, true, false, cond, List, [], ◌∷◌, ◌++◌, length, length-append, refl, ap, sym, subst, ◌∙◌, arith}
use Rattle.std.specs.Prelude.{Ok, Option, Some, None}
use Rattle.std.specs.List.{AllByRecursion}
use Rattle.kd_model.proofs.Lists.{all_of_append}
use Rattle.kd_types.specs.declared.refusal.Refusal.{Refusal}
use Rattle.kd_acts.specs.State.{Answer, Visit}
use Rattle.kd_commands.specs.State.{Desk}
use Rattle.kd_commands.specs.Plans.{Plan}
use Rattle.kd_commands.specs.Step.{ended, ended_by, parts_in}
use Rattle.kd_commands.specs.Visits.{first_ends, parts_visited}
use Rattle.kd_commands.specs.declared.who.Who.{Who}
use Rattle.kd_histories.specs.Turns.{Left, Turn, left}
use Rattle.kd_histories.specs.Slots.{AreTold, IsLeft, IsTold, Slot, left_end, part_behind, planned, slot_after, slot_from}
use Rattle.kd_histories.specs.Visits.{addressed, addressed_by, visits_at}
use Rattle.kd_load.specs.declared.message.Message.{Message}
use Rattle.kd_load.specs.Counts.{count_for, is_for}
use Rattle.kd_load.specs.Bus.{AreFilters, AreSendings, IsMessage, command_of, loaded_desk, sender_at}
use Rattle.kd_load.proofs.Addressed.{IsPlanned}
use Rattle.kd_load.proofs.Messages.{message_planned}
use Rattle.kd_load.proofs.Offers.{AreOffers, offers_visited, parts_at}

-- the desk behind a plan that leaves it as it is, whatever the pools answer
ended_same : (d : Desk) (w : Who) (p : Plan) (o : Option Refusal) → p.next ≡ d → (ended d w p o).next ≡ d
ended_same d w p None e = e
ended_same d w p (Some why) e = refl

counted_one : (b : Bool) (m : Message) (ms : List Message) → length (cond b (m ∷ ms) ms) ≡ cond b 1 0 + length ms
counted_one true m ms = omega arith
counted_one false m ms = omega arith

nothing_there : {X : Type 0} (xs : List X) → length xs ≡ 0 → xs ≡ []
nothing_there [] e = refl
nothing_there (x ∷ xs) e = absurd cc

module _ (filters : List (List ℕ)) (n : ℕ) (few : n ≤ 16) (are : AreFilters filters) where
  -- one entry
  module _ (s : Slot) (desk : s.desk ≡ loaded_desk filters n) (m : Message) (ok : IsMessage n m) (l : Left) (who : l.who ≡ sender_at m.sender)
      (command : l.command ≡ command_of filters m) where
    p : Plan
    p = (message_planned filters n few are m ok).0

    here : IsPlanned n m (loaded_desk filters n) p
    unfolding p
    here = (message_planned filters n few are m ok).2

    is : planned s.generation l.aim s.desk l.who l.command ≡ Ok p
    unfolding p planned
    is = (λ t. planned s.generation l.aim (desk t) (who t) (command t)) ∙ (message_planned filters n few are m ok).1

    same : slot_after (left l) s ≡ s
    unfolding slot_after left_end
    same = let end : (left_end s l).next ≡ s.desk = ap (λ r. (ended_by s.desk l.who r l.outs).next) is ∙ ended_same s.desk l.who p (first_ends p.parts l.outs) (here.next ∙ sym desk) in
        λ t. record s { desk = end t }

    asked : (c : ℕ) → addressed_by c s (left l) ≡ visits_at c (parts_visited [] p.parts l.outs) l.outs
    unfolding addressed_by
    asked c = ap (λ r. visits_at c (parts_visited [] (parts_in r) l.outs) l.outs) is

    long : IsLeft s l → length p.parts ≤ length l.outs
    long told = here.all l.outs (sym (ap (λ r. part_behind (parts_in r) l.outs) is) ∙ told.all)

  -- and a list of them
  pub record IsRun (s : Slot) (ms : List Message) (list : List (ℕ × Turn)) : Type 0 where
    pub same : slot_from s list ≡ s
    pub here : (id : ℕ) → 1 ≤ id → id ≤ n → length (addressed (id - 1) s list) ≡ count_for id ms
    pub nobody : (c : ℕ) → n ≤ c → addressed c s list ≡ []
    pub offers : (c : ℕ) → AreOffers (addressed c s list)

  -- one entry before others
  module _ (s : Slot) (desk : s.desk ≡ loaded_desk filters n) (m : Message) (ms : List Message) (ok : IsMessage n m) (j : ℕ) (l : Left) (list : List (ℕ × Turn))
      (who : l.who ≡ sender_at m.sender) (command : l.command ≡ command_of filters m) (told : IsLeft s l) (rest : IsRun s ms list) where
    vs : ℕ → List (Visit × Answer)
    vs c = visits_at c (parts_visited [] (p s desk m ok l who command).parts l.outs) l.outs

    of_one : (c : ℕ) → (length (vs c) ≡ length (parts_at c (p s desk m ok l who command).parts)) × AreOffers (vs c)
    unfolding vs
    of_one c = offers_visited c [] (p s desk m ok l who command).parts l.outs (here s desk m ok l who command).offers (long s desk m ok l who command told)

    all_of : (c : ℕ) → addressed c s ((j, left l) ∷ list) ≡ vs c ++ addressed c s list
    unfolding vs addressed
    all_of c = (λ t. asked s desk m ok l who command c t ++ addressed c (same s desk m ok l who command t) list)

    with_one : IsRun s (m ∷ ms) ((j, left l) ∷ list)
    unfolding slot_from
    with_one = record {
      same = ap (λ s'. slot_from s' list) (same s desk m ok l who command) ∙ rest.same;
      here = λ id some low.
          let one = (of_one (id - 1)).0 ∙ (here s desk m ok l who command).here id some low in
          let more = rest.here id some low in
          ap (λ (xs : List (Visit × Answer)). length xs) (all_of (id - 1)) ∙ (length-append (vs (id - 1)) (addressed (id - 1) s list)
          ∙ ((λ t. one t + more t) ∙ sym (counted_one (is_for id m) m _)));
      nobody = λ c past.
          let none = nothing_there (vs c) ((of_one c).0 ∙ (here s desk m ok l who command).nobody c past) in
          all_of c ∙ (λ t. none t ++ rest.nobody c past t);
      offers = λ c. subst AreOffers (sym (all_of c)) (all_of_append _ (vs c) (addressed c s list) (of_one c).1 (rest.offers c));
    }

  pub runs : (s : Slot) → s.desk ≡ loaded_desk filters n → (ms : List Message) (list : List (ℕ × Turn)) → AllByRecursion (IsMessage n) ms → AreSendings filters ms list → AreTold s list → IsRun s ms list
  unfolding slot_from addressed AreTold IsTold
  runs s desk [] [] ok are_those told = record { same = refl; here = λ id some low. refl; nobody = λ c past. refl; offers = λ c. tt }
  runs s desk [] (x ∷ xs) ok are_those told = absurd are_those
  runs s desk (m ∷ ms) [] ok are_those told = absurd are_those
  runs s desk (m ∷ ms) ((j, e) ∷ xs) ok are_those told =
      let it = are_those.0 in
      let here : AreTold s ((j, left it.it) ∷ xs) = subst (λ (f : Turn). AreTold s ((j, f) ∷ xs)) it.is told in
      let stays = same s desk m ok.0 it.it it.who_is it.command_is in
      let rest = runs s desk ms xs ok.1 are_those.1 (subst (λ (s' : Slot). AreTold s' xs) stays here.1) in
      subst (λ (f : Turn). IsRun s (m ∷ ms) ((j, f) ∷ xs)) (sym it.is) (with_one s desk m ms ok.0 j it.it xs it.who_is it.command_is here.0 rest)
