-- What follows of visits one after the other.
use Rattle.std.specs.Prelude.{◌≡◌, ℕ, suc, true, false, List, [], ◌∷◌, ◌++◌, length, Some, refl}
use Rattle.std.proofs.Common.{sym, ap, ◌∙◌, subst, arith, append_assoc, eq-eqb, ne_eqb}
use Rattle.std.proofs.lemmas.List.{append-nil}
use mathlib.Core.Logic.{dite}
use native.Mathlib.Decide.{ℕ_discrete}
use Rattle.kd_model.proofs.Truth.{no_some, same_some}
use Rattle.kd_acts.specs.State.{Answer, Image}
use Rattle.kd_hands.specs.declared.views.Part as seen
use Rattle.kd_hands.specs.declared.views.View.{View}
use Rattle.kd_hands.specs.Views.{part, hand}
use Rattle.kd_commands.specs.Plans.{Part}
use Rattle.kd_commands.specs.Visits.{images_in, met, next_part, parts_visited}
use Rattle.kd_histories.specs.Turns.{Did, Turn, did}
use Rattle.kd_histories.specs.Visits.{visit_at, visits_at, visits_opened}
use Rattle.kd_bus.specs.Visited.{AreVisits, HasVisit, MadeVisits, OneVisit, VisitedAll, answers_in, entries_at, entry_at, generations_in}

-- ---- one visit more

pub visits_snoc : (qs : List Part) (ds : List Did) (q : Part) (d : Did) (v w v' : View Turn) → AreVisits qs ds v w → OneVisit q.seat q.act d w v' → AreVisits (qs ++ q ∷ []) (ds ++ d ∷ []) v v'
visits_snoc [] [] q d v w v' e one = (v', subst (λ x. OneVisit q.seat q.act d x v') e one, refl)
visits_snoc (p ∷ qs) [] q d v w v' e one = absurd e
visits_snoc [] (x ∷ ds) q d v w v' e one = absurd e
visits_snoc (p ∷ qs) (x ∷ ds) q d v w v' e one = (e.0, e.1, visits_snoc qs ds q d e.0 w v' e.2 one)

pub none_visited : (is : List Image) (ps : List Part) → parts_visited is ps [] ≡ []
unfolding parts_visited
none_visited is [] = refl
none_visited is (p ∷ ps) = refl

parts_snoc : (is : List Image) (ps : List Part) (os : List Answer) (o : Answer) (q : Part) → next_part is ps os ≡ Some q → parts_visited is ps (os ++ o ∷ []) ≡ parts_visited is ps os ++ q ∷ []
unfolding parts_visited next_part
parts_snoc is [] os o q e = absurd (no_some e)
parts_snoc is (p ∷ ps) [] o q e = ap (λ qs. met is p ∷ qs) (none_visited (is ++ images_in o) ps) ∙ ap (λ (x : Part). x ∷ []) (same_some (met is p) q e)
parts_snoc is (p ∷ ps) (x ∷ os) o q e = ap (λ qs. met is p ∷ qs) (parts_snoc (is ++ images_in x) ps os o q e)

told_more : (ds : List Did) (d : Did) → answers_in (ds ++ d ∷ []) ≡ answers_in ds ++ d.answer ∷ []
told_more [] d = refl
told_more (x ∷ xs) d = ap (λ ys. x.answer ∷ ys) (told_more xs d)

since_more : (ds : List Did) (d : Did) → generations_in (ds ++ d ∷ []) ≡ generations_in ds ++ d.generation ∷ []
since_more [] d = refl
since_more (x ∷ xs) d = ap (λ ys. x.generation ∷ ys) (since_more xs d)

pub visited_more : (ps : List Part) (os : List Answer) (o : Answer) (gs : List ℕ) (g : ℕ) (q : Part) (v w v' : View Turn) → VisitedAll ps os gs v w → next_part [] ps os ≡ Some q → HasVisit q.seat q.act o g w v' → VisitedAll ps (os ++ o ∷ []) (gs ++ g ∷ []) v v'
visited_more ps os o gs g q v w v' all next x = record {
  entries = all.entries ++ x.entry ∷ [];
  each = subst (λ qs. AreVisits qs (all.entries ++ x.entry ∷ []) v v') (sym (parts_snoc [] ps os o q next)) (visits_snoc (parts_visited [] ps os) all.entries q x.entry v w v' all.each x.visit);
  answers = told_more all.entries x.entry ∙ (ap (λ ys. ys ++ x.entry.answer ∷ []) all.answers ∙ ap (λ y. os ++ y ∷ []) x.answer_is);
  generations_are = since_more all.entries x.entry ∙ (ap (λ ns. ns ++ x.entry.generation ∷ []) all.generations_are ∙ ap (λ (n : ℕ). gs ++ n ∷ []) x.generation_is);
}

pub visited_none : (ps : List Part) (os : List Answer) (gs : List ℕ) (v : View Turn) → os ≡ [] → gs ≡ [] → VisitedAll ps os gs v v
visited_none ps os gs v none new = record {
  entries = [];
  each = subst (λ qs. AreVisits qs [] v v) (sym (ap (parts_visited [] ps) none ∙ none_visited [] ps)) refl;
  answers = sym none;
  generations_are = sym new;
}

-- ---- what they made

own_more : (c s : ℕ) (q : Part) (d : Did) (v w : View Turn) → s ≡ q.seat → OneVisit s q.act d v w → (part w (suc c)).own ≡ (part v (suc c)).own ++ entry_at v.name c q d
own_more c s q d v w at one = dite (ℕ_discrete s c)
    (λ z. ap (λ (k : ℕ). (part w (suc k)).own) (sym z) ∙ (one.own ∙ (ap (λ (k : ℕ). (part v (suc k)).own ++ (v.name, did d) ∷ []) z
    ∙ ap (λ b. (part v (suc c)).own ++ elim b as (λ b. List (ℕ × Turn)) [ true ↦ (v.name, did d) ∷ [] | false ↦ [] ]) (sym (eq-eqb q.seat c (sym at ∙ z))))))
    (λ ne. ap (λ (p : seen.Part Turn). p.own) (one.others (suc c) (λ z. ne (omega arith)))
    ∙ (sym (append-nil (part v (suc c)).own)
    ∙ ap (λ b. (part v (suc c)).own ++ elim b as (λ b. List (ℕ × Turn)) [ true ↦ (v.name, did d) ∷ [] | false ↦ [] ]) (sym (ne_eqb q.seat c (λ z. ne (at ∙ z))))))

pub visits_make : (qs : List Part) (ds : List Did) (v v' : View Turn) → AreVisits qs ds v v' → MadeVisits qs ds v v'
unfolding visits_at
visits_make [] [] v v' e = record {
  own = λ c. ap (λ (x : View Turn). (part x (suc c)).own) e ∙ sym (append-nil (part v (suc c)).own);
  desk = ap (λ (x : View Turn). part x 0) e;
  opened = λ c. ap (λ (x : View Turn). visits_opened (suc c) x.opened) e ∙ sym (append-nil (visits_opened (suc c) v.opened));
  hands = λ k. ap (λ (x : View Turn). hand x k) e;
  name = ap (λ (x : View Turn). x.name) e;
  turns = let t = ap (λ (x : View Turn). x.turns) e in omega (arith, t);
  steps = ap (λ (x : View Turn). x.steps) e;
}
visits_make (q ∷ qs) [] v v' e = absurd e
visits_make [] (d ∷ ds) v v' e = absurd e
visits_make (q ∷ qs) (d ∷ ds) v v' e =
    let w : View Turn = e.0 in
    let one = e.1 in
    let rest = visits_make qs ds w v' e.2 in
    record {
      own = λ c. rest.own c ∙ (ap (λ (n : ℕ). (part w (suc c)).own ++ entries_at n c qs ds) one.name
          ∙ (ap (λ xs. xs ++ entries_at v.name c qs ds) (own_more c q.seat q d v w refl one) ∙ append_assoc (part v (suc c)).own (entry_at v.name c q d) (entries_at v.name c qs ds)));
      desk = rest.desk ∙ one.others 0 (λ z. omega arith);
      opened = λ c. rest.opened c ∙ (ap (λ xs. xs ++ visits_at c qs (answers_in ds)) (one.opened c) ∙ append_assoc (visits_opened (suc c) v.opened) (visit_at c q d.answer) (visits_at c qs (answers_in ds)));
      hands = λ k. rest.hands k ∙ one.hands k;
      name = rest.name ∙ one.name;
      turns = let t = rest.turns in let u = one.turns in omega (arith, t, u);
      steps = rest.steps ∙ one.steps;
    }

-- ---- how many

pub as_many : (ds : List Did) (gs : List ℕ) → generations_in ds ≡ gs → length ds ≡ length gs
as_many [] [] e = refl
as_many [] (g ∷ gs) e = absurd cc
as_many (d ∷ ds) [] e = absurd cc
as_many (d ∷ ds) (g ∷ gs) e = let rest : generations_in ds ≡ gs = cc in ap suc (as_many ds gs rest)
