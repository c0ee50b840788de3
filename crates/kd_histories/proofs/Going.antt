-- The visits of an entry, one by one.
use Rattle.std.specs.Prelude.{◌≡◌, ℕ, suc, ◌==◌, Bool, true, false, cond, List, [], ◌∷◌, ◌++◌, map, Some, refl}
use Rattle.std.proofs.Common.{sym, ap, ◌∙◌, eq-eqb, ne_eqb, arith, append_assoc}
use Rattle.std.proofs.lemmas.List.{append-nil}
use mathlib.Core.Logic.{dite}
use native.Mathlib.Decide.{ℕ_discrete}
use Rattle.kd_model.proofs.Truth.{no_some, same_some}
use Rattle.kd_acts.specs.State.{Answer, Hold, Image, Visit, by_desk, close, done}
use Rattle.kd_acts.specs.Steps.{answer, pool_step}
use Rattle.kd_commands.specs.Plans.{Part}
use Rattle.kd_commands.specs.Visits.{images_in, met, next_part, parts_visited}
use Rattle.kd_world.specs.Addressed.{acts_at, at_seat}
use Rattle.kd_histories.specs.Turns.{Did, Turn, did}
use Rattle.kd_histories.specs.Slots.{parts_left}
use Rattle.kd_histories.specs.Visits.{AddressedAsPlanned, addressed_by, made_by_turn, visit_at, visit_made, visits_at, visits_opened}
use Rattle.kd_histories.proofs.Snocs.{opened_snoc}

visited_none : (is : List Image) (ps : List Part) → parts_visited is ps [] ≡ []
unfolding parts_visited
visited_none is [] = refl
visited_none is (p ∷ ps) = refl

-- what a command has visited at a seat after its next part
pub visits_more : (c : ℕ) (is : List Image) (ps : List Part) (outs : List Answer) (o : Answer) (p : Part) → next_part is ps outs ≡ Some p
    → visits_at c (parts_visited is ps (outs ++ o ∷ [])) (outs ++ o ∷ []) ≡ visits_at c (parts_visited is ps outs) outs ++ visit_at c p o
unfolding parts_visited next_part visits_at
visits_more c is [] outs o p e = absurd (no_some e)
visits_more c is (q ∷ ps) [] o p e =
    ap (λ qs. visit_at c (met is q) o ++ visits_at c qs []) (visited_none (is ++ images_in o) ps)
    ∙ (append-nil (visit_at c (met is q) o) ∙ ap (λ (x : Part). visit_at c x o) (same_some (met is q) p e))
visits_more c is (q ∷ ps) (x ∷ outs) o p e =
    ap (λ zs. visit_at c (met is q) x ++ zs) (visits_more c (is ++ images_in x) ps outs o p e)
    ∙ sym (append_assoc (visit_at c (met is q) x) (visits_at c (parts_visited (is ++ images_in x) ps outs) outs) (visit_at c p o))

-- of parts that go on in any case
pub visits_append : (c : ℕ) (ps : List Part) (p : Part) (outs : List Answer) (o : Answer) → map (λ (q : Part). o) ps ≡ outs
    → visits_at c (ps ++ p ∷ []) (outs ++ o ∷ []) ≡ visits_at c ps outs ++ visit_at c p o
unfolding visits_at
visits_append c [] p [] o e = append-nil (visit_at c p o)
visits_append c [] p (x ∷ outs) o e = absurd cc
visits_append c (q ∷ ps) p [] o e = absurd cc
visits_append c (q ∷ ps) p (x ∷ outs) o e =
    let rest : map (λ (r : Part). o) ps ≡ outs = cc in
    ap (λ zs. visit_at c q x ++ zs) (visits_append c ps p outs o rest) ∙ sym (append_assoc (visit_at c q x) (visits_at c ps outs) (visit_at c p o))

-- what is open after the entry of a visit
pub opened_more : (c s j : ℕ) (d : Did) (vis : Visit) (op op' : List (ℕ × ℕ × Turn)) → d.act ≡ by_desk vis → op' ≡ op ++ (suc s, j, did d) ∷ []
    → visits_opened (suc c) op' ≡ visits_opened (suc c) op ++ visit_at c (record { seat = s; act = vis }) d.answer
unfolding made_by_turn visit_made
opened_more c s j d vis op op' act are =
    ap (visits_opened (suc c)) are ∙ (opened_snoc (suc c) op (suc s, j, did d)
    ∙ ap (λ zs. visits_opened (suc c) op ++ zs) (ap (λ a. cond (suc s == suc c) (visit_made a d.answer) []) act ∙ dite (ℕ_discrete s c)
    (λ z. ap (λ b. cond b ((vis, d.answer) ∷ []) []) (eq-eqb (suc s) (suc c) (ap suc z)) ∙ sym (ap (λ b. elim b as (λ b. List (Visit × Answer)) [ true ↦ (vis, d.answer) ∷ [] | false ↦ [] ]) (eq-eqb s c z)))
    (λ ne. ap (λ b. cond b ((vis, d.answer) ∷ []) []) (ne_eqb (suc s) (suc c) (λ z. ne (omega arith))) ∙ sym (ap (λ b. elim b as (λ b. List (Visit × Answer)) [ true ↦ (vis, d.answer) ∷ [] | false ↦ [] ]) (ne_eqb s c ne)))))

-- ---- what is addressed, without the answers

acts_one : (c : ℕ) (p : Part) (o : Answer) (rest : List (Visit × Answer)) (acts : List Visit) → map (λ (x : Visit × Answer). x.0) rest ≡ acts
    → map (λ (x : Visit × Answer). x.0) (visit_at c p o ++ rest) ≡ at_seat c p ++ acts
acts_one c p o rest acts e = go (p.seat == c)
  where
    go : (b : Bool) → map (λ (x : Visit × Answer). x.0) (elim b as (λ b. List (Visit × Answer)) [ true ↦ (p.act, o) ∷ [] | false ↦ [] ] ++ rest)
        ≡ elim b as (λ b. List Visit) [ true ↦ p.act ∷ [] | false ↦ [] ] ++ acts
    go true = ap (λ zs. p.act ∷ zs) e
    go false = e

acts_visited : (c : ℕ) (is : List Image) (ps : List Part) (outs : List Answer) → map (λ (x : Visit × Answer). x.0) (visits_at c (parts_visited is ps outs) outs) ≡ acts_at c (parts_visited is ps outs)
unfolding visits_at parts_visited acts_at
acts_visited c is [] outs = refl
acts_visited c is (p ∷ ps) [] = refl
acts_visited c is (p ∷ ps) (o ∷ outs) =
    acts_one c (met is p) o (visits_at c (parts_visited (is ++ images_in o) ps outs) outs) (acts_at c (parts_visited (is ++ images_in o) ps outs)) (acts_visited c (is ++ images_in o) ps outs)

-- a command addresses just what its planner says
pub addressed_as_planned : AddressedAsPlanned
unfolding addressed_by
addressed_as_planned c s pass l = acts_visited c [] (parts_left s l) l.outs

-- a pool that is closed with force answers so, whatever waits in it
pub forced_is_done : (h : Hold) → answer h (by_desk (close true)) ≡ done
unfolding pool_step
forced_is_done h = refl
