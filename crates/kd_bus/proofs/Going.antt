-- The visits of a plan so far.
use Rattle.std.specs.Prelude.{◌≡◌, ◌≢◌, ◌<◌, ◌≤◌, ◌+◌, ℕ, zero, suc, List, [], ◌∷◌, ◌++◌, length, drop, get_or, is_some, true, Option, Some, None, option_map, refl}
use Rattle.std.proofs.Common.{sym, ap, ◌∙◌, subst, arith, length-append}
use Rattle.kd_acts.specs.State.{Answer, Batch, Content, bytes_of, done, drained, freed, gone, got, placed, raise, refused, slice}
use Rattle.kd_tables.specs.Outs.{answers_of, out_answer, why_ended}
use Rattle.kd_types.specs.declared.refusal.Refusal.{Refusal}
use Rattle.kd_hands.specs.declared.views.Part as seen
use Rattle.kd_hands.specs.Views.{part}
use Rattle.kd_turn.specs.Sight.{GateSight, Sight}
use Rattle.kd_tables.specs.declared.part.Part as code
use Rattle.kd_tables.specs.declared.part.Part.TheVariants as cp
use Rattle.kd_tables.specs.declared.part.Out.{Out}
use Rattle.kd_tables.specs.Drafts.{Draft, content_at, part_with, parts_with, seat_in}
use Rattle.kd_commands.specs.Plans.{Part}
use Rattle.kd_commands.specs.Visits.{first_ends, met, next_part, parts_visited, with_images}
use Rattle.kd_holds.specs.Lists.{first_of}
use Rattle.kd_holds.specs.Handing.{HandsOver, IsDrainedBy, IsMadeFor, Stock, TellDrained, answer_told, answers_told, images_of, visit_met}
use Rattle.kd_holds.proofs.Ahead.{seat_with}
use Rattle.kd_holds.proofs.Telling.{next_told, tells_more, tells_none, told_more}
use Rattle.kd_histories.specs.Turns.{Turn}
use Rattle.kd_histories.specs.Slots.{part_behind}
use Rattle.kd_histories.specs.Seats.{sitter}
use Rattle.kd_bus.specs.Visited.{HasDesk, HasVisit, RaisesFree, VisitedAll}
use Rattle.kd_bus.proofs.Walked.{as_many, visited_more, visited_none, visits_make}

pub record Going (gate : GateSight) (old now : Sight Turn) (plan : Draft) (made : Stock) (outs : List Out) (generations : List ℕ) (index : ℕ) : Type 0 where
  pub desk : HasDesk gate now
  pub within : index ≤ length plan.parts
  pub count : length outs ≡ index
  pub since : length generations ≡ index
  pub first : 1 < index → why_ended plan outs ≡ None
  pub made_is : IsMadeFor made (drop index plan.parts)
  pub tells : TellDrained plan.parts outs made.drained
  pub all : VisitedAll (parts_with plan.contents plan.parts) (answers_told plan.parts outs made.drained) generations old.view now.view

-- the part at a place, with its content
at_place : (i : ℕ) (cs : List (Option Content)) (ps : List code.Part) (d : code.Part) → i < length ps → first_of (drop i (parts_with cs ps)) ≡ Some (part_with (content_at i cs) (get_or ps i d))
at_place i cs [] d lt = absurd (omega arith)
at_place zero [] (p ∷ ps) d lt = refl
at_place zero (c ∷ cs) (p ∷ ps) d lt = refl
at_place (suc i) [] (p ∷ ps) d lt = at_place i [] ps d (omega arith)
at_place (suc i) (c ∷ cs) (p ∷ ps) d lt = at_place i cs ps d (omega arith)

pub drop_at : (i : ℕ) (ps : List code.Part) (d : code.Part) → i < length ps → drop i ps ≡ get_or ps i d ∷ drop (i + 1) ps
drop_at i [] d lt = absurd (omega arith)
drop_at zero (p ∷ ps) d lt = refl
drop_at (suc i) (p ∷ ps) d lt = drop_at i ps d (omega arith) ∙ ap (λ (n : ℕ). get_or ps i d ∷ drop n (p ∷ ps)) (let e : suc (i + 1) ≡ suc i + 1 = omega arith in e)

-- a part meets its pool as it was to, and what it drains changes only what settles behind it
pub met_alike : (c : Option Content) (p : code.Part) (o : Out) (was now : Option Batch) → IsDrainedBy p o was now → visit_met c p was ≡ visit_met c p now
met_alike c (cp.Raise seat size) o was now e = refl
met_alike c (cp.Close seat force) o was now e = refl
met_alike c (cp.Offer seat user len from must) o was now e = refl
met_alike c (cp.Post seat image) o was now e = refl
met_alike c (cp.Drain seat size) o was now e = refl
met_alike c (cp.Settle seat) o was now e = ap (λ b. visit_met c (cp.Settle seat) b) (sym e)

pub raises_alone : (c : Option Content) (p : code.Part) (b : Option Batch) (size : ℕ) → visit_met c p b ≡ raise size → (part_with c p).act ≡ raise size
raises_alone c (cp.Raise seat n) b size e = e
raises_alone c (cp.Close seat force) b size e = absurd cc
raises_alone c (cp.Offer seat user len from must) b size e = absurd cc
raises_alone c (cp.Post seat image) b size e = absurd cc
raises_alone c (cp.Drain seat n) b size e = absurd cc
raises_alone c (cp.Settle seat) b size e = absurd cc

-- only the first answer ends a plan
first_stays : (ps : List Part) (xs ys : List Answer) → 1 ≤ length xs → first_ends ps (xs ++ ys) ≡ first_ends ps xs
unfolding first_ends
first_stays ps [] ys le = absurd (omega arith)
first_stays [] (x ∷ xs) ys le = refl
first_stays (p ∷ ps) (done ∷ xs) ys le = refl
first_stays (p ∷ ps) (placed ∷ xs) ys le = refl
first_stays (p ∷ ps) (gone ∷ xs) ys le = refl
first_stays (p ∷ ps) (freed ∷ xs) ys le = refl
first_stays (p ∷ ps) (slice n ∷ xs) ys le = refl
first_stays (p ∷ ps) (refused why ∷ xs) ys le = refl
first_stays (p ∷ ps) (drained images ∷ xs) ys le = refl
first_stays (p ∷ ps) (got n offset len dropped ∷ xs) ys le = refl
first_stays (p ∷ ps) (bytes_of bytes ∷ xs) ys le = refl

map_append : (outs : List Out) (o : Out) → answers_of (outs ++ o ∷ []) ≡ answers_of outs ++ out_answer o ∷ []
map_append [] o = refl
map_append (x ∷ xs) o = ap (λ ys. out_answer x ∷ ys) (map_append xs o)

answers_long : (outs : List Out) → length (answers_of outs) ≡ length outs
answers_long [] = refl
answers_long (x ∷ xs) = ap suc (answers_long xs)

pub one_alone : (i : ℕ) (o : Option Refusal) → (1 < i → o ≡ None) → o ≢ None → i ≤ 1
one_alone zero o f ne = omega arith
one_alone (suc zero) o f ne = omega arith
one_alone (suc (suc i)) o f ne = absurd (ne (f (omega arith)))

module _ (gate : GateSight) (old now : Sight Turn) (plan : Draft) (made : Stock) (outs : List Out) (generations : List ℕ) (i : ℕ) (hands : HandsOver plan.parts) (g : Going gate old now plan made outs generations i) (d : code.Part) (lt : i < length plan.parts) where
  abbrev piece : code.Part
  piece = get_or plan.parts i d

  abbrev content : Option Content
  content = content_at i plan.contents

  abbrev ps : List Part
  ps = parts_with plan.contents plan.parts

  abbrev os : List Answer
  os = answers_told plan.parts outs made.drained

  here_is : drop (length outs) plan.parts ≡ piece ∷ drop (i + 1) plan.parts
  here_is = ap (λ (n : ℕ). drop n plan.parts) g.count ∙ drop_at i plan.parts d lt

  next_is : next_part [] ps os ≡ Some (met (images_of made.drained) (part_with content piece))
  next_is = next_told plan.contents plan.parts outs made.drained hands g.tells
      ∙ ap (option_map (met (images_of made.drained))) (ap (λ (n : ℕ). first_of (drop n ps)) g.count ∙ at_place i plan.contents plan.parts d lt)

  pub made_next : IsMadeFor made (piece ∷ drop (i + 1) plan.parts)
  made_next = subst (IsMadeFor made) (drop_at i plan.parts d lt) g.made_is

  pub free_next : RaisesFree ps (part old.view 0).seen → (size : ℕ) → (part_with content piece).act ≡ raise size → sitter (seat_in piece) (part now.view 0).seen ≡ None
  free_next free size is =
      ap (λ (p : seen.Part Turn). sitter (seat_in piece) p.seen) (visits_make (parts_visited [] ps os) g.all.entries old.view now.view g.all.each).desk
      ∙ (ap (λ (n : ℕ). sitter n (part old.view 0).seen) (sym (seat_with content piece)) ∙ free os (met (images_of made.drained) (part_with content piece)) size next_is (ap (with_images (images_of made.drained)) is))

  module _ (out : Out) (generation : ℕ) (made' : Stock) (now' : Sight Turn) (dry : IsDrainedBy piece out made.drained made'.drained)
      (x : HasVisit (seat_in piece) (visit_met content piece made'.drained) (answer_told piece out made'.drained) generation now.view now'.view) where
    visit_is : HasVisit (part_with content piece).seat (visit_met content piece made.drained) (answer_told piece out made'.drained) generation now.view now'.view
    visit_is = subst (λ (n : ℕ). HasVisit n (visit_met content piece made.drained) (answer_told piece out made'.drained) generation now.view now'.view) (sym (seat_with content piece))
        (subst (λ v. HasVisit (seat_in piece) v (answer_told piece out made'.drained) generation now.view now'.view) (sym (met_alike content piece out made.drained made'.drained dry)) x)

    still : why_ended plan outs ≡ None → 1 < i + 1 → why_ended plan (outs ++ out ∷ []) ≡ None
    still quiet more = let n = g.count in
        ap (first_ends ps) (map_append outs out) ∙ (first_stays ps (answers_of outs) (out_answer out ∷ []) (let long = answers_long outs in omega (arith, n, more, long)) ∙ quiet)

    pub goes_on : why_ended plan outs ≡ None → HasDesk gate now' → IsMadeFor made' (drop (i + 1) plan.parts) → Going gate old now' plan made' (outs ++ out ∷ []) (generations ++ generation ∷ []) (i + 1)
    goes_on quiet desk is = record {
      desk = desk;
      within = omega (arith, lt);
      count = let c = g.count in let long = length-append outs (out ∷ []) in omega (arith, c, long);
      since = let c = g.since in let long = length-append generations (generation ∷ []) in omega (arith, c, long);
      first = still quiet;
      made_is = is;
      tells = tells_more plan.parts outs piece (drop (i + 1) plan.parts) out made.drained made'.drained hands here_is dry g.tells;
      all = subst (λ ys. VisitedAll ps ys (generations ++ generation ∷ []) old.view now'.view) (sym (told_more plan.parts outs piece (drop (i + 1) plan.parts) out made.drained made'.drained hands here_is dry))
          (visited_more ps os (answer_told piece out made'.drained) generations generation (met (images_of made.drained) (part_with content piece)) old.view now.view now'.view g.all next_is visit_is);
    }

-- so many turns were taken
pub turns_so : (gate : GateSight) (old now : Sight Turn) (plan : Draft) (made : Stock) (outs : List Out) (generations : List ℕ) (i : ℕ) → Going gate old now plan made outs generations i → now.view.turns ≡ old.view.turns + i
turns_so gate old now plan made outs generations i g =
    let t = (visits_make (parts_visited [] (parts_with plan.contents plan.parts) (answers_told plan.parts outs made.drained)) g.all.entries old.view now.view g.all.each).turns in
    let n = as_many g.all.entries generations g.all.generations_are in
    let k = g.since in
    omega (arith, t, n, k)

none_told : (qs : List code.Part) (b : Option Batch) → answers_told qs [] b ≡ []
unfolding answers_told
none_told [] b = refl
none_told (q ∷ qs) b = refl

pub begins : (gate : GateSight) (p : Sight Turn) (plan : Draft) (made : Stock) (outs : List Out) (generations : List ℕ) → HasDesk gate p → IsMadeFor made plan.parts → made.drained ≡ None → outs ≡ [] → generations ≡ [] → Going gate p p plan made outs generations 0
begins gate p plan made outs generations desk is dry none new = record {
  desk = desk;
  within = omega arith;
  count = ap (λ (xs : List Out). length xs) none;
  since = ap (λ (xs : List ℕ). length xs) new;
  first = λ z. absurd (omega (arith, z));
  made_is = is;
  tells = subst (λ xs. TellDrained plan.parts xs made.drained) (sym none) (tells_none plan.parts made.drained dry);
  all = visited_none (parts_with plan.contents plan.parts) (answers_told plan.parts outs made.drained) generations p.view (ap (λ xs. answers_told plan.parts xs made.drained) none ∙ none_told plan.parts made.drained) new;
}

-- all was visited
pub all_done : (gate : GateSight) (old now : Sight Turn) (plan : Draft) (made : Stock) (outs : List Out) (generations : List ℕ) (i : ℕ) → HandsOver plan.parts → Going gate old now plan made outs generations i → i ≡ length plan.parts → part_behind (parts_with plan.contents plan.parts) (answers_told plan.parts outs made.drained) ≡ None
all_done gate old now plan made outs generations i hands g at = go (first_ends (parts_with plan.contents plan.parts) (answers_told plan.parts outs made.drained))
  where
    none_left : (cs : List (Option Content)) (ps : List code.Part) → first_of (drop (length ps) (parts_with cs ps)) ≡ None
    none_left [] [] = refl
    none_left (c ∷ cs) [] = refl
    none_left [] (p ∷ ps) = none_left [] ps
    none_left (c ∷ cs) (p ∷ ps) = none_left cs ps

    rest : next_part [] (parts_with plan.contents plan.parts) (answers_told plan.parts outs made.drained) ≡ None
    rest = next_told plan.contents plan.parts outs made.drained hands g.tells
        ∙ ap (option_map (met (images_of made.drained))) (ap (λ (n : ℕ). first_of (drop n (parts_with plan.contents plan.parts))) (g.count ∙ at) ∙ none_left plan.contents plan.parts)

    go : (o : Option Refusal) → ◌≡◌ {A = Option Part} (elim o [ Some why ↦ None | None ↦ next_part [] (parts_with plan.contents plan.parts) (answers_told plan.parts outs made.drained) ]) None
    go (Some why) = refl
    go None = rest

-- the first ended all
pub ended_all : (ps : List Part) (outs : List Answer) → is_some (first_ends ps outs) ≡ true → part_behind ps outs ≡ None
ended_all ps outs e = go (first_ends ps outs) e
  where
    go : (o : Option Refusal) → is_some o ≡ true → ◌≡◌ {A = Option Part} (elim o [ Some why ↦ None | None ↦ next_part [] ps outs ]) None
    go (Some why) e = refl
    go None e = absurd cc
