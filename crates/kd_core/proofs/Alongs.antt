-- Lists of events, one event more at the end.
use Rattle.std.specs.Prelude.{◌≡◌, ℕ, ◌+◌, ◌++◌, ◌&&◌, Bool, true, false, IsNone, List, [], ◌∷◌, Option, Some, None, length, IsTrue, take, map, OnErr, OnOk, Result, Ok, Err}
use Rattle.std.proofs.Common.{refl, sym, subst, ap, ◌∙◌, arith}
use Rattle.std.proofs.lemmas.List.{length-map}
use Rattle.std.proofs.Math.Seq.{take-append_seam}
use Rattle.std.proofs.lemmas.Bool.{true≢false}
use Rattle.kd_world.specs.State.{World, new_world}
use Rattle.kd_world.specs.Legal.{Event, legal}
use Rattle.kd_world.specs.Step.{step}
use Rattle.kd_world.specs.Runs.{all_legal, world_after, IsReached}
use Rattle.kd_world.specs.Answers.{says}
use Rattle.kd_world.specs.Tie.{IsOffered, IsOfferedSoFar}
use Rattle.kd_world.specs.Agreed.{HandsAgree}
use Rattle.kd_core.specs.Running.{Running, said, stepped}
use Rattle.kd_world.proofs.Reached.{hands_always_agree, reached_on}
use Rattle.kd_world.proofs.Tied.{addressed_is_offered, offered_so_far}
use Rattle.kd_pairs.specs.Paired.{IsPairedAlong}
use Rattle.kd_pairs.proofs.Along.{publishes_are_paired}
use Rattle.kd_core.specs.Along.{barred_by, first_barred, ran, said_along}

pub ran_more : (r : Running) (es : List Event) (e : Event) → ran r (es ++ e ∷ []) ≡ stepped (ran r es) e
unfolding ran
ran_more r [] e = refl
ran_more r (x ∷ es) e = ran_more (stepped r x) es e

pub said_more : (r : Running) (es : List Event) (e : Event) → said_along r.world (es ++ e ∷ []) ≡ said_along r.world es ++ said e (says (ran r es).world e) ∷ []
unfolding said_along ran stepped
said_more r [] e = refl
said_more r (x ∷ es) e = ap (said x (says r.world x) ∷◌) (said_more (stepped r x) es e)

-- whether the first of some events may happen
goes_on : (b : Bool) (o : Option ℕ) → barred_by b o ≡ None → (b ≡ true) × (o ≡ None)
goes_on true None h = (refl, refl)
goes_on true (Some n) h = absurd cc
goes_on false o h = absurd cc

pub legal_more : (r : Running) (es : List Event) (e : Event) → first_barred r.world es ≡ None → legal (ran r es).world e ≡ true → first_barred r.world (es ++ e ∷ []) ≡ None
unfolding first_barred ran stepped
legal_more r [] e h m = ap (λ b. barred_by b None) m
legal_more r (x ∷ es) e h m =
    let g = goes_on (legal r.world x) (first_barred (step r.world x) es) h in
    ap (λ b. barred_by b (first_barred (step r.world x) (es ++ e ∷ []))) g.0 ∙ ap (barred_by true) (legal_more (stepped r x) es e g.1 m)

-- the first that may not happen stands behind those that may
pub barred_there : (r : Running) (es : List Event) (e : Event) (rest : List Event) → first_barred r.world es ≡ None → legal (ran r es).world e ≡ false → first_barred r.world (es ++ e ∷ rest) ≡ Some (length es)
unfolding first_barred ran stepped
barred_there r [] e rest h m = ap (λ b. barred_by b (first_barred (step r.world e) rest)) m
barred_there r (x ∷ es) e rest h m =
    let g = goes_on (legal r.world x) (first_barred (step r.world x) es) h in
    let one : length es + 1 ≡ length (x ∷ es) = omega arith in
    ap (λ b. barred_by b (first_barred (step r.world x) (es ++ e ∷ rest))) g.0 ∙ ap (barred_by true) (barred_there (stepped r x) es e rest g.1 m) ∙ ap Some one

pub steps_along : (r : Running) (es : List Event) → (ran r es).steps ≡ r.steps + length es
unfolding ran stepped
steps_along r [] = omega arith
steps_along r (e ∷ es) = let later : (ran (stepped r e) es).steps ≡ r.steps + 1 + length es = steps_along (stepped r e) es in later ∙ omega arith

pub map_both : {X Y : Type 0} (f : X → Y) (xs : List X) (y : X) (ys : List X) → map f (xs ++ y ∷ ys) ≡ map f xs ++ f y ∷ map f ys
map_both f [] y ys = refl
map_both f (x ∷ xs) y ys = ap (f x ∷◌) (map_both f xs y ys)

pub length_said : (w : World) (es : List Event) → length (said_along w es) ≡ length es
unfolding said_along
length_said w [] = refl
length_said w (e ∷ es) = let more : length (said_along (step w e) es) ≡ length es = length_said (step w e) es in omega (arith, more)

-- of some events in whose middle one stands, those before it
pub taken_before : {X Y : Type 0} (f : X → Y) (xs : List X) (y : X) (ys all : List X) → xs ++ y ∷ ys ≡ all → take (length xs) (map f all) ≡ map f xs
taken_before f xs y ys all e =
    ap (λ l. take (length xs) (map f l)) (sym e) ∙ ap (take (length xs)) (map_both f xs y ys)
    ∙ ap (λ n. take n (map f xs ++ f y ∷ map f ys)) (sym (length-map xs f)) ∙ take-append_seam (map f xs) (f y ∷ map f ys)

pub runs_along : (r : Running) (es : List Event) → (ran r es).world ≡ world_after r.world es
unfolding ran world_after stepped
runs_along r [] = refl
runs_along r (e ∷ es) = runs_along (stepped r e) es

both_true_is : (a b : Bool) → a ≡ true → IsTrue b → IsTrue (a && b)
both_true_is true b h t = t
both_true_is false b h t = absurd (true≢false (sym h))

-- what may all happen is legal
pub legal_along : (w : World) (es : List Event) → first_barred w es ≡ None → IsTrue (all_legal w es)
unfolding first_barred all_legal
legal_along w [] h = refl
legal_along w (e ∷ es) h =
    let g = goes_on (legal w e) (first_barred (step w e) es) h in
    both_true_is (legal w e) (all_legal (step w e) es) g.0 (legal_along (step w e) es g.1)

-- an answer, or want of memory
pub either_way : {X Y A B : Type 0} (C : Type 0) (r : Result X Y) → OnOk r A → OnErr r B → (A → C) → (B → C) → C
either_way C (Ok x) a b f g = f a
either_way C (Err e) a b f g = g b

-- what may happen leads on from a world that legal events led to
pub reached_by : (w : World) (e : Event) → legal w e ≡ true → IsReached w → IsReached (step w e)
reached_by w e m = reached_on w e m

pub reached_along : (r : Running) (es : List Event) → first_barred r.world es ≡ None → IsReached r.world → IsReached (ran r es).world × HandsAgree (ran r es).world
unfolding first_barred ran stepped
reached_along r [] h f = (f, hands_always_agree r.world f)
reached_along r (e ∷ es) h f =
    let g = goes_on (legal r.world e) (first_barred (step r.world e) es) h in reached_along (stepped r e) es g.1 (reached_by r.world e g.0 f)

-- from the opening of a bus, when the desk is free again
pub offered_along : (creator size hashes c : ℕ) (r : Running) (es : List Event) → r.world ≡ new_world creator size hashes → first_barred r.world es ≡ None → IsNone ((ran r es).world.holder)
    → IsOffered creator size hashes c es
offered_along creator size hashes c r es e f n =
    let w : World = new_world creator size hashes in
    let free : IsNone ((world_after w es).holder) = subst (λ (x : World). IsNone x.holder) (runs_along r es ∙ ap (λ x. world_after x es) e) n in
    addressed_is_offered creator size hashes es c (legal_along w es (ap (λ x. first_barred x es) (sym e) ∙ f)) free

-- and at any time
pub held_along : (creator size hashes c : ℕ) (r : Running) (es : List Event) → r.world ≡ new_world creator size hashes → first_barred r.world es ≡ None
    → IsOfferedSoFar creator size hashes c es
held_along creator size hashes c r es e f = offered_so_far creator size hashes es c (legal_along (new_world creator size hashes) es (ap (λ x. first_barred x es) (sym e) ∙ f))

-- publishings are of what was offered
pub paired_along : (creator size hashes : ℕ) (r : Running) (es : List Event) → r.world ≡ new_world creator size hashes → first_barred r.world es ≡ None
    → IsPairedAlong creator size hashes es
paired_along creator size hashes r es e f = publishes_are_paired creator size hashes es (legal_along (new_world creator size hashes) es (ap (λ x. first_barred x es) (sym e) ∙ f))
