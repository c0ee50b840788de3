-- So it goes along every list of legal events.
use Rattle.std.specs.Prelude.{◌≡◌, ℕ, true, List, [], ◌∷◌, ◌++◌, replicate, Option, None}
use Rattle.std.proofs.Common.{ap, sym}
use Rattle.kd_model.proofs.Truth.{left_true, right_true}
use Rattle.kd_world.specs.State.{Caller, World, closed_pool, new_world, stranger}
use Rattle.kd_world.specs.Legal.{Event, legal}
use Rattle.kd_world.specs.Step.{step}
use Rattle.kd_world.specs.Runs.{IsReached, all_legal}
use Rattle.kd_world.proofs.Arriving.{reached_owes}
use Rattle.kd_world.proofs.Holders.{pools_of}
use Rattle.kd_world.proofs.Moving.{alike}
use Rattle.kd_world.proofs.Placing.{owing_of}
use Rattle.kd_world.proofs.Reached.{reached_at_first, reached_keeps, reached_on}
use Rattle.kd_histories.specs.Turns.{Turn}
use Rattle.kd_histories.specs.Pairs.{ArePaired, Due, due_by, due_from}
use Rattle.kd_pairs.specs.Paired.{PublishesArePaired, turns_added, turns_along}
use Rattle.kd_pairs.proofs.Dues.{Dues, with_owed}
use Rattle.kd_pairs.proofs.Events.{Due_in, added, goes}

paired_more : (m : ℕ) (k : Option Due) (xs ys : List (ℕ × Turn)) → ArePaired m k xs → ArePaired m (due_from m k xs) ys → ArePaired m k (xs ++ ys)
unfolding ArePaired due_from
paired_more m k [] ys a b = b
paired_more m k (x ∷ xs) ys a b = (a.0, paired_more m (due_by m x.0 x.1 k) xs ys a.1 b)

paired_along : (w : World) (es : List Event) (k : Dues) → IsReached w → all_legal w es ≡ true → Due_in w k → (c m : ℕ) → ArePaired m (k c m) (turns_along w c es)
unfolding all_legal turns_along ArePaired
paired_along w [] k r l due c m = tt
paired_along w (e ∷ es) k r l due c m =
    let first : legal w e ≡ true = left_true (legal w e) (all_legal (step w e) es) l in
    let g = goes w e k (reached_keeps w r) (reached_owes w r) due first in
    paired_more m (k c m) (turns_added w c e) (turns_along (step w e) c es) (g.paired c m)
    (paired_along (step w e) es (added w e k) (reached_on w e first r) (right_true (legal w e) (all_legal (step w e) es) l) g.owed c m)

nothing_due : (creator size hashes : ℕ) → Due_in (new_world creator size hashes) (λ c m. None)
unfolding new_world
nothing_due creator size hashes =
    with_owed (pools_of (replicate 64 closed_pool)) (λ _. []) (owing_of (new_world creator size hashes)) (λ c m. None)
    (λ i. ap (λ (c : Caller). c.pendings ++ []) (sym (alike 64 i stranger))) (λ i. tt)

pub publishes_are_paired : PublishesArePaired
publishes_are_paired creator size hashes es l c n =
    paired_along (new_world creator size hashes) es (λ c m. None) (reached_at_first creator size hashes) l (nothing_due creator size hashes) c n
