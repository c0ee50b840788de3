-- The counts of all pools, when one of them takes a step.
use Rattle.std.proofs.Common.{◌≡◌, ◌≤◌, ◌+◌, ℕ, false, List, [], ◌∷◌, Option, get_or, set, arith, length, zero, suc}
use Rattle.std.specs.List.{AllByRecursion}
use Rattle.kd_model.specs.declared.slice_no.TheConstants.{SLICES}
use Rattle.kd_acts.specs.State.{Act, Batch, Content, Hold, by_desk}
use Rattle.kd_acts.specs.Steps.{after}
use Rattle.kd_tables.specs.declared.part.Part as code
use Rattle.kd_holds.specs.Counts.{IsBelow, is_settle}
use Rattle.kd_holds.specs.Handing.{images_of, visit_met}
use Rattle.kd_world.specs.State.{closed_pool}
use Rattle.kd_holds.proofs.Counting.{counts_by_one, visits_count, weaker_below}

-- a higher bound
pub below_more : (m n : ℕ) (hs : List Hold) → m ≤ n → AllByRecursion (IsBelow m) hs → AllByRecursion (IsBelow n) hs
below_more m n [] le a = tt
below_more m n (h ∷ hs) le a = (weaker_below m n h le a.0, below_more m n hs le a.1)

-- each pool, and a closed one beyond the last
pub below_at : (n i : ℕ) (hs : List Hold) → AllByRecursion (IsBelow n) hs → IsBelow n (get_or hs i closed_pool)
below_at n i [] a = record { generation = omega arith; pool = tt }
below_at n zero (h ∷ hs) a = a.0
below_at n (suc i) (h ∷ hs) a = below_at n i hs a.1

-- one pool in the place of another
pub below_set : (m n i : ℕ) (hs : List Hold) (h : Hold) → m ≤ n → AllByRecursion (IsBelow m) hs → IsBelow n h → AllByRecursion (IsBelow n) (set hs i h)
below_set m n i [] h le a b = tt
below_set m n zero (x ∷ xs) h le a b = (b, below_more m n xs le a.1)
below_set m n (suc i) (x ∷ xs) h le a b = (weaker_below m n x le a.0, below_set m n i xs h le a.1 b)

-- an act at one pool
pub below_after : (n i : ℕ) (hs : List Hold) (a : Act) → is_settle a ≡ false → AllByRecursion (IsBelow n) hs → AllByRecursion (IsBelow (n + 1)) (set hs i (after (get_or hs i closed_pool) a))
below_after n i hs a s all = below_set n (n + 1) i hs (after (get_or hs i closed_pool) a) (omega arith) all (counts_by_one n (get_or hs i closed_pool) a s (below_at n i hs all))

-- a visit
pub below_visit : (n i : ℕ) (hs : List Hold) (c : Option Content) (p : code.Part) (took : Option Batch) → length (images_of took) ≤ SLICES → AllByRecursion (IsBelow n) hs → AllByRecursion (IsBelow (n + SLICES)) (set hs i (after (get_or hs i closed_pool) (by_desk (visit_met c p took))))
below_visit n i hs c p took few all = below_set n (n + SLICES) i hs (after (get_or hs i closed_pool) (by_desk (visit_met c p took))) (omega arith) all (visits_count n (get_or hs i closed_pool) c p took few (below_at n i hs all))
