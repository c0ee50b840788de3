-- Pools along lists of acts, and what is drained from one.
use Rattle.std.specs.Prelude.{◌≡◌, ◌<◌, ◌%◌, IfSome, ℕ, Bool, List, [], ◌∷◌, drop, length, Option, Some, None}
use Rattle.std.specs.List.{AllByRecursion}
use Rattle.std.proofs.Common.{ap, arith, length-drop, length-take, subst, sym}
use Rattle.kd_model.proofs.Lists.{all_both, all_of_filter, all_of_put, all_over, all_under}
use Rattle.kd_model.specs.Slices.{IsEven}
use Rattle.kd_model.specs.Words.{in_order, least, those}
use Rattle.kd_acts.specs.Sound.{IsKept, IsSoundPool}
use Rattle.kd_acts.specs.State.{Image, Pool, Slice, by_desk, drain, drained, is_reserved, is_waiting, placed_of, slots}
use Rattle.kd_acts.specs.Steps.{after, arrived_earlier, closed_answer, drain_step, image_of, of_lower_number, open_step, pool_step, visit_step, waiting_images}
use Rattle.kd_acts.specs.declared.slot.Slot.{Slot}
use Rattle.kd_acts.proofs.Apart.{slot_of}
use Rattle.kd_acts.proofs.Cases.{acted_by, drained_by}
use Rattle.kd_numbers.specs.Lists.{acted}
use Rattle.kd_sound.specs.Lengths.{HaveLengths, IsLength}
use Rattle.kd_sound.specs.Staying.{DrainedHaveLengths, PoolsAreSound}
use Rattle.kd_sound.proofs.Books.{LiesIn, all_inside, under}
use Rattle.kd_sound.proofs.Steps.{acts_keep_pools_sound}

pub pools_are_sound : PoolsAreSound
unfolding acted
pools_are_sound h [] l s = s
pools_are_sound h (a ∷ acts) l s = pools_are_sound (after h a) acts l.1 (acts_keep_pools_sound h a l.0 s)

-- ---- drains

all_in_order : {X : Type 0} (P : X → Type 0) (below : X → X → Bool) (xs : List X) → AllByRecursion P xs → AllByRecursion P (in_order below xs)
all_in_order P below [] a = tt
all_in_order P below (x ∷ xs) a = all_of_put P below x (in_order below xs) a.0 (all_in_order P below xs a.1)

-- a slice that lies in a memory has as many bytes as it is long
long : (m : List ℕ) (x : Slice) → IsKept m x → LiesIn 0 (length m) x.slot → length x.bytes ≡ x.slot.len
long m x k l = let inside = l.inside in omega (arith, ap length k, length-take x.slot.len (drop x.slot.offset m), length-drop x.slot.offset m)

-- the bytes of each slice of a sound pool have the length of a slice
abbrev HasLength : Slice → Type 0
HasLength x = IsLength (length x.bytes)

all_have_lengths : (p : Pool) → IsSoundPool p → AllByRecursion HasLength p.slices
all_have_lengths p s =
    let lies = all_under (LiesIn 0 (length p.memory)) slot_of p.slices (all_inside p s) in
    let even = under IsEven p.slices s.book.even in
    let Even : Slice → Type 0 = λ (x : Slice). IsEven (placed_of x.slot) in
    let Lies : Slice → Type 0 = λ (x : Slice). LiesIn 0 (length p.memory) x.slot in
    let Long : Slice → Type 0 = λ (x : Slice). (length x.bytes ≡ x.slot.len) × (0 < x.slot.len) in
    all_both Even Long HasLength p.slices (λ x e l. let i = l.0 in let b = l.1 in let f = e.1 in (omega (arith, i, b), subst (λ n. n % 8 ≡ 0) (sym i) f)) even
    (all_both (IsKept p.memory) Lies Long p.slices (λ x k l. (long p.memory x k l, l.some)) s.bytes lies)

waiting_have_lengths : (p : Pool) → IsSoundPool p → HaveLengths (waiting_images p)
waiting_have_lengths p s =
    let waits : Slice → Bool = λ (x : Slice). is_waiting x.slot in
    all_over (λ (i : Image). IsLength (length i.content.image)) image_of (in_order arrived_earlier (those waits p.slices))
    (all_in_order HasLength arrived_earlier (those waits p.slices) (all_of_filter HasLength waits p.slices (all_have_lengths p s)))

pub drained_have_lengths : DrainedHaveLengths
unfolding pool_step open_step visit_step drain_step closed_answer
drained_have_lengths h images s e = of_pool h.pool s e
  where
    by : (p : Pool) → IsSoundPool p → (o : Option Slot) → (drained_by p o).1 ≡ drained images → HaveLengths images
    by p s None e = let same : waiting_images p ≡ images = cc in subst HaveLengths same (waiting_have_lengths p s)
    by p s (Some x) e = absurd cc

    of_pool : (o : Option Pool) → IfSome o IsSoundPool → (acted_by h.generation o (by_desk drain)).1 ≡ drained images → HaveLengths images
    of_pool None s e = absurd cc
    of_pool (Some p) s e = by p s (least of_lower_number (those is_reserved (slots p))) e
