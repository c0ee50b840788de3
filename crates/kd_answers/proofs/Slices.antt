-- A slice's bytes lie in its pool's memory.
use Rattle.std.specs.Prelude.{◌≡◌, ◌≤◌, ◌&&◌, ℕ, false, List, drop, length, Option, Some, None, IfSome, refl}
use Rattle.std.proofs.Common.{ap, arith}
use Rattle.std.proofs.lemmas.List.{length-drop, length-take}
use Rattle.kd_model.proofs.Lists.{all_of_found}
use Rattle.kd_acts.specs.Sound.{IsKept, IsSoundPool}
use Rattle.kd_acts.specs.State.{Answer, Hold, Pool, Slice, bytes_of, is_readable, read, slot_numbered}
use Rattle.kd_acts.specs.Steps.{answer, open_step, pool_step, read_answer, readable}
use Rattle.kd_counts.specs.Sizes.{size_of}
use Rattle.kd_lengths.proofs.Worlds.{pools_are_always_sound}
use Rattle.kd_world.specs.State.{pool_at}
use Rattle.kd_answers.specs.Reads.{ReadsFitTheirPool}

-- a slice's
slice_fits : (memory : List ℕ) (s : Slice) → IsKept memory s → length s.bytes ≤ length memory
slice_fits memory s kept =
    let here = ap length kept in
    let taken = length-take s.slot.len (drop s.slot.offset memory) in
    let left = length-drop s.slot.offset memory in
    omega (arith, here, taken, left)

same_bytes : (a b : List ℕ) → ◌≡◌ {A = Answer} (bytes_of a) (bytes_of b) → a ≡ b
same_bytes a b e = cc

-- what an open pool answers
read_fits : (p : Pool) (n : ℕ) (bytes : List ℕ) → IsSoundPool p → read_answer n false p ≡ bytes_of bytes → length bytes ≤ p.size
unfolding read_answer
read_fits p n bytes s e = go (readable n p) refl e
  where
    go : (o : Option Slice) → readable n p ≡ o → ◌≡◌ {A = Answer} (read_answer n false p) (bytes_of bytes) → length bytes ≤ p.size
    go None q e = absurd (let no : read_answer n false p ≡ bytes_of bytes = e in cc)
    go (Some x) q e =
        let its : IsKept p.memory x = all_of_found (IsKept p.memory) (λ (y : Slice). slot_numbered n y.slot && is_readable y.slot) p.slices x s.bytes q in
        let fits = slice_fits p.memory x its in
        let same : x.bytes ≡ bytes = cc in
        omega (arith, fits, s.memory, ap length same)

some_size : (a b : ℕ) → ◌≡◌ {A = Option ℕ} (Some a) (Some b) → a ≡ b
some_size a b e = cc

hold_fits : (g : ℕ) (o : Option Pool) (n size : ℕ) (bytes : List ℕ) → IfSome o IsSoundPool → size_of (record { generation = g; pool = o }) ≡ Some size
    → answer (record { generation = g; pool = o }) (read n false) ≡ bytes_of bytes → length bytes ≤ size
unfolding pool_step open_step
hold_fits g None n size bytes s sized e = absurd cc
hold_fits g (Some p) n size bytes s sized e =
    let fits = read_fits p n bytes s e in
    omega (arith, fits, some_size p.size size sized)

pub reads_fit_their_pool : ReadsFitTheirPool
reads_fit_their_pool w seat n size bytes r sized e =
    let h : Hold = pool_at w seat in
    hold_fits h.generation h.pool n size bytes (pools_are_always_sound w seat r) sized e
