-- The lowest free seat.
use Rattle.std.specs.Prelude.{◌≡◌, ◌<◌, ◌≤◌, ◌+◌, ◌-◌, ℕ, true, false, not, Option, cond, refl, Some, None}
use Rattle.std.specs.List.{find, range_with_len}
use Rattle.std.proofs.Common.{ap, arith, suc, ◌∙◌}
use Rattle.std.proofs.lemmas.Bool.{and_parts, not-true}
use Rattle.kd_model.specs.Words.{contains}
use Rattle.kd_model.proofs.Lists.{all_of_found, found_passes, range_below}
use Rattle.kd_commands.specs.State.{Desk}
use Rattle.kd_commands.specs.Hello.{free_seat, is_free}
use Rattle.kd_commands.specs.Seating.{is_live}

-- the lowest free seat from one on
unfoldable pub free_from : Desk → ℕ → Option ℕ
free_from d n = find (is_free d) (range_with_len n (64 - n))

pub free_from_start : (d : Desk) → free_seat d ≡ free_from d 0
unfolding free_seat free_from
free_from_start d = refl

free_on : (d : Desk) (n : ℕ) → n < 64 → free_from d n ≡ cond (is_free d n) (Some n) (free_from d (n + 1))
unfolding free_from
free_on d n h = let left : 64 - n ≡ suc (64 - (n + 1)) = omega arith in rw left refl

-- a seat that isn't free leaves those behind it
pub passes_over : (d : Desk) (n : ℕ) → n < 64 → is_free d n ≡ false → free_from d n ≡ free_from d (n + 1)
passes_over d n h e = free_on d n h ∙ ap (λ b. cond b (Some n) (free_from d (n + 1))) e

-- a free one is found
pub stops_at : (d : Desk) (n : ℕ) → n < 64 → is_free d n ≡ true → free_from d n ≡ Some n
stops_at d n h e = free_on d n h ∙ ap (λ b. cond b (Some n) (free_from d (n + 1))) e

-- behind the last seat there is none
pub finds_none : (d : Desk) (n : ℕ) → 64 ≤ n → free_from d n ≡ None
unfolding free_from
finds_none d n h = let left : 64 - n ≡ 0 = omega arith in rw left refl

-- it is one of 64
pub free_below : (d : Desk) (n : ℕ) → free_seat d ≡ Some n → n < 64
unfolding free_seat
free_below d n h = all_of_found (λ k. k < 64) (is_free d) (range_with_len 0 64) n (range_below 64 0) h

-- what is found is free
pub found_is_free : (d : Desk) (n : ℕ) → free_seat d ≡ Some n → is_free d n ≡ true
unfolding free_seat
found_is_free d n h = found_passes (is_free d) (range_with_len 0 64) n h

-- no live connection has it, nor does it wait
pub free_has_none : (d : Desk) (n : ℕ) → is_free d n ≡ true → is_live d n ≡ false
free_has_none d n h = not-true (is_live d n) (and_parts (not (is_live d n)) (not (contains n d.blocked)) h).0

pub free_is_unblocked : (d : Desk) (n : ℕ) → is_free d n ≡ true → contains n d.blocked ≡ false
free_is_unblocked d n h = not-true (contains n d.blocked) (and_parts (not (is_live d n)) (not (contains n d.blocked)) h).1
