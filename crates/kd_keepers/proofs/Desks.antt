-- A settled desk through what isn't a plan of its own callers: another bus comes, or a caller of
-- another bus learns that its seat is free.
use Rattle.std.specs.Prelude.{◌≡◌, ◌<◌, ℕ, ◌+◌, zero, suc, true, not, ◌==◌, nat_lt, List}
use Rattle.std.specs.List.{AllByRecursion, range_with_len}
use Rattle.std.proofs.Common.{arith}
use Rattle.std.proofs.lemmas.Bool.{lt-ltb}
use Rattle.kd_model.specs.Words.{contains}
use Rattle.kd_model.proofs.Lists.{all_of_filter, range_below}
use Rattle.kd_replies.specs.Order.{Rises}
use Rattle.kd_replies.proofs.Ordered.{rises_filter}
use Rattle.kd_commands.specs.State.{Desk, opening_desk, seat_set, unblocked}
use Rattle.kd_settled.specs.Settled.{HasSeats, IsSettled}
use Rattle.kd_settled.proofs.Always.{opens_settled}
use Rattle.kd_histories.specs.Slots.{desk_behind}
use Rattle.kd_histories.proofs.Waiting.{behind_seated, unblocked_seated}

-- ---- seats that wait

range_rises : (from count : ℕ) → Rises nat_lt (range_with_len from count)
range_rises from zero = tt
range_rises from (suc count) = (above from (from + 1) count (omega arith), range_rises (from + 1) count)
  where
    above : (n from count : ℕ) → n < from → AllByRecursion (λ k. nat_lt n k ≡ true) (range_with_len from count)
    above n from zero lt = tt
    above n from (suc count) lt = (lt-ltb n from lt, above n (from + 1) count (omega arith))

set_rises : (seats : List ℕ) → Rises nat_lt (seat_set seats)
unfolding seat_set
set_rises seats = rises_filter nat_lt (λ s. contains s seats) (range_with_len 0 64) (range_rises 0 64)

set_low : (seats : List ℕ) → AllByRecursion (λ s. s < 64) (seat_set seats)
unfolding seat_set
set_low seats = all_of_filter (λ s. s < 64) (λ s. contains s seats) (range_with_len 0 64) (range_below 64 0)

-- ---- another bus

behind_seats : (d : Desk) (creator size hashes : ℕ) → HasSeats (opening_desk creator size hashes) → HasSeats (desk_behind d creator size hashes)
unfolding desk_behind
behind_seats d creator size hashes s = record {
  rising = s.rising;
  some_ids = s.some_ids;
  next_id = s.next_id;
  waiting = set_rises _;
  few_waiting = set_low _;
}

with_seats : (d : Desk) (creator size hashes : ℕ) → HasSeats (desk_behind d creator size hashes) → IsSettled (opening_desk creator size hashes) → IsSettled (desk_behind d creator size hashes)
unfolding desk_behind
with_seats d creator size hashes seats s = record {
  seated = behind_seated d creator size hashes;
  seats = seats;
  reached = s.reached;
  claims = s.claims;
  rules = s.rules;
  seals = s.seals;
  requests = s.requests;
  policy = s.policy;
}

pub behind_settled : (d : Desk) (creator size hashes : ℕ) → IsSettled (desk_behind d creator size hashes)
behind_settled d creator size hashes =
    let s : IsSettled (opening_desk creator size hashes) = opens_settled creator size hashes in
    with_seats d creator size hashes (behind_seats d creator size hashes s.seats) s

-- ---- a caller of another bus

pub unblocked_settled : (d : Desk) (seat : ℕ) → IsSettled d → IsSettled (unblocked seat d)
unblocked_settled d seat s = record {
  seated = unblocked_seated d seat s.seated;
  seats = record {
    rising = s.seats.rising;
    some_ids = s.seats.some_ids;
    next_id = s.seats.next_id;
    waiting = rises_filter nat_lt (λ b. not (b == seat)) d.blocked s.seats.waiting;
    few_waiting = all_of_filter (λ n. n < 64) (λ b. not (b == seat)) d.blocked s.seats.few_waiting;
  };
  reached = s.reached;
  claims = s.claims;
  rules = s.rules;
  seals = s.seals;
  requests = s.requests;
  policy = s.policy;
}
