-- Connections by rising seat, and seats that wait, after each of five moves.
use Rattle.std.proofs.Common.{◌≡◌, ℕ, ◌+◌, ◌<◌, ◌≤◌, suc, zero, Bool, true, false, List, [], ◌∷◌, length, Some, refl, sym, ap, ◌∙◌, arith}
use Rattle.std.specs.Prelude.{◌==◌, not, nat_lt, filter}
use Rattle.std.specs.Cmp.{IsStrictWeakOrder}
use Rattle.std.specs.List.{AllByRecursion, range_with_len}
use Rattle.std.specs.List.Sorted.{ties}
use Rattle.std.proofs.lemmas.Bool.{le-ltb, lt-ltb, eqb-false}
use Rattle.std.proofs.lemmas.Bool.Decides.{nat_tests}
use Rattle.std.proofs.lemmas.List.MinMax.{IsStrictWeakOrder-by_number}
use Rattle.kd_model.specs.Words.{contains}
use Rattle.kd_model.proofs.Lists.{all_follow, all_of_filter, all_of_put, range_below}
use Rattle.kd_replies.specs.Order.{Rises}
use Rattle.kd_replies.proofs.Ordered.{rises_filter, rises_put}
use Rattle.kd_commands.specs.declared.conn.Conn.{Conn}
use Rattle.kd_commands.specs.declared.who.WhoKind.{WhoKind}
use Rattle.kd_commands.specs.State.{Desk, has_seat, sits_before, seat_set}
use Rattle.kd_commands.specs.Plans.{Plan}
use Rattle.kd_commands.specs.Seating.{AreSeated}
use Rattle.kd_commands.proofs.Finds.{none_pass}
use Rattle.kd_commands.proofs.Moves.{Arrives, Ends, Learns, Leaves, Moves, Stays, arrives, ends, learns, leaves, stays}
use Rattle.kd_commands.proofs.Seats.{found_is_free, free_has_none}
use Rattle.kd_settled.specs.Settled.{HasSeats}

by_seat : IsStrictWeakOrder sits_before
by_seat = IsStrictWeakOrder-by_number (λ (c : Conn). c.seat)

-- others than the one on a seat stand before it or behind it
untied : (c x : Conn) → has_seat c.seat x ≡ false → ties sits_before c x ≡ false
untied c x h = grind (arith, nat_tests)

range_rises : (from count : ℕ) → Rises nat_lt (range_with_len from count)
range_rises from zero = tt
range_rises from (suc count) = (above from (from + 1) count (omega arith), range_rises (from + 1) count)
  where
    above : (n from count : ℕ) → n < from → AllByRecursion (λ k. nat_lt n k ≡ true) (range_with_len from count)
    above n from zero lt = tt
    above n from (suc count) lt = (lt-ltb n from lt, above n (from + 1) count (omega arith))

set_rises : (seats : List ℕ) → Rises nat_lt (seat_set seats)
unfolding seat_set
set_rises seats = rises_filter nat_lt (λ s. contains s seats) (range_with_len 0 64) (range_rises 0 64)

set_low : (seats : List ℕ) → AllByRecursion (λ s. s < 64) (seat_set seats)
unfolding seat_set
set_low seats = all_of_filter (λ s. s < 64) (λ s. contains s seats) (range_with_len 0 64) (range_below 64 0)

arrived_seats : (d : Desk) (m : WhoKind) (p : Plan) (t : Arrives d m p) → HasSeats d → HasSeats p.next
arrived_seats d m p t s =
    let apart : AllByRecursion (λ (x : Conn). ties sits_before t.one x ≡ false) d.conns =
    all_follow (λ (x : Conn). has_seat t.one.seat x ≡ false) (λ (x : Conn). ties sits_before t.one x ≡ false) d.conns (λ x h. untied t.one x h)
    (none_pass (has_seat t.one.seat) d.conns (free_has_none d t.one.seat (found_is_free d t.one.seat t.free))) in
    let above : 0 < t.one.id = rw t.new_id s.next_id in
    record {
      rising = rw t.conns (rises_put by_seat t.one d.conns s.rising apart);
      some_ids = rw t.conns (all_of_put (λ (c : Conn). 0 < c.id) sits_before t.one d.conns above s.some_ids);
      next_id = rw t.next_id (omega arith);
      waiting = rw t.blocked s.waiting;
      few_waiting = rw t.blocked s.few_waiting;
    }

pub seats_then : (d : Desk) (m : WhoKind) (p : Plan) → Moves d m p → HasSeats d → HasSeats p.next
seats_then d m p (stays t) s = record {
  rising = rw t.conns s.rising;
  some_ids = rw t.conns s.some_ids;
  next_id = rw t.next_id s.next_id;
  waiting = rw t.blocked s.waiting;
  few_waiting = rw t.blocked s.few_waiting;
}
seats_then d m p (arrives t) s = arrived_seats d m p t s
seats_then d m p (leaves t) s = record {
  rising = rw t.conns (rises_filter sits_before _ d.conns s.rising);
  some_ids = rw t.conns (all_of_filter (λ (c : Conn). 0 < c.id) _ d.conns s.some_ids);
  next_id = rw t.next_id s.next_id;
  waiting = rw t.blocked s.waiting;
  few_waiting = rw t.blocked s.few_waiting;
}
seats_then d m p (ends t) s = record {
  rising = rw t.conns (rises_filter sits_before _ d.conns s.rising);
  some_ids = rw t.conns (all_of_filter (λ (c : Conn). 0 < c.id) _ d.conns s.some_ids);
  next_id = rw t.next_id s.next_id;
  waiting = rw t.blocked (set_rises _);
  few_waiting = rw t.blocked (set_low _);
}
seats_then d m p (learns t) s = record {
  rising = rw t.conns s.rising;
  some_ids = rw t.conns s.some_ids;
  next_id = rw t.next_id s.next_id;
  waiting = rw t.blocked (rises_filter nat_lt _ d.blocked s.waiting);
  few_waiting = rw t.blocked (all_of_filter (λ n. n < 64) _ d.blocked s.few_waiting);
}
