-- A seated desk stays so: ids and seats are those of one connection each, and no seat waits that a
-- live connection has.
use Rattle.std.proofs.Common.{◌≡◌, ℕ, ◌<◌, ◌+◌, Bool, true, false, List, [], ◌∷◌, ◌++◌, sym, ◌∙◌, arith}
use Rattle.std.specs.Prelude.{◌==◌, not}
use Rattle.std.specs.List.{AllByRecursion}
use Rattle.std.proofs.lemmas.Bool.{not-true, or_from}
use Rattle.std.proofs.lemmas.List.Folds.{list_any-append}
use Rattle.kd_model.specs.Words.{but_those, contains}
use Rattle.kd_model.proofs.Lists.{all_follow, all_of_filter, all_of_put, distinct_of_filter, distinct_of_put}
use Rattle.kd_replies.specs.Requests.{is_among}
use Rattle.kd_commands.specs.declared.conn.Conn.{Conn}
use Rattle.kd_commands.specs.declared.who.WhoKind.{WhoKind}
use Rattle.kd_commands.specs.State.{Desk, has_id, has_seat, sits_before, seat_set}
use Rattle.kd_commands.specs.Hello.{is_free}
use Rattle.kd_commands.specs.Leaving.{ids_of, on_endpoint}
use Rattle.kd_commands.specs.Plans.{Plan}
use Rattle.kd_commands.specs.Seating.{AreSeated, SeatingStays}
use Rattle.kd_commands.proofs.Finds.{all_both, all_that_pass, none_pass, passes_none}
use Rattle.kd_commands.proofs.Members.{IsAlike, endpoint_alike, none_new, seats_of, turned, without}
use Rattle.kd_commands.proofs.Moves.{Arrives, Ends, Learns, Leaves, Moves, Stays, arrives, ends, learns, leaves, stays}
use Rattle.kd_commands.proofs.Moving.{moves}
use Rattle.kd_commands.proofs.SeatSets.{not_in_set}
use Rattle.kd_commands.proofs.Seats.{found_is_free, free_below, free_has_none, free_is_unblocked}

-- the seat doesn't wait
abbrev IsNotIn : List ℕ → Conn → Type 0
IsNotIn seats c = contains c.seat seats ≡ false

-- ---- with the same connections

seated_alike : (d e : Desk) → e.conns ≡ d.conns → e.next_id ≡ d.next_id → AllByRecursion (IsNotIn e.blocked) d.conns → AreSeated d → AreSeated e
seated_alike d e conns next unblocked s = record {
  old_ids = rw (conns, next) s.old_ids;
  own_ids = rw conns s.own_ids;
  few_seats = rw conns s.few_seats;
  own_seats = rw conns s.own_seats;
  unblocked = rw conns unblocked;
}

stayed_seated : (d : Desk) (m : WhoKind) (p : Plan) (t : Stays d m p) → AreSeated d → AreSeated p.next
stayed_seated d m p t s = seated_alike d p.next t.conns t.next_id (rw t.blocked s.unblocked) s

learned_seated : (d : Desk) (m : WhoKind) (p : Plan) (t : Learns d m p) → AreSeated d → AreSeated p.next
learned_seated d m p t s =
    seated_alike d p.next t.conns t.next_id
    (rw t.blocked (all_follow (IsNotIn d.blocked) (IsNotIn fewer) d.conns (λ c h. isnt c.seat h) s.unblocked)) s
  where
    fewer : List ℕ
    fewer = but_those (λ b. b == t.seat) d.blocked

    isnt : (n : ℕ) → contains n d.blocked ≡ false → contains n fewer ≡ false
    isnt n h = passes_none (λ b. n == b) fewer (all_of_filter (λ b. (n == b) ≡ false) (λ b. not (b == t.seat)) d.blocked (none_pass (λ b. n == b) d.blocked h))

-- ---- without some

stays_on : List Conn → Conn → Bool
stays_on gone c = not (is_among (ids_of gone) c.id)

seated_without :
    (d e : Desk) (gone : List Conn) → e.conns ≡ without gone d.conns → e.next_id ≡ d.next_id → AllByRecursion (IsNotIn e.blocked) (without gone d.conns)
    → AreSeated d → AreSeated e
unfolding stays_on
seated_without d e gone conns next unblocked s = record {
  old_ids = rw (conns, next) (all_of_filter (λ (c : Conn). c.id < d.next_id) (stays_on gone) d.conns s.old_ids);
  own_ids = rw conns (distinct_of_filter (λ (a b : Conn). a.id == b.id) (stays_on gone) d.conns s.own_ids);
  few_seats = rw conns (all_of_filter (λ (c : Conn). c.seat < 64) (stays_on gone) d.conns s.few_seats);
  own_seats = rw conns (distinct_of_filter (λ (a b : Conn). a.seat == b.seat) (stays_on gone) d.conns s.own_seats);
  unblocked = rw conns unblocked;
}

left_seated : (d : Desk) (m : WhoKind) (p : Plan) (t : Leaves d m p) → AreSeated d → AreSeated p.next
unfolding stays_on
left_seated d m p t s =
    seated_without d p.next (t.one ∷ []) t.conns t.next_id (rw t.blocked (all_of_filter (IsNotIn d.blocked) (stays_on (t.one ∷ [])) d.conns s.unblocked)) s

-- whoever isn't on the endpoint has another seat than those that wait then
ended_unblocked : (d : Desk) (e : ℕ) → AreSeated d → AllByRecursion (IsNotIn (d.blocked ++ seats_of (on_endpoint d e))) (without (on_endpoint d e) d.conns)
unfolding stays_on
ended_unblocked d e s =
    all_that_pass (IsNotIn more) (stays_on gone) d.conns
    (all_follow (λ (c : Conn). IsNotIn d.blocked c × IsAlike gone c) (λ (c : Conn). stays_on gone c ≡ true → IsNotIn more c) d.conns isnt both)
  where
    gone : List Conn
    gone = on_endpoint d e

    more : List ℕ
    more = d.blocked ++ seats_of gone

    both : AllByRecursion (λ (c : Conn). IsNotIn d.blocked c × IsAlike gone c) d.conns
    both = all_both (IsNotIn d.blocked) (IsAlike gone) d.conns s.unblocked (endpoint_alike d e s)

    isnt : (c : Conn) → IsNotIn d.blocked c × IsAlike gone c → stays_on gone c ≡ true → IsNotIn more c
    isnt c h stay =
        list_any-append (λ n. c.seat == n) d.blocked (seats_of gone)
        ∙ or_from (contains c.seat d.blocked) (contains c.seat (seats_of gone)) h.0 (sym h.1 ∙ not-true (is_among (ids_of gone) c.id) stay)

ended_seated : (d : Desk) (m : WhoKind) (p : Plan) (t : Ends d m p) → AreSeated d → AreSeated p.next
ended_seated d m p t s = seated_without d p.next (on_endpoint d t.endpoint) t.conns t.next_id (rw t.blocked in_none) s
  where
    more : List ℕ
    more = d.blocked ++ seats_of (on_endpoint d t.endpoint)

    in_none : AllByRecursion (IsNotIn (seat_set more)) (without (on_endpoint d t.endpoint) d.conns)
    in_none =
        all_follow (IsNotIn more) (IsNotIn (seat_set more)) (without (on_endpoint d t.endpoint) d.conns)
        (λ c h. not_in_set c.seat more h) (ended_unblocked d t.endpoint s)

-- ---- with one more

-- whoever came has an id and a seat of its own
own_id : (d : Desk) (c : Conn) → AllByRecursion (λ (x : Conn). has_id c.id x ≡ false) d.conns → AllByRecursion (λ (x : Conn). (c.id == x.id) ≡ false) d.conns
own_id d c a = all_follow (λ (x : Conn). has_id c.id x ≡ false) (λ (x : Conn). (c.id == x.id) ≡ false) d.conns (λ x h. turned c.id x.id ∙ h) a

own_seat :
    (d : Desk) (c : Conn) → AllByRecursion (λ (x : Conn). has_seat c.seat x ≡ false) d.conns
    → AllByRecursion (λ (x : Conn). (c.seat == x.seat) ≡ false) d.conns
own_seat d c a = all_follow (λ (x : Conn). has_seat c.seat x ≡ false) (λ (x : Conn). (c.seat == x.seat) ≡ false) d.conns (λ x h. turned c.seat x.seat ∙ h) a

old_ids_with : (d : Desk) (c : Conn) → c.id ≡ d.next_id → AreSeated d → (c.id < d.next_id + 1) × AllByRecursion (λ (x : Conn). x.id < d.next_id + 1) d.conns
old_ids_with d c e s =
    (omega arith, all_follow (λ (x : Conn). x.id < d.next_id) (λ (x : Conn). x.id < d.next_id + 1) d.conns (λ x h. omega arith) s.old_ids)

arrived_seated : (d : Desk) (m : WhoKind) (p : Plan) (t : Arrives d m p) → AreSeated d → AreSeated p.next
arrived_seated d m p t s =
    let c : Conn = t.one in
    let free : is_free d c.seat ≡ true = found_is_free d c.seat t.free in
    let ids : AllByRecursion (λ (x : Conn). has_id c.id x ≡ false) d.conns = none_new d c.id s t.new_id in
    let seats : AllByRecursion (λ (x : Conn). has_seat c.seat x ≡ false) d.conns = none_pass (has_seat c.seat) d.conns (free_has_none d c.seat free) in
    let old : (c.id < d.next_id + 1) × AllByRecursion (λ (x : Conn). x.id < d.next_id + 1) d.conns = old_ids_with d c t.new_id s in
    record {
      old_ids = rw (t.conns, t.next_id) (all_of_put (λ (x : Conn). x.id < d.next_id + 1) sits_before c d.conns old.0 old.1);
      own_ids = rw t.conns (distinct_of_put (λ (a b : Conn). a.id == b.id) sits_before c d.conns (own_id d c ids) ids s.own_ids);
      few_seats = rw t.conns (all_of_put (λ (x : Conn). x.seat < 64) sits_before c d.conns (free_below d c.seat t.free) s.few_seats);
      own_seats = rw t.conns (distinct_of_put (λ (a b : Conn). a.seat == b.seat) sits_before c d.conns (own_seat d c seats) seats s.own_seats);
      unblocked = rw (t.conns, t.blocked) (all_of_put (IsNotIn d.blocked) sits_before c d.conns (free_is_unblocked d c.seat free) s.unblocked);
    }

-- ---- any

seated_after : (d : Desk) (m : WhoKind) (p : Plan) → Moves d m p → AreSeated d → AreSeated p.next
seated_after d m p (stays t) = stayed_seated d m p t
seated_after d m p (arrives t) = arrived_seated d m p t
seated_after d m p (leaves t) = left_seated d m p t
seated_after d m p (ends t) = ended_seated d m p t
seated_after d m p (learns t) = learned_seated d m p t

pub seating_stays : SeatingStays
seating_stays d k w x p s is e = seated_after d w.member p (moves d k w x p is e) s
