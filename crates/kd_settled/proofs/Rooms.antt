-- Why the tables of a settled desk have room.
use Rattle.std.proofs.Common.{◌≡◌, ℕ, ◌+◌, ◌*◌, ◌<◌, ◌≤◌, Bool, true, false, cond, List, [], ◌∷◌, length, map, Some, refl, sym, ap, ◌∙◌, arith}
use Rattle.std.specs.Prelude.{◌==◌, ◌||◌, ◌&&◌, filter, nat_lt, not}
use Rattle.std.specs.Cmp.{IsStrictWeakOrder}
use Rattle.std.specs.List.{AllByRecursion, IsDistinct}
use Rattle.std.specs.List.Sorted.{ties}
use Rattle.std.proofs.lemmas.Bool.{and_parts, eq-eqb, eqb-true, or_left, or_right}
use Rattle.std.proofs.lemmas.Bool.Decides.{nat_tests}
use Rattle.std.proofs.lemmas.List.{length-map}
use Rattle.std.proofs.lemmas.List.MinMax.{IsStrictWeakOrder-by_number}
use Rattle.kd_model.specs.Words.{contains, put_in_order, those}
use Rattle.kd_model.proofs.Lists.{all_follow, all_of_put, all_over}
use Rattle.kd_acts.proofs.Arrived.{each}
use Rattle.kd_registry.specs.declared.claim.Claim.{Claim}
use Rattle.kd_match.specs.declared.rule.Rule.{Rule}
use Rattle.kd_match.specs.Rules.{is_named, rules_left, rules_of}
use Rattle.kd_seal.specs.Book.{has_counted}
use Rattle.kd_seal.specs.declared.seals.Counter.{Counter}
use Rattle.kd_seal.specs.declared.seals.Seal.{Seal}
use Rattle.kd_replies.specs.Order.{Rises}
use Rattle.kd_replies.specs.declared.request.Request.{Request}
use Rattle.kd_replies.proofs.Ordered.{rises_put}
use Rattle.kd_commands.specs.declared.conn.Conn.{Conn}
use Rattle.kd_commands.specs.State.{Desk, has_id, has_seat, sits_before}
use Rattle.kd_commands.specs.Hello.{free_seat}
use Rattle.kd_commands.specs.Leaving.{ids_of}
use Rattle.kd_commands.proofs.Finds.{none_pass}
use Rattle.kd_commands.proofs.Members.{turned}
use Rattle.kd_commands.proofs.Seats.{found_is_free, free_below, free_has_none}
use Rattle.kd_settled.specs.Owners.{is_asked, lives, may_claim, sends}
use Rattle.kd_settled.specs.Room.{FreeSeatsHaveRoom, HasRoom, HasRoomFor, ManyAreFew, OwnersAreLive, SendersHaveRoom, TablesHaveRoom}
use Rattle.kd_settled.specs.Settled.{AreRules, IsSettled}
use Rattle.kd_settled.proofs.Counts.{count, count_cons, count_none, length_put, many_few, many_fewer, rising_few}
use Rattle.kd_settled.proofs.Tables.{filtered_rules}
use Rattle.kd_settled.proofs.Senders.{owner_lives}

pub many_are_few : ManyAreFew
many_are_few ids owners most owned few = many_few (λ o. o) ids most owners owned few

-- whoever lives is one of them
contains_lives : (test : Conn → Bool) (cs : List Conn) (id : ℕ) → lives test cs id ≡ true → contains id (ids_of cs) ≡ true
contains_lives test [] id h = h
contains_lives test (c ∷ cs) id h = go (has_id id c && test c) refl h (λ m. contains_lives test cs id m)
  where
    go : (b : Bool) → (has_id id c && test c) ≡ b → (b || lives test cs id) ≡ true → (lives test cs id ≡ true → contains id (ids_of cs) ≡ true)
        → (id == c.id || contains id (ids_of cs)) ≡ true
    go true e more ih = or_left (id == c.id) (contains id (ids_of cs)) (turned id c.id ∙ (and_parts (has_id id c) (test c) e).0)
    go false e more ih = or_right (id == c.id) (contains id (ids_of cs)) (ih more)

-- what is theirs is few, where they are 64 and each has few of it
few_theirs :
    {X : Type 0} (key : X → ℕ) (test : X → Conn → Bool) (cs : List Conn) (most : ℕ) (xs : List X)
    → AllByRecursion (λ x. lives (test x) cs (key x) ≡ true) xs → ((id : ℕ) → count (λ x. key x == id) xs ≤ most) → length xs ≤ length (ids_of cs) * most
few_theirs key test cs most xs owned few =
    many_few key (ids_of cs) most xs
    (all_follow (λ x. lives (test x) cs (key x) ≡ true) (λ x. contains (key x) (ids_of cs) ≡ true) xs (λ x h. contains_lives (test x) cs (key x) h) owned) few

-- one of each
one_each : (ks : List Counter) (id : ℕ) → IsDistinct (λ (a b : Counter). a.id == b.id) ks → count (λ (k : Counter). k.id == id) ks ≤ 1
unfolding IsDistinct
one_each [] id d = omega arith
one_each (k ∷ ks) id d = go (k.id == id) refl (one_each ks id d.1)
  where
    q : Counter → Bool
    q j = j.id == id

    other : k.id ≡ id → (j : Counter) → (k.id == j.id) ≡ false → q j ≡ false
    other same j h = turned j.id id ∙ ap (λ n. n == j.id) (sym same) ∙ h

    go : (b : Bool) → (k.id == id) ≡ b → count q ks ≤ 1 → count q (k ∷ ks) ≤ 1
    go true e ih =
        let same : k.id ≡ id = eqb-true k.id id e in
        let none : count q ks ≡ 0 = count_none q ks (all_follow (λ (j : Counter). (k.id == j.id) ≡ false) (λ (j : Counter). q j ≡ false) ks (other same) d.0) in
        omega (arith, none, count_cons q k ks, count_cons q k [], ap (λ b. length (cond b (k ∷ []) [])) e)
    go false e ih = omega (arith, ih, count_cons q k ks, count_cons q k [], ap (λ b. length (cond b (k ∷ []) [])) e)

few_conns : (d : Desk) → IsSettled d → length d.conns ≤ 64
few_conns d s =
    omega (arith, rising_few (λ (c : Conn). c.seat) d.conns 0 64 (omega arith) (each (λ (c : Conn). 0 ≤ c.seat) (λ c. omega arith) d.conns) s.seats.rising s.seated.few_seats)

pub tables_have_room : TablesHaveRoom
tables_have_room d s = record {
  conns = few;
  claims = omega (arith, few, ids, few_theirs (λ (x : Claim). x.id) may_claim d.conns 64 d.registry s.claims.owned s.claims.few);
  rules = omega (arith, few, ids, few_theirs (λ (r : Rule). r.id) (λ r. sends) d.conns 64 d.rules.rules s.rules.owned s.rules.few);
  seals = omega (arith, few, ids, few_theirs (λ (x : Seal). x.id) (λ x. sends) d.conns 16 d.seals.seals s.seals.owned s.seals.few);
  counters =
      omega (arith, few, ids, few_theirs (λ (k : Counter). k.id) (λ k. sends) d.conns 1 d.seals.counters s.seals.counted (λ id. one_each d.seals.counters id s.seals.own_counters));
  requests = omega (arith, few, ids, few_theirs (λ (q : Request). q.asker) (λ q. sends) d.conns 128 d.requests s.requests.askers s.requests.few);
}
  where
    few : length d.conns ≤ 64
    few = few_conns d s

    ids : length (ids_of d.conns) ≡ length d.conns
    ids = length-map d.conns (λ (c : Conn). c.id)

-- ---- one more

fewer_theirs :
    {X : Type 0} (key : X → ℕ) (test : X → Conn → Bool) (cs : List Conn) (most id : ℕ) (xs : List X)
    → AllByRecursion (λ x. lives (test x) cs (key x) ≡ true) xs → ((i : ℕ) → count (λ x. key x == i) xs ≤ most) → lives sends cs id ≡ true
    → count (λ x. key x == id) xs < most → length xs < length (ids_of cs) * most
fewer_theirs key test cs most id xs owned few live room =
    many_fewer key (ids_of cs) most id xs
    (all_follow (λ x. lives (test x) cs (key x) ≡ true) (λ x. contains (key x) (ids_of cs) ≡ true) xs (λ x h. contains_lives (test x) cs (key x) h) owned) few
    (contains_lives sends cs id live) room

pub senders_have_room : SendersHaveRoom
senders_have_room d id s live = record {
  rules = left;
  seals = λ room. omega (arith, few, ids, fewer_theirs (λ (x : Seal). x.id) (λ x. sends) d.conns 16 id d.seals.seals s.seals.owned s.seals.few live room);
  counters = λ none.
      omega (
        arith,
        few,
        ids,
        fewer_theirs (λ (k : Counter). k.id) (λ k. sends) d.conns 1 id d.seals.counters s.seals.counted (λ i. one_each d.seals.counters i s.seals.own_counters) live (uncounted none),
      );
  requests = λ room. omega (arith, few, ids, fewer_theirs (λ (q : Request). q.asker) (λ q. sends) d.conns 128 id d.requests s.requests.askers s.requests.few live room);
}
  where
    few : length d.conns ≤ 64
    few = few_conns d s

    ids : length (ids_of d.conns) ≡ length d.conns
    ids = length-map d.conns (λ (c : Conn). c.id)

    uncounted : has_counted d.seals id ≡ false → count (λ (k : Counter). k.id == id) d.seals.counters < 1
    uncounted none = omega (arith, count_none (λ (k : Counter). k.id == id) d.seals.counters (none_pass (λ (k : Counter). k.id == id) d.seals.counters none))

    fewer : (cookie : ℕ) (replace : Bool) → AreRules d.conns (rules_left d.rules.rules id cookie replace)
    fewer cookie true = filtered_rules d.conns d.rules.rules (λ r. not (is_named id cookie r)) s.rules
    fewer cookie false = s.rules

    left : (cookie : ℕ) (replace : Bool) → length (rules_of id (rules_left d.rules.rules id cookie replace)) < 64 → length (rules_left d.rules.rules id cookie replace) < 4096
    left cookie replace room =
        let kept : AreRules d.conns (rules_left d.rules.rules id cookie replace) = fewer cookie replace in
        omega (arith, few, ids, fewer_theirs (λ (r : Rule). r.id) (λ r. sends) d.conns 64 id (rules_left d.rules.rules id cookie replace) kept.owned kept.few live room)

-- ---- a free seat

by_number : IsStrictWeakOrder nat_lt
by_number = IsStrictWeakOrder-by_number (λ (n : ℕ). n)

untied : (a b : ℕ) → (b == a) ≡ false → ties nat_lt a b ≡ false
untied a b h = grind (arith, nat_tests)

rising_seats : (cs : List Conn) → Rises sits_before cs → Rises nat_lt (map (λ (c : Conn). c.seat) cs)
rising_seats [] r = tt
rising_seats (c ∷ cs) r = (all_over (λ n. nat_lt c.seat n ≡ true) (λ (x : Conn). x.seat) cs r.0, rising_seats cs r.1)

pub free_seats_have_room : FreeSeatsHaveRoom
free_seats_have_room d seat s free =
    omega (
      arith,
      rising_few (λ n. n) (put_in_order nat_lt seat seats) 0 64 (omega arith) (each (λ n. 0 ≤ n) (λ n. omega arith) (put_in_order nat_lt seat seats)) (rises_put by_number seat seats (rising_seats d.conns s.seats.rising) apart) low,
      length_put nat_lt seat seats,
      length-map d.conns (λ (c : Conn). c.seat),
    )
  where
    seats : List ℕ
    seats = map (λ (c : Conn). c.seat) d.conns

    apart : AllByRecursion (λ n. ties nat_lt seat n ≡ false) seats
    apart =
        all_over (λ n. ties nat_lt seat n ≡ false) (λ (c : Conn). c.seat) d.conns
        (all_follow (λ (c : Conn). has_seat seat c ≡ false) (λ (c : Conn). ties nat_lt seat c.seat ≡ false) d.conns (λ c h. untied seat c.seat h)
        (none_pass (has_seat seat) d.conns (free_has_none d seat (found_is_free d seat free))))

    low : AllByRecursion (λ n. n < 64) (put_in_order nat_lt seat seats)
    low = all_of_put (λ n. n < 64) nat_lt seat seats (free_below d seat free) (all_over (λ n. n < 64) (λ (c : Conn). c.seat) d.conns s.seated.few_seats)

-- ---- who owns a name

pub owners_are_live : OwnersAreLive
owners_are_live d n x s e = owner_lives d n x s e
