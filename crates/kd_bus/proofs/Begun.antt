-- A bus begins.
use Rattle.std.specs.Prelude.{◌≡◌, ◌≢◌, ◌<◌, ◌≤◌, ◌+◌, ◌*◌, ◌%◌, ◌^◌, ◌==◌, ◌||◌, ◌&&◌, nat_lt, ℕ, zero, suc, Bool, true, false, List, [], ◌∷◌, ◌++◌, length, map, filter, Option, None, Result, Ok, refl}
use Rattle.std.specs.List.{AllByRecursion, IsDistinct, range_with_len}
use Rattle.std.proofs.Common.{sym, ap, ◌∙◌, subst, arith, length-append, eq-eqb, ne_eqb, eqb-true}
use Rattle.std.proofs.Math.Bool.{and-false}
use Rattle.std.proofs.lemmas.List.{append-nil}
use Rattle.std.proofs.lemmas.List.Folds.{list_any-append}
use Rattle.std.proofs.lemmas.Map.Views.{any-filter_same}
use mathlib.Core.Logic.{dite}
use native.Mathlib.Decide.{ℕ_discrete}
use Rattle.kd_model.specs.Words.{contains, some_of, those}
use Rattle.kd_model.proofs.Lists.{all_follow, range_below}
use Rattle.kd_model.proofs.Truth.{and_true}
use Rattle.kd_acts.specs.State.{Answer, Visit, by_desk, close, done}
use Rattle.kd_acts.specs.Steps.{answer}
use Rattle.kd_commands.specs.declared.conn.Conn.{Conn}
use Rattle.kd_commands.specs.State.{Desk, has_seat, seat_set}
use Rattle.kd_commands.specs.Leaving.{closing}
use Rattle.kd_commands.specs.Plans.{Part}
use Rattle.kd_commands.specs.Seating.{is_live}
use Rattle.kd_commands.proofs.Finds.{filter_agrees}
use Rattle.kd_commands.proofs.SeatSets.{range_has}
use Rattle.kd_hands.specs.declared.views.View.{View}
use Rattle.kd_histories.specs.Turns.{Did, Turn}
use Rattle.kd_histories.specs.Pools.{IsAnswered, hold_met, hold_of}
use Rattle.std.proofs.lemmas.Bool.{false≢true, le-ltb, lt-ltb, ltb-false, ltb-true}
use Rattle.kd_types.specs.declared.creds.Creds.{Creds}
use Rattle.kd_types.specs.declared.refusal.Refusal.{Refusal}
use Rattle.kd_wire.specs.declared.command.Command.TheVariants as cmd
use Rattle.kd_wire.specs.declared.reply.Reply.TheVariants as reply
use Rattle.kd_acts.specs.State.{Content}
use Rattle.kd_tables.specs.declared.part.Part as code
use Rattle.kd_tables.specs.Drafts.{Draft, PlanResult, drafted, parts_with}
use Rattle.kd_commands.specs.declared.who.WhoKind.TheVariants as who
use Rattle.kd_commands.specs.State.{opening_desk}
use Rattle.kd_commands.specs.Plans.{Plan, known}
use Rattle.kd_commands.specs.Step.{plan}
use Rattle.kd_commands.specs.Seating.{AreSeated}
use Rattle.kd_hands.specs.declared.views.Part as seen
use Rattle.kd_hands.specs.Views.{part}
use Rattle.kd_hands.specs.Fits.{Stood}
use Rattle.kd_histories.specs.Turns.{Started, left, started, removed, did, idle}
use Rattle.kd_histories.specs.Slots.{AreTold, IsTold, Slot, desk_behind, next_odd, seats_behind, slot_after, slot_from, slot_of, unborn}
use Rattle.kd_histories.specs.Seats.{AreFair}
use Rattle.kd_histories.specs.Visits.{addressed_by, visits_opened}
use Rattle.kd_histories.specs.Lent.{hand_by}
use Rattle.kd_histories.specs.Puts.{BusFact, OwesPut}
use Rattle.kd_histories.proofs.Snocs.{slot_snoc}
use Rattle.kd_histories.proofs.Knowing.{lists_know}
use Rattle.kd_histories.proofs.DeskPuts.{starts_may_be_put}
use Rattle.kd_bus.specs.declared.locked.Locked.TheVariants as locked
use Rattle.kd_bus.specs.Values.{stands}
use Rattle.kd_bus.specs.Begins.{Begins}
use Rattle.kd_turn.specs.Sight.{GateSight, Sight}
use Rattle.kd_holds.specs.Handing.{IsMadeFor, Stock}
use Rattle.kd_tables.specs.declared.part.Part.TheVariants as cp
use Rattle.kd_bus.specs.Visited.{HasDesk, HasVisit, MadeVisits}
use Rattle.kd_bus.proofs.Alone.{PassedIt}
use Rattle.kd_bus.proofs.Left.{leaves_desk}
use Rattle.kd_bus.proofs.Walked.{visits_make}
use Rattle.kd_histories.specs.Visits.{all_done, closings, visit_at, visits_at}
use Rattle.kd_histories.proofs.Going.{forced_is_done, visits_append}
use Rattle.kd_bus.specs.Begins.{is_taken, shut_below, shutting}
use Rattle.kd_bus.specs.Visited.{AreVisits, OneVisit, answers_in}
use Rattle.kd_bus.proofs.Walked.{visits_snoc}

-- ---- seats that wait

alike : (p q : ℕ → Bool) → ((k : ℕ) → k < 64 → p k ≡ q k) → filter p (range_with_len 0 64) ≡ filter q (range_with_len 0 64)
alike p q same = filter_agrees p q (range_with_len 0 64) (all_follow (λ k. k < 64) (λ k. p k ≡ q k) (range_with_len 0 64) same (range_below 64 0))

chosen : (f : ℕ → Bool) (n : ℕ) → n < 64 → contains n (filter f (range_with_len 0 64)) ≡ f n
chosen f n low = any-filter_same (λ k. n == k) f (f n) (λ k e. ap f (sym (eqb-true n k e))) (range_with_len 0 64)
    ∙ (ap (λ b. f n && b) (range_has n 0 64 (omega arith) (omega (arith, low))) ∙ and_true (f n))

abbrev pub waiting_below : ℕ → Desk → List ℕ
waiting_below i d = those (λ k. nat_lt k i && is_taken d k) (range_with_len 0 64)

lt_suc : (s i : ℕ) → s ≢ i → nat_lt s (suc i) ≡ nat_lt s i
lt_suc s i ne = go (nat_lt s i) refl
  where
    go : (b : Bool) → nat_lt s i ≡ b → nat_lt s (suc i) ≡ b
    go true e = let lt = ltb-true s i e in lt-ltb s (suc i) (omega (arith, lt))
    go false e = let le = ltb-false s i e in le-ltb s (suc i) (above le)
      where
        above : i ≤ s → suc i ≤ s
        above le = dite (ℕ_discrete s i) (λ z. absurd (ne z)) (λ m. strict s i le m)
          where
            strict : (s i : ℕ) → i ≤ s → s ≢ i → suc i ≤ s
            strict zero zero le m = absurd (m refl)
            strict zero (suc i) le m = absurd (omega (arith, le))
            strict (suc s) zero le m = omega arith
            strict (suc s) (suc i) le m = let r = strict s i (omega (arith, le)) (λ z. m (ap suc z)) in omega (arith, r)

none_chosen : (xs : List ℕ) → filter (λ k. false) xs ≡ []
none_chosen [] = refl
none_chosen (x ∷ xs) = none_chosen xs

pub waits_none : (d : Desk) → waiting_below 0 d ≡ []
waits_none d = alike (λ k. nat_lt k 0 && is_taken d k) (λ k. false) (λ k low. ap (λ b. b && is_taken d k) (le-ltb k 0 (omega arith))) ∙ none_chosen (range_with_len 0 64)

pub waits_more : (d : Desk) (i : ℕ) → i < 64 → is_taken d i ≡ true → seat_set (i ∷ waiting_below i d) ≡ waiting_below (suc i) d
unfolding seat_set
waits_more d i low up = alike (λ k. contains k (i ∷ waiting_below i d)) (λ k. nat_lt k (suc i) && is_taken d k)
    (λ k lt. dite (ℕ_discrete k i)
    (λ z. ap (λ b. b || contains k (waiting_below i d)) (eq-eqb k i z) ∙ sym (ap (λ b. b && is_taken d k) (lt-ltb k (suc i) (omega (arith, z))) ∙ (ap (is_taken d) z ∙ up)))
    (λ ne. ap (λ b. b || contains k (waiting_below i d)) (ne_eqb k i ne) ∙ (chosen (λ k. nat_lt k i && is_taken d k) k lt ∙ ap (λ b. b && is_taken d k) (sym (lt_suc k i ne)))))

pub waits_same : (d : Desk) (i : ℕ) → is_taken d i ≡ false → waiting_below i d ≡ waiting_below (suc i) d
waits_same d i off = alike (λ k. nat_lt k i && is_taken d k) (λ k. nat_lt k (suc i) && is_taken d k)
    (λ k lt. dite (ℕ_discrete k i)
    (λ z. ap (λ b. nat_lt k i && b) (ap (is_taken d) z ∙ off) ∙ (and-false (nat_lt k i) ∙ sym (ap (λ b. nat_lt k (suc i) && b) (ap (is_taken d) z ∙ off) ∙ and-false (nat_lt k (suc i)))))
    (λ ne. ap (λ b. b && is_taken d k) (sym (lt_suc k i ne))))

seats_have : (c : ℕ) (cs : List Conn) → contains c (map (λ (x : Conn). x.seat) cs) ≡ some_of (has_seat c) cs
seats_have c [] = refl
seats_have c (x ∷ xs) = ap (λ b. b || contains c (map (λ (y : Conn). y.seat) xs)) (turned c x.seat) ∙ ap (λ b. (x.seat == c) || b) (seats_have c xs)
  where
    turned : (a b : ℕ) → (a == b) ≡ (b == a)
    turned a b = dite (ℕ_discrete a b) (λ z. eq-eqb a b z ∙ sym (eq-eqb b a (sym z))) (λ ne. ne_eqb a b ne ∙ sym (ne_eqb b a (λ z. ne (sym z))))

pub waits_all : (d : Desk) → waiting_below 64 d ≡ seats_behind d
unfolding seat_set
waits_all d = alike (λ k. nat_lt k 64 && is_taken d k) (λ k. contains k (d.blocked ++ map (λ (x : Conn). x.seat) d.conns))
    (λ k lt. ap (λ b. b && is_taken d k) (lt-ltb k 64 lt)
    ∙ (ap (λ b. contains k d.blocked || b) (sym (seats_have k d.conns)) ∙ sym (list_any-append (λ n. k == n) d.blocked (map (λ (x : Conn). x.seat) d.conns))))

-- ---- pools that are closed

abbrev IsForced : Part → Type 0
IsForced q = q.act ≡ close true

all_append : (xs ys : List Part) → AllByRecursion IsForced xs → AllByRecursion IsForced ys → AllByRecursion IsForced (xs ++ ys)
all_append [] ys a b = b
all_append (x ∷ xs) ys a b = (a.0, all_append xs ys a.1 b)

shut_forced : (n : ℕ) (d : Desk) → AllByRecursion IsForced (shut_below n d)
shut_forced zero d = tt
shut_forced (suc n) d = all_append (shut_below n d) (elim (is_live d n) [ true ↦ shutting n ∷ [] | false ↦ [] ]) (shut_forced n d) (go (is_live d n))
  where
    go : (b : Bool) → AllByRecursion IsForced (elim b as (λ b. List Part) [ true ↦ shutting n ∷ [] | false ↦ [] ])
    go true = (refl, tt)
    go false = tt

abbrev dones : List Part → List Answer
dones qs = map (λ (q : Part). done) qs

forced_done : (qs : List Part) (ds : List Did) (v v' : View Turn) → AllByRecursion IsForced qs → AreVisits qs ds v v' → answers_in ds ≡ dones qs
forced_done [] [] v v' a e = refl
forced_done (q ∷ qs) [] v v' a e = absurd e
forced_done [] (d ∷ ds) v v' a e = absurd e
forced_done (q ∷ qs) (d ∷ ds) v v' a e =
    let one : OneVisit q.seat q.act d v e.0 = e.1 in
    let h = hold_met d (hold_of one.list) in
    let act : d.act ≡ by_desk (close true) = one.act ∙ ap (λ x. by_desk x) a.0 in
    let told : d.answer ≡ answer h (by_desk (close true)) = subst (λ x. IsAnswered h x d.answer) act one.is.answer in
    ap (λ o. o ∷ answers_in ds) (told ∙ forced_is_done h) ∙ ap (λ os. done ∷ os) (forced_done qs ds e.0 v' a.1 e.2)

pub shut_done : (n : ℕ) (d : Desk) (ds : List Did) (v v' : View Turn) → AreVisits (shut_below n d) ds v v' → answers_in ds ≡ dones (shut_below n d)
shut_done n d ds v v' e = forced_done (shut_below n d) ds v v' (shut_forced n d) e

-- the pools on the seats below a limit are closed
pub record Shutting (gate : GateSight) (d : Desk) (old now : Sight Turn) (made : Stock) (n : ℕ) : Type 0 where
  pub desk : HasDesk gate now
  pub made_is : IsMadeFor made []
  pub entries : List Did
  pub each : AreVisits (shut_below n d) entries old.view now.view
  pub few : length entries ≤ n
  pub within : n ≤ 64

pub shuts_none : (gate : GateSight) (d : Desk) (p : Sight Turn) (made : Stock) → HasDesk gate p → IsMadeFor made [] → Shutting gate d p p made 0
shuts_none gate d p made desk is = record { desk = desk; made_is = is; entries = []; each = refl; few = omega arith; within = omega arith }

-- nothing is made for a part that closes
pub made_for_close : (made : Stock) (n : ℕ) → IsMadeFor made [] → IsMadeFor made (cp.Close n true ∷ [])
made_for_close made n is = record { raised = is.raised; hands = tt; buffer = tt; few = is.few }

pub turns_low : (gate : GateSight) (d : Desk) (old now : Sight Turn) (made : Stock) (n : ℕ) → n < 64 → Shutting gate d old now made n → old.view.turns + 64 ≤ 2 ^ 43 → now.view.turns < 2 ^ 43
turns_low gate d old now made n lt w low = let t = (visits_make (shut_below n d) w.entries old.view now.view w.each).turns in let f = w.few in omega (arith, t, f, lt, low)

pub shuts_same : (gate : GateSight) (d : Desk) (old now : Sight Turn) (made : Stock) (n : ℕ) → n < 64 → is_live d n ≡ false → Shutting gate d old now made n → Shutting gate d old now made (suc n)
shuts_same gate d old now made n lt off w = record {
  desk = w.desk;
  made_is = w.made_is;
  entries = w.entries;
  each = subst (λ qs. AreVisits qs w.entries old.view now.view) (sym (ap (λ b. shut_below n d ++ elim b as (λ b. List Part) [ true ↦ shutting n ∷ [] | false ↦ [] ]) off ∙ append-nil (shut_below n d))) w.each;
  few = let f = w.few in omega (arith, f);
  within = omega (arith, lt);
}

pub shuts_more : (gate : GateSight) (d : Desk) (old now now' : Sight Turn) (made made' : Stock) (n generation : ℕ) (o : Answer) → n < 64 → is_live d n ≡ true → Shutting gate d old now made n → HasDesk gate now' → IsMadeFor made' [] → HasVisit n (close true) o generation now.view now'.view
    → Shutting gate d old now' made' (suc n)
shuts_more gate d old now now' made made' n generation o lt up w desk is x = record {
  desk = desk;
  made_is = is;
  entries = w.entries ++ x.entry ∷ [];
  each = subst (λ qs. AreVisits qs (w.entries ++ x.entry ∷ []) old.view now'.view) (sym (ap (λ b. shut_below n d ++ elim b as (λ b. List Part) [ true ↦ shutting n ∷ [] | false ↦ [] ]) up))
      (visits_snoc (shut_below n d) w.entries (shutting n) x.entry old.view now.view now'.view w.each x.visit);
  few = let f = w.few in let long = length-append w.entries (x.entry ∷ []) in omega (arith, f, long);
  within = omega (arith, lt);
}

-- ---- as a new bus addresses them

abbrev one_if : Bool → List (Visit × Answer)
one_if b = elim b [ true ↦ (close true, done) ∷ [] | false ↦ [] ]

dones_snoc : (xs : List Part) (q : Part) → dones (xs ++ q ∷ []) ≡ dones xs ++ done ∷ []
dones_snoc [] q = refl
dones_snoc (x ∷ xs) q = ap (λ os. done ∷ os) (dones_snoc xs q)

made_at : (c n : ℕ) (d : Desk) → visits_at c (shut_below n d) (dones (shut_below n d)) ≡ one_if (nat_lt c n && is_live d c)
unfolding visits_at
made_at c zero d = sym (ap (λ b. one_if (b && is_live d c)) (le-ltb c 0 (omega arith)))
made_at c (suc n) d = go (made_at c n d) (is_live d n) refl
  where
    was : List Part
    was = shut_below n d

    go : visits_at c was (dones was) ≡ one_if (nat_lt c n && is_live d c) → (b : Bool) → is_live d n ≡ b → visits_at c (was ++ elim b [ true ↦ shutting n ∷ [] | false ↦ [] ]) (dones (was ++ elim b [ true ↦ shutting n ∷ [] | false ↦ [] ])) ≡ one_if (nat_lt c (suc n) && is_live d c)
    go ih true e = ap (visits_at c (was ++ shutting n ∷ [])) (dones_snoc was (shutting n)) ∙ (visits_append c was (shutting n) (dones was) done refl
        ∙ (ap (λ xs. xs ++ visit_at c (shutting n) done) ih ∙ dite (ℕ_discrete n c)
        (λ z. ap (λ b. one_if (b && is_live d c) ++ visit_at c (shutting n) done) (le-ltb c n (omega (arith, z)))
        ∙ (ap (λ b. elim b as (λ b. List (Visit × Answer)) [ true ↦ (close true, done) ∷ [] | false ↦ [] ]) (eq-eqb n c z)
        ∙ sym (ap (λ b. one_if (b && is_live d c)) (lt-ltb c (suc n) (omega (arith, z))) ∙ ap one_if (ap (is_live d) (sym z) ∙ e))))
        (λ ne. ap (λ b. one_if (nat_lt c n && is_live d c) ++ elim b as (λ b. List (Visit × Answer)) [ true ↦ (close true, done) ∷ [] | false ↦ [] ]) (ne_eqb n c ne)
        ∙ (append-nil (one_if (nat_lt c n && is_live d c)) ∙ ap (λ b. one_if (b && is_live d c)) (sym (lt_suc c n (λ z. ne (sym z))))))))
    go ih false e = ap (λ xs. visits_at c xs (dones xs)) (append-nil was) ∙ (ih ∙ dite (ℕ_discrete n c)
        (λ z. ap (λ b. one_if (nat_lt c n && b)) (ap (is_live d) (sym z) ∙ e) ∙ (ap one_if (and-false (nat_lt c n))
        ∙ sym (ap (λ b. one_if (nat_lt c (suc n) && b)) (ap (is_live d) (sym z) ∙ e) ∙ ap one_if (and-false (nat_lt c (suc n))))))
        (λ ne. ap (λ b. one_if (b && is_live d c)) (sym (lt_suc c n (λ z. ne (sym z))))))

none_at : (c : ℕ) (cs : List Conn) → AllByRecursion (λ (y : Conn). (y.seat == c) ≡ false) cs → visits_at c (map (closing true) cs) (map (λ (y : Conn). done) cs) ≡ []
unfolding visits_at
none_at c [] a = refl
none_at c (y ∷ ys) a =
    ap (λ b. elim b as (λ b. List (Visit × Answer)) [ true ↦ (close true, done) ∷ [] | false ↦ [] ] ++ visits_at c (map (closing true) ys) (map (λ (z : Conn). done) ys)) a.0 ∙ none_at c ys a.1

others : (x : Conn) (c : ℕ) (ys : List Conn) → x.seat ≡ c → AllByRecursion (λ (y : Conn). (x.seat == y.seat) ≡ false) ys → AllByRecursion (λ (y : Conn). (y.seat == c) ≡ false) ys
others x c [] at a = tt
others x c (y ∷ ys) at a = (ne_eqb y.seat c (λ z. eqb_not x.seat y.seat a.0 (at ∙ sym z)), others x c ys at a.1)
  where
    eqb_not : (a b : ℕ) → (a == b) ≡ false → a ≡ b → ⊥
    eqb_not a b e z = false≢true (sym e ∙ eq-eqb a b z)

closed_at : (c : ℕ) (cs : List Conn) → IsDistinct (λ (a b : Conn). a.seat == b.seat) cs → visits_at c (map (closing true) cs) (map (λ (y : Conn). done) cs) ≡ one_if (some_of (has_seat c) cs)
unfolding visits_at IsDistinct
closed_at c [] a = refl
closed_at c (x ∷ xs) a = dite (ℕ_discrete x.seat c)
    (λ z. ap (λ b. elim b as (λ b. List (Visit × Answer)) [ true ↦ (close true, done) ∷ [] | false ↦ [] ] ++ rest) (eq-eqb x.seat c z)
    ∙ (ap (λ ys. (close true, done) ∷ ys) (none_at c xs (others x c xs z a.0)) ∙ sym (ap (λ b. one_if (b || some_of (has_seat c) xs)) (eq-eqb x.seat c z))))
    (λ ne. ap (λ b. elim b as (λ b. List (Visit × Answer)) [ true ↦ (close true, done) ∷ [] | false ↦ [] ] ++ rest) (ne_eqb x.seat c ne)
    ∙ (closed_at c xs a.1 ∙ sym (ap (λ b. one_if (b || some_of (has_seat c) xs)) (ne_eqb x.seat c ne))))
  where
    rest : List (Visit × Answer)
    rest = visits_at c (map (closing true) xs) (map (λ (y : Conn). done) xs)

none_above : (c : ℕ) (cs : List Conn) → 64 ≤ c → AllByRecursion (λ (x : Conn). x.seat < 64) cs → some_of (has_seat c) cs ≡ false
none_above c [] high a = refl
none_above c (x ∷ xs) high a = let lt = a.0 in ap (λ b. b || some_of (has_seat c) xs) (ne_eqb x.seat c (λ z. omega (arith, high, lt, z))) ∙ none_above c xs high a.1

pub shut_addressed : (c : ℕ) (d : Desk) → AreSeated d → visits_at c (shut_below 64 d) (dones (shut_below 64 d)) ≡ visits_at c (closings d) (all_done d)
shut_addressed c d seated = made_at c 64 d ∙ (go (nat_lt c 64) refl ∙ sym (closed_at c d.conns seated.own_seats))
  where
    go : (b : Bool) → nat_lt c 64 ≡ b → one_if (b && is_live d c) ≡ one_if (is_live d c)
    go true e = refl
    go false e = sym (ap one_if (none_above c d.conns (ltb-false c 64 e) seated.few_seats))

-- ---- the entry

low_after : (t : Turn) (s : Slot) → (slot_after t s).generation ≤ s.generation + 2
unfolding slot_after
low_after (left l) s = omega arith
low_after (started b) s = let r = mod_low s.generation in omega (arith, r)
  where
    mod_low : (n : ℕ) → n % 2 ≤ 1
    mod_low n = omega arith
low_after (removed g) s = omega arith
low_after (did d) s = omega arith
low_after idle s = omega arith

low_from : (s : Slot) (xs : List (ℕ × Turn)) → (slot_from s xs).generation ≤ s.generation + 2 * length xs
unfolding slot_from
low_from s [] = omega arith
low_from s (x ∷ xs) = let a = low_after x.1 s in let b = low_from (slot_after x.1 s) xs in omega (arith, a, b)

pub generation_low : (list : List (ℕ × Turn)) → (slot_of list).generation ≤ 2 * length list
generation_low list = let a = low_from unborn list in omega (arith, a)

module _ (s : Slot) (g creator size hashes : ℕ) (is : g ≡ next_odd s.generation) where
  abbrev b : Started
  b = record { generation = g; creator = creator; size = size; hashes = hashes }

  pub started_stands : (list : List (ℕ × Turn)) (name : ℕ) (d' : Desk) (e : Turn) → slot_of list ≡ s → e ≡ started b → d' ≡ record (opening_desk creator size hashes) { blocked = seats_behind s.desk } → stands 0 (list ++ (name, e) ∷ []) (locked.Desk (record { generation = g; desk = d' }))
  unfolding slot_after desk_behind
  started_stands list name d' e value says now = ap (λ z. locked.Desk z)
      (sym (slot_snoc unborn list (name, e) ∙ (ap (slot_after e) value ∙ (ap (λ t. slot_after t s) says
      ∙ (ap (λ (n : ℕ). record { generation = n; desk = desk_behind s.desk creator size hashes }) (sym is) ∙ ap (λ (z : Desk). record { generation = g; desk = z }) (sym now))))))

  module _ (v w : View Turn) (desk : (part v 0).holds ≡ true) (shut : v.opened ≡ []) (value : slot_of (part v 0).seen ≡ s) (seated : AreSeated s.desk) (ds : List Did) (each : AreVisits (shut_below 64 s.desk) ds v w) (e : Turn) (says : e ≡ started b) where
    made : MadeVisits (shut_below 64 s.desk) ds v w
    made = visits_make (shut_below 64 s.desk) ds v w each

    value_now : slot_of (part w 0).seen ≡ s
    value_now = ap (λ (q : seen.Part Turn). slot_of q.seen) made.desk ∙ value

    pub stands_then : (d' : Desk) → d' ≡ record (opening_desk creator size hashes) { blocked = seats_behind s.desk } → stands 0 ((part w 0).seen ++ (w.name, e) ∷ []) (locked.Desk (record { generation = g; desk = d' }))
    stands_then d' now = started_stands (part w 0).seen w.name d' e value_now says now

    pub started_put : OwesPut w 0 e
    unfolding IsTold addressed_by visits_opened
    started_put = subst (OwesPut w 0) (sym says) (starts_may_be_put b w record {
      desk = ap (λ (q : seen.Part Turn). q.holds) made.desk ∙ desk;
      is = is ∙ ap (λ (z : Slot). next_odd z.generation) (sym value_now);
      opened = λ c. made.opened c
          ∙ (ap (λ xs. visits_opened (suc c) xs ++ visits_at c (shut_below 64 s.desk) (answers_in ds)) shut
          ∙ (ap (visits_at c (shut_below 64 s.desk)) (shut_done 64 s.desk ds v w each)
          ∙ (shut_addressed c s.desk seated ∙ ap (λ (z : Slot). visits_at c (closings z.desk) (all_done z.desk)) (sym value_now))));
    })

    pub begins_so : (v' : View Turn) → PassedIt 0 e w v' → Begins s g creator size hashes v v'
    unfolding hand_by
    begins_so v' put = record {
      entries = ds;
      then = w;
      is = is;
      each = each;
      made = made;
      left = leaves_desk e (started b) w v' says (λ hs. ap (λ y. hand_by y hs) says) put;
    }

-- ---- what is needed

pub seated_so : (v : View Turn) → (part v 0).holds ≡ true → Stood BusFact v → AreSeated (slot_of (part v 0).seen).desk
seated_so v desk stood =
    let whole : (part v 0).seen ≡ stood.world.told.lists 0 = stood.fits.whole 0 desk in
    (lists_know (part v 0).seen (subst (AreTold unborn) (sym whole) stood.holds.0.told) (subst (λ xs. (c : ℕ) → AreFair c None xs) (sym whole) stood.holds.0.fair)).seated

no_parts : (cs : List (Option Content)) (ps : List code.Part) → parts_with cs ps ≡ [] → ps ≡ []
no_parts cs [] e = refl
no_parts [] (p ∷ ps) e = absurd cc
no_parts (c ∷ cs) (p ∷ ps) e = absurd cc

pub asks_nothing : (d : Desk) (creds : Creds) (p : Draft) → PlanResult d (plan d (record { creds = creds; member = who.Fresh }) cmd.Close) (Ok p) → p.parts ≡ []
unfolding plan drafted
asks_nothing d creds p it = no_parts p.contents p.parts (sym (parts_of (known reply.Close d) (drafted d p) it.0))
  where
    parts_of : (a b : Plan) → ◌≡◌ {A = Result Plan Refusal} (Ok a) (Ok b) → a.parts ≡ b.parts
    parts_of a b e = let same : a ≡ b = cc in ap (λ (x : Plan). x.parts) same
