-- Whatever legal events lead to: what was placed is published while its pool is there.
use Rattle.std.specs.Prelude.{◌≡◌, ◌<◌, ◌-◌, ◌==◌, ◌&&◌, ℕ, Bool, true, false, not, List, [], ◌∷◌, ◌++◌, length, get_or, set, refl, Option, Some, None, is_none, is_some}
use Rattle.std.specs.List.{AllByRecursion}
use Rattle.std.proofs.Common.{ap, sym, subst, ◌∙◌, arith, eqb-true}
use Rattle.std.proofs.lemmas.Bool.{true≢false}
use Rattle.kd_model.proofs.Lists.{all_of_found}
use Rattle.kd_wire.specs.WellFormed.{is_well_formed}
use Rattle.kd_acts.specs.declared.receive.RecvMode.{RecvMode}
use Rattle.kd_acts.specs.State.{Act, Hold, free, publish, read, receive}
use Rattle.kd_acts.specs.Steps.{after}
use Rattle.kd_acts.proofs.Reserved.{owed_arrives, takes, turns}
use Rattle.kd_commands.specs.declared.who.Who.{Who}
use Rattle.kd_commands.specs.State.{Desk}
use Rattle.kd_commands.specs.Plans.{Part}
use Rattle.kd_world.specs.declared.told.Told.{Told}
use Rattle.kd_world.specs.declared.told.Told.TheVariants.{Peeked, Handed}
use Rattle.kd_world.specs.Hands.{hand_freed, hand_received}
use Rattle.kd_world.specs.State.{Pending, Caller, Holder, World, caller_at, closed_pool, new_world, pool_at, stranger}
use Rattle.kd_world.specs.Planner.{planned}
use Rattle.kd_world.specs.Holding.{holds_desk, next_visit, parts_held}
use Rattle.kd_world.specs.Own.{is_pending_at, pending_of, pool_seat, hand_entry}
use Rattle.kd_world.specs.Legal.{Event, frees, is_caller, is_for_desk, is_part_at, leave, legal, publishes, reads, receives, take, visit}
use Rattle.kd_world.specs.Pools.{Aimed, act_at, act_of, free_of, pools_after, pool_answer}
use Rattle.kd_world.specs.Callers.{has_published, without_first}
use Rattle.kd_world.specs.Step.{step}
use Rattle.kd_world.specs.Runs.{all_legal, world_after, IsReached}
use Rattle.kd_world.specs.Owed.{PublishesAlwaysArrive}
use Rattle.kd_model.proofs.Truth.{left_true, right_true}
use Rattle.kd_world.proofs.Tied.{of}
use Rattle.kd_world.proofs.Agreeing.{but_at, each, here, there}
use Rattle.kd_world.proofs.Holders.{Kept, answer_is, caller_index, pools_are, pools_by, pools_of, take_is}
use Rattle.kd_world.proofs.Own.{free_act, free_is, publish_act, publish_is, read_act, read_is, receive_act, receive_is}
use Rattle.kd_world.proofs.Reached.{kept_on, opening_keeps, reached_keeps}
use Rattle.kd_world.proofs.Made.{made_alike}
use Rattle.kd_world.proofs.Placing.{OwesWell, leave_owes, made_by, opening_owes, owing_of, set_pendings, take_owes, visit_owes}
use Rattle.kd_world.proofs.Owing.{IsDue, Owes, first_less, owes_less, owes_still, same_generations, with_owing}

-- ---- publishings

-- what was made depends on the pools' generations alone
made_same : (d : Desk) (o : Option Holder) (pools later : List Hold) (callers others : List Caller)
    → ((s : ℕ) → (get_or later s closed_pool).generation ≡ (get_or pools s closed_pool).generation) → (i : ℕ)
    → made_by (of d o later others) o i ≡ made_by (of d o pools callers) o i
made_same d None pools later callers others same i = refl
made_same d (Some h) pools later callers others same i =
    ap (λ xs. elim (i == h.caller - 1) as (λ b. List Pending) [ true ↦ xs | false ↦ [] ])
    (made_alike (of d (Some h) pools callers) (of d (Some h) later others) same (parts_held (of d (Some h) pools callers) h) h.outs)

module _ (d : Desk) (o : Option Holder) (pools : List Hold) (callers : List Caller) (k : Kept (of d o pools callers))
    (r : OwesWell (of d o pools callers)) (n : ℕ) (is : is_caller n ≡ true) where
  abbrev v : World
  v = of d o pools callers

  abbrev c : Caller
  c = caller_at v n

  abbrev place : ℕ
  place = n - 1

  small : place < length callers
  small = let many = k.many_callers in let low = caller_index n is in omega (arith, many, low)

  pub publish_owes : (s number : ℕ) → is_some (pending_of v n s number) ≡ true → OwesWell (step v (publishes n s number))
  publish_owes s number some = go (pending_of v n s number) refl some
    where
      go : (q : Option Pending) → pending_of v n s number ≡ q → is_some q ≡ true → OwesWell (step v (publishes n s number))
      go None f t = absurd (true≢false (sym t))
      go (Some p) f t =
          let act : Act = publish p.generation p.number p.content in
          let pools' : List Hold = set pools p.seat (after (get_or pools p.seat closed_pool) act) in
          let rest : List Pending = without_first (is_pending_at s number) c.pendings in
          let w' : World = of d o pools' (set callers place (has_published s number c)) in
          let same : (j : ℕ) → made_by w' o j ≡ made_by v o j =
          made_same d o pools pools' callers (set callers place (has_published s number c)) (same_generations pools k.agrees.numbered p.seat act refl) in
          let front : ℕ → List Pending = λ j. (get_or callers j stranger).pendings in
          subst OwesWell (publish_is d o pools callers n s number)
          (subst (λ xs. OwesWell (of d o xs (set callers place (has_published s number c))))
          (sym (pools_are v (publishes n s number) (Some (record { seat = p.seat; act = act })) (publish_act v n s number (Some p) f)))
          (with_owing (pools_of pools') (but_at (owing_of v) place (rest ++ made_by v o place)) (owing_of w')
          (λ j. each (λ j xs. xs ≡ but_at front place rest j ++ made_by v o j) (owing_of v) place (rest ++ made_by v o place)
          (ap (λ xs. xs ++ made_by v o place) (sym (here front place rest))) (λ j ne. ap (λ xs. xs ++ made_by v o j) (sym (there front place j rest ne))) j
          ∙ ap (λ xs. xs ++ made_by v o j) (sym (set_pendings callers place (has_published s number c) small j))
          ∙ ap (λ xs. (get_or (set callers place (has_published s number c)) j stranger).pendings ++ xs) (sym (same j)))
          (owes_less pools k.agrees.numbered p.seat act (owing_of v) r place p (rest ++ made_by v o place)
          (first_less (is_pending_at s number) p c.pendings (made_by v o place) f) refl refl)))

  -- ---- receives, reads and frees

  -- they end no generation and publish nothing
  abbrev IsQuiet : Option Aimed → Type 0
  IsQuiet None = Unit {0}
  IsQuiet (Some a) = (turns a.act ≡ false) × ((g m : ℕ) → takes g m a.act ≡ false)

  quiet_at : (s : Option ℕ) (a : Act) → turns a ≡ false → ((g m : ℕ) → takes g m a ≡ false) → IsQuiet (act_at s a)
  quiet_at None a t f = tt
  quiet_at (Some s) a t f = (t, f)

  quiet_free : (s : Option ℕ) (m : ℕ) (t : Option Told) → IsQuiet (free_of s m t)
  quiet_free s m None = tt
  quiet_free s m (Some Peeked) = tt
  quiet_free s m (Some Handed) = quiet_at s (free m) refl (λ g n. refl)

  generations : (a : Option Aimed) → IsQuiet a → (t : ℕ) → (get_or (pools_by a pools) t closed_pool).generation ≡ (get_or pools t closed_pool).generation
  generations None q t = refl
  generations (Some a) q t = same_generations pools k.agrees.numbered a.seat a.act q.0 t

  still : (a : Option Aimed) → IsQuiet a → Owes (pools_of (pools_by a pools)) (owing_of v)
  still None q = r
  still (Some a) q = owes_still pools k.agrees.numbered a.seat a.act (owing_of v) r q.1

  -- others that owe as much
  abbrev OweAlike : List Caller → Type 0
  OweAlike others = (j : ℕ) → (get_or others j stranger).pendings ≡ (get_or callers j stranger).pendings

  quiet_owes : (e : Event) (a : Option Aimed) (others : List Caller) → act_of v e ≡ a → IsQuiet a → OweAlike others → OwesWell (of d o (pools_after v e) others)
  quiet_owes e a others f q same =
      subst (λ xs. OwesWell (of d o xs others)) (sym (pools_are v e a f))
      (with_owing (pools_of (pools_by a pools)) (owing_of v) (owing_of (of d o (pools_by a pools) others))
      (λ j. ap (λ xs. xs ++ made_by v o j) (sym (same j))
      ∙ ap (λ xs. (get_or others j stranger).pendings ++ xs) (sym (made_same d o pools (pools_by a pools) callers others (generations a q) j)))
      (still a q))

  -- another hand
  abbrev handed : List (Option Told) → Caller
  handed hand = record c { hand = hand }

  hand_owes : (hand : List (Option Told)) → OweAlike (set callers place (handed hand))
  hand_owes hand j =
      set_pendings callers place (handed hand) small j
      ∙ each (λ j (xs : List Pending). xs ≡ (get_or callers j stranger).pendings) (λ k. (get_or callers k stranger).pendings) place c.pendings refl
      (λ j ne. refl) j

  pub receive_owes : (mode : RecvMode) → OwesWell (step v (receives n mode))
  receive_owes mode =
      let hand : List (Option Told) = hand_received mode (pool_answer v (receives n mode)) c.hand in
      subst OwesWell (receive_is d o pools callers n mode)
      (quiet_owes (receives n mode) (act_at (pool_seat c) (receive mode)) (set callers place (handed hand)) (receive_act v n mode (pool_seat c) refl)
      (quiet_at (pool_seat c) (receive mode) refl (λ g m. refl)) (hand_owes hand))

  pub read_owes : (number : ℕ) (sealed : Bool) → OwesWell (step v (reads n number sealed))
  read_owes number sealed =
      subst OwesWell (read_is d o pools callers n number sealed)
      (quiet_owes (reads n number sealed) (act_at (pool_seat c) (read number sealed)) callers (read_act v n number sealed (pool_seat c) refl)
      (quiet_at (pool_seat c) (read number sealed) refl (λ g m. refl)) (λ j. refl))

  pub free_owes : (number : ℕ) → OwesWell (step v (frees n number))
  free_owes number =
      let t : Option Told = hand_entry c number in
      let hand : List (Option Told) = hand_freed number t c.hand in
      subst OwesWell (free_is d o pools callers n number)
      (quiet_owes (frees n number) (free_of (pool_seat c) number t) (set callers place (handed hand)) (free_act v n number t refl)
      (quiet_free (pool_seat c) number t) (hand_owes hand))

-- ---- one event, and any number

one : (d : Desk) (o : Option Holder) (pools : List Hold) (callers : List Caller) (e : Event) → Kept (of d o pools callers) → OwesWell (of d o pools callers)
    → legal (of d o pools callers) e ≡ true → OwesWell (step (of d o pools callers) e)
unfolding legal
one d None pools callers (take n x) k r l =
    let who : Who = (caller_at (of d None pools callers) n).who in
    subst OwesWell (take_is d pools callers n x) (take_owes d pools callers n x who (planned d who x) r)
one d (Some h) pools callers (take n x) k r l =
    let fits = left_true (is_caller n && false && is_for_desk x) (is_well_formed x) l in
    absurd (true≢false (sym (right_true (is_caller n) false (left_true (is_caller n && false) (is_for_desk x) fits))))
one d None pools callers (visit n s) k r l = absurd (true≢false (sym (right_true (is_caller n) false l)))
one d (Some h) pools callers (visit n s) k r l =
    let there = is_part_at s (next_visit (of d (Some h) pools callers) h) in
    go (next_visit (of d (Some h) pools callers) h) refl (right_true (h.caller == n) there (right_true (is_caller n) (h.caller == n && there) l))
  where
    go : (q : Option Part) → next_visit (of d (Some h) pools callers) h ≡ q → is_part_at s q ≡ true → OwesWell (step (of d (Some h) pools callers) (visit n s))
    go None e t = absurd (true≢false (sym t))
    go (Some q) e t = visit_owes d h pools callers k r n s q e
one d None pools callers (leave n) k r l = absurd (true≢false (sym (right_true (is_caller n) false l)))
one d (Some h) pools callers (leave n) k r l =
    let left = is_none (next_visit (of d (Some h) pools callers) h) in
    subst (λ m. OwesWell (step (of d (Some h) pools callers) (leave m)))
    (eqb-true h.caller n (left_true (h.caller == n) left (right_true (is_caller n) (h.caller == n && left) l))) (leave_owes d h pools callers k r)
one d o pools callers (publishes n s number) k r l =
    let w : World = of d o pools callers in
    publish_owes d o pools callers k r n
    (left_true (is_caller n) (not (holds_desk w n)) (left_true (is_caller n && not (holds_desk w n)) (is_some (pending_of w n s number)) l)) s number
    (right_true (is_caller n && not (holds_desk w n)) (is_some (pending_of w n s number)) l)
one d o pools callers (receives n mode) k r l =
    let w : World = of d o pools callers in
    receive_owes d o pools callers k r n
    (left_true (is_caller n) (not (holds_desk w n)) (left_true (is_caller n && not (holds_desk w n)) (not (mode.peek && mode.drop_it)) l)) mode
one d o pools callers (reads n number sealed) k r l =
    let w : World = of d o pools callers in
    read_owes d o pools callers k r n (left_true (is_caller n) (not (holds_desk w n)) l) number sealed
one d o pools callers (frees n number) k r l =
    let w : World = of d o pools callers in
    free_owes d o pools callers k r n (left_true (is_caller n) (not (holds_desk w n)) l) number

owed_on : (w : World) (es : List Event) → all_legal w es ≡ true → Kept w → OwesWell w → OwesWell (world_after w es)
unfolding all_legal world_after
owed_on w [] l k r = r
owed_on w (e ∷ es) l k r =
    let first : legal w e ≡ true = left_true (legal w e) (all_legal (step w e) es) l in
    owed_on (step w e) es (right_true (legal w e) (all_legal (step w e) es) l) (kept_on w (e ∷ []) (ap (λ b. b && true) first) k)
    (one w.desk w.holder w.pools w.callers e k r first)

pub reached_owes : (w : World) → IsReached w → OwesWell w
reached_owes w r =
    let opened : World = new_world r.creator r.size r.hashes in
    subst OwesWell r.world (owed_on opened r.events r.legal (opening_keeps r.creator r.size r.hashes) (opening_owes r.creator r.size r.hashes))

-- ---- the law

all_front : {X : Type 0} (P : X → Type 0) (xs ys : List X) → AllByRecursion P (xs ++ ys) → AllByRecursion P xs
all_front P [] ys a = tt
all_front P (x ∷ xs) ys a = (a.0, all_front P xs ys a.1)

pub publishes_always_arrive : PublishesAlwaysArrive
publishes_always_arrive w r n seat number p is e =
    let k = reached_keeps w r in
    let all = (reached_owes w r).due (n - 1) in
    answer_is w (publishes n seat number) (record { seat = p.seat; act = publish p.generation p.number p.content }) (publish_act w n seat number (Some p) e)
    ∙ owed_arrives (pool_at w p.seat) p.generation p.number p.content (k.agrees.numbered p.seat)
    (all_of_found (IsDue (pools_of w.pools)) (is_pending_at seat number) (caller_at w n).pendings p
    (all_front (IsDue (pools_of w.pools)) (caller_at w n).pendings (made_by w w.holder (n - 1)) all) e)
