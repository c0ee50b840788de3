-- Hands agree with pools while callers publish, receive, read and free.
use Rattle.std.specs.Prelude.{◌≡◌, ◌<◌, ◌-◌, ◌&&◌, ◌||◌, ℕ, Bool, true, false, not, List, length, get_or, set, refl, Option, Some, None, is_some}
use Rattle.std.proofs.Common.{ap, sym, subst, ◌∙◌, arith, eq-eqb, ne_eqb, get_or-set_other, get_or-set_same}
use Rattle.std.proofs.lemmas.Bool.{true≢false}
use Rattle.std.proofs.lemmas.List.{get_or_past, length-set}
use mathlib.Core.Logic.{dite}
use native.Mathlib.Decide.{dec_le, ℕ_discrete}
use Rattle.kd_acts.specs.declared.receive.RecvMode.{RecvMode}
use Rattle.kd_acts.specs.State.{Act, Answer, Hold, bytes_of, done, drained, free, freed, gone, got, placed, publish, read, receive, refused, slice}
use Rattle.kd_acts.specs.Steps.{after, answer}
use Rattle.kd_acts.specs.Lasting.{handed_after, hands_over, is_handed_in, is_open, open_after}
use Rattle.kd_commands.specs.declared.who.WhoKind.{WhoKind}
use Rattle.kd_commands.specs.declared.who.WhoKind.TheVariants as who
use Rattle.kd_commands.specs.State.{Desk, is_holder}
use Rattle.kd_commands.specs.Seating.{IsPlaced, IsKnown}
use Rattle.kd_world.specs.declared.told.Told.{Told}
use Rattle.kd_world.specs.declared.told.Told.TheVariants.{Peeked, Handed}
use Rattle.kd_world.specs.Hands.{hand_freed, hand_received, told_by}
use Rattle.kd_world.specs.State.{Pending, Caller, Holder, World, caller_at}
use Rattle.kd_world.specs.Own.{pending_of, pool_seat, hand_entry}
use Rattle.kd_world.specs.Legal.{Event, frees, is_caller, publishes, reads, receives}
use Rattle.kd_world.specs.Pools.{act_at, act_of, free_of, pool_answer, pools_after, publish_of}
use Rattle.kd_world.specs.Callers.{callers_after, has_published}
use Rattle.kd_world.specs.Step.{desk_after, holder_after, step}
use Rattle.kd_world.specs.Agreed.{is_told_handed}
use Rattle.kd_model.proofs.Truth.{no_some, or_false}
use Rattle.kd_world.proofs.Tied.{of}
use Rattle.kd_world.proofs.Agreeing.{Agrees, Sits, but_at, is_quiet, told_if_handed, used}
use Rattle.kd_world.proofs.Acts.{acts_quietly, set_pool, with_faces, with_pools}
use Rattle.kd_world.proofs.Holders.{Kept, answer_is, as_many, caller_index, face_of, faces_of, no_answer, open_now, pools_are, pools_of, same_faces, same_whos, set_faces}
use Rattle.kd_acts.proofs.Handed.{handed_follows, receives_waiting}
use Rattle.kd_acts.proofs.Lasting.{open_follows}

-- ---- the seat of a caller

-- the caller as another
abbrev with_member : Caller → WhoKind → Caller
with_member c m = record c { who = record c.who { member = m } }

-- one that has a pool of its own is a connection that is no policy holder
abbrev SitsAt : Caller → ℕ → Type 0
SitsAt c s = (x : Sits (face_of c)) × (x.seat ≡ s)

seat_sits : (c : Caller) (s : ℕ) → pool_seat c ≡ Some s → SitsAt c s
seat_sits c s e = go c.who.member refl
  where
    kinds : (b : Bool) (id t : ℕ) → is_holder c.kind ≡ b → c.who.member ≡ who.Conn id t → elim b [ true ↦ None | false ↦ Some t ] ≡ Some s → SitsAt c s
    kinds true id t k m f = absurd cc
    kinds false id t k m f = (record { id = id; seat = t; member = m; kind = k }, ap (λ (o : Option ℕ). elim o [ None ↦ t | Some x ↦ x ]) f)

    turned : (m : WhoKind) → c.who.member ≡ m → pool_seat (with_member c m) ≡ Some s
    turned m is = subst (λ m. pool_seat (with_member c m) ≡ Some s) is e

    go : (m : WhoKind) → c.who.member ≡ m → SitsAt c s
    go who.Fresh is = absurd (no_some (turned who.Fresh is))
    go (who.Keeper x) is = absurd (no_some (turned (who.Keeper x) is))
    go (who.Old x) is = absurd (no_some (turned (who.Old x) is))
    go (who.Conn id t) is = kinds (is_holder c.kind) id t refl is (turned (who.Conn id t) is)

sits_seat : (c : Caller) (x : Sits (face_of c)) → pool_seat c ≡ Some x.seat
sits_seat c x = ap (λ m. pool_seat (with_member c m)) x.member ∙ ap (λ b. elim b [ true ↦ None | false ↦ Some x.seat ]) x.kind

-- ---- hands

received_long : (mode : RecvMode) (a : Answer) (hand : List (Option Told)) → length (hand_received mode a hand) ≡ length hand
received_long mode (got n offset len dropped) hand = length-set hand n (told_by mode)
received_long mode done hand = refl
received_long mode placed hand = refl
received_long mode gone hand = refl
received_long mode freed hand = refl
received_long mode (slice n) hand = refl
received_long mode (refused why) hand = refl
received_long mode (drained images) hand = refl
received_long mode (bytes_of bytes) hand = refl

-- a hand after a number was told otherwise
told_here : (hand : List (Option Told)) (m : ℕ) (t : Option Told) → m < length hand → get_or (set hand m t) m None ≡ t
told_here hand m t lt = get_or-set_same hand m t None lt

-- a receive tells the hand what it makes of the pool
received_agrees : (mode : RecvMode) (a : Answer) (hand : List (Option Told)) (n : ℕ) (was : Bool) → length hand ≡ 256 → is_told_handed (get_or hand n None) ≡ was
    → ((m offset len dropped : ℕ) → a ≡ got m offset len dropped → (m < 256) × (m ≡ n → was ≡ false))
    → is_told_handed (get_or (hand_received mode a hand) n None) ≡ handed_after (receive mode) a n was
received_agrees mode (got m offset len dropped) hand n was long old waits =
    let w = waits m offset len dropped refl in dite (ℕ_discrete n m)
    (λ z. ap (λ k. is_told_handed (get_or (set hand m (told_by mode)) k None)) z ∙ ap is_told_handed (told_here hand m (told_by mode) (let low = w.0 in omega (arith, low, long)))
    ∙ told_if_handed mode ∙ or_false (hands_over mode)
    ∙ sym (ap (λ b. (b && hands_over mode) || was) (eq-eqb m n (sym z)) ∙ ap (λ b. hands_over mode || b) (w.1 (sym z))))
    (λ ne. ap is_told_handed (get_or-set_other hand m n (told_by mode) None ne) ∙ old ∙ sym (ap (λ b. (b && hands_over mode) || was) (ne_eqb m n (λ z. ne (sym z)))))
received_agrees mode done hand n was long old waits = old
received_agrees mode placed hand n was long old waits = old
received_agrees mode gone hand n was long old waits = old
received_agrees mode freed hand n was long old waits = old
received_agrees mode (slice m) hand n was long old waits = old
received_agrees mode (refused why) hand n was long old waits = old
received_agrees mode (drained images) hand n was long old waits = old
received_agrees mode (bytes_of bytes) hand n was long old waits = old

-- a number that is told of is one of those that the hand has
told_low : (hand : List (Option Told)) (n : ℕ) → length hand ≡ 256 → get_or hand n None ≡ Some Handed → n < length hand
told_low hand n long e = dite (dec_le (length hand) n)
    (λ le. absurd (let f : None ≡ Some Handed = sym (get_or_past hand n None le) ∙ e in cc))
    (λ gt. omega (arith, gt))

-- a free takes its number out of the hand
freed_agrees : (hand : List (Option Told)) (number m : ℕ) (a : Answer) (was : Bool) → number < length hand → is_told_handed (get_or hand m None) ≡ was
    → is_told_handed (get_or (set hand number None) m None) ≡ handed_after (free number) a m was
freed_agrees hand number m a was low old = dite (ℕ_discrete m number)
    (λ z. ap (λ j. is_told_handed (get_or (set hand number None) j None)) z ∙ ap is_told_handed (told_here hand number None low)
    ∙ sym (ap (λ b. not b && was) (eq-eqb number m (sym z))))
    (λ ne. ap is_told_handed (get_or-set_other hand number m None None ne) ∙ old ∙ sym (ap (λ b. not b && was) (ne_eqb number m (λ z. ne (sym z)))))

-- ---- the world after each event

pub publish_is : (d : Desk) (o : Option Holder) (pools : List Hold) (callers : List Caller) (n s number : ℕ)
    → of d o (pools_after (of d o pools callers) (publishes n s number)) (set callers (n - 1) (has_published s number (caller_at (of d o pools callers) n)))
    ≡ step (of d o pools callers) (publishes n s number)
unfolding holder_after desk_after callers_after
publish_is d o pools callers n s number = refl

pub receive_is : (d : Desk) (o : Option Holder) (pools : List Hold) (callers : List Caller) (n : ℕ) (mode : RecvMode)
    → of d o (pools_after (of d o pools callers) (receives n mode)) (set callers (n - 1)
    (record (caller_at (of d o pools callers) n) { hand = hand_received mode (pool_answer (of d o pools callers) (receives n mode)) (caller_at (of d o pools callers) n).hand }))
    ≡ step (of d o pools callers) (receives n mode)
unfolding holder_after desk_after callers_after
receive_is d o pools callers n mode = refl

pub read_is : (d : Desk) (o : Option Holder) (pools : List Hold) (callers : List Caller) (n number : ℕ) (sealed : Bool)
    → of d o (pools_after (of d o pools callers) (reads n number sealed)) callers ≡ step (of d o pools callers) (reads n number sealed)
unfolding holder_after desk_after callers_after
read_is d o pools callers n number sealed = refl

pub free_is : (d : Desk) (o : Option Holder) (pools : List Hold) (callers : List Caller) (n number : ℕ)
    → of d o (pools_after (of d o pools callers) (frees n number)) (set callers (n - 1)
    (record (caller_at (of d o pools callers) n) { hand = hand_freed number (hand_entry (caller_at (of d o pools callers) n) number) (caller_at (of d o pools callers) n).hand }))
    ≡ step (of d o pools callers) (frees n number)
unfolding holder_after desk_after callers_after
free_is d o pools callers n number = refl

pub publish_act : (w : World) (n s number : ℕ) (q : Option Pending) → pending_of w n s number ≡ q → act_of w (publishes n s number) ≡ publish_of q
unfolding act_of
publish_act w n s number q f = ap publish_of f

pub receive_act : (w : World) (n : ℕ) (mode : RecvMode) (s : Option ℕ) → pool_seat (caller_at w n) ≡ s → act_of w (receives n mode) ≡ act_at s (receive mode)
unfolding act_of
receive_act w n mode s f = ap (λ t. act_at t (receive mode)) f

pub read_act : (w : World) (n number : ℕ) (sealed : Bool) (s : Option ℕ) → pool_seat (caller_at w n) ≡ s → act_of w (reads n number sealed) ≡ act_at s (read number sealed)
unfolding act_of
read_act w n number sealed s f = ap (λ t. act_at t (read number sealed)) f

pub free_act : (w : World) (n number : ℕ) (t : Option Told) → hand_entry (caller_at w n) number ≡ t → act_of w (frees n number) ≡ free_of (pool_seat (caller_at w n)) number t
unfolding act_of
free_act w n number t f = ap (free_of (pool_seat (caller_at w n)) number) f

-- ---- what a caller does at its pool

module _ (d : Desk) (o : Option Holder) (pools : List Hold) (callers : List Caller) (k : Kept (of d o pools callers)) (n : ℕ) (is : is_caller n ≡ true) where
  abbrev w : World
  w = of d o pools callers

  abbrev i : ℕ
  i = n - 1

  abbrev c : Caller
  c = caller_at w n

  abbrev pool : ℕ → Hold
  pool = pools_of pools

  small : i < length callers
  small = let many = k.many_callers in let low = caller_index n is in omega (arith, many, low)

  -- its seat is a place of a pool
  low_seat : (x : Sits (face_of c)) → x.seat < length pools
  low_seat x = let placed : IsPlaced d x.id x.seat c.kind = subst (IsKnown d c.kind) x.member (k.agrees.known i) in let low = placed.low in let many = k.many_pools in omega (arith, low, many)

  -- the world after it, where its caller has another hand or other pendings
  abbrev next_to : List Hold → Caller → World
  next_to ps new = of d o ps (set callers i new)

  kept_next : (ps : List Hold) (new : Caller) → length ps ≡ 64 → new.who ≡ c.who → Agrees d (pools_of ps) (faces_of (set callers i new)) (open_now w) → Kept (next_to ps new)
  kept_next ps new many who a = record {
    agrees = a;
    many_callers = length-set callers i new ∙ k.many_callers;
    many_pools = many;
    held = λ h e. let b = k.held h e in record { caller = b.caller; who = same_whos callers i new small who (h.caller - 1) ∙ b.who; plan = b.plan; planned = b.planned };
  }

  -- an act that touches no hand
  quiet_next : (s : ℕ) (a : Act) (ps : List Hold) (new : Caller) → is_quiet a ≡ true → open_after a (answer (pool s) a) (open_now w s) ≡ open_now w s
      → set pools s (after (pool s) a) ≡ ps → length ps ≡ 64 → new.who ≡ c.who → face_of new ≡ face_of c → Kept (next_to ps new)
  quiet_next s a ps new quiet same are many who face = kept_next ps new many who
      (subst (λ qs. Agrees d (pools_of qs) (faces_of (set callers i new)) (open_now w)) are
      (with_faces d (pools_of (set pools s (after (pool s) a))) (faces_of callers) (faces_of (set callers i new)) (open_now w) (same_faces callers i new small face)
      (acts_quietly d pools (faces_of callers) (open_now w) k.agrees s a quiet (open_now w) (sym same) (λ _ _. refl))))

  -- nothing is done at any pool
  nothing_next : (ps : List Hold) (new : Caller) → pools ≡ ps → new.who ≡ c.who → face_of new ≡ face_of c → Kept (next_to ps new)
  nothing_next ps new are who face = kept_next ps new (ap length (sym are) ∙ k.many_pools) who
      (subst (λ qs. Agrees d (pools_of qs) (faces_of (set callers i new)) (open_now w)) are
      (with_faces d pool (faces_of callers) (faces_of (set callers i new)) (open_now w) (same_faces callers i new small face) k.agrees))

  -- an act at its own pool with which its hand comes to another
  used_next : (x : Sits (face_of c)) (a : Act) (ps : List Hold) (hand : List (Option Told)) → length hand ≡ 256 → is_open (after (pool x.seat) a) ≡ is_open (pool x.seat)
      → ((m : ℕ) → is_told_handed (get_or c.hand m None) ≡ is_handed_in m (pool x.seat) → is_told_handed (get_or hand m None) ≡ handed_after a (answer (pool x.seat) a) m (is_handed_in m (pool x.seat)))
      → set pools x.seat (after (pool x.seat) a) ≡ ps → length ps ≡ 64 → Kept (next_to ps (record c { hand = hand }))
  used_next x a ps hand long opened told are many = kept_next ps (record c { hand = hand }) many refl
      (subst (λ qs. Agrees d (pools_of qs) (faces_of (set callers i (record c { hand = hand }))) (open_now w)) are
      (with_pools d (but_at pool x.seat (after (pool x.seat) a)) (pools_of (set pools x.seat (after (pool x.seat) a))) (faces_of (set callers i (record c { hand = hand }))) (open_now w)
      (λ t. sym (set_pool pools x.seat (after (pool x.seat) a) (low_seat x) t))
      (with_faces d (but_at pool x.seat (after (pool x.seat) a)) (but_at (faces_of callers) i (face_of (record c { hand = hand }))) (faces_of (set callers i (record c { hand = hand }))) (open_now w)
      (set_faces callers i (record c { hand = hand }) small)
      (used d pool (faces_of callers) (open_now w) k.agrees x.seat a i x.id x.member x.kind hand long opened
      (λ m up. told m (k.agrees.agreed i x.id x.seat m x.member up) ∙ sym (handed_follows (pool x.seat) a m (k.agrees.numbered x.seat)))))))

  pub publish_keeps : (s number : ℕ) → is_some (pending_of w n s number) ≡ true → Kept (step w (publishes n s number))
  publish_keeps s number some = go (pending_of w n s number) refl some
    where
      e : Event
      e = publishes n s number

      go : (q : Option Pending) → pending_of w n s number ≡ q → is_some q ≡ true → Kept (step w e)
      go None f t = absurd (true≢false (sym t))
      go (Some p) f t = subst Kept (publish_is d o pools callers n s number)
          (quiet_next p.seat (publish p.generation p.number p.content) (pools_after w e) (has_published s number c) refl refl
          (sym (pools_are w e (publish_of (Some p)) (publish_act w n s number (Some p) f))) (as_many w e k.many_pools) refl refl)

  pub read_keeps : (number : ℕ) (sealed : Bool) → Kept (step w (reads n number sealed))
  read_keeps number sealed = go (pool_seat c) refl
    where
      e : Event
      e = reads n number sealed

      still : Agrees d (pools_of (pools_after w e)) (faces_of callers) (open_now w) → Kept (step w e)
      still a = subst Kept (read_is d o pools callers n number sealed) record {
        agrees = a;
        many_callers = k.many_callers;
        many_pools = as_many w e k.many_pools;
        held = λ h f. let b = k.held h f in record { caller = b.caller; who = b.who; plan = b.plan; planned = b.planned };
      }

      go : (s : Option ℕ) → pool_seat c ≡ s → Kept (step w e)
      go None f = still (subst (λ ps. Agrees d (pools_of ps) (faces_of callers) (open_now w)) (sym (pools_are w e None (read_act w n number sealed None f))) k.agrees)
      go (Some s) f = still (subst (λ ps. Agrees d (pools_of ps) (faces_of callers) (open_now w)) (sym (pools_are w e (act_at (Some s) (read number sealed)) (read_act w n number sealed (Some s) f)))
          (acts_quietly d pools (faces_of callers) (open_now w) k.agrees s (read number sealed) refl (open_now w) refl (λ _ _. refl)))

  pub receive_keeps : (mode : RecvMode) → Kept (step w (receives n mode))
  receive_keeps mode = go (pool_seat c) refl
    where
      e : Event
      e = receives n mode

      new : Answer → Caller
      new a = record c { hand = hand_received mode a c.hand }

      go : (s : Option ℕ) → pool_seat c ≡ s → Kept (step w e)
      go None f = subst Kept (receive_is d o pools callers n mode)
          (subst (λ a. Kept (next_to (pools_after w e) (record c { hand = hand_received mode a c.hand }))) (sym (no_answer w e (receive_act w n mode None f)))
          (nothing_next (pools_after w e) (record c { hand = c.hand }) (sym (pools_are w e None (receive_act w n mode None f))) refl refl))
      go (Some s) f =
          let x = seat_sits c s f in
          let at : act_of w e ≡ act_at (Some x.0.seat) (receive mode) = receive_act w n mode (Some x.0.seat) (sits_seat c x.0) in
          let t : ℕ = x.0.seat in
          let a : Answer = answer (pool t) (receive mode) in
          subst Kept (receive_is d o pools callers n mode)
          (subst (λ a. Kept (next_to (pools_after w e) (record c { hand = hand_received mode a c.hand }))) (sym (answer_is w e (record { seat = t; act = receive mode }) at))
          (used_next x.0 (receive mode) (pools_after w e) (hand_received mode a c.hand) (received_long mode a c.hand ∙ k.agrees.wide i) (open_follows (pool t) (receive mode))
          (λ m old. received_agrees mode a c.hand m (is_handed_in m (pool t)) (k.agrees.wide i) old
          (λ l offset len dropped is. let q = receives_waiting (pool t) mode l offset len dropped (k.agrees.numbered t) is in
          (q.0, λ z. ap (λ j. is_handed_in j (pool t)) (sym z) ∙ q.1)))
          (sym (pools_are w e (act_at (Some t) (receive mode)) at)) (as_many w e k.many_pools)))

  pub free_keeps : (number : ℕ) → Kept (step w (frees n number))
  free_keeps number = go (hand_entry c number) refl
    where
      e : Event
      e = frees n number

      same : (t : Option Told) → hand_entry c number ≡ t → hand_freed number t c.hand ≡ c.hand → free_of (pool_seat c) number t ≡ None → Kept (step w e)
      same t f hand none = subst Kept (free_is d o pools callers n number)
          (subst (λ h. Kept (next_to (pools_after w e) (record c { hand = h }))) (sym (ap (λ t. hand_freed number t c.hand) f ∙ hand))
          (nothing_next (pools_after w e) (record c { hand = c.hand }) (sym (pools_are w e None (free_act w n number t f ∙ none))) refl refl))

      go : (t : Option Told) → hand_entry c number ≡ t → Kept (step w e)
      go None f = same None f refl refl
      go (Some Peeked) f = same (Some Peeked) f refl refl
      go (Some Handed) f =
          let x = k.agrees.bare i number (ap is_told_handed f) in
          let at : act_of w e ≡ act_at (Some x.seat) (free number) = free_act w n number (Some Handed) f ∙ ap (λ s. act_at s (free number)) (sits_seat c x) in
          subst Kept (free_is d o pools callers n number)
          (subst (λ t. Kept (next_to (pools_after w e) (record c { hand = hand_freed number t c.hand }))) (sym f)
          (used_next x (free number) (pools_after w e) (set c.hand number None) (length-set c.hand number None ∙ k.agrees.wide i) (open_follows (pool x.seat) (free number))
          (λ m old. freed_agrees c.hand number m (answer (pool x.seat) (free number)) (is_handed_in m (pool x.seat)) (told_low c.hand number (k.agrees.wide i) f) old)
          (sym (pools_are w e (act_at (Some x.seat) (free number)) at)) (as_many w e k.many_pools)))
