-- What callers do by themselves, told by their own seat and hand and all pools, is what the
-- definitions of a world say.
use Rattle.std.proofs.Common.{◌≡◌, ◌<◌, ◌+◌, ◌*◌, ◌-◌, ◌^◌, ℕ, Bool, false, List, Option, Some, None, get_or, set, length, refl, ap, sym, subst, arith, ◌∙◌}
use Rattle.std.specs.List.{AllByRecursion}
use Rattle.std.proofs.lemmas.List.{length-set, set-get_or}
use Rattle.kd_model.specs.Words.{first}
use Rattle.kd_model.specs.declared.slice_no.TheConstants.{SLICES}
use Rattle.kd_acts.specs.declared.receive.RecvMode.{RecvMode}
use Rattle.kd_acts.specs.State.{Act, Answer, Hold, Pool, done, free, read, receive}
use Rattle.kd_acts.specs.Steps.{after, open_step, pool_step}
use Rattle.kd_core.specs.declared.world.World.TheInside.{Inside}
use Rattle.kd_core.specs.Acting.{acted, aimed_answer}
use Rattle.kd_holds.specs.Counts.{IsBelow, is_settle}
use Rattle.kd_world.specs.Hands.{hand_freed, hand_received}
use Rattle.kd_world.specs.State.{Pending, Caller, World, caller_at, closed_pool}
use Rattle.kd_world.specs.Own.{is_pending_at, pool_seat, hand_entry}
use Rattle.kd_world.specs.Legal.{Event, frees, publishes, reads, receives}
use Rattle.kd_world.specs.Pools.{Aimed, act_at, act_of, free_of, pool_answer, pools_after, publish_of}
use Rattle.kd_world.specs.Callers.{callers_after, has_published}
use Rattle.kd_world.specs.Step.{desk_after, holder_after, step}
use Rattle.kd_world.specs.Answers.{freed_answer, says, when_seated}
use Rattle.kd_core.specs.Held.{IsWhole}
use Rattle.kd_core.specs.Running.{Running, said, stepped, told_by_pool}
use Rattle.kd_world.specs.declared.told.Told.{Told}
use Rattle.kd_world.specs.declared.told.Told.TheVariants.{Peeked, Handed}
use Rattle.kd_holds.proofs.Below.{below_after, below_more}

-- ---- the pools of a world

pub pools_acted : (w : World) (e : Event) → acted (act_of w e) w.pools ≡ pools_after w e
unfolding pools_after
pools_acted w e = go (act_of w e)
  where
    go : (o : Option Aimed) → acted o w.pools ≡ elim o [ None ↦ w.pools | Some p ↦ set w.pools p.seat (pool_step (get_or w.pools p.seat closed_pool) p.act).0 ]
    go None = refl
    go (Some p) = refl

pub answer_answered : (w : World) (e : Event) → aimed_answer (act_of w e) w.pools ≡ pool_answer w e
unfolding pool_answer
answer_answered w e = go (act_of w e)
  where
    go : (o : Option Aimed) → aimed_answer o w.pools ≡ elim o [ None ↦ done | Some p ↦ (pool_step (get_or w.pools p.seat closed_pool) p.act).1 ]
    go None = refl
    go (Some p) = refl

-- ---- what keeps a world whole

-- no drained messages
abbrev pub IsQuiet : Option Aimed → Type 0
IsQuiet None = Unit {0}
IsQuiet (Some p) = is_settle p.act ≡ false

pub quiet_at : (s : Option ℕ) (a : Act) → is_settle a ≡ false → IsQuiet (act_at s a)
quiet_at None a q = tt
quiet_at (Some s) a q = q

pub quiet_free : (s : Option ℕ) (n : ℕ) (t : Option Told) → IsQuiet (free_of s n t)
quiet_free s n None = tt
quiet_free s n (Some Peeked) = tt
quiet_free s n (Some Handed) = quiet_at s (free n) refl

pub quiet_publish : (o : Option Pending) → IsQuiet (publish_of o)
quiet_publish None = tt
quiet_publish (Some p) = refl

below_acted : (n : ℕ) (o : Option Aimed) (hs : List Hold) → IsQuiet o → AllByRecursion (IsBelow n) hs → AllByRecursion (IsBelow (n + 1)) (acted o hs)
below_acted n None hs q a = below_more n (n + 1) hs (omega arith) a
below_acted n (Some p) hs q a = below_after n p.seat hs p.act q a

length_acted : (o : Option Aimed) (hs : List Hold) → length (acted o hs) ≡ length hs
length_acted None hs = refl
length_acted (Some p) hs = length-set hs p.seat (after (get_or hs p.seat closed_pool) p.act)

-- an act at one pool, and a step
pub whole_after :
    (v x : Inside) (o : Option Aimed) → IsQuiet o → x.desk ≡ v.desk → x.holder ≡ v.holder → x.pools.items ≡ acted o v.pools.items → length x.callers.items ≡ length v.callers.items
    → x.steps ≡ v.steps + 1 → v.steps < 2 ^ 54 → IsWhole v → IsWhole x
whole_after v x o quiet desk holder pools callers steps low w = record {
  pools = ap length pools ∙ length_acted o v.pools.items ∙ w.pools;
  callers = callers ∙ w.callers;
  below = rw steps (subst (AllByRecursion (IsBelow (SLICES * (v.steps + 1)))) (sym pools) (below_more (SLICES * v.steps + 1) (SLICES * (v.steps + 1)) (acted o v.pools.items) (omega arith) (below_acted (SLICES * v.steps) o v.pools.items quiet w.below)));
  ids = rw (desk, steps) (omega (arith, w.ids));
  steps = rw steps (omega (arith, low));
  holder = rw (desk, holder) w.holder;
}

-- ---- each event

-- a world whose pools and callers changed, a step on
abbrev pub moved : World → ℕ → ℕ → List Hold → Caller → Running
moved w steps n pools me = record { world = record { desk = w.desk; holder = w.holder; pools = pools; callers = set w.callers (n - 1) me }; steps = steps + 1 }

pub receive_moves :
    (w : World) (steps n : ℕ) (mode : RecvMode) (old me : Caller) (pools : List Hold) → old ≡ caller_at w n
    → pools ≡ acted (act_at (pool_seat old) (receive mode)) w.pools
    → me ≡ record old { hand = hand_received mode (aimed_answer (act_at (pool_seat old) (receive mode)) w.pools) old.hand }
    → moved w steps n pools me ≡ stepped (record { world = w; steps = steps }) (receives n mode)
unfolding stepped act_of callers_after desk_after holder_after
receive_moves w steps n mode old me pools at ps c =
    let e = receives n mode in
    ap (λ (x : Caller). moved w steps n pools x) (c ∙ ap (λ (o : Caller). record o { hand = hand_received mode (aimed_answer (act_at (pool_seat o) (receive mode)) w.pools) o.hand }) at ∙ ap (λ (a : Answer). record (caller_at w n) { hand = hand_received mode a (caller_at w n).hand }) (answer_answered w e))
    ∙ ap (λ (hs : List Hold). moved w steps n hs (record (caller_at w n) { hand = hand_received mode (pool_answer w e) (caller_at w n).hand })) (ps ∙ ap (λ (o : Caller). acted (act_at (pool_seat o) (receive mode)) w.pools) at ∙ pools_acted w e)

pub receive_says :
    (w : World) (n : ℕ) (mode : RecvMode) (old : Caller) → old ≡ caller_at w n
    → told_by_pool (when_seated (pool_seat old) (aimed_answer (act_at (pool_seat old) (receive mode)) w.pools)) ≡ said (receives n mode) (says w (receives n mode))
unfolding says act_of
receive_says w n mode old at =
    ap (λ (o : Caller). told_by_pool (when_seated (pool_seat o) (aimed_answer (act_at (pool_seat o) (receive mode)) w.pools))) at
    ∙ ap (λ (a : Answer). told_by_pool (when_seated (pool_seat (caller_at w n)) a)) (answer_answered w (receives n mode))

pub read_says :
    (w : World) (n number : ℕ) (sealed : Bool) (old : Caller) → old ≡ caller_at w n
    → told_by_pool (when_seated (pool_seat old) (aimed_answer (act_at (pool_seat old) (read number sealed)) w.pools)) ≡ said (reads n number sealed) (says w (reads n number sealed))
unfolding says act_of
read_says w n number sealed old at =
    ap (λ (o : Caller). told_by_pool (when_seated (pool_seat o) (aimed_answer (act_at (pool_seat o) (read number sealed)) w.pools))) at
    ∙ ap (λ (a : Answer). told_by_pool (when_seated (pool_seat (caller_at w n)) a)) (answer_answered w (reads n number sealed))

pub free_moves :
    (w : World) (steps n number : ℕ) (old me : Caller) (pools : List Hold) → old ≡ caller_at w n
    → pools ≡ acted (free_of (pool_seat old) number (hand_entry old number)) w.pools
    → me ≡ record old { hand = hand_freed number (hand_entry old number) old.hand }
    → moved w steps n pools me ≡ stepped (record { world = w; steps = steps }) (frees n number)
unfolding stepped act_of callers_after desk_after holder_after
free_moves w steps n number old me pools at ps c =
    let e = frees n number in
    ap (λ (x : Caller). moved w steps n pools x) (c ∙ ap (λ (o : Caller). record o { hand = hand_freed number (hand_entry o number) o.hand }) at)
    ∙ ap (λ (hs : List Hold). moved w steps n hs (record (caller_at w n) { hand = hand_freed number (hand_entry (caller_at w n) number) (caller_at w n).hand })) (ps ∙ ap (λ (o : Caller). acted (free_of (pool_seat o) number (hand_entry o number)) w.pools) at ∙ pools_acted w e)

pub free_says :
    (w : World) (n number : ℕ) (old : Caller) → old ≡ caller_at w n
    → told_by_pool (when_seated (pool_seat old) (freed_answer (hand_entry old number))) ≡ said (frees n number) (says w (frees n number))
unfolding says
free_says w n number old at = ap (λ (o : Caller). told_by_pool (when_seated (pool_seat o) (freed_answer (hand_entry o number)))) at

pub publish_moves :
    (w : World) (steps n seat number : ℕ) (old me : Caller) (pools : List Hold) → old ≡ caller_at w n
    → pools ≡ acted (publish_of (first (is_pending_at seat number) old.pendings)) w.pools
    → me ≡ has_published seat number old
    → moved w steps n pools me ≡ stepped (record { world = w; steps = steps }) (publishes n seat number)
unfolding stepped act_of callers_after desk_after holder_after
publish_moves w steps n seat number old me pools at ps c =
    let e = publishes n seat number in
    ap (λ (x : Caller). moved w steps n pools x) (c ∙ ap (has_published seat number) at)
    ∙ ap (λ (hs : List Hold). moved w steps n hs (has_published seat number (caller_at w n))) (ps ∙ ap (λ (o : Caller). acted (publish_of (first (is_pending_at seat number) o.pendings)) w.pools) at ∙ pools_acted w e)

pub publish_says :
    (w : World) (n seat number : ℕ) (old : Caller) → old ≡ caller_at w n
    → told_by_pool (aimed_answer (publish_of (first (is_pending_at seat number) old.pendings)) w.pools) ≡ said (publishes n seat number) (says w (publishes n seat number))
unfolding says act_of
publish_says w n seat number old at =
    ap (λ (o : Caller). told_by_pool (aimed_answer (publish_of (first (is_pending_at seat number) o.pendings)) w.pools)) at
    ∙ ap told_by_pool (answer_answered w (publishes n seat number))

-- ---- reading

unread : (h : Hold) (n : ℕ) (sealed : Bool) → (pool_step h (read n sealed)).0 ≡ h
unfolding pool_step open_step
unread h n sealed = go h.generation h.pool
  where
    go : (g : ℕ) (o : Option Pool) → (pool_step (record { generation = g; pool = o }) (read n sealed)).0 ≡ record { generation = g; pool = o }
    go g None = refl
    go g (Some p) = refl

pools_unread : (w : World) (n number : ℕ) (sealed : Bool) (s : Option ℕ) → acted (act_at s (read number sealed)) w.pools ≡ w.pools
pools_unread w n number sealed None = refl
pools_unread w n number sealed (Some s) = ap (set w.pools s) (unread (get_or w.pools s closed_pool) number sealed) ∙ set-get_or w.pools s closed_pool

-- a read changes nothing
pub reading_changes_nothing : (w : World) (n number : ℕ) (sealed : Bool) → step w (reads n number sealed) ≡ w
unfolding desk_after holder_after callers_after act_of
reading_changes_nothing w n number sealed =
    ap (λ ps. record w { pools = ps }) (sym (pools_acted w (reads n number sealed)) ∙ pools_unread w n number sealed (pool_seat (caller_at w n)))
