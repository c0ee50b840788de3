-- Pools are sound along every list of legal events.
use Rattle.std.specs.Prelude.{◌≡◌, ◌&&◌, ℕ, Bool, true, false, List, [], ◌∷◌, length, refl, Option, Some, None, Result, Ok, Err, option_map}
use Rattle.std.specs.List.{AllByRecursion}
use Rattle.std.proofs.Common.{ap, sym, subst, arith}
use Rattle.kd_model.proofs.Lists.{all_of_push}
use Rattle.kd_model.proofs.Truth.{left_true, not_ok, right_true}
use mathlib.Core.Logic.{dite}
use native.Mathlib.Decide.{dec_le}
use Rattle.kd_types.specs.declared.refusal.Refusal.{Refusal}
use Rattle.kd_types.specs.declared.refusal.Refusal.TheVariants.{NoSuchBus}
use Rattle.kd_wire.specs.declared.command.Command.{Command}
use Rattle.kd_wire.specs.WellFormed.{is_well_formed}
use Rattle.kd_acts.specs.State.{Act, Hold, free, read, receive}
use Rattle.kd_acts.specs.Steps.{after}
use Rattle.kd_sound.specs.Lengths.{HasLengths}
use Rattle.kd_sound.specs.Staying.{IsSoundHold}
use Rattle.kd_sound.proofs.Steps.{acts_keep_pools_sound}
use Rattle.kd_commands.specs.declared.who.Who.{Who}
use Rattle.kd_commands.specs.Plans.{Part, Plan}
use Rattle.kd_commands.specs.State.{Desk}
use Rattle.kd_commands.specs.Step.{parts_in, plan}
use Rattle.kd_world.specs.declared.told.Told.{Told}
use Rattle.kd_world.specs.declared.told.Told.TheVariants.{Peeked, Handed}
use Rattle.kd_world.specs.Holding.{next_visit, parts_held}
use Rattle.kd_world.specs.Legal.{Event, frees, leave, legal, publishes, reads, receives, take, visit}
use Rattle.kd_world.specs.Own.{hand_entry, pending_of, pool_seat}
use Rattle.kd_world.specs.Planner.{is_fresh, names_other_bus, parts_planned, planned}
use Rattle.kd_world.specs.Pools.{Aimed, act_at, act_of, aimed, free_of, pool_answer, pools_after, publish_of}
use Rattle.kd_world.specs.Runs.{IsReached, all_legal, world_after}
use Rattle.kd_world.specs.State.{Caller, Holder, Pending, World, caller_at, closed_pool, new_world}
use Rattle.kd_world.specs.Step.{desk_after, holder_after, holder_by, step}
use Rattle.kd_world.proofs.Acts.{set_nowhere, set_pool}
use Rattle.kd_world.proofs.Agreeing.{each}
use Rattle.kd_world.proofs.Holders.{answer_is, no_answer, pools_are, pools_by, pools_of}
use Rattle.kd_world.proofs.Moving.{alike}
use Rattle.kd_world.proofs.Tied.{next_from, of}
use Rattle.kd_lengths.specs.Plans.{PartsHaveLengths}
use Rattle.kd_lengths.specs.Worlds.{ActsHaveLengths, PoolsAreAlwaysSound}
use Rattle.kd_lengths.proofs.Carried.{Carries, next_fits, visit_carries}
use Rattle.kd_lengths.proofs.Plans.{plans_have_lengths}

-- the parts of who holds the desk have lengths, and what it has drained can settle
abbrev HolderHasLengths : Desk → Option Holder → Type 0
HolderHasLengths d None = Unit {0}
HolderHasLengths d (Some h) = PartsHaveLengths (parts_planned d h.who h.command) × AllByRecursion Carries h.outs

-- every open pool is sound, and what is still to be visited keeps it so
record IsSoundWorld (w : World) : Type 0 where
  pools : (s : ℕ) → IsSoundHold (pools_of w.pools s)
  held : HolderHasLengths w.desk w.holder

-- ---- what an event does to a pool

abbrev FitsIfAny : Option Aimed → Type 0
FitsIfAny None = Unit {0}
FitsIfAny (Some a) = HasLengths a.act

act_fits : (s : Option ℕ) (a : Act) → HasLengths a → FitsIfAny (act_at s a)
act_fits None a f = tt
act_fits (Some s) a f = f

publish_fits : (q : Option Pending) → FitsIfAny (publish_of q)
publish_fits None = tt
publish_fits (Some p) = tt

free_fits : (s : Option ℕ) (n : ℕ) (t : Option Told) → FitsIfAny (free_of s n t)
free_fits s n None = tt
free_fits s n (Some Peeked) = tt
free_fits s n (Some Handed) = act_fits s (free n) tt

visit_fits : (w : World) (h : Holder) → HolderHasLengths w.desk (Some h) → (q : Option Part) → next_visit w h ≡ q → FitsIfAny (option_map aimed q)
visit_fits w h f None e = tt
visit_fits w h f (Some q) e = next_fits [] (parts_held w h) h.outs q tt f.0 f.1 (next_from w h q e)

does_fit : (d : Desk) (o : Option Holder) (pools : List Hold) (callers : List Caller) (e : Event) → HolderHasLengths d o → FitsIfAny (act_of (of d o pools callers) e)
unfolding act_of
does_fit d o pools callers (take n x) f = tt
does_fit d None pools callers (visit n s) f = tt
does_fit d (Some h) pools callers (visit n s) f = let w : World = of d (Some h) pools callers in visit_fits w h f (next_visit w h) refl
does_fit d o pools callers (leave n) f = tt
does_fit d o pools callers (publishes n s number) f = publish_fits (pending_of (of d o pools callers) n s number)
does_fit d o pools callers (receives n mode) f = act_fits (pool_seat (caller_at (of d o pools callers) n)) (receive mode) tt
does_fit d o pools callers (reads n number sealed) f = act_fits (pool_seat (caller_at (of d o pools callers) n)) (read number sealed) tt
does_fit d o pools callers (frees n number) f =
    let c : Caller = caller_at (of d o pools callers) n in free_fits (pool_seat c) number (hand_entry c number)

-- ---- the pools after it

pools_stay_sound : (pools : List Hold) (a : Option Aimed) → FitsIfAny a → ((s : ℕ) → IsSoundHold (pools_of pools s)) → (s : ℕ) → IsSoundHold (pools_of (pools_by a pools) s)
pools_stay_sound pools None f sound s = sound s
pools_stay_sound pools (Some a) f sound s =
    let now : Hold = after (pools_of pools a.seat) a.act in
    dite (dec_le (length pools) a.seat)
    (λ le. subst IsSoundHold (sym (set_nowhere pools a.seat now le s)) (sound s))
    (λ gt. subst IsSoundHold (sym (set_pool pools a.seat now (omega (arith, gt)) s))
    (each (λ t h. IsSoundHold h) (pools_of pools) a.seat now (acts_keep_pools_sound (pools_of pools a.seat) a.act f (sound a.seat)) (λ t ne. sound t) s))

pools_then : (w : World) (e : Event) → IsSoundWorld w → (s : ℕ) → IsSoundHold (pools_of (pools_after w e) s)
pools_then w e i s =
    let a : Option Aimed = act_of w e in
    subst (λ ps. IsSoundHold (pools_of ps s)) (sym (pools_are w e a refl)) (pools_stay_sound w.pools a (does_fit w.desk w.holder w.pools w.callers e i.held) i.pools s)

-- ---- who holds the desk after it

planned_plan : (d : Desk) (w : Who) (x : Command) (p : Plan) → planned d w x ≡ Ok p → plan d w x ≡ Ok p
unfolding planned
planned_plan d w x p e = go (is_fresh w.member && names_other_bus x) e
  where
    go : (b : Bool) → ◌≡◌ {A = Result Plan Refusal} (elim b [ true ↦ Err (NoSuchBus 0) | false ↦ plan d w x ]) (Ok p) → plan d w x ≡ Ok p
    go true e = absurd (not_ok e)
    go false e = e

took_fit : (d : Desk) (n : ℕ) (x : Command) (w : Who) (r : Result Plan Refusal) → is_well_formed x ≡ true → planned d w x ≡ r → HolderHasLengths d (holder_by n w x r)
unfolding parts_planned
took_fit d n x w (Err why) form e = tt
took_fit d n x w (Ok p) form e = (subst PartsHaveLengths (sym (ap parts_in e)) (plans_have_lengths d w x p form (planned_plan d w x p e)), tt)

visited_carries : (d : Desk) (h : Holder) (pools : List Hold) (callers : List Caller) (n s : ℕ) → ((s : ℕ) → IsSoundHold (pools_of pools s))
    → (q : Option Part) → next_visit (of d (Some h) pools callers) h ≡ q → Carries (pool_answer (of d (Some h) pools callers) (visit n s))
unfolding act_of
visited_carries d h pools callers n s sound None e =
    let w : World = of d (Some h) pools callers in subst Carries (sym (no_answer w (visit n s) (ap (option_map aimed) e))) tt
visited_carries d h pools callers n s sound (Some q) e =
    let w : World = of d (Some h) pools callers in
    subst Carries (sym (answer_is w (visit n s) (aimed q) (ap (option_map aimed) e))) (visit_carries (pools_of pools q.seat) q.act (sound q.seat))

one : (d : Desk) (o : Option Holder) (pools : List Hold) (callers : List Caller) (e : Event) → legal (of d o pools callers) e ≡ true → IsSoundWorld (of d o pools callers)
    → IsSoundWorld (step (of d o pools callers) e)
unfolding legal holder_after desk_after
one d o pools callers (take n x) l i =
    let w : World = of d o pools callers in
    let who : Who = (caller_at w n).who in
    record { pools = pools_then w (take n x) i; held = took_fit d n x who (planned d who x) (right_true _ (is_well_formed x) l) refl }
one d None pools callers (visit n s) l i = record { pools = pools_then (of d None pools callers) (visit n s) i; held = tt }
one d (Some h) pools callers (visit n s) l i =
    let w : World = of d (Some h) pools callers in
    record {
      pools = pools_then w (visit n s) i;
      held = (i.held.0, all_of_push Carries h.outs (pool_answer w (visit n s)) i.held.1 (visited_carries d h pools callers n s i.pools (next_visit w h) refl));
    }
one d o pools callers (leave n) l i = record { pools = pools_then (of d o pools callers) (leave n) i; held = tt }
one d o pools callers (publishes n s number) l i = record { pools = pools_then (of d o pools callers) (publishes n s number) i; held = i.held }
one d o pools callers (receives n mode) l i = record { pools = pools_then (of d o pools callers) (receives n mode) i; held = i.held }
one d o pools callers (reads n number sealed) l i = record { pools = pools_then (of d o pools callers) (reads n number sealed) i; held = i.held }
one d o pools callers (frees n number) l i = record { pools = pools_then (of d o pools callers) (frees n number) i; held = i.held }

-- ---- and any number

sound_on : (w : World) (es : List Event) → all_legal w es ≡ true → IsSoundWorld w → IsSoundWorld (world_after w es)
unfolding all_legal world_after
sound_on w [] l i = i
sound_on w (e ∷ es) l i =
    sound_on (step w e) es (right_true (legal w e) (all_legal (step w e) es) l)
    (one w.desk w.holder w.pools w.callers e (left_true (legal w e) (all_legal (step w e) es) l) i)

opening_sound : (creator size hashes : ℕ) → IsSoundWorld (new_world creator size hashes)
unfolding new_world
opening_sound creator size hashes = record { pools = λ s. subst IsSoundHold (sym (alike 64 s closed_pool)) tt; held = tt }

reached_sound : (w : World) → IsReached w → IsSoundWorld w
reached_sound w r = subst IsSoundWorld r.world (sound_on (new_world r.creator r.size r.hashes) r.events r.legal (opening_sound r.creator r.size r.hashes))

-- ---- the laws

pub pools_are_always_sound : PoolsAreAlwaysSound
pools_are_always_sound w s r = (reached_sound w r).pools s

pub acts_have_lengths : ActsHaveLengths
acts_have_lengths w e a r f = subst FitsIfAny f (does_fit w.desk w.holder w.pools w.callers e (reached_sound w r).held)
