-- Along lists, and with one more at the end.
use Rattle.std.specs.Prelude.{◌≡◌, ◌≢◌, ◌⊎◌, ◌<◌, ◌≤◌, ◌&&◌, ℕ, Bool, true, false, List, [], ◌∷◌, ◌++◌, length, get_or, set, refl, Option, Some, None, Result, Ok, Err, option_map}
use Rattle.std.proofs.Common.{ap, sym, ◌∙◌, arith, inl, inr, append-nil, append_assoc, eq-eqb, ne_eqb}
use Rattle.std.proofs.lemmas.List.{get_or_past}
use mathlib.Core.Logic.{dite}
use native.Mathlib.Decide.{dec_le, ℕ_discrete}
use Rattle.kd_types.specs.declared.refusal.Refusal.{Refusal}
use Rattle.kd_wire.specs.declared.command.Command.{Command}
use Rattle.kd_model.proofs.Truth.{left_true, right_true}
use Rattle.kd_acts.specs.declared.receive.RecvMode.{RecvMode}
use Rattle.kd_acts.specs.State.{Act, Hold, free, receive, read}
use Rattle.kd_acts.specs.Steps.{after, pool_step}
use Rattle.kd_commands.specs.Plans.{Part, Plan}
use Rattle.kd_commands.specs.State.{Desk}
use Rattle.kd_commands.specs.declared.who.Who.{Who}
use Rattle.kd_world.specs.Addressed.{DeskEntry, desk_behind, desk_entry, parts_addressed, visited_by}
use Rattle.kd_world.specs.declared.told.Told.{Told}
use Rattle.kd_world.specs.declared.told.Told.TheVariants.{Peeked, Handed}
use Rattle.kd_world.specs.Holding.{next_visit}
use Rattle.kd_world.specs.Own.{hand_entry, pending_of, pool_seat}
use Rattle.kd_world.specs.Pools.{Aimed, act_at, act_of, aimed, free_of, publish_of}
use Rattle.kd_world.specs.Legal.{Event, frees, leave, legal, publishes, reads, receives, take, visit}
use Rattle.kd_world.specs.Planner.{desk_end, planned}
use Rattle.kd_world.specs.Runs.{all_legal, world_after}
use Rattle.kd_world.specs.State.{Caller, Holder, Pending, World, caller_at, closed_pool, new_world, pool_at}
use Rattle.kd_world.specs.Step.{desk_after, step}
use Rattle.kd_world.specs.Tie.{act_on, desk_adds, desk_history, pool_adds, pool_history}
use Rattle.kd_world.proofs.Acts.{set_nowhere, set_pool}
use Rattle.kd_world.proofs.Agreeing.{each}
use Rattle.kd_world.proofs.Holders.{Kept, pools_are, pools_by}
use Rattle.kd_world.proofs.Moving.{alike}
use Rattle.kd_world.proofs.Reached.{kept_on, opening_keeps}
use Rattle.kd_world.proofs.Tied.{of}
use Rattle.kd_runs.proofs.Home.{Home, home_on, opening_home}
use Rattle.kd_runs.proofs.Pools.{meets_here}
use Rattle.kd_runs.specs.Lists.{AddressedWithOneMore, DeskIsAlong, DeskWithOneMore, HoldWithOneMore, PoolsAreAlong, WorldsGoOn, desk_along, hold_along}

-- ---- entries

pub desk_with_one_more : DeskWithOneMore
unfolding desk_along
desk_with_one_more d [] e = refl
desk_with_one_more d (x ∷ es) e = desk_with_one_more (desk_behind planned d x) es e

pub hold_with_one_more : HoldWithOneMore
unfolding hold_along
hold_with_one_more h [] a = refl
hold_with_one_more h (x ∷ acts) a = hold_with_one_more (after h x) acts a

pub addressed_with_one_more : AddressedWithOneMore
unfolding parts_addressed desk_along
addressed_with_one_more d c [] e = append-nil (visited_by planned d c e)
addressed_with_one_more d c (x ∷ es) e =
    ap (visited_by planned d c x ++◌) (addressed_with_one_more (desk_behind planned d x) c es e)
    ∙ sym (append_assoc (visited_by planned d c x) (parts_addressed planned (desk_behind planned d x) c es) (visited_by planned (desk_along (desk_behind planned d x) es) c e))

-- ---- events

world_more : (w : World) (es : List Event) (e : Event) → world_after w (es ++ e ∷ []) ≡ step (world_after w es) e
unfolding world_after
world_more w [] e = refl
world_more w (x ∷ es) e = world_more (step w x) es e

and_true : (b : Bool) → (b && true) ≡ b
and_true true = refl
and_true false = refl

and_assoc : (a b c : Bool) → (a && (b && c)) ≡ ((a && b) && c)
and_assoc true b c = refl
and_assoc false b c = refl

legal_more : (w : World) (es : List Event) (e : Event) → all_legal w (es ++ e ∷ []) ≡ (all_legal w es && legal (world_after w es) e)
unfolding all_legal world_after
legal_more w [] e = and_true (legal w e)
legal_more w (x ∷ es) e = ap (legal w x &&◌) (legal_more (step w x) es e) ∙ and_assoc (legal w x) (all_legal (step w x) es) (legal (world_after (step w x) es) e)

desk_more : (w : World) (es : List Event) (e : Event) → desk_history w (es ++ e ∷ []) ≡ desk_history w es ++ desk_adds (world_after w es) e
unfolding desk_history world_after
desk_more w [] e = append-nil (desk_adds w e)
desk_more w (x ∷ es) e =
    ap (desk_adds w x ++◌) (desk_more (step w x) es e) ∙ sym (append_assoc (desk_adds w x) (desk_history (step w x) es) (desk_adds (world_after (step w x) es) e))

pool_more : (w : World) (c : ℕ) (es : List Event) (e : Event) → pool_history w c (es ++ e ∷ []) ≡ pool_history w c es ++ pool_adds (world_after w es) c e
unfolding pool_history world_after
pool_more w c [] e = append-nil (pool_adds w c e)
pool_more w c (x ∷ es) e =
    ap (pool_adds w c x ++◌) (pool_more (step w x) c es e) ∙ sym (append_assoc (pool_adds w c x) (pool_history (step w x) c es) (pool_adds (world_after (step w x) es) c e))

pub worlds_go_on : WorldsGoOn
worlds_go_on w es e = record { world = world_more w es e; are_legal = legal_more w es e; desk = desk_more w es e; pools = λ c. pool_more w c es e }

-- ---- the desk

along_append : (d : Desk) (es hs : List DeskEntry) → desk_along d (es ++ hs) ≡ desk_along (desk_along d es) hs
unfolding desk_along
along_append d [] hs = refl
along_append d (e ∷ es) hs = along_append (desk_behind planned d e) es hs

take_along : (d : Desk) (n : ℕ) (w : Who) (x : Command) (r : Result Plan Refusal) → planned d w x ≡ r → desk_along d (elim r [ Err why ↦ desk_entry n w x [] ∷ [] | Ok p ↦ [] ]) ≡ d
unfolding desk_along
take_along d n w x (Err why) e = rw (desk_behind, e) refl
take_along d n w x (Ok p) e = refl

adds_along : (d : Desk) (o : Option Holder) (pools : List Hold) (callers : List Caller) (e : Event) → desk_along d (desk_adds (of d o pools callers) e) ≡ desk_after (of d o pools callers) e
unfolding desk_adds desk_after desk_along desk_end
adds_along d o pools callers (take n x) = take_along d n (caller_at (of d o pools callers) n).who x (planned d (caller_at (of d o pools callers) n).who x) refl
adds_along d None pools callers (leave n) = refl
adds_along d (Some h) pools callers (leave n) = refl
adds_along d o pools callers (visit n s) = refl
adds_along d o pools callers (publishes n s number) = refl
adds_along d o pools callers (receives n mode) = refl
adds_along d o pools callers (reads n number sealed) = refl
adds_along d o pools callers (frees n number) = refl

desk_is : (w : World) (es : List Event) → (world_after w es).desk ≡ desk_along w.desk (desk_history w es)
unfolding world_after desk_history desk_along
desk_is w [] = refl
desk_is w (e ∷ es) =
    desk_is (step w e) es
    ∙ ap (λ d. desk_along d (desk_history (step w e) es)) (sym (adds_along w.desk w.holder w.pools w.callers e))
    ∙ sym (along_append w.desk (desk_adds w e) (desk_history (step w e) es))

pub desk_is_along : DeskIsAlong
unfolding new_world
desk_is_along creator size hashes es = desk_is (new_world creator size hashes) es

-- ---- the pools

-- one of the 64 pools, or an act that leaves a closed pool as it is
abbrev Fits : Option Aimed → Type 0
Fits None = Unit {0}
Fits (Some a) = (a.seat < 64) ⊎ (after closed_pool a.act ≡ closed_pool)

fits_at : (s : Option ℕ) (a : Act) → after closed_pool a ≡ closed_pool → Fits (act_at s a)
fits_at None a e = tt
fits_at (Some s) a e = inr e

publish_fits : (q : Option Pending) → Fits (publish_of q)
unfolding pool_step
publish_fits None = tt
publish_fits (Some p) = inr refl

receive_shut : (mode : RecvMode) → after closed_pool (receive mode) ≡ closed_pool
unfolding pool_step
receive_shut mode = refl

read_shut : (n : ℕ) (sealed : Bool) → after closed_pool (read n sealed) ≡ closed_pool
unfolding pool_step
read_shut n sealed = refl

free_shut : (n : ℕ) → after closed_pool (free n) ≡ closed_pool
unfolding pool_step
free_shut n = refl

free_fits : (s : Option ℕ) (n : ℕ) (t : Option Told) → Fits (free_of s n t)
free_fits s n None = tt
free_fits s n (Some Peeked) = tt
free_fits s n (Some Handed) = fits_at s (free n) (free_shut n)

module _ (pools : List Hold) (many : length pools ≡ 64) (c : ℕ) where
  abbrev here : ℕ → Hold
  here s = get_or pools s closed_pool

  by_one : (a : Aimed) → Fits (Some a) → get_or (set pools a.seat (after (here a.seat) a.act)) c closed_pool ≡ hold_along (here c) (act_on c (Some a))
  unfolding hold_along
  by_one a f = dite (dec_le (length pools) a.seat) beyond within
    where
      now : Hold
      now = after (here a.seat) a.act

      -- at another seat nothing is done
      other : a.seat ≢ c → here c ≡ hold_along (here c) (act_on c (Some a))
      other ne = ap (λ b. hold_along (here c) (elim b [ true ↦ a.act ∷ [] | false ↦ [] ])) (sym (ne_eqb a.seat c ne))

      at : a.seat ≡ c → after (here c) a.act ≡ hold_along (here c) (act_on c (Some a))
      at e = ap (λ b. hold_along (here c) (elim b [ true ↦ a.act ∷ [] | false ↦ [] ])) (sym (eq-eqb a.seat c e))

      within : (length pools ≤ a.seat → ⊥) → get_or (set pools a.seat now) c closed_pool ≡ hold_along (here c) (act_on c (Some a))
      within gt =
          set_pool pools a.seat now (omega (arith, gt)) c
          ∙ each (λ t h. t ≡ c → h ≡ hold_along (here c) (act_on c (Some a))) here a.seat now
          (λ e. ap (λ s. after (here s) a.act) e ∙ at e) (λ t ne e. ap here e ∙ other (λ z. ne (e ∙ sym z))) c refl

      shut : (a.seat < 64) ⊎ (after closed_pool a.act ≡ closed_pool) → length pools ≤ a.seat → after closed_pool a.act ≡ closed_pool
      shut (inl low) le = absurd (omega (arith, low, le, many))
      shut (inr e) le = e

      beyond : length pools ≤ a.seat → get_or (set pools a.seat now) c closed_pool ≡ hold_along (here c) (act_on c (Some a))
      beyond le =
          set_nowhere pools a.seat now le c
          ∙ dite (ℕ_discrete a.seat c)
          (λ e. let closed : here c ≡ closed_pool = ap here (sym e) ∙ get_or_past pools a.seat closed_pool le in
          closed ∙ sym (shut f le) ∙ ap (λ h. after h a.act) (sym closed) ∙ at e)
          other

  by_any : (a : Option Aimed) → Fits a → get_or (pools_by a pools) c closed_pool ≡ hold_along (here c) (act_on c a)
  unfolding hold_along
  by_any None f = refl
  by_any (Some a) f = by_one a f

act_fits : (d : Desk) (o : Option Holder) (pools : List Hold) (callers : List Caller) (e : Event) → Kept (of d o pools callers) → Home (of d o pools callers) → legal (of d o pools callers) e ≡ true
    → Fits (act_of (of d o pools callers) e)
unfolding act_of legal
act_fits d o pools callers (take n x) k r l = tt
act_fits d None pools callers (visit n s) k r l = tt
act_fits d (Some h) pools callers (visit n s) k r l = go (next_visit (of d (Some h) pools callers) h) refl
  where
    go : (q : Option Part) → next_visit (of d (Some h) pools callers) h ≡ q → Fits (option_map aimed q)
    go None e = tt
    go (Some q) e = inl (meets_here d h pools callers k r q e).0
act_fits d o pools callers (leave n) k r l = tt
act_fits d o pools callers (publishes n s number) k r l = publish_fits (pending_of (of d o pools callers) n s number)
act_fits d o pools callers (receives n mode) k r l = fits_at (pool_seat (caller_at (of d o pools callers) n)) (receive mode) (receive_shut mode)
act_fits d o pools callers (reads n number sealed) k r l = fits_at (pool_seat (caller_at (of d o pools callers) n)) (read number sealed) (read_shut number sealed)
act_fits d o pools callers (frees n number) k r l = free_fits (pool_seat (caller_at (of d o pools callers) n)) number (hand_entry (caller_at (of d o pools callers) n) number)

hold_append : (h : Hold) (xs ys : List Act) → hold_along h (xs ++ ys) ≡ hold_along (hold_along h xs) ys
unfolding hold_along
hold_append h [] ys = refl
hold_append h (x ∷ xs) ys = hold_append (after h x) xs ys

pool_is : (w : World) (es : List Event) (c : ℕ) → all_legal w es ≡ true → Kept w → Home w → pool_at (world_after w es) c ≡ hold_along (pool_at w c) (pool_history w c es)
unfolding world_after pool_history hold_along all_legal pool_adds
pool_is w [] c l k r = refl
pool_is w (e ∷ es) c l k r =
    let first : legal w e ≡ true = left_true (legal w e) (all_legal (step w e) es) l in
    let alone : all_legal w (e ∷ []) ≡ true = ap (λ b. b && true) first in
    pool_is (step w e) es c (right_true (legal w e) (all_legal (step w e) es) l) (kept_on w (e ∷ []) alone k) (home_on w (e ∷ []) alone k r)
    ∙ ap (λ h. hold_along h (pool_history (step w e) c es))
    (ap (λ ps. get_or ps c closed_pool) (pools_are w e (act_of w e) refl) ∙ by_any w.pools k.many_pools c (act_of w e) (act_fits w.desk w.holder w.pools w.callers e k r first))
    ∙ sym (hold_append (pool_at w c) (act_on c (act_of w e)) (pool_history (step w e) c es))

pub pools_are_along : PoolsAreAlong
unfolding new_world
pools_are_along creator size hashes es c l =
    pool_is (new_world creator size hashes) es c l (opening_keeps creator size hashes) (opening_home creator size hashes)
    ∙ ap (λ h. hold_along h (pool_history (new_world creator size hashes) c es)) (alike 64 c closed_pool)
