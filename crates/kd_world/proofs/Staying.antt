-- Whatever legal events lead to: each slice that isn't freed or let go keeps its place and its
-- bytes.
use Rattle.std.specs.Prelude.{◌≡◌, ◌<◌, ◌&&◌, ℕ, Bool, true, false, not, List, [], length, get_or, set, refl, Option, Some, None, is_some, option_map}
use Rattle.std.specs.List.{AllByRecursion}
use Rattle.std.proofs.Common.{ap, sym, subst, ◌∙◌, arith, eq-eqb, ne_eqb, get_or-set_other, get_or-set_same}
use Rattle.std.proofs.lemmas.Bool.{true≢false}
use Rattle.std.proofs.lemmas.List.{get_or_past}
use mathlib.Core.Logic.{dite}
use native.Mathlib.Decide.{dec_le, ℕ_discrete}
use Rattle.kd_model.proofs.Lists.{all_follow}
use Rattle.kd_acts.specs.declared.slot.Slot.{Slot}
use Rattle.kd_acts.specs.State.{Act, Answer, Hold, Pool, Slice, Visit, by_desk, close, drain, free, idle, is_freed, offer, post, publish, raise, read, receive, settle}
use Rattle.kd_acts.specs.Steps.{after, answer, open_step, pool_step}
use Rattle.kd_acts.specs.Lasting.{AreNumbered, is_let_be, is_open, lets_go, open_after}
use Rattle.kd_commands.specs.State.{Desk}
use Rattle.kd_commands.specs.Plans.{Part}
use Rattle.kd_commands.specs.Visits.{next_part}
use Rattle.kd_commands.specs.Seating.{is_live, open_along}
use Rattle.kd_world.specs.declared.told.Told.{Told}
use Rattle.kd_world.specs.declared.told.Told.TheVariants.{Peeked, Handed}
use Rattle.kd_world.specs.State.{Pending, Caller, Holder, World, caller_at, closed_pool, pool_at}
use Rattle.kd_world.specs.Holding.{next_visit}
use Rattle.kd_world.specs.Own.{pending_of, pool_seat, hand_entry}
use Rattle.kd_world.specs.Legal.{Event, frees, leave, publishes, reads, receives, take, visit}
use Rattle.kd_world.specs.Pools.{Aimed, act_at, act_of, aimed, free_of, pool_answer, pools_after, publish_of}
use Rattle.kd_world.specs.Step.{step}
use Rattle.kd_world.specs.Agreed.{SlicesAlwaysStay, SlicesStay, StandsBy, act_at_seat, goes_by, is_raise}
use Rattle.kd_model.proofs.Truth.{same_some}
use Rattle.kd_world.proofs.Tied.{next_from, of}
use Rattle.kd_world.proofs.Reached.{reached_keeps}
use Rattle.kd_world.proofs.Holders.{Kept, answer_is, hold, its, knows, parts_are, plans, pools_are}
use Rattle.kd_commands.proofs.Opens.{raises_free}
use Rattle.kd_acts.proofs.Lasting.{open_follows}
use Rattle.kd_acts.proofs.Stays.{slices_last}

-- ---- one act

idle_leaves : (h : Hold) (p : Pool) → h.pool ≡ Some p → (after h idle).pool ≡ Some p
unfolding pool_step open_step
idle_leaves h p e = go h.pool e
  where
    go : (o : Option Pool) → o ≡ Some p → (after (record { generation = h.generation; pool = o }) idle).pool ≡ Some p
    go None f = absurd cc
    go (Some q) f = f

-- what is said of a pool's slices, where an act was or wasn't done, answered so, and left the pool
-- so
abbrev Stay : List Slice → Option Act → Answer → Option Pool → Type 0
Stay xs act a after = AllByRecursion (λ (x : Slice). is_freed x.slot ≡ false → goes_by act a x.slot ≡ false → StandsBy act a x after) xs

-- a close that isn't refused lets all go
closes_all : (act : Act) (a : Answer) (s : Slot) → is_raise act ≡ false → open_after act a true ≡ false → goes_by (Some act) a s ≡ true
closes_all (by_desk (raise size)) a s r e = absurd (true≢false e)
closes_all (by_desk (close force)) a s r e = go (is_let_be force a) e
  where
    go : (b : Bool) → (b && true) ≡ false → not b ≡ true
    go true e = absurd (true≢false e)
    go false e = refl
closes_all (by_desk (offer user len source must content)) a s r e = absurd (true≢false e)
closes_all (by_desk (post image)) a s r e = absurd (true≢false e)
closes_all (by_desk drain) a s r e = absurd (true≢false e)
closes_all (by_desk (settle images)) a s r e = absurd (true≢false e)
closes_all (publish generation number content) a s r e = absurd (true≢false e)
closes_all (receive mode) a s r e = absurd (true≢false e)
closes_all (read number wants) a s r e = absurd (true≢false e)
closes_all (free number) a s r e = absurd (true≢false e)
closes_all idle a s r e = absurd (true≢false e)

module _ (h : Hold) (p : Pool) (at : h.pool ≡ Some p) (numbered : AreNumbered h.pool) where
  no_act : (a : Answer) → Stay p.slices None a h.pool
  no_act a = subst (Stay p.slices None a) (sym at)
      (all_follow _ _ p.slices (λ x f out _. f out refl) (slices_last h idle p p at (idle_leaves h p at) numbered))

  one_act : (act : Act) → is_raise act ≡ false → Stay p.slices (Some act) (answer h act) (after h act).pool
  one_act act plain = go (after h act).pool refl
    where
      go : (o : Option Pool) → (after h act).pool ≡ o → Stay p.slices (Some act) (answer h act) o
      go (Some q) e = all_follow _ _ p.slices
          (λ x f out stay. f out (sym (ap (λ b. not b && lets_go act (answer h act) x.slot) plain) ∙ stay)) (slices_last h act p q at e numbered)
      go None e =
          let shut : open_after act (answer h act) true ≡ false =
          ap (open_after act (answer h act)) (sym (ap is_some at)) ∙ sym (open_follows h act) ∙ ap is_some e in
          all_follow _ _ p.slices (λ x f out stay. absurd (true≢false (sym (closes_all act (answer h act) x.slot plain shut) ∙ stay)))
          (slices_last h idle p p at (idle_leaves h p at) numbered)

-- ---- no open pool is raised

not_raised : (s : Option ℕ) (act : Act) (a : Aimed) → act_at s act ≡ Some a → is_raise act ≡ false → is_raise a.act ≡ false
not_raised None act a e r = absurd cc
not_raised (Some s) act a e r = ap (λ (x : Aimed). is_raise x.act) (sym (same_some _ _ e)) ∙ r

not_raised_by_publish : (q : Option Pending) (a : Aimed) → publish_of q ≡ Some a → is_raise a.act ≡ false
not_raised_by_publish None a e = absurd cc
not_raised_by_publish (Some p) a e = ap (λ (x : Aimed). is_raise x.act) (sym (same_some _ _ e))

not_raised_by_free : (s : Option ℕ) (n : ℕ) (t : Option Told) (a : Aimed) → free_of s n t ≡ Some a → is_raise a.act ≡ false
not_raised_by_free s n None a e = absurd cc
not_raised_by_free s n (Some Peeked) a e = absurd cc
not_raised_by_free s n (Some Handed) a e = not_raised s (free n) a e refl

-- what the holder raises was closed
raised_closed : (d : Desk) (h : Holder) (pools : List Hold) (callers : List Caller) → Kept (of d (Some h) pools callers) → (q : Part)
    → next_visit (of d (Some h) pools callers) h ≡ Some q → is_open (get_or pools q.seat closed_pool) ≡ true → is_raise (by_desk q.act) ≡ false
raised_closed d h pools callers k q next up = go q.act refl
  where
    go : (v : Visit) → q.act ≡ v → is_raise (by_desk v) ≡ false
    go (raise size) is =
        let w : World = of d (Some h) pools callers in
        let parts = parts_are d h pools callers k in
        let free = raises_free d (its d h pools callers k).kind h.who h.command (hold d h pools callers k).plan k.agrees.seated (knows d h pools callers k) (plans d h pools callers k)
        h.outs q size (ap (λ ps. next_part [] ps h.outs) (sym parts) ∙ next_from w h q next) is in
        absurd (true≢false (sym up ∙ k.agrees.opens q.seat ∙ ap (λ ps. open_along q.seat ps h.outs (is_live d q.seat)) parts ∙ free.2))
    go (close force) is = refl
    go (offer user len source must content) is = refl
    go (post image) is = refl
    go drain is = refl
    go (settle images) is = refl

never_raised : (d : Desk) (o : Option Holder) (pools : List Hold) (callers : List Caller) (e : Event) → Kept (of d o pools callers) → (a : Aimed)
    → act_of (of d o pools callers) e ≡ Some a → is_open (get_or pools a.seat closed_pool) ≡ true → is_raise a.act ≡ false
unfolding act_of
never_raised d o pools callers (take n x) k a e up = absurd cc
never_raised d None pools callers (visit n s) k a e up = absurd cc
never_raised d (Some h) pools callers (visit n s) k a e up = go (next_visit (of d (Some h) pools callers) h) refl e
  where
    go : (q : Option Part) → next_visit (of d (Some h) pools callers) h ≡ q → option_map aimed q ≡ Some a → is_raise a.act ≡ false
    go None f g = absurd cc
    go (Some q) f g =
        let is : aimed q ≡ a = same_some _ _ g in
        ap (λ (x : Aimed). is_raise x.act) (sym is) ∙ raised_closed d h pools callers k q f (ap (λ (x : Aimed). is_open (get_or pools x.seat closed_pool)) is ∙ up)
never_raised d o pools callers (leave n) k a e up = absurd cc
never_raised d o pools callers (publishes n s number) k a e up = not_raised_by_publish (pending_of (of d o pools callers) n s number) a e
never_raised d o pools callers (receives n mode) k a e up = not_raised (pool_seat (caller_at (of d o pools callers) n)) (receive mode) a e refl
never_raised d o pools callers (reads n number wants) k a e up = not_raised (pool_seat (caller_at (of d o pools callers) n)) (read number wants) a e refl
never_raised d o pools callers (frees n number) k a e up =
    not_raised_by_free (pool_seat (caller_at (of d o pools callers) n)) number (hand_entry (caller_at (of d o pools callers) n) number) a e

-- ---- one event

stay_by : (xs : List Slice) (act act' : Option Act) (a a' : Answer) (o o' : Option Pool) → act' ≡ act → a' ≡ a → o' ≡ o → Stay xs act' a' o' → Stay xs act a o
stay_by xs act act' a a' o o' e f g = subst (λ (t : Option Act × Answer × Option Pool). Stay xs t.0 t.1 t.2) (λ i. (e i, f i, g i))

open_place : (pools : List Hold) (s : ℕ) (p : Pool) → (get_or pools s closed_pool).pool ≡ Some p → s < length pools
open_place pools s p at = dite (dec_le (length pools) s)
    (λ le. absurd (let f : None ≡ Some p = sym (ap (λ (h : Hold). h.pool) (get_or_past pools s closed_pool le)) ∙ at in cc))
    (λ gt. omega (arith, gt))

pub slices_stay : (w : World) (e : Event) → Kept w → SlicesStay w e
slices_stay w e k seat p at = go (act_of w e) refl
  where
    pool : Hold
    pool = pool_at w seat

    numbered : AreNumbered pool.pool
    numbered = k.agrees.numbered seat

    go : (o : Option Aimed) → act_of w e ≡ o → Stay p.slices (act_at_seat seat (act_of w e)) (pool_answer w e) (pool_at (step w e) seat).pool
    go None f = stay_by p.slices (act_at_seat seat (act_of w e)) None (pool_answer w e) (pool_answer w e) (pool_at (step w e) seat).pool pool.pool
        (sym (ap (act_at_seat seat) f)) refl (sym (ap (λ ps. (get_or ps seat closed_pool).pool) (pools_are w e None f))) (no_act pool p at numbered (pool_answer w e))
    go (Some a) f =
        let after_is : pools_after w e ≡ set w.pools a.seat (after (pool_at w a.seat) a.act) = pools_are w e (Some a) f in
        dite (ℕ_discrete a.seat seat)
        (λ z.
        let here : pool_at w a.seat ≡ pool = ap (λ (s : ℕ). pool_at w s) z in
        let low = open_place w.pools seat p at in
        stay_by p.slices (act_at_seat seat (act_of w e)) (Some a.act) (pool_answer w e) (answer pool a.act) (pool_at (step w e) seat).pool (after pool a.act).pool
        (sym (ap (act_at_seat seat) f ∙ ap (λ b. elim b [ true ↦ Some a.act | false ↦ None ]) (eq-eqb a.seat seat z)))
        (sym (answer_is w e a f ∙ ap (λ h. answer h a.act) here))
        (sym (ap (λ ps. (get_or ps seat closed_pool).pool) after_is ∙ ap (λ (s : ℕ). (get_or (set w.pools s (after (pool_at w s) a.act)) seat closed_pool).pool) z
        ∙ ap (λ (h : Hold). h.pool) (get_or-set_same w.pools seat (after pool a.act) closed_pool low)))
        (one_act pool p at numbered a.act
        (never_raised w.desk w.holder w.pools w.callers e k a f (ap is_open here ∙ ap is_some at))))
        (λ ne.
        stay_by p.slices (act_at_seat seat (act_of w e)) None (pool_answer w e) (pool_answer w e) (pool_at (step w e) seat).pool pool.pool
        (sym (ap (act_at_seat seat) f ∙ ap (λ b. elim b [ true ↦ Some a.act | false ↦ None ]) (ne_eqb a.seat seat ne))) refl
        (sym (ap (λ ps. (get_or ps seat closed_pool).pool) after_is
        ∙ ap (λ (h : Hold). h.pool) (get_or-set_other w.pools a.seat seat (after (pool_at w a.seat) a.act) closed_pool (λ z. ne (sym z)))))
        (no_act pool p at numbered (pool_answer w e)))

pub slices_always_stay : SlicesAlwaysStay
slices_always_stay w e r = slices_stay w e (reached_keeps w r)
