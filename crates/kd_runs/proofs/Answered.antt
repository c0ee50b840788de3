-- Whoever leaves the desk is answered by one of its command's replies.
use Rattle.std.specs.Prelude.{◌≡◌, ◌≢◌, ◌&&◌, ℕ, ◌+◌, Bool, true, false, not, List, [], ◌∷◌, ◌++◌, refl, Option, Some, None, Result, Ok, Err, option_map}
use Rattle.std.specs.List.{AllByRecursion}
use Rattle.std.proofs.Common.{ap, sym, subst, ◌∙◌}
use Rattle.kd_model.proofs.Lists.{all_of_append}
use Rattle.kd_model.proofs.Truth.{no_some, same_some}
use Rattle.kd_model.specs.Slices.{place, unused_number}
use Rattle.kd_model.specs.Words.{least, those}
use Rattle.kd_types.specs.declared.refusal.Refusal.{Refusal}
use Rattle.kd_types.specs.declared.refusal.Refusal.TheVariants.{OutOfMemory, Quota}
use Rattle.kd_wire.specs.Commands.{opcode_in}
use Rattle.kd_wire.specs.Opcodes.{opcode_number}
use Rattle.kd_wire.specs.Replies.{IsReplyTo}
use Rattle.kd_acts.specs.State.{Answer, Content, Hold, Pool, Visit, book_of, by_desk, bytes_of, close, done, drain, drained, freed, gone, got, is_reserved, offer, placed, post, raise, refused, settle, slice, slots}
use Rattle.kd_acts.specs.Steps.{closed_answer, drain_step, drop_counted, fill_reserved, fill_step, is_awaited, must_offer_step, of_lower_number, offer_step, open_step, over_quota, pool_step, post_step, reserve_at, reserve_step, swept, visit_step}
use Rattle.kd_acts.specs.declared.slot.Slot.{Slot}
use Rattle.kd_acts.proofs.Cases.{acted_by, closed_by, drained_by}
use Rattle.kd_commands.specs.Plans.{Part, Plan}
use Rattle.kd_commands.specs.State.{Desk}
use Rattle.kd_commands.specs.Step.{Ended, ended, ended_by}
use Rattle.kd_commands.specs.Visits.{first_ends, is_must}
use Rattle.kd_commands.specs.declared.who.Who.{Who}
use Rattle.kd_settled.proofs.Callers.{replies_answer}
use Rattle.kd_wire.specs.declared.command.Command.{Command}
use Rattle.kd_world.specs.Holding.{command_end, next_visit}
use Rattle.kd_world.specs.Legal.{Event, frees, leave, publishes, reads, receives, take, visit}
use Rattle.kd_world.specs.Planner.{desk_end, planned}
use Rattle.kd_world.specs.Pools.{Aimed, act_of, aimed, pool_answer}
use Rattle.kd_world.specs.Runs.{IsReached, world_after}
use Rattle.kd_world.specs.State.{Caller, Holder, World, caller_at, new_world, pool_at}
use Rattle.kd_world.specs.Step.{holder_after, holder_by, step}
use Rattle.kd_world.proofs.Holders.{Kept, hold, plans}
use Rattle.kd_world.proofs.Reached.{reached_keeps}
use Rattle.kd_world.proofs.Tied.{of}
use Rattle.kd_runs.specs.Answered.{LeaversAreAnswered, VisitsWantNoMemory}

-- ---- what pools answer to visits

abbrev pub IsClean : Answer → Type 0
IsClean a = a ≢ refused OutOfMemory

reserved_clean : (n at : Option ℕ) (len source : ℕ) (user : Option ℕ) (p : Pool) → IsClean (reserve_at n at len user source p).1
reserved_clean None at len source user p e = cc
reserved_clean (Some n) None len source user p e = cc
reserved_clean (Some n) (Some at) len source user p e = cc

filled_clean : (n at : Option ℕ) (c : Content) (len source : ℕ) (user : Option ℕ) (p : Pool) → IsClean (fill_reserved c (reserve_at n at len user source p)).1
filled_clean None at c len source user p e = cc
filled_clean (Some n) None c len source user p e = cc
filled_clean (Some n) (Some at) c len source user p e = cc

counted_same : (must : Bool) (p : Pool) (a : Answer) → (drop_counted must (p, a)).1 ≡ a
counted_same true p a = refl
counted_same false p (refused why) = refl
counted_same false p done = refl
counted_same false p placed = refl
counted_same false p gone = refl
counted_same false p freed = refl
counted_same false p (slice n) = refl
counted_same false p (drained images) = refl
counted_same false p (got n offset len dropped) = refl
counted_same false p (bytes_of bytes) = refl

offer_clean : (user len source : ℕ) (must : Bool) (p : Pool) → IsClean (offer_step user len source must p).1
unfolding offer_step must_offer_step reserve_step
offer_clean user len source must p =
    let s = must_offer_step user len source p in
    subst IsClean (sym (counted_same must s.0 s.1)) (go (over_quota q.size (slots q) user len))
  where
    q : Pool
    q = swept (record p { offered = p.offered + 1 })

    go : (b : Bool) → IsClean (elim b as (λ b. Pool × Answer) [ true ↦ (q, refused Quota) | false ↦ reserve_step len (Some user) source q ]).1
    go true = λ e. cc
    go false = reserved_clean (unused_number (book_of q)) (place (book_of q) len) len source (Some user) q

post_clean : (image : List ℕ) (p : Pool) → IsClean (post_step image p).1
unfolding post_step fill_step reserve_step
post_clean image p = filled_clean _ _ _ _ _ None (swept p)

drain_clean : (p : Pool) → IsClean (drain_step p).1
unfolding drain_step
drain_clean p = go (least of_lower_number (those is_reserved (slots p)))
  where
    go : (o : Option Slot) → IsClean (drained_by p o).1
    go (Some s) e = cc
    go None e = cc

open_clean : (p : Pool) (v : Visit) → IsClean (visit_step p v).1
unfolding visit_step
open_clean p (offer user len source must content) = offer_clean user len source must p
open_clean p (post image) = post_clean image p
open_clean p drain = drain_clean p
open_clean p (settle images) = λ e. cc
open_clean p (raise size) = λ e. cc
open_clean p (close force) = λ e. cc

visit_clean : (g : ℕ) (o : Option Pool) (v : Visit) → IsClean (acted_by g o (by_desk v)).1
unfolding open_step closed_answer
visit_clean g None v = λ e. cc
visit_clean g (Some p) v = open_clean p v

close_clean : (h : Hold) (b : Bool) → IsClean (closed_by h b).1
close_clean h true = λ e. cc
close_clean h false = λ e. cc

pub visits_want_no_memory : VisitsWantNoMemory
unfolding pool_step
visits_want_no_memory h (raise size) = λ e. cc
visits_want_no_memory h (close force) = close_clean h (not force && is_awaited h)
visits_want_no_memory h (offer user len source must content) = visit_clean h.generation h.pool (offer user len source must content)
visits_want_no_memory h (post image) = visit_clean h.generation h.pool (post image)
visits_want_no_memory h drain = visit_clean h.generation h.pool drain
visits_want_no_memory h (settle images) = visit_clean h.generation h.pool (settle images)

-- ---- what the holder of the desk was answered

abbrev AreClean : List Answer → Type 0
AreClean outs = AllByRecursion IsClean outs

abbrev Clean : World → Type 0
Clean w = (h : Holder) → w.holder ≡ Some h → AreClean h.outs

aimed_clean : (w : World) (o : Option Part) → IsClean (elim (option_map aimed o) as (λ o. Answer) [ None ↦ done | Some p ↦ (pool_step (pool_at w p.seat) p.act).1 ])
aimed_clean w None = λ e. cc
aimed_clean w (Some q) = visits_want_no_memory (pool_at w q.seat) q.act

said_clean : (d : Desk) (h : Holder) (w : World) (n s : ℕ) → w.holder ≡ Some h → IsClean (pool_answer w (visit n s))
unfolding pool_answer act_of
said_clean d h w n s e =
    subst (λ (o : Option Holder). IsClean (elim (elim o as (λ o. Option Aimed) [ None ↦ None | Some h ↦ option_map aimed (next_visit w h) ]) as (λ o. Answer) [ None ↦ done | Some p ↦ (pool_step (pool_at w p.seat) p.act).1 ])) (sym e)
    (aimed_clean w (next_visit w h))

taken_clean : (n : ℕ) (who : Who) (x : Command) (r : Result Plan Refusal) (h : Holder) → holder_by n who x r ≡ Some h → AreClean h.outs
taken_clean n who x (Err why) h e = absurd (no_some e)
taken_clean n who x (Ok p) h e = subst (λ (g : Holder). AreClean g.outs) (same_some _ _ e) tt

one : (w : World) (e : Event) → Clean w → Clean (step w e)
unfolding holder_after
one w (take n x) k = λ h f. taken_clean n (caller_at w n).who x (planned w.desk (caller_at w n).who x) h f
one w (visit n s) k = go w.holder refl
  where
    go : (o : Option Holder) → w.holder ≡ o → (h : Holder) → option_map (λ (h : Holder). record h { outs = h.outs ++ pool_answer w (visit n s) ∷ [] }) o ≡ Some h → AreClean h.outs
    go None e h f = absurd (no_some f)
    go (Some g) e h f =
        subst (λ (x : Holder). AreClean x.outs) (same_some _ _ f)
        (all_of_append IsClean g.outs (pool_answer w (visit n s) ∷ []) (k g e) (said_clean w.desk g w n s e, tt))
one w (leave n) k = λ h f. absurd (no_some f)
one w (publishes n s number) k = k
one w (receives n mode) k = k
one w (reads n number sealed) k = k
one w (frees n number) k = k

along : (w : World) (es : List Event) → Clean w → Clean (world_after w es)
unfolding world_after
along w [] k = k
along w (e ∷ es) k = along (step w e) es (one w e k)

opening : (creator size hashes : ℕ) → Clean (new_world creator size hashes)
unfolding new_world
opening creator size hashes h e = absurd (no_some e)

reached_clean : (w : World) → IsReached w → Clean w
reached_clean w r = subst Clean r.world (along (new_world r.creator r.size r.hashes) r.events (opening r.creator r.size r.hashes))

-- ---- its reply

-- what ends all is what the first pool refused
ends_clean : (ps : List Part) (outs : List Answer) (why : Refusal) → AreClean outs → first_ends ps outs ≡ Some why → why ≢ OutOfMemory
unfolding first_ends
ends_clean [] outs why k e = absurd (no_some e)
ends_clean (p ∷ ps) [] why k e = absurd (no_some e)
ends_clean (p ∷ ps) (refused r ∷ outs) why k e = go (is_must p.act) e
  where
    go : (b : Bool) → elim b [ true ↦ Some r | false ↦ None ] ≡ Some why → why ≢ OutOfMemory
    go true f z = k.0 (ap refused (same_some _ _ f ∙ z))
    go false f z = absurd (no_some f)
ends_clean (p ∷ ps) (done ∷ outs) why k e = absurd (no_some e)
ends_clean (p ∷ ps) (placed ∷ outs) why k e = absurd (no_some e)
ends_clean (p ∷ ps) (gone ∷ outs) why k e = absurd (no_some e)
ends_clean (p ∷ ps) (freed ∷ outs) why k e = absurd (no_some e)
ends_clean (p ∷ ps) (slice n ∷ outs) why k e = absurd (no_some e)
ends_clean (p ∷ ps) (drained images ∷ outs) why k e = absurd (no_some e)
ends_clean (p ∷ ps) (got n offset len dropped ∷ outs) why k e = absurd (no_some e)
ends_clean (p ∷ ps) (bytes_of bytes ∷ outs) why k e = absurd (no_some e)

module _ (d : Desk) (h : Holder) (pools : List Hold) (callers : List Caller) (k : Kept (of d (Some h) pools callers)) (clean : AreClean h.outs) where
  abbrev p : Plan
  p = (hold d h pools callers k).plan

  abbrev Answers : Ended → Type 0
  Answers x = IsReplyTo (opcode_number (opcode_in h.command)) x.reply

  ends : (o : Option Refusal) → first_ends p.parts h.outs ≡ o → Answers (ended d h.who p o)
  ends (Some why) e = ends_clean p.parts h.outs why clean e
  ends None e = replies_answer d h.who h.command p (plans d h pools callers k)

  answered : Answers (command_end (of d (Some h) pools callers) h)
  unfolding desk_end
  answered = subst Answers (sym (ap (λ x. ended_by d h.who x h.outs) (hold d h pools callers k).planned)) (ends (first_ends p.parts h.outs) refl)

pub leavers_are_answered : LeaversAreAnswered
leavers_are_answered w h r e = go (reached_keeps w r)
  where
    go : Kept (of w.desk w.holder w.pools w.callers) → IsReplyTo (opcode_number (opcode_in h.command)) (command_end w h).reply
    go k0 =
        let k = subst (λ o. Kept (of w.desk o w.pools w.callers)) e k0 in
        subst (λ o. IsReplyTo (opcode_number (opcode_in h.command)) (command_end (of w.desk o w.pools w.callers) h).reply) (sym e)
        (answered w.desk h w.pools w.callers k (reached_clean w r h e))
