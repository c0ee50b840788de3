-- Leaving the desk.
use Rattle.std.specs.Prelude.{ℕ, ◌≤◌, ◌+◌, ◌-◌, ◌++◌, false, ◌&&◌, List, [], ◌∷◌, Option, Some, None, Result, IsTrue, is_none, ◌==◌, set}
use Rattle.std.proofs.Common.{◌≡◌, refl, sym, ap, ◌∙◌, arith}
use Rattle.std.proofs.lemmas.Bool.{true≢false}
use Rattle.kd_types.specs.declared.creds.Creds.{Creds}
use Rattle.kd_types.specs.declared.refusal.Refusal.{Refusal}
use Rattle.kd_acts.specs.State.{Answer, Batch, Content}
use Rattle.kd_tables.specs.declared.change.Change.{Change}
use Rattle.kd_tables.specs.declared.change.Change.TheVariants as change
use Rattle.kd_tables.specs.declared.part.Out.{Out}
use Rattle.kd_tables.specs.declared.part.Out.TheVariants as out
use Rattle.kd_tables.specs.declared.part.Part as code
use Rattle.kd_tables.specs.declared.part.Part.TheVariants as part
use Rattle.kd_commands.specs.declared.who.Who.{Who}
use Rattle.kd_tables.specs.Drafts.{Draft, applied, drafted, part_with, parts_with}
use Rattle.kd_commands.specs.State.{Desk}
use Rattle.kd_commands.specs.Plans.{Plan}
use Rattle.kd_commands.specs.Leaving.{without_conns, without_endpoint}
use Rattle.kd_commands.specs.Names.{with_claim, without_claim}
use Rattle.kd_commands.specs.Visits.{first_ends}
use Rattle.kd_commands.specs.Step.{Ended, ended, ended_by, parts_in}
use Rattle.kd_tables.specs.Outs.{out_answer, answers_of, end, ended_on, stops}
use Rattle.kd_tables.proofs.Ending.{ends_where_it_stops}
use Rattle.kd_holds.specs.declared.holder.Holder as holder
use Rattle.kd_core.specs.Held.{IsHeld, holder_of}
use Rattle.kd_world.specs.State.{Pending, Caller, Holder, World, caller_at}
use Rattle.kd_world.specs.Planner.{desk_end, parts_planned}
use Rattle.kd_world.specs.Holding.{command_end, next_visit}
use Rattle.kd_world.specs.Legal.{is_caller, leave, legal}
use Rattle.kd_world.specs.Pools.{act_of, pools_after}
use Rattle.kd_world.specs.Callers.{callers_after, creds_after, hand_after, kind_after, left_caller, pending_made, pendings_made}
use Rattle.kd_world.specs.Step.{desk_after, holder_after, step}
use Rattle.kd_world.specs.Answers.{left, says, taken}
use Rattle.kd_holds.specs.Handing.{answer_told, answers_told}
use Rattle.kd_holds.proofs.Telling.{ends_alike}
use Rattle.kd_holds.specs.Placed.{HasKept, IsSpent, all_kept, pending_kept, offer_placed}
use Rattle.kd_core.specs.Turned.{becomes, turned}
use Rattle.kd_model.proofs.Truth.{right_true}

-- ---- who leaves

-- somebody holds the desk who leaves it
pub leaves_held : (w : World) (n : ℕ) → IsTrue (legal w (leave n)) → w.holder ≡ None → ⊥
unfolding legal
leaves_held w n m e =
    let h = right_true (is_caller n) _ m in
    true≢false (sym (ap (λ (o : Option Holder). elim o [ None ↦ false | Some h ↦ h.caller == n && is_none (next_visit w h) ]) (sym e) ∙ h))

-- ---- what is pending then

one_pending : (w : World) (c : Option Content) (p : code.Part) (o : Out) → pending_made w (part_with c p).seat (part_with c p).act (out_answer o) ≡ pending_kept w.pools c (offer_placed p o)
one_pending w c (part.Raise seat size) o = refl
one_pending w c (part.Close seat force) o = refl
one_pending w c (part.Offer seat user len from must) out.Done = refl
one_pending w c (part.Offer seat user len from must) (out.Slice n) = refl
one_pending w c (part.Offer seat user len from must) (out.Refused why) = refl
one_pending w c (part.Post seat image) o = refl
one_pending w c (part.Drain seat size) o = refl
one_pending w c (part.Settle seat) o = refl

told_pending : (w : World) (c : Option Content) (p : code.Part) (o : Out) (b : Option Batch) → pending_made w (part_with c p).seat (part_with c p).act (answer_told p o b) ≡ pending_kept w.pools c (offer_placed p o)
told_pending w c (part.Raise seat size) o b = refl
told_pending w c (part.Close seat force) o b = refl
told_pending w c (part.Offer seat user len from must) o b = one_pending w c (part.Offer seat user len from must) o
told_pending w c (part.Post seat image) o b = refl
told_pending w c (part.Drain seat size) o b = refl
told_pending w c (part.Settle seat) o b = refl

-- the code's pendings are those of the definitions
pub pendings_are : (w : World) (cs : List (Option Content)) (ps : List code.Part) (outs : List Out) (b : Option Batch) → pendings_made w (parts_with cs ps) (answers_told ps outs b) ≡ all_kept w.pools cs ps outs
unfolding answers_told
pendings_are w [] [] outs b = refl
pendings_are w (c ∷ cs) [] outs b = refl
pendings_are w [] (p ∷ ps) [] b = refl
pendings_are w (c ∷ cs) (p ∷ ps) [] b = refl
pendings_are w [] (p ∷ ps) (o ∷ outs) b = ap (λ xs. xs ++ pendings_made w (parts_with [] ps) (answers_told ps outs b)) (told_pending w None p o b) ∙ ap (pending_kept w.pools None (offer_placed p o) ++◌) (pendings_are w [] ps outs b)
pendings_are w (c ∷ cs) (p ∷ ps) (o ∷ outs) b = ap (λ xs. xs ++ pendings_made w (parts_with cs ps) (answers_told ps outs b)) (told_pending w c p o b) ∙ ap (pending_kept w.pools c (offer_placed p o) ++◌) (pendings_are w cs ps outs b)

-- ---- how the command ends

-- by a plan whose contents were moved out
abbrev ends_by : Desk → Who → Draft → Option Refusal → Ended
ends_by d w q o = record { reply = (end d (drafted d q) o).reply; next = (end d (drafted d q) o).next; becomes = elim o [ Some why ↦ w.member | None ↦ q.after ] }

spent_alike : (d : Desk) (w : Who) (p q : Draft) (o : Option Refusal) → IsSpent p q → ended d w (drafted d p) o ≡ ends_by d w q o
unfolding drafted
spent_alike d w p q (Some why) s = refl
spent_alike d w p q None s = rw (s.reply, s.change, s.after) refl

pub ends_as :
    (d : Desk) (h k : holder.Holder) → IsHeld d h → HasKept h k
    → desk_end d h.who h.command.value (answers_told h.plan.parts h.outs.items h.made.drained)
    ≡ record { reply = (ended_on d k.plan k.outs.items).reply; next = (ended_on d k.plan k.outs.items).next; becomes = becomes k.plan k.who.member k.outs.items }
unfolding desk_end ended_on drafted
ends_as d h k held has =
    let outs : List Answer = answers_told h.plan.parts h.outs.items h.made.drained in
    let here : first_ends (parts_with h.plan.contents h.plan.parts) outs ≡ first_ends (parts_with k.plan.contents k.plan.parts) (answers_of k.outs.items) =
    ends_alike h.plan.contents h.plan.parts h.outs.items h.made.drained ∙ ends_where_it_stops h.plan.contents h.plan.parts h.outs.items ∙ ap (λ ps. stops ps h.outs.items) (sym has.plan.parts) ∙ ap (λ os. stops k.plan.parts os.items) (sym has.outs)
    ∙ sym (ends_where_it_stops k.plan.contents k.plan.parts k.outs.items) in
    ap (λ (r : Result Plan Refusal). ended_by d h.who r outs) held.plan
    ∙ ap (ended d h.who (drafted d h.plan)) here
    ∙ spent_alike d h.who h.plan k.plan (first_ends (parts_with k.plan.contents k.plan.parts) (answers_of k.outs.items)) has.plan
    ∙ ap (λ w. ends_by d w k.plan (first_ends (parts_with k.plan.contents k.plan.parts) (answers_of k.outs.items))) (sym has.who)

-- at most one more id is given
counts_one : (c : Change) (d : Desk) → (applied c d).next_id ≤ d.next_id + 1
unfolding applied without_conns without_endpoint with_claim without_claim
counts_one change.Nothing d = omega arith
counts_one (change.Arrives c b) d = omega arith
counts_one (change.Leaves id) d = omega arith
counts_one (change.Unblocks seat) d = omega arith
counts_one (change.Expects q) d = omega arith
counts_one (change.Answers asker cookie) d = omega arith
counts_one (change.Acquires id flags n verdict) d = omega arith
counts_one (change.Releases id n) d = omega arith
counts_one (change.Seals id bytes) d = omega arith
counts_one (change.Unseals id number) d = omega arith
counts_one (change.AddsRule id cookie conditions replace) d = omega arith
counts_one (change.RemovesRules id cookie) d = omega arith
counts_one (change.SetsPolicy o entries) d = omega arith
counts_one (change.AddsEndpoint label number entries) d = omega arith
counts_one (change.EndsEndpoint e leavers) d = omega arith
counts_one (change.Passes now) d = omega arith

pub ids_by_one : (d : Desk) (p : Draft) (outs : List Out) → (ended_on d p outs).next.next_id ≤ d.next_id + 1
unfolding ended_on drafted
ids_by_one d p outs = go (first_ends (parts_with p.contents p.parts) (answers_of outs))
  where
    go : (o : Option Refusal) → (end d (drafted d p) o).next.next_id ≤ d.next_id + 1
    go None = counts_one p.change d
    go (Some why) = omega arith

-- ---- the world then

pub after_leaving :
    (w : World) (n : ℕ) (h : Holder) → w.holder ≡ Some h
    → step w (leave n) ≡ record { desk = (command_end w h).next; holder = None; pools = w.pools; callers = set w.callers (n - 1) (left_caller w h (caller_at w n)) }
unfolding desk_after holder_after pools_after callers_after act_of
after_leaving w n h e =
    ap (λ (o : Option Holder). record { desk = elim o [ None ↦ w.desk | Some h ↦ (command_end w h).next ]; holder = None; pools = w.pools; callers = elim o [ None ↦ w.callers | Some h ↦ set w.callers (n - 1) (left_caller w h (caller_at w n)) ] }) e

pub says_left : (w : World) (n : ℕ) (h : Holder) → w.holder ≡ Some h → says w (leave n) ≡ left (command_end w h).reply
unfolding says
says_left w n h e = ap (λ (o : Option Holder). elim o [ None ↦ taken | Some h ↦ left (command_end w h).reply ]) e

-- a caller by the end of its command
abbrev with_end : Caller → Ended → Creds → List Pending → Caller
with_end old e creds more = record { who = record { creds = creds; member = e.becomes }; kind = kind_after e.next e.becomes old.kind; hand = hand_after e.becomes old.hand; pendings = old.pendings ++ more }

-- its caller, told by the code's plan
pub caller_left :
    (w : World) (h k : holder.Holder) (d : Desk) (old kept me : Caller) → IsHeld w.desk h → HasKept h k
    → kept ≡ record old { pendings = old.pendings ++ all_kept w.pools h.plan.contents h.plan.parts h.outs.items }
    → d ≡ (ended_on w.desk k.plan k.outs.items).next
    → me ≡ turned d (record { creds = k.creds; member = becomes k.plan k.who.member k.outs.items }) kept
    → me ≡ left_caller w (holder_of h) old
unfolding parts_planned drafted
caller_left w h k d old kept me held has pend desk turn =
    turn ∙ ap (turned d (record { creds = k.creds; member = becomes k.plan k.who.member k.outs.items })) pend
    ∙ ap (λ (x : Desk). with_end old (record { reply = (ended_on w.desk k.plan k.outs.items).reply; next = x; becomes = becomes k.plan k.who.member k.outs.items }) k.creds (all_kept w.pools h.plan.contents h.plan.parts h.outs.items)) desk
    ∙ ap (λ (e : Ended). with_end old e k.creds (all_kept w.pools h.plan.contents h.plan.parts h.outs.items)) (sym (ends_as w.desk h k held has))
    ∙ ap (λ c. with_end old (command_end w (holder_of h)) c (all_kept w.pools h.plan.contents h.plan.parts h.outs.items)) (has.creds ∙ held.creds)
    ∙ ap (with_end old (command_end w (holder_of h)) (creds_after h.who.creds h.command.value)) (sym (pendings_are w h.plan.contents h.plan.parts h.outs.items h.made.drained))
    ∙ ap (λ (r : Result Plan Refusal). with_end old (command_end w (holder_of h)) (creds_after h.who.creds h.command.value) (pendings_made w (parts_in r) (answers_told h.plan.parts h.outs.items h.made.drained))) (sym held.plan)
