-- The desk is left with what a plan came to.
use Rattle.std.specs.Prelude.{◌≡◌, ◌≢◌, ◌≤◌, ◌==◌, ◌&&◌, ℕ, suc, Bool, true, false, cond, List, [], ◌∷◌, ◌++◌, length, Option, Some, None, Result, Ok, Err, refl}
use Rattle.std.specs.List.{AllByRecursion}
use Rattle.std.proofs.Common.{sym, ap, ◌∙◌, subst, arith, ne_eqb}
use mathlib.Core.Logic.{dite}
use native.Mathlib.Decide.{ℕ_discrete}
use Rattle.kd_types.specs.declared.refusal.Refusal.{Refusal}
use Rattle.kd_types.specs.declared.refusal.Refusal.TheVariants.{OutOfMemory}
use Rattle.kd_wire.specs.declared.command.Command.{Command}
use Rattle.kd_wire.specs.declared.reply.Reply.{Reply}
use Rattle.kd_wire.specs.declared.reply.Reply.TheVariants as reply
use Rattle.kd_acts.specs.State.{Act, Answer, Batch, by_desk, bytes_of, close, done, drain, drained, free, freed, gone, got, idle as idle_act, offer, placed, post, publish, raise, read, receive, refused, settle, slice}
use Rattle.kd_hands.specs.declared.views.Part as seen
use Rattle.kd_hands.specs.declared.views.View.{View}
use Rattle.kd_hands.specs.Views.{part, hand}
use Rattle.kd_hands.specs.Lists.{is_at}
use Rattle.kd_turn.specs.Sight.{GateSight, Sight}
use Rattle.kd_tables.specs.declared.part.Part as code
use Rattle.kd_tables.specs.declared.part.Part.TheVariants as cp
use Rattle.kd_tables.specs.declared.part.Out.{Out}
use Rattle.kd_tables.specs.Drafts.{Draft, Fits, IsVisitable, applied, drafted, parts_with}
use Rattle.kd_tables.specs.Outs.{answers_of, end, ended_on, stops, why_ended}
use Rattle.kd_tables.proofs.Ending.{ended_alike, ends_where_it_stops}
use Rattle.kd_commands.specs.State.{Desk}
use Rattle.kd_commands.specs.Plans.{Part, Plan}
use Rattle.kd_commands.specs.Step.{Ended, ended as ends_with, ended_by, parts_in}
use Rattle.kd_commands.specs.Visits.{first_ends, images_in, met, next_part, parts_visited}
use Rattle.kd_commands.specs.declared.who.Who.{Who}
use Rattle.kd_commands.specs.declared.who.WhoKind.{WhoKind}
use Rattle.kd_holds.specs.Placed.{IsSpent}
use Rattle.kd_holds.specs.Handing.{answers_told}
use Rattle.kd_holds.proofs.Telling.{ends_alike}
use Rattle.kd_world.specs.State.{Pending}
use Rattle.kd_histories.specs.Turns.{Did, Left, Turn, idle, left}
use Rattle.kd_histories.specs.Slots.{IsLeft, IsTold, Slot, left_end, part_behind, parts_left, planned, seeks_bus, slot_after, slot_of, unborn}
use Rattle.kd_histories.specs.Visits.{addressed_by, visits_at, visits_opened}
use Rattle.kd_histories.specs.Lent.{empties, hand_by}
use Rattle.kd_histories.specs.Pairs.{owed}
use Rattle.kd_histories.specs.Puts.{IsOwn, OwesPut}
use Rattle.kd_histories.proofs.Snocs.{slot_snoc}
use Rattle.kd_histories.proofs.DeskPuts.{idle_desks_may_be_put, leaves_may_be_put}
use Rattle.kd_bus.specs.declared.locked.Locked.TheVariants as locked
use Rattle.kd_bus.specs.Values.{stands}
use Rattle.kd_bus.specs.Sight.{IsIdle}
use Rattle.kd_bus.specs.Turned as turned
use Rattle.kd_bus.specs.Leaving.{Leaves, LeavesDesk, all_pending, becomes, left_as, parts_asked, parts_met}
use Rattle.kd_bus.specs.Visited.{AreVisits, HasDesk, HasSeat, MadeVisits, VisitedAll, answers_in, pending_by, pendings_by}
use Rattle.kd_bus.proofs.Alone.{PassedIt}
use Rattle.kd_bus.proofs.Owed.{all_owed}
use Rattle.kd_bus.proofs.Placing.{pendings_same}
use Rattle.kd_bus.proofs.Refusals.{ends_without_memory}
use Rattle.kd_bus.proofs.Walked.{as_many, none_visited, visits_make}

-- what can be visited has a seat
one_seat : (p : code.Part) → IsVisitable p → HasSeat p
unfolding IsVisitable
one_seat (cp.Raise seat size) v = v.0
one_seat (cp.Close seat force) v = v
one_seat (cp.Offer seat user len from must) v = v.0
one_seat (cp.Post seat image) v = v.0
one_seat (cp.Drain seat size) v = v.0
one_seat (cp.Settle seat) v = v

pub all_seats : (ps : List code.Part) → AllByRecursion IsVisitable ps → AllByRecursion HasSeat ps
all_seats [] a = tt
all_seats (p ∷ ps) a = (one_seat p a.0, all_seats ps a.1)

-- ---- a plan whose contents were moved out ends as it did before

same_end : (d : Desk) (p q : Plan) → p.reply ≡ q.reply → p.next ≡ q.next → (o : Option Refusal) → end d p o ≡ end d q o
same_end d p q r n (Some why) = refl
same_end d p q r n None = ap (λ (x : Reply). record { reply = x; next = p.next }) r ∙ ap (λ (x : Desk). record { reply = q.reply; next = x }) n

pub spent_ends : (d : Desk) (p q : Draft) (outs : List Out) → IsSpent p q → ended_on d q outs ≡ ended_on d p outs
unfolding ended_on drafted
spent_ends d p q outs s =
    ap (λ o. end d (drafted d q) o) (ends_where_it_stops q.contents q.parts outs ∙ (ap (λ ps. stops ps outs) s.parts ∙ sym (ends_where_it_stops p.contents p.parts outs)))
    ∙ same_end d (drafted d q) (drafted d p) s.reply (ap (λ x. applied x d) s.change) (first_ends (parts_with p.contents p.parts) (answers_of outs))

pub spent_fits : (d : Desk) (p q : Draft) → IsSpent p q → Fits d p.change → Fits d q.change
spent_fits d p q s f = subst (Fits d) (sym s.change) f

-- ---- who held the desk alone holds nothing when it is put

pub desk_idle : (gate : GateSight) (p q : Sight Turn) (e : Turn) → HasDesk gate p → q.gate ≡ p.gate → p.held ≡ 0 ∷ q.held → PassedIt 0 e p.view q.view → IsIdle gate q
desk_idle gate p q e h same held put = record {
  same = same ∙ h.same;
  locks = h.locks;
  rests = record {
    held = ap rest_of (sym held ∙ h.held);
    holds = λ k. dite (ℕ_discrete k 0)
        (λ z. ap (λ (i : ℕ). (part q.view i).holds) z ∙ ap (λ (x : seen.Part Turn). x.holds) put.here)
        (λ ne. ap (λ (x : seen.Part Turn). x.holds) (put.others k ne) ∙ h.others k ne);
  };
}
  where
    rest_of : List ℕ → List ℕ
    rest_of [] = []
    rest_of (x ∷ xs) = xs

-- the desk was left with an entry of its own
pub leaves_desk : (e e' : Turn) (v v' : View Turn) → e ≡ e' → ((hs : List ℕ) → hand_by e hs ≡ hs) → PassedIt 0 e v v' → LeavesDesk e' v v'
leaves_desk e e' v v' says none put = record {
  seen = ap (λ (q : seen.Part Turn). q.seen) put.here ∙ ap (λ t. (part v 0).seen ++ (v.name, t) ∷ []) says;
  own = ap (λ (q : seen.Part Turn). q.own) put.here ∙ ap (λ t. (part v 0).own ++ (v.name, t) ∷ []) says;
  others = put.others;
  hands = λ c. put.hands (suc c)
      ∙ (ap (λ b. cond b (hand_by e (hand v 0)) (cond ((0 == 0) && is_at (suc c) (empties e)) [] (hand v (suc c)))) (ne_eqb (suc c) 0 (λ z. omega arith))
      ∙ (ap (λ t. cond (is_at (suc c) (empties t)) [] (hand v (suc c))) says ∙ as_elim (is_at (suc c) (empties e')) (hand v (suc c))));
  name = put.name;
  turns = put.turns;
  steps = put.steps;
}
  where
    as_elim : (b : Bool) (xs : List ℕ) → cond b [] xs ≡ elim b [ true ↦ [] | false ↦ xs ]
    as_elim true xs = refl
    as_elim false xs = refl

-- ---- nothing comes of a refusal

no_pending : (seat : ℕ) (a : Act) (why : Refusal) (g : ℕ) → pending_by seat a (refused why) g ≡ []
no_pending seat (by_desk (offer user len source must c)) why g = refl
no_pending seat (by_desk (raise size)) why g = refl
no_pending seat (by_desk (close force)) why g = refl
no_pending seat (by_desk (post image)) why g = refl
no_pending seat (by_desk drain) why g = refl
no_pending seat (by_desk (settle images)) why g = refl
no_pending seat (publish generation n c) why g = refl
no_pending seat (receive mode) why g = refl
no_pending seat (read n sealed) why g = refl
no_pending seat (free n) why g = refl
no_pending seat idle_act why g = refl

refuses : (p : Part) (ps : List Part) (a : Answer) (os : List Answer) (why : Refusal) → first_ends (p ∷ ps) (a ∷ os) ≡ Some why → (y : Refusal) × (a ≡ refused y)
unfolding first_ends
refuses p ps (refused y) os why e = (y, refl)
refuses p ps done os why e = absurd cc
refuses p ps placed os why e = absurd cc
refuses p ps gone os why e = absurd cc
refuses p ps freed os why e = absurd cc
refuses p ps (slice n) os why e = absurd cc
refuses p ps (drained images) os why e = absurd cc
refuses p ps (got n offset len dropped) os why e = absurd cc
refuses p ps (bytes_of bytes) os why e = absurd cc

no_pendings : (qs : List Part) → pendings_by qs [] ≡ []
no_pendings [] = refl
no_pendings (q ∷ qs) = refl

pub none_placed : (ps : List Part) (ds : List Did) (why : Refusal) → first_ends ps (answers_in ds) ≡ Some why → length ds ≤ 1 → pendings_by (parts_visited [] ps (answers_in ds)) ds ≡ []
unfolding parts_visited
none_placed [] ds why e one = refl
none_placed (p ∷ ps) [] why e one = no_pendings (parts_visited [] (p ∷ ps) [])
none_placed (p ∷ ps) (d ∷ x ∷ ds) why e one = absurd (omega (arith, one))
none_placed (p ∷ ps) (d ∷ []) why e one =
    let y = refuses p ps d.answer [] why e in
    let q : Part = met [] p in
    ap (λ xs. pending_by q.seat (by_desk q.act) d.answer d.generation ++ xs) (no_pendings (parts_visited ([] ++ images_in d.answer) ps []))
    ∙ ap (λ xs. xs ++ []) (ap (λ a. pending_by q.seat (by_desk q.act) a d.generation) y.1 ∙ no_pending q.seat (by_desk q.act) y.0 d.generation)

-- ---- a command that was carried out

module _ (g : ℕ) (d : Desk) (aim : Option ℕ) (w : Who) (x : Command) (p : Draft) (outs : List Out) (b : Option Batch) (plan_is : planned g aim d w x ≡ Ok (drafted d p))
    (all : part_behind (parts_with p.contents p.parts) (answers_told p.parts outs b) ≡ None) (quiet : seeks_bus x ≡ false → aim ≡ None) where
  abbrev s : Slot
  s = record { generation = g; desk = d }

  abbrev os : List Answer
  os = answers_told p.parts outs b

  abbrev why : Option Refusal
  why = why_ended p outs

  abbrev pub the_left : Left
  the_left = left_as g aim w x os (ended_on d p outs).reply (becomes p w.member why)

  by_plan : (P : Result Plan Refusal → Type 0) → P (Ok (drafted d p)) → P (planned g aim d w x)
  by_plan P q = subst P (sym plan_is) q

  parts_are : parts_in (planned g aim d w x) ≡ parts_with p.contents p.parts
  unfolding drafted
  parts_are = ap parts_in plan_is

  told_end : ended_by d w (Ok (drafted d p)) os ≡ ended_by d w (Ok (drafted d p)) (answers_of outs)
  unfolding drafted
  told_end = ap (λ o. ends_with d w (drafted d p) o) (ends_alike p.contents p.parts outs b)

  next_is : (left_end s the_left).next ≡ (ended_on d p outs).next
  unfolding left_end
  next_is = by_plan (λ r. (ended_by d w r os).next ≡ (ended_on d p outs).next) (ap (λ (e : Ended). e.next) told_end ∙ (ended_alike d w p outs).1)

  becomes_is : becomes p w.member why ≡ (left_end s the_left).becomes
  unfolding left_end drafted
  becomes_is = by_plan (λ r. becomes p w.member why ≡ (ended_by d w r os).becomes) (go (first_ends (parts_with p.contents p.parts) (answers_of outs)) ∙ ap (λ (e : Ended). e.becomes) (sym told_end))
    where
      go : (o : Option Refusal) → ◌≡◌ {A = WhoKind} (elim o [ Some y ↦ w.member | None ↦ p.after ]) (ends_with d w (drafted d p) o).becomes
      go (Some y) = refl
      go None = refl

  pub left_is : IsLeft s the_left
  unfolding left_end
  left_is = record {
    generation = refl;
    aim = quiet;
    all = subst (λ ps. part_behind ps os ≡ None) (sym parts_are) all;
    reply = by_plan (λ r. (ended_on d p outs).reply ≡ (ended_by d w r os).reply) (sym (ap (λ (e : Ended). e.reply) told_end ∙ (ended_alike d w p outs).0));
    becomes = becomes_is;
  }

  -- the value is what the entry leaves
  pub left_stands : (list : List (ℕ × Turn)) (name : ℕ) (d' : Desk) (e : Turn) → slot_of list ≡ s → e ≡ left the_left → d' ≡ (ended_on d p outs).next → stands 0 (list ++ (name, e) ∷ []) (locked.Desk (record { generation = g; desk = d' }))
  unfolding slot_after
  left_stands list name d' e value says is = ap (λ z. locked.Desk z)
      (sym (slot_snoc unborn list (name, e) ∙ (ap (slot_after e) value ∙ (ap (λ t. slot_after t s) says ∙ ap (λ (z : Desk). record { generation = g; desk = z }) (next_is ∙ sym is)))))

  module _ (generations : List ℕ) (v v₁ : View Turn) (desk : (part v 0).holds ≡ true) (shut : v.opened ≡ []) (visited : VisitedAll (parts_with p.contents p.parts) os generations v v₁) (value : slot_of (part v 0).seen ≡ s) (e : Turn) (says : e ≡ left the_left) where
    abbrev ds : List Did
    ds = visited.entries

    made : MadeVisits (parts_visited [] (parts_with p.contents p.parts) os) ds v v₁
    made = visits_make (parts_visited [] (parts_with p.contents p.parts) os) ds v v₁ visited.each

    value_now : slot_of (part v₁ 0).seen ≡ s
    value_now = ap (λ (q : seen.Part Turn). slot_of q.seen) made.desk ∙ value

    -- the value stands behind the longer list
    pub stands_now : (d' : Desk) → d' ≡ (ended_on d p outs).next → stands 0 ((part v₁ 0).seen ++ (v₁.name, e) ∷ []) (locked.Desk (record { generation = g; desk = d' }))
    stands_now d' is = left_stands (part v₁ 0).seen v₁.name d' e value_now says is

    -- the entry may be put
    pub left_put : IsOwn (part v 0).own g w.member → OwesPut v₁ 0 e
    unfolding IsTold addressed_by visits_opened
    left_put mine = subst (OwesPut v₁ 0) (sym says) (leaves_may_be_put the_left v₁
        record {
          desk = ap (λ (q : seen.Part Turn). q.holds) made.desk ∙ desk;
          is = subst (λ z. IsLeft z the_left) (sym value_now) left_is;
          opened = λ c. made.opened c
              ∙ (ap (λ xs. visits_opened (suc c) xs ++ visits_at c (parts_visited [] (parts_with p.contents p.parts) os) (answers_in ds)) shut
              ∙ (ap (λ ys. visits_at c (parts_visited [] (parts_with p.contents p.parts) os) ys) visited.answers
              ∙ (ap (λ ps. visits_at c (parts_visited [] ps os) os) (sym parts_are)
              ∙ ap (λ z. visits_at c (parts_visited [] (parts_left z the_left) os) os) (sym value_now))));
        }
        (subst (λ (q : seen.Part Turn). IsOwn q.own g w.member) (sym made.desk) mine))

    -- the command
    module _ (few : why ≢ None → length outs ≤ 1) (long : length generations ≡ length outs) (pendings : List Pending) (kept : pendings ≡ all_pending p.contents p.parts outs generations) where
      met_is : parts_met s aim w x ds ≡ parts_visited [] (parts_with p.contents p.parts) os
      met_is = ap (λ ps. parts_visited [] ps (answers_in ds)) parts_are ∙ ap (λ ys. parts_visited [] (parts_with p.contents p.parts) ys) visited.answers

      placed_is : pendings ≡ pendings_by (parts_met s aim w x ds) ds
      placed_is = kept ∙ (pendings_same p.contents p.parts outs b generations ds visited.answers visited.generations_are ∙ ap (λ ps. pendings_by (parts_visited [] ps (answers_in ds)) ds) (sym parts_are))

      first_is : first_ends (parts_asked s aim w x) (answers_in ds) ≡ why
      first_is = ap (λ ps. first_ends ps (answers_in ds)) parts_are ∙ (ap (λ ys. first_ends (parts_with p.contents p.parts) ys) visited.answers ∙ ends_alike p.contents p.parts outs b)

      few_entries : why ≢ None → length ds ≤ 1
      few_entries ne = let n = as_many ds generations visited.generations_are in let one = few ne in omega (arith, n, one, long)

      pub leaves_so : (v' : View Turn) → PassedIt 0 e v₁ v' → Leaves s aim w x (ended_on d p outs).reply (becomes p w.member why) pendings v v'
      unfolding hand_by
      leaves_so v' put =
          let said : e ≡ left (left_as g aim w x (answers_in ds) (ended_on d p outs).reply (becomes p w.member why)) =
          says ∙ ap (λ ys. left (left_as g aim w x ys (ended_on d p outs).reply (becomes p w.member why))) (sym visited.answers) in
          let each : AreVisits (parts_met s aim w x ds) ds v v₁ = subst (λ qs. AreVisits qs ds v v₁) (sym met_is) visited.each in
          record {
            entries = ds;
            then = v₁;
            is = subst (λ ys. IsLeft s (left_as g aim w x ys (ended_on d p outs).reply (becomes p w.member why))) (sym visited.answers) left_is;
            each = each;
            made = visits_make (parts_met s aim w x ds) ds v v₁ each;
            first = λ ne. few_entries (λ z. ne (first_is ∙ z));
            left = leaves_desk e (left (left_as g aim w x (answers_in ds) (ended_on d p outs).reply (becomes p w.member why))) v₁ v' said (λ hs. ap (λ t. hand_by t hs) says) put;
            placed = placed_is;
            owed = subst (AllByRecursion (turned.IsOwed v')) (sym placed_is) (owed_behind (pendings_by (parts_met s aim w x ds) ds) v₁ v' put.others (all_owed (parts_met s aim w x ds) ds v v₁ each));
          }
        where
          owed_behind : (ps : List Pending) (a c : View Turn) → ((k : ℕ) → k ≢ 0 → part c k ≡ part a k) → AllByRecursion (turned.IsOwed a) ps → AllByRecursion (turned.IsOwed c) ps
          owed_behind [] a c same o = tt
          owed_behind (q ∷ ps) a c same o = (
            record { low = o.0.low; owed_is = ap (λ (y : seen.Part Turn). owed q.generation q.number y.own) (same (suc q.seat) (λ z. omega arith)) ∙ o.0.owed_is },
            owed_behind ps a c same o.1,
          )

      -- where its first part ended it, nothing came of it
      pub refused_so : (y : Refusal) → why ≡ Some y → (y ≢ OutOfMemory) × ((ended_on d p outs).reply ≡ reply.Refused y) × (becomes p w.member why ≡ w.member) × (pendings ≡ [])
      unfolding ended_on drafted
      refused_so y is = (
        ends_without_memory (parts_asked s aim w x) ds v v₁ y (subst (λ qs. AreVisits qs ds v v₁) (sym met_is) visited.each) (first_is ∙ is),
        ap (λ o. (end d (drafted d p) o).reply) is,
        ap (becomes p w.member) is,
        placed_is ∙ none_placed (parts_asked s aim w x) ds y (first_is ∙ is) (few_entries (λ z. let no : Some y ≡ None = sym is ∙ z in absurd cc)),
      )

-- ---- a command that was refused

nothing_at : (c : ℕ) (ps : List Part) → visits_at c (parts_visited [] ps []) [] ≡ []
unfolding visits_at parts_visited
nothing_at c [] = refl
nothing_at c (p ∷ ps) = refl

module _ (g : ℕ) (d : Desk) (aim : Option ℕ) (w : Who) (x : Command) (why : Refusal) (plan_is : planned g aim d w x ≡ Err why) (quiet : seeks_bus x ≡ false → aim ≡ None) where
  abbrev t : Slot
  t = record { generation = g; desk = d }

  abbrev pub the_refused : Left
  the_refused = left_as g aim w x [] (reply.Refused why) w.member

  refused_is : IsLeft t the_refused
  unfolding left_end first_ends next_part
  refused_is = record {
    generation = refl;
    aim = quiet;
    all = subst (λ r. part_behind (parts_in r) [] ≡ None) (sym plan_is) refl;
    reply = subst (λ r. ◌≡◌ {A = Reply} (reply.Refused why) (ended_by d w r []).reply) (sym plan_is) refl;
    becomes = subst (λ r. w.member ≡ (ended_by d w r []).becomes) (sym plan_is) refl;
  }

  pub turned_stands : (list : List (ℕ × Turn)) (name : ℕ) (e : Turn) → slot_of list ≡ t → e ≡ left the_refused → stands 0 (list ++ (name, e) ∷ []) (locked.Desk t)
  unfolding slot_after left_end
  turned_stands list name e value says = ap (λ z. locked.Desk z)
      (sym (slot_snoc unborn list (name, e) ∙ (ap (slot_after e) value ∙ (ap (λ y. slot_after y t) says ∙ subst (λ r. ◌≡◌ {A = Slot} (record { generation = g; desk = (ended_by d w r []).next }) t) (sym plan_is) refl))))

  module _ (v : View Turn) (desk : (part v 0).holds ≡ true) (shut : v.opened ≡ []) (value : slot_of (part v 0).seen ≡ t) (e : Turn) (says : e ≡ left the_refused) where
    pub turned_put : IsOwn (part v 0).own g w.member → OwesPut v 0 e
    unfolding IsTold addressed_by visits_opened
    turned_put mine = subst (OwesPut v 0) (sym says) (leaves_may_be_put the_refused v
        record {
          desk = desk;
          is = subst (λ z. IsLeft z the_refused) (sym value) refused_is;
          opened = λ c. ap (visits_opened (suc c)) shut ∙ sym (nothing_at c (parts_left (slot_of (part v 0).seen) the_refused));
        } mine)

    pub turned_so : (v' : View Turn) → PassedIt 0 e v v' → Leaves t aim w x (reply.Refused why) w.member [] v v'
    unfolding hand_by
    turned_so v' put =
        let each : AreVisits (parts_met t aim w x []) [] v v = subst (λ qs. AreVisits qs [] v v) (sym (none_visited [] (parts_asked t aim w x))) refl in
        record {
          entries = [];
          then = v;
          is = refused_is;
          each = each;
          made = visits_make (parts_met t aim w x []) [] v v each;
          first = λ ne. omega arith;
          left = leaves_desk e (left the_refused) v v' says (λ hs. ap (λ y. hand_by y hs) says) put;
          placed = sym (no_pendings (parts_met t aim w x []));
          owed = tt;
        }

-- ---- nothing was done

pub idle_stands : (list : List (ℕ × Turn)) (name : ℕ) (e : Turn) (t : Slot) → slot_of list ≡ t → e ≡ idle → stands 0 (list ++ (name, e) ∷ []) (locked.Desk t)
unfolding slot_after
idle_stands list name e t value says = ap (λ z. locked.Desk z) (sym (slot_snoc unborn list (name, e) ∙ (ap (slot_after e) value ∙ ap (λ y. slot_after y t) says)))

pub idle_put : (v : View Turn) (e : Turn) → (part v 0).holds ≡ true → v.opened ≡ [] → e ≡ idle → OwesPut v 0 e
unfolding IsTold addressed_by visits_opened
idle_put v e desk shut says = subst (OwesPut v 0) (sym says) (idle_desks_may_be_put v record { desk = desk; is = tt; opened = λ c. ap (visits_opened (suc c)) shut })

pub idle_so : (v v' : View Turn) (e : Turn) → e ≡ idle → PassedIt 0 e v v' → LeavesDesk idle v v'
unfolding hand_by
idle_so v v' e says put = leaves_desk e idle v v' says (λ hs. ap (λ y. hand_by y hs) says) put
