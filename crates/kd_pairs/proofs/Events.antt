-- Each event adds to the list of a pool what pairs with what is due there, and leaves due what
-- callers owe.
use Rattle.std.specs.Prelude.{◌≡◌, ◌≢◌, ◌⊎◌, ◌<◌, ◌+◌, ◌-◌, ◌==◌, ◌&&◌, ℕ, Bool, true, false, not, List, [], ◌∷◌, ◌++◌, length, get_or, set, refl, Option, Some, None, Result, Ok, Err, is_none, is_some}
use Rattle.std.specs.List.{AllByRecursion}
use Rattle.std.proofs.Common.{ap, sym, subst, ◌∙◌, arith, inl, inr, ⊎_elim, eq-eqb, eqb-true, ne_eqb, append-nil, append_assoc}
use Rattle.std.proofs.lemmas.Bool.{true≢false}
use Rattle.std.proofs.lemmas.Bool.Decides.{nat_tests}
use mathlib.Core.Logic.{dite}
use native.Mathlib.Decide.{ℕ_discrete}
use Rattle.kd_model.proofs.Lists.{all_of_found}
use Rattle.kd_model.proofs.Truth.{left_true, right_true}
use Rattle.kd_types.specs.declared.refusal.Refusal.{Refusal}
use Rattle.kd_wire.specs.declared.command.Command.{Command}
use Rattle.kd_wire.specs.WellFormed.{is_well_formed}
use Rattle.kd_acts.specs.declared.receive.RecvMode.{RecvMode}
use Rattle.kd_acts.specs.State.{Act, Answer, Content, Hold, Visit, by_desk, bytes_of, close, done, drain, drained, free, freed, gone, got, offer, placed, post, publish, raise, read, receive, refused, settle, slice}
use Rattle.kd_acts.specs.Steps.{after, answer}
use Rattle.kd_acts.proofs.Reserved.{turns}
use Rattle.kd_commands.specs.declared.who.Who.{Who}
use Rattle.kd_commands.specs.State.{Desk}
use Rattle.kd_commands.specs.Plans.{Part, Plan}
use Rattle.kd_commands.proofs.Laid.{AreLaidOut, plan_laid}
use Rattle.kd_world.specs.declared.told.Told.{Told}
use Rattle.kd_world.specs.declared.told.Told.TheVariants.{Peeked, Handed}
use Rattle.kd_world.specs.Hands.{hand_freed, hand_received}
use Rattle.kd_world.specs.State.{Caller, Holder, Pending, World, caller_at, closed_pool, pool_at, stranger}
use Rattle.kd_world.specs.Planner.{planned}
use Rattle.kd_world.specs.Holding.{command_end, holds_desk, next_visit, parts_held}
use Rattle.kd_world.specs.Own.{hand_entry, is_pending_at, pending_of, pool_seat}
use Rattle.kd_world.specs.Legal.{Event, frees, is_caller, is_for_desk, is_part_at, leave, legal, publishes, reads, receives, take, visit}
use Rattle.kd_world.specs.Pools.{Aimed, act_at, act_of, aimed, free_of, pool_answer, pools_after}
use Rattle.kd_world.specs.Callers.{has_published, left_caller, pending_made, pendings_made, without_first}
use Rattle.kd_world.specs.Step.{holder_by, step}
use Rattle.kd_world.proofs.Tied.{next_from, of}
use Rattle.kd_world.proofs.Agreeing.{but_at, each, here, there}
use Rattle.kd_world.proofs.Holders.{Kept, answer_is, caller_index, hold, its, knows, leave_is, parts_are, plans, pools_are, pools_by, pools_of, take_is, visit_act, visit_is}
use Rattle.kd_world.proofs.Own.{free_act, free_is, publish_act, publish_is, read_act, read_is, receive_act, receive_is}
use Rattle.kd_world.proofs.Made.{made_alike, made_more, made_of_none, none_made, turn_makes}
use Rattle.kd_world.proofs.Placing.{OwesWell, Places, made_by, owing_of, set_pendings}
use Rattle.kd_world.proofs.Owing.{IsDue, first_less, same_generations}
use Rattle.kd_histories.specs.Pairs.{ArePaired, Due, IsPaired, IsPairedAct, due_by, due_by_act, due_from}
use Rattle.kd_pairs.specs.Paired.{caller_of, turn_of, turns_added, turns_at}
use Rattle.kd_pairs.proofs.Dues.{AreDueOf, Dues, IsDueOf, due_more, due_still, dues_after, published, with_dues, with_owed}

-- ---- what an event adds

abbrev pub added : World → Event → Dues → Dues
added w e k = λ c m. due_from m (k c m) (turns_added w c e)

abbrev pub Due_in : World → Dues → Type 0
Due_in w k = AreDueOf (pools_of w.pools) (owing_of w) k

due_as : (w : World) (k l : Dues) → ((c m : ℕ) → k c m ≡ l c m) → Due_in w k → Due_in w l
due_as w k l same due = with_dues (pools_of w.pools) (owing_of w) k l same due

-- what it adds is paired, and what is owed after it is due then
pub record Goes (w : World) (e : Event) (k : Dues) : Type 0 where
  pub paired : (c m : ℕ) → ArePaired m (k c m) (turns_added w c e)
  pub owed : Due_in (step w e) (added w e k)

-- nothing at all
adds_none : (w : World) (e : Event) (k : Dues) → act_of w e ≡ None → (c m : ℕ) → k c m ≡ added w e k c m
unfolding turns_added due_from
adds_none w e k f c m = ap (λ x. due_from m (k c m) (turns_at w c (caller_of e) x)) (sym f)

pairs_none : (w : World) (e : Event) (k : Dues) → act_of w e ≡ None → (c m : ℕ) → ArePaired m (k c m) (turns_added w c e)
unfolding turns_added ArePaired
pairs_none w e k f c m = subst (λ x. ArePaired m (k c m) (turns_at w c (caller_of e) x)) (sym f) tt

-- or one entry
abbrev dues_by : World → Event → Aimed → Dues → Dues
dues_by w e a k = dues_after (caller_of e) a.seat (pool_at w a.seat).generation a.act (answer (pool_at w a.seat) a.act) k

adds_one : (w : World) (e : Event) (a : Aimed) (k : Dues) → act_of w e ≡ Some a → (c m : ℕ) → dues_by w e a k c m ≡ added w e k c m
unfolding turns_added due_from due_by
adds_one w e a k f c m = go (a.seat == c) ∙ ap (λ x. due_from m (k c m) (turns_at w c (caller_of e) x)) (sym f)
  where
    go : (b : Bool) → elim b [ true ↦ due_by_act m (caller_of e) (pool_at w a.seat).generation a.act (answer (pool_at w a.seat) a.act) (k c m) | false ↦ k c m ]
        ≡ due_from m (k c m) (elim b [ true ↦ (caller_of e, turn_of w a) ∷ [] | false ↦ [] ])
    go true = refl
    go false = refl

pairs_one : (w : World) (e : Event) (a : Aimed) (k : Dues) → act_of w e ≡ Some a → ((m : ℕ) → IsPairedAct m (caller_of e) a.act (answer (pool_at w a.seat) a.act) (k a.seat m))
    → (c m : ℕ) → ArePaired m (k c m) (turns_added w c e)
unfolding turns_added ArePaired IsPaired
pairs_one w e a k f all c m = subst (λ x. ArePaired m (k c m) (turns_at w c (caller_of e) x)) (sym f) (go (a.seat == c) refl)
  where
    go : (b : Bool) → (a.seat == c) ≡ b → ArePaired m (k c m) (elim b [ true ↦ (caller_of e, turn_of w a) ∷ [] | false ↦ [] ])
    go true t = (subst (λ s. IsPairedAct m (caller_of e) a.act (answer (pool_at w a.seat) a.act) (k s m)) (eqb-true a.seat c t) (all m), tt)
    go false t = tt

-- an act that offers and publishes nothing
abbrev AddsNone : ℕ → ℕ → Act → Answer → Type 0
AddsNone n g a o = (m : ℕ) (d : Option Due) → due_by_act m n g a o d ≡ d

-- ---- taking the desk

made_here : (w : World) (h : Holder) → made_by w (Some h) (h.caller - 1) ≡ pendings_made w (parts_held w h) h.outs
made_here w h =
    ap (λ b. elim b as (λ b. List Pending) [ true ↦ pendings_made w (parts_held w h) h.outs | false ↦ [] ]) (eq-eqb (h.caller - 1) (h.caller - 1) refl)

made_else : (w : World) (h : Holder) (j : ℕ) → j ≢ h.caller - 1 → made_by w (Some h) j ≡ []
made_else w h j ne =
    ap (λ b. elim b as (λ b. List Pending) [ true ↦ pendings_made w (parts_held w h) h.outs | false ↦ [] ]) (ne_eqb j (h.caller - 1) ne)

take_due : (d : Desk) (pools : List Hold) (callers : List Caller) (n : ℕ) (x : Command) (who : Who) (r : Result Plan Refusal) (k : Dues)
    → Due_in (of d None pools callers) k → Due_in (of d (holder_by n who x r) pools callers) k
take_due d pools callers n x who (Err why) k w = w
take_due d pools callers n x who (Ok p) k w =
    let h : Holder = record { caller = n; who = who; command = x; outs = [] } in
    let t : World = of d (Some h) pools callers in
    with_owed (pools_of pools) (owing_of (of d None pools callers)) (owing_of t) k
    (λ i. ap (λ xs. (get_or callers i stranger).pendings ++ xs) (sym (dite (ℕ_discrete i (n - 1))
    (λ z. ap (made_by t (Some h)) z ∙ made_here t h ∙ made_of_none t (parts_held t h)) (λ ne. made_else t h i ne)))) w

take_goes : (d : Desk) (pools : List Hold) (callers : List Caller) (n : ℕ) (x : Command) (k : Dues) → Due_in (of d None pools callers) k → Goes (of d None pools callers) (take n x) k
unfolding act_of
take_goes d pools callers n x k w =
    let v : World = of d None pools callers in
    let who : Who = (caller_at v n).who in
    record {
      paired = pairs_none v (take n x) k refl;
      owed = due_as (step v (take n x)) k (added v (take n x) k) (adds_none v (take n x) k refl)
          (subst (λ t. Due_in t k) (take_is d pools callers n x) (take_due d pools callers n x who (planned d who x) k w));
    }

-- ---- leaving it

leave_goes : (d : Desk) (h : Holder) (pools : List Hold) (callers : List Caller) (k : Dues) → Kept (of d (Some h) pools callers)
    → Due_in (of d (Some h) pools callers) k → Goes (of d (Some h) pools callers) (leave h.caller) k
unfolding act_of
leave_goes d h pools callers k kept r =
    let w : World = of d (Some h) pools callers in
    let i : ℕ = h.caller - 1 in
    let c : Caller = left_caller w h (caller_at w h.caller) in
    let low = caller_index h.caller (kept.held h refl).caller in
    let many = kept.many_callers in
    let front : ℕ → List Pending = λ j. (get_or callers j stranger).pendings in
    record {
      paired = pairs_none w (leave h.caller) k refl;
      owed = due_as (step w (leave h.caller)) k (added w (leave h.caller) k) (adds_none w (leave h.caller) k refl)
          (subst (λ t. Due_in t k) (leave_is d h pools callers h.caller)
          (with_owed (pools_of pools) (owing_of w) (owing_of (of (command_end w h).next None pools (set callers i c))) k
          (λ j. sym (append-nil (get_or (set callers i c) j stranger).pendings ∙ set_pendings callers i c (omega (arith, low, many)) j
          ∙ each (λ j xs. xs ≡ owing_of w j) front i c.pendings (ap (λ xs. front i ++ xs) (sym (made_here w h)))
          (λ j ne. sym (append-nil (front j)) ∙ ap (λ xs. front j ++ xs) (sym (made_else w h j ne))) j)) r));
    }

-- ---- visits

-- an answer that places nothing, or a slice
placing : (w : World) (n g s : ℕ) (v : Visit) (o : Answer) → (AddsNone n g (by_desk v) o × (pending_made w s v o ≡ [])) ⊎ Places v o
placing w n g s (offer user len source must content) (slice m) =
    inr record { user = user; len = len; source = source; must = must; content = content; number = m; offered = refl; answered = refl }
placing w n g s (offer user len source must content) done = inl ((λ m d. refl), refl)
placing w n g s (offer user len source must content) placed = inl ((λ m d. refl), refl)
placing w n g s (offer user len source must content) gone = inl ((λ m d. refl), refl)
placing w n g s (offer user len source must content) freed = inl ((λ m d. refl), refl)
placing w n g s (offer user len source must content) (refused why) = inl ((λ m d. refl), refl)
placing w n g s (offer user len source must content) (drained images) = inl ((λ m d. refl), refl)
placing w n g s (offer user len source must content) (got number offset size dropped) = inl ((λ m d. refl), refl)
placing w n g s (offer user len source must content) (bytes_of bytes) = inl ((λ m d. refl), refl)
placing w n g s (raise size) o = inl ((λ m d. refl), refl)
placing w n g s (close force) o = inl ((λ m d. refl), refl)
placing w n g s (post image) o = inl ((λ m d. refl), refl)
placing w n g s drain o = inl ((λ m d. refl), refl)
placing w n g s (settle images) o = inl ((λ m d. refl), refl)

turns_none : (n g : ℕ) (v : Visit) (o : Answer) → turns (by_desk v) ≡ true → AddsNone n g (by_desk v) o
turns_none n g (raise size) o t = λ m d. refl
turns_none n g (close force) o t = λ m d. refl
turns_none n g (offer user len source must content) o t = absurd (true≢false (sym t))
turns_none n g (post image) o t = λ m d. refl
turns_none n g drain o t = λ m d. refl
turns_none n g (settle images) o t = λ m d. refl

one_above : (n : ℕ) → is_caller n ≡ true → n - 1 + 1 ≡ n
one_above n e = grind (arith, nat_tests)

module _ (d : Desk) (h : Holder) (pools : List Hold) (callers : List Caller) (kept : Kept (of d (Some h) pools callers))
    (r : OwesWell (of d (Some h) pools callers)) (k : Dues) (w0 : Due_in (of d (Some h) pools callers) k) (s : ℕ) (q : Part) (next : next_visit (of d (Some h) pools callers) h ≡ Some q) where
  abbrev w : World
  w = of d (Some h) pools callers

  abbrev e : Event
  e = visit h.caller s

  abbrev ps : List Part
  ps = parts_held w h

  abbrev i : ℕ
  i = h.caller - 1

  abbrev act : Act
  act = by_desk q.act

  abbrev o : Answer
  o = pool_answer w e

  abbrev pools' : List Hold
  pools' = set pools q.seat (after (get_or pools q.seat closed_pool) act)

  abbrev h' : Holder
  h' = record h { outs = h.outs ++ o ∷ [] }

  abbrev w' : World
  w' = of d (Some h') pools' callers

  acts : act_of w e ≡ Some (aimed q)
  acts = visit_act d h pools callers h.caller s q next

  said_is : o ≡ answer (get_or pools q.seat closed_pool) act
  said_is = answer_is w e (aimed q) acts

  abbrev then : Answer → Dues
  then a = dues_after h.caller q.seat (pool_at w q.seat).generation act a k

  held_laid : AreLaidOut ps
  held_laid =
      subst AreLaidOut (sym (parts_are d h pools callers kept))
      (plan_laid d (its d h pools callers kept).kind h.who h.command (hold d h pools callers kept).plan (knows d h pools callers kept) (plans d h pools callers kept))

  -- nothing new is owed
  nothing_more : AddsNone h.caller (pool_at w q.seat).generation act o → pendings_made w' ps (h.outs ++ o ∷ []) ≡ pendings_made w ps h.outs → Due_in w' (then o)
  nothing_more none same = with_owed (pools_of pools') (owing_of w) (owing_of w') (then o)
      (λ j. ap (λ xs. (get_or callers j stranger).pendings ++ xs) (dite (ℕ_discrete j i)
      (λ z. ap (made_by w (Some h)) z ∙ made_here w h ∙ sym same ∙ sym (made_here w' h') ∙ ap (made_by w' (Some h')) (sym z))
      (λ ne. made_else w h j ne ∙ sym (made_else w' h' j ne))))
      (due_still pools kept.agrees.numbered q.seat act (owing_of w) r k w0 h.caller (pool_at w q.seat).generation o none)

  one_more : (x : Places q.act o)
      → pendings_made w' ps (h.outs ++ o ∷ [])
      ≡ pendings_made w ps h.outs ++ record { seat = q.seat; generation = (get_or pools q.seat closed_pool).generation; number = x.number; content = x.content } ∷ []
      → Due_in w' (then o)
  one_more x same =
      let p : Pending = record { seat = q.seat; generation = (get_or pools q.seat closed_pool).generation; number = x.number; content = x.content } in
      let front : ℕ → List Pending = λ j. (get_or callers j stranger).pendings in
      let g : ℕ = (pool_at w q.seat).generation in
      subst (λ (y : Visit × Answer). Due_in w' (dues_after h.caller q.seat g (by_desk y.0) y.1 k)) (λ j. (sym x.offered j, sym x.answered j))
      (with_owed (pools_of pools') (but_at (owing_of w) i (owing_of w i ++ p ∷ [])) (owing_of w') _
      (each (λ j xs. xs ≡ owing_of w' j) (owing_of w) i (owing_of w i ++ p ∷ [])
      (append_assoc (front i) (made_by w (Some h) i) (p ∷ [])
      ∙ ap (λ xs. front i ++ xs) (ap (λ xs. xs ++ p ∷ []) (made_here w h) ∙ sym same ∙ sym (made_here w' h')))
      (λ j ne. ap (λ xs. front j ++ xs) (made_else w h j ne ∙ sym (made_else w' h' j ne))))
      (due_more pools kept.agrees.numbered q.seat act (owing_of w) r k w0 h.caller g i x.user x.len x.source x.number x.must x.content (ap by_desk x.offered)
      (sym said_is ∙ x.answered) (one_above h.caller (hold d h pools callers kept).caller) refl))

  -- a part that ends no generation
  by_aside : turns act ≡ false → Due_in w' (then o)
  by_aside still =
      let all : pendings_made w' ps (h.outs ++ o ∷ []) ≡ pendings_made w ps h.outs ++ pending_made w q.seat q.act o =
      made_alike w w' (same_generations pools kept.agrees.numbered q.seat act still) ps (h.outs ++ o ∷ []) ∙ made_more w [] ps h.outs o q (next_from w h q next) in
      ⊎_elim
      (λ (none : AddsNone h.caller (pool_at w q.seat).generation act o × (pending_made w q.seat q.act o ≡ [])).
      nothing_more none.0 (all ∙ ap (λ xs. pendings_made w ps h.outs ++ xs) none.1 ∙ append-nil (pendings_made w ps h.outs)))
      (λ (x : Places q.act o). one_more x
      (all ∙ ap (λ (t : Visit × Answer). pendings_made w ps h.outs ++ pending_made w q.seat t.0 t.1) (λ j. (x.offered j, x.answered j))))
      (placing w h.caller (pool_at w q.seat).generation q.seat q.act o)

  -- one that does comes before all offers
  by_turn : turns act ≡ true → Due_in w' (then o)
  by_turn t =
      let laid = held_laid in
      let from = next_from w h q next in
      let before : pendings_made w ps h.outs ≡ [] = none_made w [] ps h.outs q laid from t in
      let after_it : pendings_made w' ps h.outs ≡ [] = none_made w' [] ps h.outs q laid from t in
      nothing_more (turns_none h.caller (pool_at w q.seat).generation q.act o t) (made_more w' [] ps h.outs o q from ∙ ap (λ xs. xs ++ pending_made w' q.seat q.act o) after_it ∙ turn_makes w' q.seat q.act o t ∙ sym before)

  by_kind : (b : Bool) → turns act ≡ b → Due_in w' (then o)
  by_kind true t = by_turn t
  by_kind false t = by_aside t

  pub visit_goes : Goes w e k
  visit_goes = record {
    paired = pairs_one w e (aimed q) k acts (λ m. tt);
    owed = subst (λ t. Due_in t (added w e k)) (visit_is d h pools callers h.caller s)
        (subst (λ xs. Due_in (of d (Some h') xs callers) (added w e k)) (sym (pools_are w e (Some (aimed q)) acts))
        (due_as w' (then o) (added w e k) (λ c m. ap (λ a. then a c m) said_is ∙ adds_one w e (aimed q) k acts c m) (by_kind (turns act) refl)));
  }

-- ---- events without the desk

-- what was made depends on the pools' generations alone
made_same : (d : Desk) (o : Option Holder) (pools later : List Hold) (callers others : List Caller)
    → ((s : ℕ) → (get_or later s closed_pool).generation ≡ (get_or pools s closed_pool).generation) → (i : ℕ)
    → made_by (of d o later others) o i ≡ made_by (of d o pools callers) o i
made_same d None pools later callers others same i = refl
made_same d (Some h) pools later callers others same i =
    ap (λ xs. elim (i == h.caller - 1) as (λ b. List Pending) [ true ↦ xs | false ↦ [] ])
    (made_alike (of d (Some h) pools callers) (of d (Some h) later others) same (parts_held (of d (Some h) pools callers) h) h.outs)

module _ (d : Desk) (o : Option Holder) (pools : List Hold) (callers : List Caller) (kept : Kept (of d o pools callers))
    (r : OwesWell (of d o pools callers)) (k : Dues) (w0 : Due_in (of d o pools callers) k) (n : ℕ) (is : is_caller n ≡ true) where
  abbrev v : World
  v = of d o pools callers

  abbrev c : Caller
  c = caller_at v n

  abbrev place : ℕ
  place = n - 1

  small : place < length callers
  small = let many = kept.many_callers in let low = caller_index n is in omega (arith, many, low)

  all_front : {X : Type 0} (P : X → Type 0) (xs ys : List X) → AllByRecursion P (xs ++ ys) → AllByRecursion P xs
  all_front P [] ys a = tt
  all_front P (x ∷ xs) ys a = (a.0, all_front P xs ys a.1)

  pub publish_goes : (s number : ℕ) → is_some (pending_of v n s number) ≡ true → Goes v (publishes n s number) k
  publish_goes s number some = go (pending_of v n s number) refl some
    where
      go : (q : Option Pending) → pending_of v n s number ≡ q → is_some q ≡ true → Goes v (publishes n s number) k
      go None f t = absurd (true≢false (sym t))
      go (Some p) f t =
          let e : Event = publishes n s number in
          let act : Act = publish p.generation p.number p.content in
          let aim : Aimed = record { seat = p.seat; act = act } in
          let acts : act_of v e ≡ Some aim = publish_act v n s number (Some p) f in
          let pools' : List Hold = set pools p.seat (after (get_or pools p.seat closed_pool) act) in
          let rest : List Pending = without_first (is_pending_at s number) c.pendings in
          let w' : World = of d o pools' (set callers place (has_published s number c)) in
          let same : (j : ℕ) → made_by w' o j ≡ made_by v o j =
          made_same d o pools pools' callers (set callers place (has_published s number c)) (same_generations pools kept.agrees.numbered p.seat act refl) in
          let front : ℕ → List Pending = λ j. (get_or callers j stranger).pendings in
          let due_here : IsDue (pools_of pools) p = all_of_found (IsDue (pools_of pools)) (is_pending_at s number) c.pendings p (all_front (IsDue (pools_of pools)) c.pendings (made_by v o place) (r.due place)) f in
          let mine : IsDueOf (pools_of pools) k place p = all_of_found (IsDueOf (pools_of pools) k place) (is_pending_at s number) c.pendings p (all_front (IsDueOf (pools_of pools) k place) c.pendings (made_by v o place) (w0 place)) f in
          let done = published pools kept.agrees.numbered p.seat act (owing_of v) r k w0 n (pool_at v p.seat).generation place p (rest ++ made_by v o place)
          (first_less (is_pending_at s number) p c.pendings (made_by v o place) f) refl refl due_here mine (one_above n is) in
          record {
            paired = pairs_one v e aim k acts (λ m. pairs p.generation p.number p.content (answer (pool_at v p.seat) act) m (done.paired m));
            owed = subst (λ t. Due_in t (added v e k)) (publish_is d o pools callers n s number)
                (subst (λ xs. Due_in (of d o xs (set callers place (has_published s number c))) (added v e k))
                (sym (pools_are v e (Some aim) acts))
                (due_as w' (dues_by v e aim k) (added v e k) (adds_one v e aim k acts)
                (with_owed (pools_of pools') (but_at (owing_of v) place (rest ++ made_by v o place)) (owing_of w') (dues_by v e aim k)
                (λ j. each (λ j xs. xs ≡ but_at front place rest j ++ made_by v o j) (owing_of v) place (rest ++ made_by v o place)
                (ap (λ xs. xs ++ made_by v o place) (sym (here front place rest))) (λ j ne. ap (λ xs. xs ++ made_by v o j) (sym (there front place j rest ne))) j
                ∙ ap (λ xs. xs ++ made_by v o j) (sym (set_pendings callers place (has_published s number c) small j))
                ∙ ap (λ xs. (get_or (set callers place (has_published s number c)) j stranger).pendings ++ xs) (sym (same j)))
                done.left)));
          }
        where
          pairs : (g m : ℕ) (x : Content) (a : Answer) (t : ℕ) → (a ≡ placed → (m == t) ≡ true → k p.seat t ≡ Some (record { pass = n; generation = g; content = x })) → IsPairedAct t n (publish g m x) a (k p.seat t)
          pairs g m x placed t all = all refl
          pairs g m x gone t all = tt
          pairs g m x done t all = tt
          pairs g m x freed t all = tt
          pairs g m x (slice number) t all = tt
          pairs g m x (refused why) t all = tt
          pairs g m x (drained images) t all = tt
          pairs g m x (got number offset size dropped) t all = tt
          pairs g m x (bytes_of bytes) t all = tt

  -- ---- receives, reads and frees

  -- they end no generation, and offer and publish nothing
  record IsQuietAct (a : Act) : Type 0 where
    pub turns_not : turns a ≡ false
    pub adds : (g : ℕ) (x : Answer) → AddsNone n g a x
    pub pairs : (m : ℕ) (x : Answer) (t : Option Due) → IsPairedAct m n a x t

  abbrev IsQuiet : Option Aimed → Type 0
  IsQuiet None = Unit {0}
  IsQuiet (Some a) = IsQuietAct a.act

  quiet_at : (s : Option ℕ) (a : Act) → IsQuietAct a → IsQuiet (act_at s a)
  quiet_at None a q = tt
  quiet_at (Some s) a q = q

  quiet_receive : (mode : RecvMode) → IsQuietAct (receive mode)
  quiet_receive mode = record { turns_not = refl; adds = λ g x m t. refl; pairs = λ m x t. tt }

  quiet_read : (m : ℕ) (sealed : Bool) → IsQuietAct (read m sealed)
  quiet_read m sealed = record { turns_not = refl; adds = λ g x m t. refl; pairs = λ m x t. tt }

  quiet_free : (s : Option ℕ) (m : ℕ) (t : Option Told) → IsQuiet (free_of s m t)
  quiet_free s m None = tt
  quiet_free s m (Some Peeked) = tt
  quiet_free s m (Some Handed) = quiet_at s (free m) (record { turns_not = refl; adds = λ g x m t. refl; pairs = λ m x t. tt })

  generations : (a : Option Aimed) → IsQuiet a → (t : ℕ) → (get_or (pools_by a pools) t closed_pool).generation ≡ (get_or pools t closed_pool).generation
  generations None q t = refl
  generations (Some a) q t = same_generations pools kept.agrees.numbered a.seat a.act q.turns_not t

  still : (e : Event) (a : Option Aimed) → caller_of e ≡ n → act_of v e ≡ a → IsQuiet a → AreDueOf (pools_of (pools_by a pools)) (owing_of v) (added v e k)
  still e None who f q = due_as v k (added v e k) (adds_none v e k f) w0
  still e (Some a) who f q =
      with_dues (pools_of (pools_by (Some a) pools)) (owing_of v) (dues_by v e a k) (added v e k) (adds_one v e a k f)
      (due_still pools kept.agrees.numbered a.seat a.act (owing_of v) r k w0 (caller_of e) (pool_at v a.seat).generation (answer (pool_at v a.seat) a.act)
      (subst (λ m. AddsNone m (pool_at v a.seat).generation a.act (answer (pool_at v a.seat) a.act)) (sym who) (q.adds (pool_at v a.seat).generation (answer (pool_at v a.seat) a.act))))

  all_paired : (e : Event) (a : Option Aimed) → caller_of e ≡ n → act_of v e ≡ a → IsQuiet a → (t m : ℕ) → ArePaired m (k t m) (turns_added v t e)
  all_paired e None who f q = pairs_none v e k f
  all_paired e (Some a) who f q = pairs_one v e a k f (λ m. subst (λ j. IsPairedAct m j a.act (answer (pool_at v a.seat) a.act) (k a.seat m)) (sym who) (q.pairs m (answer (pool_at v a.seat) a.act) (k a.seat m)))

  -- others that owe as much
  abbrev OweAlike : List Caller → Type 0
  OweAlike others = (j : ℕ) → (get_or others j stranger).pendings ≡ (get_or callers j stranger).pendings

  quiet_due : (e : Event) (a : Option Aimed) (others : List Caller) → caller_of e ≡ n → act_of v e ≡ a → IsQuiet a → OweAlike others → Due_in (of d o (pools_after v e) others) (added v e k)
  quiet_due e a others who f q same =
      subst (λ xs. Due_in (of d o xs others) (added v e k)) (sym (pools_are v e a f))
      (with_owed (pools_of (pools_by a pools)) (owing_of v) (owing_of (of d o (pools_by a pools) others)) (added v e k)
      (λ j. ap (λ xs. xs ++ made_by v o j) (sym (same j))
      ∙ ap (λ xs. (get_or others j stranger).pendings ++ xs) (sym (made_same d o pools (pools_by a pools) callers others (generations a q) j)))
      (still e a who f q))

  -- another hand
  abbrev handed : List (Option Told) → Caller
  handed hand = record c { hand = hand }

  hand_owes : (hand : List (Option Told)) → OweAlike (set callers place (handed hand))
  hand_owes hand j =
      set_pendings callers place (handed hand) small j
      ∙ each (λ j (xs : List Pending). xs ≡ (get_or callers j stranger).pendings) (λ t. (get_or callers t stranger).pendings) place c.pendings refl
      (λ j ne. refl) j

  pub receive_goes : (mode : RecvMode) → Goes v (receives n mode) k
  receive_goes mode =
      let hand : List (Option Told) = hand_received mode (pool_answer v (receives n mode)) c.hand in
      let a : Option Aimed = act_at (pool_seat c) (receive mode) in
      let f = receive_act v n mode (pool_seat c) refl in
      let q : IsQuiet a = quiet_at (pool_seat c) (receive mode) (quiet_receive mode) in
      record {
        paired = all_paired (receives n mode) a refl f q;
        owed = subst (λ t. Due_in t (added v (receives n mode) k)) (receive_is d o pools callers n mode)
            (quiet_due (receives n mode) a (set callers place (handed hand)) refl f q (hand_owes hand));
      }

  pub read_goes : (number : ℕ) (sealed : Bool) → Goes v (reads n number sealed) k
  read_goes number sealed =
      let a : Option Aimed = act_at (pool_seat c) (read number sealed) in
      let f = read_act v n number sealed (pool_seat c) refl in
      let q : IsQuiet a = quiet_at (pool_seat c) (read number sealed) (quiet_read number sealed) in
      record {
        paired = all_paired (reads n number sealed) a refl f q;
        owed = subst (λ t. Due_in t (added v (reads n number sealed) k)) (read_is d o pools callers n number sealed)
            (quiet_due (reads n number sealed) a callers refl f q (λ j. refl));
      }

  pub free_goes : (number : ℕ) → Goes v (frees n number) k
  free_goes number =
      let t : Option Told = hand_entry c number in
      let hand : List (Option Told) = hand_freed number t c.hand in
      let a : Option Aimed = free_of (pool_seat c) number t in
      let f = free_act v n number t refl in
      let q : IsQuiet a = quiet_free (pool_seat c) number t in
      record {
        paired = all_paired (frees n number) a refl f q;
        owed = subst (λ x. Due_in x (added v (frees n number) k)) (free_is d o pools callers n number)
            (quiet_due (frees n number) a (set callers place (handed hand)) refl f q (hand_owes hand));
      }

-- ---- any event

one : (d : Desk) (o : Option Holder) (pools : List Hold) (callers : List Caller) (e : Event) (k : Dues) → Kept (of d o pools callers) → OwesWell (of d o pools callers)
    → Due_in (of d o pools callers) k → legal (of d o pools callers) e ≡ true → Goes (of d o pools callers) e k
unfolding legal
one d None pools callers (take n x) k kept r w l = take_goes d pools callers n x k w
one d (Some h) pools callers (take n x) k kept r w l =
    let fits = left_true (is_caller n && false && is_for_desk x) (is_well_formed x) l in
    absurd (true≢false (sym (right_true (is_caller n) false (left_true (is_caller n && false) (is_for_desk x) fits))))
one d None pools callers (visit n s) k kept r w l = absurd (true≢false (sym (right_true (is_caller n) false l)))
one d (Some h) pools callers (visit n s) k kept r w l =
    let there = is_part_at s (next_visit (of d (Some h) pools callers) h) in
    let both = right_true (is_caller n) (h.caller == n && there) l in
    subst (λ m. Goes (of d (Some h) pools callers) (visit m s) k) (eqb-true h.caller n (left_true (h.caller == n) there both))
    (go (next_visit (of d (Some h) pools callers) h) refl (right_true (h.caller == n) there both))
  where
    go : (q : Option Part) → next_visit (of d (Some h) pools callers) h ≡ q → is_part_at s q ≡ true → Goes (of d (Some h) pools callers) (visit h.caller s) k
    go None e t = absurd (true≢false (sym t))
    go (Some q) e t = visit_goes d h pools callers kept r k w s q e
one d None pools callers (leave n) k kept r w l = absurd (true≢false (sym (right_true (is_caller n) false l)))
one d (Some h) pools callers (leave n) k kept r w l =
    let left = is_none (next_visit (of d (Some h) pools callers) h) in
    subst (λ m. Goes (of d (Some h) pools callers) (leave m) k)
    (eqb-true h.caller n (left_true (h.caller == n) left (right_true (is_caller n) (h.caller == n && left) l))) (leave_goes d h pools callers k kept w)
one d o pools callers (publishes n s number) k kept r w l =
    let v : World = of d o pools callers in
    publish_goes d o pools callers kept r k w n
    (left_true (is_caller n) (not (holds_desk v n)) (left_true (is_caller n && not (holds_desk v n)) (is_some (pending_of v n s number)) l)) s number
    (right_true (is_caller n && not (holds_desk v n)) (is_some (pending_of v n s number)) l)
one d o pools callers (receives n mode) k kept r w l =
    let v : World = of d o pools callers in
    receive_goes d o pools callers kept r k w n
    (left_true (is_caller n) (not (holds_desk v n)) (left_true (is_caller n && not (holds_desk v n)) (not (mode.peek && mode.drop_it)) l)) mode
one d o pools callers (reads n number sealed) k kept r w l =
    let v : World = of d o pools callers in
    read_goes d o pools callers kept r k w n (left_true (is_caller n) (not (holds_desk v n)) l) number sealed
one d o pools callers (frees n number) k kept r w l =
    let v : World = of d o pools callers in
    free_goes d o pools callers kept r k w n (left_true (is_caller n) (not (holds_desk v n)) l) number

pub goes : (w : World) (e : Event) (k : Dues) → Kept w → OwesWell w → Due_in w k → legal w e ≡ true → Goes w e k
goes w e k kept r due l = one w.desk w.holder w.pools w.callers e k kept r due l
