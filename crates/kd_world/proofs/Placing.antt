-- What is owed while callers take the desk, visit pools and leave it.
use Rattle.std.specs.Prelude.{◌≡◌, ◌≢◌, ◌⊎◌, ◌<◌, ◌-◌, ◌==◌, ℕ, Bool, true, false, List, [], ◌∷◌, ◌++◌, length, get_or, replicate, set, refl, Option, Some, None, Result, Ok, Err}
use Rattle.std.proofs.Common.{ap, sym, subst, ◌∙◌, arith, inl, inr, ⊎_elim, eq-eqb, ne_eqb, get_or-set_other, get_or-set_same, append-nil, append_assoc}
use Rattle.std.proofs.lemmas.Bool.{true≢false}
use mathlib.Core.Logic.{dite}
use native.Mathlib.Decide.{ℕ_discrete}
use Rattle.kd_types.specs.declared.refusal.Refusal.{Refusal}
use Rattle.kd_wire.specs.declared.command.Command.{Command}
use Rattle.kd_acts.specs.State.{Act, Answer, Content, Hold, Visit, by_desk, bytes_of, close, done, drain, drained, freed, gone, got, offer, placed, post, raise, refused, settle, slice}
use Rattle.kd_acts.specs.Steps.{after, answer}
use Rattle.kd_acts.proofs.Reserved.{turns}
use Rattle.kd_commands.specs.declared.who.Who.{Who}
use Rattle.kd_commands.specs.State.{Desk}
use Rattle.kd_commands.specs.Plans.{Plan, Part}
use Rattle.kd_commands.proofs.Asides.{IsAside}
use Rattle.kd_commands.proofs.Laid.{AreLaidOut, laid_next, plan_laid}
use Rattle.kd_world.specs.State.{Pending, Caller, Holder, World, caller_at, closed_pool, new_world, stranger}
use Rattle.kd_world.specs.Holding.{command_end, next_visit, parts_held}
use Rattle.kd_world.specs.Legal.{leave, visit}
use Rattle.kd_world.specs.Pools.{aimed, pool_answer}
use Rattle.kd_world.specs.Callers.{left_caller, pending_made, pendings_made}
use Rattle.kd_world.specs.Step.{holder_by, step}
use Rattle.kd_world.proofs.Tied.{next_from, of}
use Rattle.kd_world.proofs.Agreeing.{but_at, each}
use Rattle.kd_world.proofs.Holders.{Kept, answer_is, caller_index, hold, its, knows, leave_is, parts_are, plans, pools_are, pools_of, visit_act, visit_is}
use Rattle.kd_world.proofs.Moving.{alike}
use Rattle.kd_world.proofs.Made.{made_alike, made_more, made_of_none, none_made, turn_makes}
use Rattle.kd_world.proofs.Owing.{Owes, owes_more, owes_still, same_generations, with_owing}

-- what the holder has made becomes its caller's when it leaves
abbrev pub made_by : World → Option Holder → ℕ → List Pending
made_by w None i = []
made_by w (Some h) i = elim (i == h.caller - 1) [ true ↦ pendings_made w (parts_held w h) h.outs | false ↦ [] ]

abbrev pub owing_of : World → ℕ → List Pending
owing_of w i = (get_or w.callers i stranger).pendings ++ made_by w w.holder i

abbrev pub OwesWell : World → Type 0
OwesWell w = Owes (pools_of w.pools) (owing_of w)

made_here : (w : World) (h : Holder) → made_by w (Some h) (h.caller - 1) ≡ pendings_made w (parts_held w h) h.outs
made_here w h =
    ap (λ b. elim b as (λ b. List Pending) [ true ↦ pendings_made w (parts_held w h) h.outs | false ↦ [] ]) (eq-eqb (h.caller - 1) (h.caller - 1) refl)

made_else : (w : World) (h : Holder) (j : ℕ) → j ≢ h.caller - 1 → made_by w (Some h) j ≡ []
made_else w h j ne =
    ap (λ b. elim b as (λ b. List Pending) [ true ↦ pendings_made w (parts_held w h) h.outs | false ↦ [] ]) (ne_eqb j (h.caller - 1) ne)

-- ---- the opening

pub opening_owes : (creator size hashes : ℕ) → OwesWell (new_world creator size hashes)
unfolding new_world
opening_owes creator size hashes =
    with_owing (pools_of (replicate 64 closed_pool)) (λ _. []) (owing_of (new_world creator size hashes))
    (λ i. ap (λ (c : Caller). c.pendings ++ []) (sym (alike 64 i stranger)))
    record { due = λ i. tt; once = λ e i j ne. omega arith }

-- ---- taking the desk

pub take_owes : (d : Desk) (pools : List Hold) (callers : List Caller) (n : ℕ) (x : Command) (who : Who) (r : Result Plan Refusal)
    → OwesWell (of d None pools callers) → OwesWell (of d (holder_by n who x r) pools callers)
take_owes d pools callers n x who (Err why) w = w
take_owes d pools callers n x who (Ok p) w =
    let h : Holder = record { caller = n; who = who; command = x; outs = [] } in
    let t : World = of d (Some h) pools callers in
    with_owing (pools_of pools) (owing_of (of d None pools callers)) (owing_of t)
    (λ i. ap (λ xs. (get_or callers i stranger).pendings ++ xs) (sym (dite (ℕ_discrete i (n - 1))
    (λ z. ap (made_by t (Some h)) z ∙ made_here t h ∙ made_of_none t (parts_held t h)) (λ ne. made_else t h i ne)))) w

-- ---- visits

-- an offer that was answered with a slice
pub record Places (v : Visit) (o : Answer) : Type 0 where
  pub user : ℕ
  pub len : ℕ
  pub source : ℕ
  pub must : Bool
  pub content : Content
  pub number : ℕ
  pub offered : v ≡ offer user len source must content
  pub answered : o ≡ slice number

makes : (w : World) (s : ℕ) (v : Visit) (o : Answer) → (pending_made w s v o ≡ []) ⊎ Places v o
makes w s (offer user len source must content) (slice n) =
    inr record { user = user; len = len; source = source; must = must; content = content; number = n; offered = refl; answered = refl }
makes w s (offer user len source must content) done = inl refl
makes w s (offer user len source must content) placed = inl refl
makes w s (offer user len source must content) gone = inl refl
makes w s (offer user len source must content) freed = inl refl
makes w s (offer user len source must content) (refused why) = inl refl
makes w s (offer user len source must content) (drained images) = inl refl
makes w s (offer user len source must content) (got number offset size dropped) = inl refl
makes w s (offer user len source must content) (bytes_of bytes) = inl refl
makes w s (raise size) o = inl refl
makes w s (close force) o = inl refl
makes w s (post image) o = inl refl
makes w s drain o = inl refl
makes w s (settle images) o = inl refl

module _ (d : Desk) (h : Holder) (pools : List Hold) (callers : List Caller) (k : Kept (of d (Some h) pools callers))
    (r : OwesWell (of d (Some h) pools callers)) (n s : ℕ) (q : Part) (next : next_visit (of d (Some h) pools callers) h ≡ Some q) where
  abbrev w : World
  w = of d (Some h) pools callers

  abbrev ps : List Part
  ps = parts_held w h

  abbrev i : ℕ
  i = h.caller - 1

  abbrev act : Act
  act = by_desk q.act

  abbrev o : Answer
  o = pool_answer w (visit n s)

  abbrev pools' : List Hold
  pools' = set pools q.seat (after (get_or pools q.seat closed_pool) act)

  abbrev h' : Holder
  h' = record h { outs = h.outs ++ o ∷ [] }

  abbrev w' : World
  w' = of d (Some h') pools' callers

  held_laid : AreLaidOut ps
  held_laid =
      subst AreLaidOut (sym (parts_are d h pools callers k))
      (plan_laid d (its d h pools callers k).kind h.who h.command (hold d h pools callers k).plan (knows d h pools callers k) (plans d h pools callers k))

  said_is : o ≡ answer (get_or pools q.seat closed_pool) act
  said_is = answer_is w (visit n s) (aimed q) (visit_act d h pools callers n s q next)

  -- nothing new is owed
  nothing_more : pendings_made w' ps (h.outs ++ o ∷ []) ≡ pendings_made w ps h.outs → OwesWell w'
  nothing_more same = with_owing (pools_of pools') (owing_of w) (owing_of w')
      (λ j. ap (λ xs. (get_or callers j stranger).pendings ++ xs) (dite (ℕ_discrete j i)
      (λ z. ap (made_by w (Some h)) z ∙ made_here w h ∙ sym same ∙ sym (made_here w' h') ∙ ap (made_by w' (Some h')) (sym z))
      (λ ne. made_else w h j ne ∙ sym (made_else w' h' j ne))))
      (owes_still pools k.agrees.numbered q.seat act (owing_of w) r (λ g m. refl))

  one_more : (x : Places q.act o) → x.len ≡ length x.content.image
      → pendings_made w' ps (h.outs ++ o ∷ [])
      ≡ pendings_made w ps h.outs ++ record { seat = q.seat; generation = (get_or pools q.seat closed_pool).generation; number = x.number; content = x.content } ∷ []
      → OwesWell w'
  one_more x fits same =
      let e : Pending = record { seat = q.seat; generation = (get_or pools q.seat closed_pool).generation; number = x.number; content = x.content } in
      let front : ℕ → List Pending = λ j. (get_or callers j stranger).pendings in
      with_owing (pools_of pools') (but_at (owing_of w) i (owing_of w i ++ e ∷ [])) (owing_of w')
      (each (λ j xs. xs ≡ owing_of w' j) (owing_of w) i (owing_of w i ++ e ∷ [])
      (append_assoc (front i) (made_by w (Some h) i) (e ∷ [])
      ∙ ap (λ xs. front i ++ xs) (ap (λ xs. xs ++ e ∷ []) (made_here w h) ∙ sym same ∙ sym (made_here w' h')))
      (λ j ne. ap (λ xs. front j ++ xs) (made_else w h j ne ∙ sym (made_else w' h' j ne))))
      (owes_more pools k.agrees.numbered q.seat act (owing_of w) r i x.user x.len x.source x.number x.must x.content (ap by_desk x.offered)
      (sym said_is ∙ x.answered) fits)

  -- a part that ends no generation
  by_aside : turns act ≡ false → IsAside q.act → OwesWell w'
  by_aside still aside =
      let all : pendings_made w' ps (h.outs ++ o ∷ []) ≡ pendings_made w ps h.outs ++ pending_made w q.seat q.act o =
      made_alike w w' (same_generations pools k.agrees.numbered q.seat act still) ps (h.outs ++ o ∷ []) ∙ made_more w [] ps h.outs o q (next_from w h q next) in
      ⊎_elim
      (λ (none : pending_made w q.seat q.act o ≡ []).
      nothing_more (all ∙ ap (λ xs. pendings_made w ps h.outs ++ xs) none ∙ append-nil (pendings_made w ps h.outs)))
      (λ (x : Places q.act o). one_more x (subst IsAside x.offered aside)
      (all ∙ ap (λ (t : Visit × Answer). pendings_made w ps h.outs ++ pending_made w q.seat t.0 t.1) (λ j. (x.offered j, x.answered j))))
      (makes w q.seat q.act o)

  -- one that does comes before all offers
  by_turn : turns act ≡ true → OwesWell w'
  by_turn t =
      let laid = held_laid in
      let from = next_from w h q next in
      let before : pendings_made w ps h.outs ≡ [] = none_made w [] ps h.outs q laid from t in
      let after_it : pendings_made w' ps h.outs ≡ [] = none_made w' [] ps h.outs q laid from t in
      nothing_more (made_more w' [] ps h.outs o q from ∙ ap (λ xs. xs ++ pending_made w' q.seat q.act o) after_it ∙ turn_makes w' q.seat q.act o t ∙ sym before)

  pub visit_owes : OwesWell (step w (visit n s))
  visit_owes = subst OwesWell (visit_is d h pools callers n s)
      (subst (λ xs. OwesWell (of d (Some h') xs callers)) (sym (pools_are w (visit n s) (Some (aimed q)) (visit_act d h pools callers n s q next)))
      (by_kind (turns act) refl))
    where
      by_kind : (b : Bool) → turns act ≡ b → OwesWell w'
      by_kind true t = by_turn t
      by_kind false t = ⊎_elim (λ (x : turns act ≡ true). absurd (true≢false (sym x ∙ t))) (λ (x : IsAside q.act). by_aside t x)
          (laid_next [] ps h.outs q held_laid (next_from w h q next))

-- ---- leaving the desk

-- the pendings of callers of whom one has others
pub set_pendings : (callers : List Caller) (i : ℕ) (c : Caller) → i < length callers → (j : ℕ)
    → (get_or (set callers i c) j stranger).pendings ≡ but_at (λ k. (get_or callers k stranger).pendings) i c.pendings j
set_pendings callers i c lt =
    each (λ k (xs : List Pending). (get_or (set callers i c) k stranger).pendings ≡ xs) (λ k. (get_or callers k stranger).pendings) i c.pendings
    (ap (λ (x : Caller). x.pendings) (get_or-set_same callers i c stranger lt))
    (λ k ne. ap (λ (x : Caller). x.pendings) (get_or-set_other callers i k c stranger ne))

pub leave_owes : (d : Desk) (h : Holder) (pools : List Hold) (callers : List Caller) → Kept (of d (Some h) pools callers)
    → OwesWell (of d (Some h) pools callers) → OwesWell (step (of d (Some h) pools callers) (leave h.caller))
leave_owes d h pools callers k r =
    let w : World = of d (Some h) pools callers in
    let i : ℕ = h.caller - 1 in
    let c : Caller = left_caller w h (caller_at w h.caller) in
    let low = caller_index h.caller (k.held h refl).caller in
    let many = k.many_callers in
    let front : ℕ → List Pending = λ j. (get_or callers j stranger).pendings in
    subst OwesWell (leave_is d h pools callers h.caller)
    (with_owing (pools_of pools) (owing_of w) (owing_of (of (command_end w h).next None pools (set callers i c)))
    (λ j. sym (append-nil (get_or (set callers i c) j stranger).pendings ∙ set_pendings callers i c (omega (arith, low, many)) j
    ∙ each (λ j xs. xs ≡ owing_of w j) front i c.pendings (ap (λ xs. front i ++ xs) (sym (made_here w h)))
    (λ j ne. sym (append-nil (front j)) ∙ ap (λ xs. front j ++ xs) (sym (made_else w h j ne))) j)) r)
