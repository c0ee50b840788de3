-- A holder's visit of its next part.
use Rattle.std.specs.Prelude.{◌≡◌, ◌<◌, ◌+◌, ◌*◌, ◌^◌, ◌++◌, ◌&&◌, ◌==◌, ℕ, false, List, [], ◌∷◌, Option, Some, None, Result, Ok, Err, ◌≤◌, IsTrue, IsSome, IfSome, OnErr, length, drop, set, get_or, option_map}
use Rattle.std.specs.List.{AllByRecursion}
use Rattle.std.proofs.Common.{refl, sym, ap, ◌∙◌, subst, arith, zero, suc, length-append, Vec, Global}
use Rattle.std.specs.declared.snapshot.Snapshot.{Snapshot}
use Rattle.std.proofs.lemmas.Bool.{true≢false}
use Rattle.std.proofs.lemmas.List.{drop_more, length-set}
use Rattle.kd_types.specs.declared.refusal.Refusal.{Refusal}
use Rattle.kd_model.specs.declared.slice_no.TheConstants.{SLICES}
use Rattle.kd_acts.specs.State.{Answer, Batch, Content, Hold, by_desk, done, settle}
use Rattle.kd_acts.specs.Steps.{pool_step}
use Rattle.kd_tables.specs.declared.part.Part as code
use Rattle.kd_tables.specs.declared.part.Part.TheVariants as part
use Rattle.kd_tables.specs.declared.part.Out.{Out}
use Rattle.kd_tables.specs.declared.part.Out.TheVariants as out
use Rattle.kd_core.specs.declared.event.Answer.TheVariants as answer
use Rattle.kd_holds.specs.declared.hold.Hold as hold
use Rattle.kd_wire.specs.declared.command.Command.{Command}
use Rattle.kd_commands.specs.declared.who.Who.{Who}
use Rattle.kd_commands.specs.State.{Desk}
use Rattle.kd_commands.specs.Plans.{Plan, Part}
use Rattle.kd_commands.specs.Visits.{first_ends, met, next_part}
use Rattle.kd_commands.specs.Step.{parts_in}
use Rattle.kd_tables.specs.Drafts.{Draft, drafted, part_with, parts_with, seat_in}
use Rattle.kd_tables.specs.Outs.{out_answer}
use Rattle.kd_holds.specs.declared.holder.Holder as holder
use Rattle.kd_core.specs.declared.world.World.TheInside.{Inside}
use Rattle.kd_holds.specs.Counts.{IsBelow}
use Rattle.kd_core.specs.Held.{IsHeld, IsHeldBy, IsWhole, holder_of, world_of}
use Rattle.kd_holds.specs.Handing.{HandsOver, IsDrainedBy, Stock, TellDrained, answer_told, answers_told, drain_told, images_of, visit_met}
use Rattle.kd_holds.specs.Lists.{first_of}
use Rattle.kd_core.specs.Running.{Running, out_of, said, stepped}
use Rattle.kd_holds.specs.Visits.{HasVisited, IsReady, IsSameHolder, IsVisited}
use Rattle.kd_world.specs.State.{World, Holder, closed_pool}
use Rattle.kd_world.specs.Planner.{parts_planned}
use Rattle.kd_world.specs.Holding.{next_visit}
use Rattle.kd_world.specs.Legal.{visit, legal, is_caller, is_part_at}
use Rattle.kd_world.specs.Pools.{Aimed, aimed, act_of, pools_after, pool_answer}
use Rattle.kd_world.specs.Callers.{callers_after}
use Rattle.kd_world.specs.Step.{desk_after, holder_after, step}
use Rattle.kd_world.specs.Answers.{says, told_answer}
use Rattle.kd_holds.proofs.Ahead.{seat_with}
use Rattle.kd_holds.proofs.Telling.{next_told, tells_more, told_more}
use Rattle.kd_core.proofs.Seen.{held_in, inner}
use Rattle.kd_holds.proofs.Below.{below_more, below_visit}
use Rattle.kd_model.proofs.Truth.{right_true, same_some}
use Rattle.kd_core.proofs.Wholes.{with_steps}

-- ---- what is left to visit

-- the part of the code that stands where one of the definitions does
pub record Stands (n : ℕ) (cs : List (Option Content)) (ps : List code.Part) (q : Part) : Type 0 where
  pub part : code.Part
  pub rest : List code.Part
  pub content : Option Content
  pub ahead : drop n ps ≡ part ∷ rest
  pub same : q ≡ part_with content part

the_same : (p q : Part) → Some p ≡ Some q → q ≡ p
the_same p q e = sym cc

part_ahead_is : (n : ℕ) (cs : List (Option Content)) (ps : List code.Part) (q : Part) → first_of (drop n (parts_with cs ps)) ≡ Some q → Stands n cs ps q
part_ahead_is zero [] [] q e = absurd cc
part_ahead_is zero (c ∷ cs) [] q e = absurd cc
part_ahead_is zero [] (p ∷ ps) q e = record { part = p; rest = ps; content = None; ahead = refl; same = the_same (part_with None p) q e }
part_ahead_is zero (c ∷ cs) (p ∷ ps) q e = record { part = p; rest = ps; content = c; ahead = refl; same = the_same (part_with c p) q e }
part_ahead_is (suc n) [] [] q e = absurd cc
part_ahead_is (suc n) (c ∷ cs) [] q e = absurd cc
part_ahead_is (suc n) [] (p ∷ ps) q e = let m = part_ahead_is n [] ps q e in record { part = m.part; rest = m.rest; content = m.content; ahead = m.ahead; same = m.same }
part_ahead_is (suc n) (c ∷ cs) (p ∷ ps) q e = let m = part_ahead_is n cs ps q e in record { part = m.part; rest = m.rest; content = m.content; ahead = m.ahead; same = m.same }

-- the same, as its pool meets it
pub record Meets (n : ℕ) (cs : List (Option Content)) (ps : List code.Part) (took : Option Batch) (q : Part) : Type 0 where
  pub part : code.Part
  pub rest : List code.Part
  pub content : Option Content
  pub ahead : drop n ps ≡ part ∷ rest
  pub same : q ≡ met (images_of took) (part_with content part)

met_of : (f : Part → Part) (o : Option Part) (q : Part) → option_map f o ≡ Some q → (x : Part) × (o ≡ Some x) × (q ≡ f x)
met_of f None q e = absurd cc
met_of f (Some x) q e = (x, refl, the_same (f x) q e)

part_met_is : (n : ℕ) (cs : List (Option Content)) (ps : List code.Part) (took : Option Batch) (q : Part) → option_map (met (images_of took)) (first_of (drop n (parts_with cs ps))) ≡ Some q → Meets n cs ps took q
part_met_is n cs ps took q e =
    let x = met_of (met (images_of took)) (first_of (drop n (parts_with cs ps))) q e in
    let m = part_ahead_is n cs ps x.0 x.1 in
    record { part = m.part; rest = m.rest; content = m.content; ahead = m.ahead; same = x.2 ∙ ap (met (images_of took)) m.same }

pub some_left : {X : Type 0} (n : ℕ) (xs : List X) (x : X) (rest : List X) → drop n xs ≡ x ∷ rest → n < length xs
some_left zero [] x rest e = absurd cc
some_left zero (y ∷ ys) x rest e = omega arith
some_left (suc n) [] x rest e = absurd cc
some_left (suc n) (y ∷ ys) x rest e = let lt : n < length ys = some_left n ys x rest e in omega (arith, lt)

abbrev behind_first : {X : Type 0} → List X → List X
behind_first [] = []
behind_first (x ∷ xs) = xs

pub one_less : {X : Type 0} (n : ℕ) (xs : List X) (x : X) (rest : List X) → drop n xs ≡ x ∷ rest → drop (n + 1) xs ≡ rest
one_less n xs x rest e = ap behind_first (sym (drop_more xs n x (some_left n xs x rest e)) ∙ e)

-- ---- what is visited next

-- the answers that a holder has
abbrev told_by : holder.Holder → List Answer
told_by h = answers_told h.plan.parts h.outs.items h.made.drained

-- the next visit, by the plan of the code
visit_by : (w : World) (h : holder.Holder) → IsHeld w.desk h
    → next_visit w (holder_of h) ≡ elim (first_ends (parts_with h.plan.contents h.plan.parts) (told_by h)) [ Some why ↦ None | None ↦ option_map (met (images_of h.made.drained)) (first_of (drop (length h.outs.items) (parts_with h.plan.contents h.plan.parts))) ]
unfolding next_visit parts_planned drafted
visit_by w h held =
    let outs : List Answer = told_by h in
    ap (λ (r : Result Plan Refusal). elim (first_ends (parts_in r) outs) [ Some why ↦ None | None ↦ next_part [] (parts_in r) outs ]) held.plan
    ∙ ap (λ (o : Option Part). elim (first_ends (parts_with h.plan.contents h.plan.parts) outs) [ Some why ↦ None | None ↦ o ]) (next_told h.plan.contents h.plan.parts h.outs.items h.made.drained held.hands held.told)

not_ended : (ends : Option Refusal) (o : Option Part) (q : Part) → elim ends [ Some why ↦ None | None ↦ o ] ≡ Some q → o ≡ Some q
not_ended (Some why) o q e = absurd cc
not_ended None o q e = e

pub meets_next : (w : World) (h : holder.Holder) (q : Part) → IsHeld w.desk h → next_visit w (holder_of h) ≡ Some q
    → Meets (length h.outs.items) h.plan.contents h.plan.parts h.made.drained q
meets_next w h q held e =
    part_met_is (length h.outs.items) h.plan.contents h.plan.parts h.made.drained q
    (not_ended (first_ends (parts_with h.plan.contents h.plan.parts) (told_by h)) _ q (sym (visit_by w h held) ∙ e))

-- ---- what may be visited

pub record MayVisit (w : World) (n seat : ℕ) : Type 0 where
  pub held : Holder
  pub part : Part
  pub holds : w.holder ≡ Some held
  pub next : next_visit w held ≡ Some part
  pub here : IsTrue (part.seat == seat)

the_part : (seat : ℕ) (o : Option Part) → IsTrue (is_part_at seat o) → (q : Part) × (o ≡ Some q) × IsTrue (q.seat == seat)
the_part seat None h = absurd (true≢false (sym h))
the_part seat (Some q) h = (q, refl, h)

pub may_visit : (w : World) (n seat : ℕ) → IsTrue (legal w (visit n seat)) → MayVisit w n seat
unfolding legal
may_visit w n seat h = go w.holder refl (right_true (is_caller n) _ h)
  where
    go : (o : Option Holder) → w.holder ≡ o → IsTrue (elim o [ None ↦ false | Some k ↦ k.caller == n && is_part_at seat (next_visit w k) ]) → MayVisit w n seat
    go None e t = absurd (true≢false (sym t))
    go (Some k) e t =
        let q = the_part seat (next_visit w k) (right_true (k.caller == n) (is_part_at seat (next_visit w k)) t) in
        record { held = k; part = q.0; holds = e; next = q.1; here = q.2 }

-- ---- by names

-- what the next part does, for the holder before it and the one behind it
abbrev NextVisited : holder.Holder → holder.Holder → List Hold → List Hold → Out → Type 0
NextVisited h k old new out = (p : code.Part) (rest : List code.Part) → drop (length h.outs.items) h.plan.parts ≡ p ∷ rest → IsVisited p old new out h.made.drained k.made.drained

pub visited_named : (x y h k : holder.Holder) (old new : List Hold) (out : Out) → NextVisited x y old new out → Some x ≡ Some h → Some y ≡ Some k → NextVisited h k old new out
visited_named x y h k old new out f e n = subst (λ z. NextVisited z k old new out) (same_some x h e) (subst (λ z. NextVisited x z old new out) (same_some y k n) f)

-- ---- the world after it

abbrev visited_by : World → Holder → Option Aimed → World
visited_by w k o = record w {
  holder = Some (record k { outs = k.outs ++ elim o [ None ↦ done | Some a ↦ (pool_step (get_or w.pools a.seat closed_pool) a.act).1 ] ∷ [] });
  pools = elim o [ None ↦ w.pools | Some a ↦ set w.pools a.seat (pool_step (get_or w.pools a.seat closed_pool) a.act).0 ];
}

pub after_visiting : (w : World) (n seat : ℕ) (k : Holder) (q : Part) → next_visit (record w { holder = Some k }) k ≡ Some q
    → step (record w { holder = Some k }) (visit n seat) ≡ visited_by (record w { holder = Some k }) k (Some (aimed q))
unfolding desk_after holder_after pools_after callers_after pool_answer act_of
after_visiting w n seat k q e = ap (λ o. visited_by (record w { holder = Some k }) k (option_map aimed o)) e

-- ---- by what the code did

-- the holder that visits, with its next part
pub record Visiting (w : Inside) (n seat : ℕ) : Type 0 where
  pub holder : holder.Holder
  pub part : Part
  pub holds : w.holder ≡ Some holder
  pub next : next_visit (inner w) (holder_of holder) ≡ Some part
  pub here : IsTrue (part.seat == seat)

held_by : (o : Option holder.Holder) (k : Holder) → option_map holder_of o ≡ Some k → (h : holder.Holder) × (o ≡ Some h) × (k ≡ holder_of h)
held_by None k e = absurd cc
held_by (Some h) k e = (h, refl, cc)

pub visiting_in : (w : Inside) (r : Running) (n seat : ℕ) → world_of w ≡ r → IsTrue (legal r.world (visit n seat)) → Visiting w n seat
visiting_in w r n seat v m =
    let here = may_visit (inner w) n seat (subst (λ (s : Running). IsTrue (legal s.world (visit n seat))) (sym v) m) in
    let held = held_by w.holder here.held here.holds in
    record { holder = held.0; part = here.part; holds = held.1; next = ap (next_visit (inner w)) (sym held.2) ∙ here.next; here = here.here }

pub meets_in : (w : Inside) (n seat : ℕ) (v : Visiting w n seat) → IsWhole w → Meets (length v.holder.outs.items) v.holder.plan.contents v.holder.plan.parts v.holder.made.drained v.part
meets_in w n seat v i = meets_next (inner w) v.holder v.part (held_in w v.holder v.holds i.holder) v.next

pub ready_in : (w : Inside) (n seat : ℕ) (v : Visiting w n seat) → IsWhole w → IsReady v.holder
ready_in w n seat v i =
    let held = held_in w v.holder v.holds i.holder in
    let m = meets_in w n seat v i in
    record { left = some_left (length v.holder.outs.items) v.holder.plan.parts m.part m.rest m.ahead; parts = held.parts; made = held.made }

abbrev seen_holder : ℕ → Who → Snapshot Command → List code.Part → List Out → Option Batch → Holder
seen_holder n w x ps outs took = record { caller = n; who = w; command = x.value; outs = answers_told ps outs took }

pub holder_visited : (h k : holder.Holder) (p : code.Part) (rest : List code.Part) (o : Out) → HasVisited h k o → HandsOver h.plan.parts → drop (length h.outs.items) h.plan.parts ≡ p ∷ rest → IsDrainedBy p o h.made.drained k.made.drained
    → holder_of k ≡ record (holder_of h) { outs = told_by h ++ answer_told p o k.made.drained ∷ [] }
holder_visited h k p rest o v hands ahead d =
    ap (λ n. seen_holder n k.who k.command k.plan.parts k.outs.items k.made.drained) v.caller ∙ ap (λ w. seen_holder h.caller w k.command k.plan.parts k.outs.items k.made.drained) v.who
    ∙ ap (λ x. seen_holder h.caller h.who x k.plan.parts k.outs.items k.made.drained) v.command
    ∙ ap (λ (d : Draft). seen_holder h.caller h.who h.command d.parts k.outs.items k.made.drained) v.plan
    ∙ ap (λ outs. seen_holder h.caller h.who h.command h.plan.parts outs k.made.drained) v.outs
    ∙ ap (λ outs. record (holder_of h) { outs = outs }) (told_more h.plan.parts h.outs.items p rest o h.made.drained k.made.drained hands ahead d)

pub held_visited : (d : Desk) (h k : holder.Holder) (p : code.Part) (rest : List code.Part) (o : Out) → HasVisited h k o → drop (length h.outs.items) h.plan.parts ≡ p ∷ rest → IsDrainedBy p o h.made.drained k.made.drained → IsHeld d h → IsHeld d k
held_visited d h k p rest o v ahead drains held =
    let count : length k.outs.items ≡ length h.outs.items + 1 = ap length v.outs ∙ length-append h.outs.items (o ∷ []) in
    let left : length h.outs.items < length h.plan.parts = some_left (length h.outs.items) h.plan.parts p rest ahead in
    let told : TellDrained h.plan.parts (h.outs.items ++ o ∷ []) k.made.drained = tells_more h.plan.parts h.outs.items p rest o h.made.drained k.made.drained held.hands ahead drains held.told in
    record {
      plan = rw (v.who, v.command, v.plan) held.plan;
      fits = rw v.plan held.fits;
      parts = rw v.plan held.parts;
      hands = rw v.plan held.hands;
      visited = rw (count, v.plan) (omega (arith, left));
      made = rw (count, v.plan) v.made;
      told = rw (v.outs, v.plan) told;
      creds = rw (v.creds, v.who, v.command) held.creds;
    }

some_of_it : {X : Type 0} (o : Option X) → IsSome o → (x : X) × (o ≡ Some x)
some_of_it None i = absurd (true≢false (sym i))
some_of_it (Some x) i = (x, refl)

-- only a settle is met with what was drained, and it drains nothing
met_now : (c : Option Content) (p : code.Part) (o : Out) (was now : Option Batch) → IsDrainedBy p o was now → visit_met c p now ≡ visit_met c p was
met_now c (part.Raise seat size) o was now d = refl
met_now c (part.Close seat force) o was now d = refl
met_now c (part.Offer seat user len from must) o was now d = refl
met_now c (part.Post seat image) o was now d = refl
met_now c (part.Drain seat size) o was now d = refl
met_now c (part.Settle seat) o was now d = ap (λ b. settle (images_of b)) d

-- the pools after it, by the part of the definitions
pools_visited : (old new : List Hold) (p : code.Part) (c : Option Content) (q : Part) (o : Out) (was now : Option Batch) → q ≡ met (images_of was) (part_with c p) → IsVisited p old new o was now
    → new ≡ set old q.seat (pool_step (get_or old q.seat closed_pool) (by_desk q.act)).0
pools_visited old new p c q o was now e v =
    v.after c ∙ ap (λ s. set old s (pool_step (get_or old s closed_pool) (by_desk (visit_met c p now))).0) (sym (seat_with c p))
    ∙ ap (λ a. set old (part_with c p).seat (pool_step (get_or old (part_with c p).seat closed_pool) (by_desk a)).0) (met_now c p o was now v.drained)
    ∙ ap (λ (x : Part). set old x.seat (pool_step (get_or old x.seat closed_pool) (by_desk x.act)).0) (sym e)

answer_visited : (old new : List Hold) (p : code.Part) (c : Option Content) (q : Part) (o : Out) (was now : Option Batch) → q ≡ met (images_of was) (part_with c p) → IsVisited p old new o was now
    → answer_told p o now ≡ (pool_step (get_or old q.seat closed_pool) (by_desk q.act)).1
answer_visited old new p c q o was now e v =
    v.answer c ∙ ap (λ s. (pool_step (get_or old s closed_pool) (by_desk (visit_met c p now))).1) (sym (seat_with c p))
    ∙ ap (λ a. (pool_step (get_or old (part_with c p).seat closed_pool) (by_desk a)).1) (met_now c p o was now v.drained)
    ∙ ap (λ (x : Part). (pool_step (get_or old x.seat closed_pool) (by_desk x.act)).1) (sym e)

-- what a visit leaves, of holder and pools
pub record Visited (w : Inside) (n seat : ℕ) (holds : Option holder.Holder) (pools : List Hold) (out : Out) : Type 0 where
  pub before : Visiting w n seat
  pub meets : Meets (length before.holder.outs.items) before.holder.plan.contents before.holder.plan.parts before.holder.made.drained before.part
  pub hands : HandsOver before.holder.plan.parts
  pub holder : holder.Holder
  pub holds_now : holds ≡ Some holder
  pub one_more : HasVisited before.holder holder out
  pub did : IsVisited meets.part w.pools.items pools out before.holder.made.drained holder.made.drained

pub visited_in :
    (w : Inside) (r : Running) (n seat : ℕ) (holds : Option holder.Holder) (pools : List Hold) (out : Out) → world_of w ≡ r → IsTrue (legal r.world (visit n seat)) → IsWhole w
    → IsSome holds → ((h : holder.Holder) → w.holder ≡ Some h → IfSome holds (λ k. HasVisited h k out))
    → ((h k : holder.Holder) (p : code.Part) (rest : List code.Part) → w.holder ≡ Some h → holds ≡ Some k → drop (length h.outs.items) h.plan.parts ≡ p ∷ rest → IsVisited p w.pools.items pools out h.made.drained k.made.drained)
    → Visited w n seat holds pools out
visited_in w r n seat holds pools out v m i some more did =
    let before = visiting_in w r n seat v m in
    let meets = meets_in w n seat before i in
    let now = some_of_it holds some in
    record {
      before = before;
      meets = meets;
      hands = (held_in w before.holder before.holds i.holder).hands;
      holder = now.0;
      holds_now = now.1;
      one_more = subst (λ o. IfSome o (λ k. HasVisited before.holder k out)) now.1 (more before.holder before.holds);
      did = did before.holder now.0 meets.part meets.rest before.holds now.1 meets.ahead;
    }

-- the world after a visit
pub visited_so : (w : Inside) (r : Running) (n seat : ℕ) (holds : Option holder.Holder) (pools : List Hold) (out : Out) → world_of w ≡ r → Visited w n seat holds pools out
    → with_steps (w.steps + 1) (record (inner w) { holder = option_map holder_of holds; pools = pools }) ≡ stepped r (visit n seat)
unfolding stepped
visited_so w r n seat holds pools out e v =
    let h : holder.Holder = v.before.holder in
    let q : Part = v.before.part in
    let k : Holder = holder_of h in
    let here : World = record (inner w) { holder = Some k } in
    let same : here ≡ inner w = ap (λ o. record (inner w) { holder = option_map holder_of o }) (sym v.before.holds) in
    let next : next_visit here k ≡ Some q = ap (λ x. next_visit x k) same ∙ v.before.next in
    let outs : answer_told v.meets.part out v.holder.made.drained ≡ (pool_step (get_or w.pools.items q.seat closed_pool) (by_desk q.act)).1 = answer_visited w.pools.items pools v.meets.part v.meets.content q out h.made.drained v.holder.made.drained v.meets.same v.did in
    let after : pools ≡ set w.pools.items q.seat (pool_step (get_or w.pools.items q.seat closed_pool) (by_desk q.act)).0 = pools_visited w.pools.items pools v.meets.part v.meets.content q out h.made.drained v.holder.made.drained v.meets.same v.did in
    let world : record (inner w) { holder = option_map holder_of holds; pools = pools } ≡ step (inner w) (visit n seat) =
    ap (λ o. record (inner w) { holder = option_map holder_of o; pools = pools }) v.holds_now
    ∙ ap (λ x. record (inner w) { holder = Some x; pools = pools }) (holder_visited h v.holder v.meets.part v.meets.rest out v.one_more v.hands v.meets.ahead v.did.drained)
    ∙ ap (λ a. record (inner w) { holder = Some (record k { outs = k.outs ++ a ∷ [] }); pools = pools }) outs
    ∙ ap (λ ps. record (inner w) { holder = Some (record k { outs = k.outs ++ (pool_step (get_or w.pools.items q.seat closed_pool) (by_desk q.act)).1 ∷ [] }); pools = ps }) after
    ∙ sym (after_visiting (inner w) n seat k q next) ∙ ap (λ x. step x (visit n seat)) same in
    ap (with_steps (w.steps + 1)) world ∙ ap (λ (s : Running). stepped s (visit n seat)) e

told_out : (o : Out) → out_of (told_answer (out_answer o)) ≡ o
told_out out.Done = refl
told_out (out.Slice number) = refl
told_out (out.Refused why) = refl

drain_out : (o : Out) (b : Option Batch) → out_of (told_answer (drain_told o b)) ≡ o
drain_out out.Done None = refl
drain_out out.Done (Some b) = refl
drain_out (out.Slice number) b = refl
drain_out (out.Refused why) b = refl

part_out : (p : code.Part) (o : Out) (b : Option Batch) → out_of (told_answer (answer_told p o b)) ≡ o
part_out (part.Raise seat size) o b = told_out o
part_out (part.Close seat force) o b = told_out o
part_out (part.Offer seat user len from must) o b = told_out o
part_out (part.Post seat image) o b = told_out o
part_out (part.Drain seat size) o b = drain_out o b
part_out (part.Settle seat) o b = told_out o

pub visited_said : (w : Inside) (r : Running) (n seat : ℕ) (holds : Option holder.Holder) (pools : List Hold) (out : Out) → world_of w ≡ r → Visited w n seat holds pools out
    → answer.Visited out ≡ said (visit n seat) (says r.world (visit n seat))
unfolding says pool_answer act_of
visited_said w r n seat holds pools out e v =
    let h : holder.Holder = v.before.holder in
    let q : Part = v.before.part in
    let outs : answer_told v.meets.part out v.holder.made.drained ≡ (pool_step (get_or w.pools.items q.seat closed_pool) (by_desk q.act)).1 = answer_visited w.pools.items pools v.meets.part v.meets.content q out h.made.drained v.holder.made.drained v.meets.same v.did in
    let asks : act_of (inner w) (visit n seat) ≡ Some (aimed q) = ap (λ o. elim (option_map holder_of o) [ None ↦ None | Some k ↦ option_map aimed (next_visit (inner w) k) ]) v.before.holds ∙ ap (option_map aimed) v.before.next in
    sym (ap answer.Visited (
    ap (λ (s : Running). out_of (told_answer (pool_answer s.world (visit n seat)))) (sym e)
    ∙ ap (λ o. out_of (told_answer (elim o [ None ↦ done | Some a ↦ (pool_step (get_or w.pools.items a.seat closed_pool) a.act).1 ]))) asks
    ∙ ap (λ a. out_of (told_answer a)) (sym outs) ∙ part_out v.meets.part out v.holder.made.drained))

pub whole_visited : (w : Inside) (n seat : ℕ) (holds : Option holder.Holder) (pools : Vec hold.Hold Global) (out : Out) → IsWhole w → w.steps < 2 ^ 54 → Visited w n seat holds pools.items out
    → IsWhole (record w { holder = holds; pools = pools; steps = w.steps + 1 })
whole_visited w n seat holds pools out i few v =
    let p : code.Part = v.meets.part in
    let after : pools.items ≡ set w.pools.items (seat_in p) (pool_step (get_or w.pools.items (seat_in p) closed_pool) (by_desk (visit_met v.meets.content p v.holder.made.drained))).0 = v.did.after v.meets.content in
    let more : AllByRecursion (IsBelow (SLICES * w.steps + SLICES)) pools.items =
    subst (AllByRecursion (IsBelow (SLICES * w.steps + SLICES))) (sym after) (below_visit (SLICES * w.steps) (seat_in p) w.pools.items v.meets.content p v.holder.made.drained v.one_more.made.few i.below) in
    record {
      pools = ap length after ∙ length-set w.pools.items (seat_in p) _ ∙ i.pools;
      callers = i.callers;
      below = below_more (SLICES * w.steps + SLICES) (SLICES * (w.steps + 1)) pools.items (omega arith) more;
      ids = let ids : w.desk.next_id ≤ w.steps + 1 = i.ids in omega (arith, ids);
      steps = omega (arith, few);
      holder = subst (IsHeldBy w.desk) (sym v.holds_now) (held_visited w.desk v.before.holder v.holder p v.meets.rest out v.one_more v.meets.ahead v.did.drained (held_in w v.before.holder v.before.holds i.holder));
    }

-- a world that ran out of memory
pub same_holder : (h k : holder.Holder) → IsSameHolder h k → holder_of k ≡ holder_of h
same_holder h k v =
    ap (λ n. seen_holder n k.who k.command k.plan.parts k.outs.items k.made.drained) v.caller ∙ ap (λ w. seen_holder h.caller w k.command k.plan.parts k.outs.items k.made.drained) v.who
    ∙ ap (λ x. seen_holder h.caller h.who x k.plan.parts k.outs.items k.made.drained) v.command
    ∙ ap (λ (d : Draft). seen_holder h.caller h.who h.command d.parts k.outs.items k.made.drained) v.plan
    ∙ ap (λ outs. seen_holder h.caller h.who h.command h.plan.parts outs k.made.drained) v.outs
    ∙ ap (λ (m : Stock). seen_holder h.caller h.who h.command h.plan.parts h.outs.items m.drained) v.made

held_same : (d : Desk) (h k : holder.Holder) → IsSameHolder h k → IsHeld d h → IsHeld d k
held_same d h k v held = record {
  plan = rw (v.who, v.command, v.plan) held.plan;
  fits = rw v.plan held.fits;
  parts = rw v.plan held.parts;
  hands = rw v.plan held.hands;
  visited = rw (v.outs, v.plan) held.visited;
  made = rw (v.outs, v.plan, v.made) held.made;
  told = rw (v.outs, v.plan, v.made) held.told;
  creds = rw (v.creds, v.who, v.command) held.creds;
}

-- what a visit leaves that couldn't be made
pub record Unvisited (w : Inside) (holds : Option holder.Holder) : Type 0 where
  pub before : holder.Holder
  pub now : holder.Holder
  pub held : w.holder ≡ Some before
  pub holds_now : holds ≡ Some now
  pub same : IsSameHolder before now

pub unvisited_in : (w : Inside) (r : Running) (n seat : ℕ) (holds : Option holder.Holder) → world_of w ≡ r → IsTrue (legal r.world (visit n seat))
    → IsSome holds → ((h : holder.Holder) → w.holder ≡ Some h → IfSome holds (IsSameHolder h)) → Unvisited w holds
unvisited_in w r n seat holds v m some same =
    let before = visiting_in w r n seat v m in
    let now = some_of_it holds some in
    record { before = before.holder; now = now.0; held = before.holds; holds_now = now.1; same = subst (λ o. IfSome o (IsSameHolder before.holder)) now.1 (same before.holder before.holds) }

pub unvisited_so : (w : Inside) (holds : Option holder.Holder) (pools : List Hold) → Unvisited w holds → pools ≡ w.pools.items
    → with_steps w.steps (record (inner w) { holder = option_map holder_of holds; pools = pools }) ≡ world_of w
unvisited_so w holds pools v e =
    ap (λ o. with_steps w.steps (record (inner w) { holder = option_map holder_of o; pools = pools })) v.holds_now
    ∙ ap (λ k. with_steps w.steps (record (inner w) { holder = Some k; pools = pools })) (same_holder v.before v.now v.same)
    ∙ ap (λ ps. with_steps w.steps (record (inner w) { holder = Some (holder_of v.before); pools = ps })) e
    ∙ ap (λ o. with_steps w.steps (record (inner w) { holder = option_map holder_of o })) (sym v.held)

pub whole_unvisited : (w : Inside) (holds : Option holder.Holder) (pools : Vec hold.Hold Global) → IsWhole w → Unvisited w holds → pools.items ≡ w.pools.items → IsWhole (record w { holder = holds; pools = pools })
whole_unvisited w holds pools i v e = record {
  pools = ap length e ∙ i.pools;
  callers = i.callers;
  below = subst (AllByRecursion (IsBelow (SLICES * w.steps))) (sym e) i.below;
  ids = i.ids;
  steps = i.steps;
  holder = subst (IsHeldBy w.desk) (sym v.holds_now) (held_same w.desk v.before v.now v.same (held_in w v.before v.held i.holder));
}

pub on_any_err : {X E : Type 0} (result : Result X E) {P : Type 0} → P → OnErr result P
on_any_err (Ok x) p = tt
on_any_err (Err e) p = p
