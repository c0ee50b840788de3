-- One pair more, and what holds of all.
use Rattle.std.proofs.Common.{◌≡◌, ℕ, ◌+◌, List, [], ◌∷◌, ◌++◌, length, refl, sym, ap, subst, ◌∙◌, append_assoc, length-append, true, false, Option, Some, None, Result, Ok, Err, arith}
use Rattle.std.specs.Prelude.{◌&&◌, ◌==◌, is_none, option_map}
use Rattle.std.proofs.lemmas.Bool.{true≢false}
use Rattle.std.proofs.lemmas.List.{append-nil}
use Rattle.std.proofs.lemmas.Grind.{flat_map-append}
use Rattle.kd_model.proofs.Truth.{both_true, right_true}
use Rattle.kd_types.specs.declared.refusal.Refusal.{Refusal}
use Rattle.kd_wire.specs.declared.command.Command.{Command}
use Rattle.kd_wire.specs.Opcodes.{opcode_number}
use Rattle.kd_wire.specs.Commands.{opcode_in}
use Rattle.kd_acts.specs.State as pool
use Rattle.kd_commands.specs.Plans.{Plan}
use Rattle.kd_world.specs.State.{Holder, World, caller_at, new_world}
use Rattle.kd_world.specs.Planner.{planned}
use Rattle.kd_world.specs.Holding.{next_visit}
use Rattle.kd_world.specs.Legal.{Event, take, visit, leave, publishes, receives, reads, frees, is_caller, legal}
use Rattle.kd_world.specs.Pools.{pool_answer}
use Rattle.kd_world.specs.Step.{holder_after, holder_by, step}
use Rattle.kd_world.specs.Answers.{taken_answer, says, told_answer}
use Rattle.kd_world.specs.Runs.{IsReached, all_legal, world_after}
use Rattle.kd_world.proofs.Reached.{hands_always_agree}
use Rattle.kd_world.proofs.Staying.{slices_always_stay}
use Rattle.kd_world.proofs.Tied.{addressed_is_offered, offered_so_far}
use Rattle.kd_pairs.proofs.Along.{publishes_are_paired}
use Rattle.kd_core.specs.declared.event.Answer.{Answer}
use Rattle.kd_core.specs.declared.event.Answer.TheVariants as answer
use Rattle.kd_core.specs.Running.{out_of, said, told_by_pool}
use Rattle.kd_replay.specs.Turns.{replay_world}
use Rattle.kd_trace.specs.Trace.{ArePairs, IsPair, Pair, events, pair_bytes, trace_bytes}
use Rattle.kd_trace.specs.Right.{AreRight, IsFirstWrong, IsLegalRun, IsRight, number_held, outcome, outcome_of}
use Rattle.kd_trace.specs.declared.verdict.Verdict.{Verdict}
use Rattle.kd_trace.specs.declared.verdict.Verdict.TheVariants.{Yes, No}
use Rattle.kd_trace.specs.Judging.{AreJudged, AreRun, HoldsNumber, IsNumberOf, number_with}

-- ---- the answer, by the number that is kept

-- an answer that is no reply to a command is the same whatever the number
abbrev Alike : Answer → Type 0
Alike a = (j k : ℕ) → outcome_of j a ≡ outcome_of k a

take_alike : (n : ℕ) (x : Command) (r : Result Plan Refusal) → Alike (said (take n x) (taken_answer r))
take_alike n x (Err why) j k = refl
take_alike n x (Ok p) j k = refl

visit_alike : (a : pool.Answer) → Alike (answer.Visited (out_of a))
visit_alike pool.done j k = refl
visit_alike pool.placed j k = refl
visit_alike pool.gone j k = refl
visit_alike pool.freed j k = refl
visit_alike (pool.slice n) j k = refl
visit_alike (pool.refused why) j k = refl
visit_alike (pool.drained is) j k = refl
visit_alike (pool.got n offset len dropped) j k = refl
visit_alike (pool.bytes_of bytes) j k = refl

pool_alike : (a : pool.Answer) → Alike (told_by_pool a)
pool_alike pool.done j k = refl
pool_alike pool.placed j k = refl
pool_alike pool.gone j k = refl
pool_alike pool.freed j k = refl
pool_alike (pool.slice n) j k = refl
pool_alike (pool.refused why) j k = refl
pool_alike (pool.drained is) j k = refl
pool_alike (pool.got n offset len dropped) j k = refl
pool_alike (pool.bytes_of bytes) j k = refl

-- whoever may leave holds the desk
leaver_holds : (w : World) (n : ℕ) (o : Option Holder) → w.holder ≡ o → legal w (leave n) ≡ true → (h : Holder) × (w.holder ≡ Some h)
unfolding legal
leaver_holds w n (Some h) e l = (h, e)
leaver_holds w n None e l =
    let bad : (is_caller n && false) ≡ true = subst (λ (o : Option Holder). (is_caller n && elim o [ None ↦ false | Some h ↦ h.caller == n && is_none (next_visit w h) ]) ≡ true) e l in
    absurd (true≢false (sym (right_true (is_caller n) false bad)))

number_is : (o : Option Holder) (h : Holder) (k : ℕ) → o ≡ Some h → IsNumberOf o k → k ≡ number_held o
number_is (Some g) h k e i = i
number_is None h k e i = absurd cc

pub outcome_same : (w : World) (e : Event) (k : ℕ) → legal w e ≡ true → HoldsNumber w k → outcome_of (number_with e k) (said e (says w e)) ≡ outcome w e
unfolding outcome says
outcome_same w (take n x) k l i = take_alike n x (planned w.desk (caller_at w n).who x) (opcode_number (opcode_in x)) (number_held w.holder)
outcome_same w (leave n) k l i =
    let h = leaver_holds w n w.holder refl l in
    ap (λ (j : ℕ). outcome_of j (said (leave n) (says w (leave n)))) (number_is w.holder h.0 k h.1 i)
outcome_same w (visit n s) k l i = visit_alike (told_answer (pool_answer w (visit n s))) k (number_held w.holder)
outcome_same w (publishes n s m) k l i = pool_alike (pool_answer w (publishes n s m)) k (number_held w.holder)
outcome_same w (receives n mode) k l i = pool_alike _ k (number_held w.holder)
outcome_same w (reads n m sealed) k l i = pool_alike _ k (number_held w.holder)
outcome_same w (frees n m) k l i = pool_alike _ k (number_held w.holder)

-- the same of the answer that was given
pub answer_same : (w : World) (e : Event) (k : ℕ) (a : Answer) → legal w e ≡ true → HoldsNumber w k → a ≡ said e (says w e) → outcome_of (number_with e k) a ≡ outcome w e
answer_same w e k a m i is = ap (outcome_of (number_with e k)) is ∙ outcome_same w e k m i

pub same_ok : {X E : Type 0} (x y : X) → ◌≡◌ {A = Result X E} (Ok x) (Ok y) → x ≡ y
same_ok x y e = cc

-- ---- the number behind an event

taken_number : (n : ℕ) (w : World) (x : Command) (r : Result Plan Refusal) → IsNumberOf (holder_by n (caller_at w n).who x r) (opcode_number (opcode_in x))
taken_number n w x (Err why) = tt
taken_number n w x (Ok p) = refl

visited_number : (o : Option Holder) (f : Holder → Holder) (k : ℕ) → ((h : Holder) → (f h).command ≡ h.command) → IsNumberOf o k → IsNumberOf (option_map f o) k
visited_number None f k same i = tt
visited_number (Some h) f k same i = i ∙ ap (λ x. opcode_number (opcode_in x)) (sym (same h))

pub number_after : (w : World) (e : Event) (k : ℕ) → HoldsNumber w k → HoldsNumber (step w e) (number_with e k)
unfolding holder_after
number_after w (take n x) k i = taken_number n w x (planned w.desk (caller_at w n).who x)
number_after w (visit n s) k i = visited_number w.holder _ k (λ h. refl) i
number_after w (leave n) k i = tt
number_after w (publishes n s m) k i = i
number_after w (receives n mode) k i = i
number_after w (reads n m sealed) k i = i
number_after w (frees n m) k i = i

-- ---- one pair more

pub events_more : (ps : List Pair) (p : Pair) → events (ps ++ p ∷ []) ≡ events ps ++ p.event ∷ []
events_more [] p = refl
events_more (q ∷ ps) p = ap (λ (l : List Event). q.event ∷ l) (events_more ps p)

pub world_more : (w : World) (ps : List Pair) (p : Pair) → world_after w (events (ps ++ p ∷ [])) ≡ step (world_after w (events ps)) p.event
unfolding world_after
world_more w [] p = refl
world_more w (q ∷ ps) p = world_more (step w q.event) ps p

pub right_more : (w : World) (ps : List Pair) (p : Pair) → AreRight w ps → IsRight (world_after w (events ps)) p → AreRight w (ps ++ p ∷ [])
unfolding world_after
right_more w [] p all one = (one, tt)
right_more w (q ∷ ps) p all one = (all.0, right_more (step w q.event) ps p all.1 one)

pub trace_more : (ps : List Pair) (p : Pair) → trace_bytes (ps ++ p ∷ []) ≡ trace_bytes ps ++ pair_bytes p
trace_more ps p = flat_map-append pair_bytes ps (p ∷ []) ∙ ap (λ (l : List ℕ). trace_bytes ps ++ l) (append-nil (pair_bytes p))

pub pairs_more : (ps : List Pair) (p : Pair) → ArePairs ps → IsPair p → ArePairs (ps ++ p ∷ [])
pairs_more [] p all one = (one, tt)
pairs_more (q ∷ ps) p all one = (all.0, pairs_more ps p all.1 one)

pub run_more : (ps : List Pair) (p : Pair) (w next : World) (k j count : ℕ) → AreRun ps w k count → IsRight w p → next ≡ step w p.event → HoldsNumber next j → AreRun (ps ++ p ∷ []) next j (count + 1)
run_more ps p w next k j count r one is number = record {
  right = right_more replay_world ps p r.right (subst (λ (v : World). IsRight v p) r.world one);
  world = is ∙ ap (λ (v : World). step v p.event) r.world ∙ sym (world_more replay_world ps p);
  number = number;
  count_is = omega (arith, r.count_is, length-append ps (p ∷ []));
}

pub wrong_first : (ps : List Pair) (p : Pair) (w : World) (k count at : ℕ) → AreRun ps w k count → (IsRight w p → ⊥) → at ≡ length (trace_bytes ps) → IsFirstWrong (ps ++ p ∷ []) count at
wrong_first ps p w k count at r never place = record {
  before = ps;
  wrong = p;
  behind = [];
  all = refl;
  right = r.right;
  here = λ one. never (subst (λ (v : World). IsRight v p) (sym r.world) one);
  index_is = r.count_is;
  place = place;
}

pub wrong_more : (ps : List Pair) (p : Pair) (index at : ℕ) → IsFirstWrong ps index at → IsFirstWrong (ps ++ p ∷ []) index at
wrong_more ps p index at f = record {
  before = f.before;
  wrong = f.wrong;
  behind = f.behind ++ p ∷ [];
  all = ap (λ (l : List Pair). l ++ p ∷ []) f.all ∙ append_assoc f.before (f.wrong ∷ f.behind) (p ∷ []);
  right = f.right;
  here = f.here;
  index_is = f.index_is;
  place = f.place;
}

-- a wrong pair stays the first
pub wrong_stays : (ps : List Pair) (p : Pair) (w : World) (k count : ℕ) (v : Verdict) → (v ≡ Yes → ⊥) → AreJudged ps w k count v → AreJudged (ps ++ p ∷ []) w k count v
wrong_stays ps p w k count Yes never j = absurd (never refl)
wrong_stays ps p w k count (No index at) never j = wrong_more ps p index at j

-- and as long as all are right, so it is with one right pair more
pub right_goes_on : (ps : List Pair) (p : Pair) (w next : World) (k j count : ℕ) (v : Verdict) → v ≡ Yes → AreJudged ps w k count v → IsRight w p → next ≡ step w p.event → HoldsNumber next j → AreJudged (ps ++ p ∷ []) next j (count + 1) v
right_goes_on ps p w next k j count Yes e r one is number = run_more ps p w next k j count r one is number
right_goes_on ps p w next k j count (No index at) e r one is number = absurd cc

pub none_run : AreRun [] replay_world 0 0
unfolding world_after new_world
none_run = record { right = tt; world = refl; number = tt; count_is = refl }

-- ---- a run that is right is legal

right_legal : (w : World) (ps : List Pair) → AreRight w ps → all_legal w (events ps) ≡ true
unfolding all_legal
right_legal w [] all = refl
right_legal w (p ∷ ps) all =
    let here : legal w p.event ≡ true = all.0.allowed in
    let more : all_legal (step w p.event) (events ps) ≡ true = right_legal (step w p.event) ps all.1 in
    rw (here, more) refl

front_legal : (w : World) (before behind : List Event) → all_legal w (before ++ behind) ≡ true → all_legal w before ≡ true
unfolding all_legal
front_legal w [] behind l = refl
front_legal w (e ∷ before) behind l =
    let h = both_true (legal w e) (all_legal (step w e) (before ++ behind)) l in
    let more : all_legal (step w e) before ≡ true = front_legal (step w e) before behind h.1 in
    rw (h.0, more) refl

reached : (es : List Event) → all_legal replay_world es ≡ true → IsReached (world_after replay_world es)
reached es l = record { creator = 1000; size = 64; hashes = 8; events = es; legal = l; world = refl }

legal_run : (es : List Event) → all_legal replay_world es ≡ true → IsLegalRun es
legal_run es l = record {
  legal = l;
  offered = λ c free. addressed_is_offered 1000 64 8 es c l free;
  offered_so_far = λ c. offered_so_far 1000 64 8 es c l;
  paired = publishes_are_paired 1000 64 8 es l;
  hands = λ before behind e. hands_always_agree (world_after replay_world before) (reached before (front_legal replay_world before behind (ap (all_legal replay_world) (sym e) ∙ l)));
  slices = λ before behind e is. slices_always_stay (world_after replay_world before) e (reached before (front_legal replay_world before (e ∷ behind) (ap (all_legal replay_world) (sym is) ∙ l)));
}

pub right_run : (ps : List Pair) → AreRight replay_world ps → IsLegalRun (events ps)
right_run ps all = legal_run (events ps) (right_legal replay_world ps all)

pub ok_is : {X E : Type 0} {x y : X} → x ≡ y → ◌≡◌ {A = Result X E} (Ok x) (Ok y)
ok_is e = ap (λ z. Ok z) e
