-- A trace has one reading, and bytes that break aren't one.
use Rattle.std.proofs.Common.{◌≡◌, ℕ, List, [], ◌∷◌, ◌++◌, length, drop, refl, sym, ap, subst, ◌∙◌, append_assoc, length-append, inl, inr, arith}
use Rattle.std.specs.Prelude.{◌⊎◌, ◌≢◌}
use Rattle.kd_model.proofs.Truth.{same_some}
use Rattle.kd_item.specs.Spelling.{Entry, Fits, item_length, spelling}
use Rattle.kd_item.specs.Reading.{item_at}
use Rattle.kd_item.proofs.OneItem.{item_again}
use Rattle.kd_item.proofs.Sizes.{length-spelling}
use Rattle.kd_wire.specs.declared.command.Command.{Command}
use Rattle.kd_wire.proofs.ReadAgain.{one_value}
use Rattle.kd_world.specs.Legal.{Event, visit, leave, publishes, receives, reads, frees}
use Rattle.kd_world.specs.Legal as legal
use Rattle.kd_replay.specs.Turns.{replay_world}
use Rattle.kd_trace.specs.declared.outcome.Outcome.{Outcome}
use Rattle.kd_trace.specs.Items.{IsOutcome, IsOutcomeItem, MayStand, caller_of, event_entry, outcome_entry}
use Rattle.kd_world.specs.State.{World}
use Rattle.kd_world.specs.Step.{step}
use Rattle.kd_world.specs.Runs.{world_after}
use Rattle.kd_trace.specs.declared.verdict.Verdict.{Verdict}
use Rattle.kd_trace.specs.declared.verdict.Verdict.TheVariants.{Yes, No}
use Rattle.kd_trace.specs.Right.{AreRight, IsFirstWrong, IsRight, IsVerdict}
use Rattle.kd_trace.specs.Reading.{event_in}
use Rattle.kd_trace.specs.Trace.{ArePairs, BreaksAt, HasNoEvent, HasNoOutcome, IsPair, IsTrace, Pair, event_bytes, events, outcome_bytes, pair_bytes, trace_bytes}
use Rattle.kd_trace.proofs.EventsAgain.{IsTake, caller_small, event_again}
use Rattle.kd_trace.proofs.Takes.{take_has, take_only}
use Rattle.kd_trace.proofs.Fronts.{event_fits}
use Rattle.kd_trace.proofs.Outcomes.{one_outcome}

-- ---- one event an item

take_or_not : (e : Event) → IsTake e ⊎ (IsTake e → ⊥)
take_or_not (legal.take n x) = inl tt
take_or_not (visit n s) = inr (λ t. t)
take_or_not (leave n) = inr (λ t. t)
take_or_not (publishes n s k) = inr (λ t. t)
take_or_not (receives n mode) = inr (λ t. t)
take_or_not (reads n k sealed) = inr (λ t. t)
take_or_not (frees n k) = inr (λ t. t)

as_take : (e : Event) → IsTake e → (n : ℕ) × (x : Command) × (e ≡ legal.take n x)
as_take (legal.take n x) t = (n, x, refl)
as_take (visit n s) t = absurd t
as_take (leave n) t = absurd t
as_take (publishes n s k) t = absurd t
as_take (receives n mode) t = absurd t
as_take (reads n k sealed) t = absurd t
as_take (frees n k) t = absurd t

-- what has a take's item is a take
also_take : (n : ℕ) (x : Command) (f : Event) → MayStand f → event_entry (legal.take n x) ≡ event_entry f → IsTake f
also_take n x f m e = take_only (event_entry (legal.take n x)).body f (record { spelled = e; stands = m })

one_take : (n k : ℕ) (x y : Command) → MayStand (legal.take n x) → MayStand (legal.take k y) → event_entry (legal.take n x) ≡ event_entry (legal.take k y) → legal.take n x ≡ legal.take k y
one_take n k x y m o e =
    let body : List ℕ = (event_entry (legal.take n x)).body in
    let a = take_has body n x refl m in
    let b = take_has body k y (ap (λ (i : Entry). i.body) e) o in
    let same = one_value (drop 8 body) n k x y a.typed b.typed a.small b.small a.form b.form a.frame b.frame in
    ap (λ (j : ℕ). legal.take j x) same.0 ∙ ap (legal.take k) same.1

pub one_event : (e f : Event) → MayStand e → MayStand f → event_entry e ≡ event_entry f → e ≡ f
one_event e f m n same = elim (take_or_not e) [
  | inl t ↦
      let a = as_take e t in
      let m' : MayStand (legal.take a.0 a.1) = subst MayStand a.2 m in
      let is : event_entry (legal.take a.0 a.1) ≡ event_entry f = ap event_entry (sym a.2) ∙ same in
      let b = as_take f (also_take a.0 a.1 f n is) in
      a.2 ∙ one_take a.0 b.0 a.1 b.1 m' (subst MayStand b.2 n) (is ∙ ap event_entry b.2) ∙ sym b.2
  | inr apart ↦
      let other : IsTake f → ⊥ = λ t. let b = as_take f t in apart (also_take b.0 b.1 e m (ap event_entry (sym b.2) ∙ sym same)) in
      same_some e f (sym (event_again e m apart) ∙ ap (λ (i : Entry). event_in i.kind i.body) same ∙ event_again f n other)
]

-- ---- one pair at the front

pub one_item : (i j : Entry) (xs ys : List ℕ) → Fits i → Fits j → spelling i ++ xs ≡ spelling j ++ ys → (i ≡ j) × (xs ≡ ys)
one_item i j xs ys f g e =
    let both : (i, xs) ≡ (j, ys) = same_some (i, xs) (j, ys) (sym (item_again i xs f) ∙ ap item_at e ∙ item_again j ys g) in
    (ap (λ (p : Entry × List ℕ). p.0) both, ap (λ (p : Entry × List ℕ). p.1) both)

same_pair : (p q : Pair) → p.event ≡ q.event → p.outcome ≡ q.outcome → p ≡ q
same_pair p q e o = ap (λ (x : Event). record { event = x; outcome = p.outcome }) e ∙ ap (λ (x : Outcome). record { event = q.event; outcome = x }) o

pub one_pair : (p q : Pair) (xs ys : List ℕ) → IsPair p → IsPair q → pair_bytes p ++ xs ≡ pair_bytes q ++ ys → (p ≡ q) × (xs ≡ ys)
one_pair p q xs ys a b e =
    let n = caller_of p.event in
    let left = outcome_bytes n p.outcome ++ xs in
    let right = outcome_bytes (caller_of q.event) q.outcome ++ ys in
    let parts : event_bytes p.event ++ left ≡ event_bytes q.event ++ right = sym (append_assoc (event_bytes p.event) (outcome_bytes n p.outcome) xs) ∙ e ∙ append_assoc (event_bytes q.event) (outcome_bytes (caller_of q.event) q.outcome) ys in
    let first = one_item (event_entry p.event) (event_entry q.event) left right (event_fits p.event a.event) (event_fits q.event b.event) parts in
    let event : p.event ≡ q.event = one_event p.event q.event a.event b.event first.0 in
    let second = one_item (outcome_entry n p.outcome) (outcome_entry (caller_of q.event) q.outcome) xs ys a.size b.size first.1 in
    let its : IsOutcomeItem n (outcome_entry n p.outcome) q.outcome = record {
      spelled = second.0 ∙ ap (λ (x : Event). outcome_entry (caller_of x) q.outcome) (sym event);
      stands = subst (λ (x : Event). IsOutcome (caller_of x) q.outcome) (sym event) b.outcome;
    } in
    let outcome : p.outcome ≡ q.outcome = one_outcome n (outcome_entry n p.outcome) p.outcome q.outcome (caller_small n a.event.caller) (record { spelled = refl; stands = a.outcome }) its in
    (same_pair p q event outcome, second.1)

some_bytes : (p : Pair) (xs : List ℕ) → [] ≡ pair_bytes p ++ xs → ⊥
some_bytes p xs e =
    let long : length (event_bytes p.event) ≡ item_length (length (event_entry p.event).body) = length-spelling (event_entry p.event) in
    let bad : ⊥ = omega (arith, long, ap length e, length-append (pair_bytes p) xs, length-append (event_bytes p.event) (outcome_bytes (caller_of p.event) p.outcome)) in bad

-- ---- a whole trace

one_trace : (ps qs : List Pair) → ArePairs ps → ArePairs qs → trace_bytes ps ≡ trace_bytes qs → ps ≡ qs
one_trace [] [] a b e = refl
one_trace [] (q ∷ qs) a b e = absurd (some_bytes q (trace_bytes qs) e)
one_trace (p ∷ ps) [] a b e = absurd (some_bytes p (trace_bytes ps) (sym e))
one_trace (p ∷ ps) (q ∷ qs) a b e =
    let first = one_pair p q (trace_bytes ps) (trace_bytes qs) a.0 b.0 e in
    ap (λ (x : Pair). x ∷ ps) first.0 ∙ ap (λ (l : List Pair). q ∷ l) (one_trace ps qs a.1 b.1 first.1)

pub one_reading : (bytes : List ℕ) (ps qs : List Pair) → IsTrace bytes ps → IsTrace bytes qs → ps ≡ qs
one_reading bytes ps qs a b = one_trace ps qs a.each b.each (sym a.spelled ∙ b.spelled)

-- ---- bytes that break

breaks_event : (before ps : List Pair) (rest : List ℕ) → ArePairs before → ArePairs ps → trace_bytes before ++ rest ≡ trace_bytes ps → rest ≢ [] → HasNoEvent rest → ⊥
breaks_event [] [] rest a b e some here = some e
breaks_event [] (p ∷ ps) rest a b e some here =
    here p.event (outcome_bytes (caller_of p.event) p.outcome ++ trace_bytes ps) b.0.event (e ∙ append_assoc (event_bytes p.event) (outcome_bytes (caller_of p.event) p.outcome) (trace_bytes ps))
breaks_event (q ∷ before) [] rest a b e some here = some_bytes q (trace_bytes before ++ rest) (sym e ∙ append_assoc (pair_bytes q) (trace_bytes before) rest)
breaks_event (q ∷ before) (p ∷ ps) rest a b e some here =
    breaks_event before ps rest a.1 b.1 (one_pair q p (trace_bytes before ++ rest) (trace_bytes ps) a.0 b.0 (sym (append_assoc (pair_bytes q) (trace_bytes before) rest) ∙ e)).1 some here

breaks_outcome : (before ps : List Pair) (event : Event) (rest : List ℕ) → ArePairs before → ArePairs ps → MayStand event → trace_bytes before ++ (event_bytes event ++ rest) ≡ trace_bytes ps → HasNoOutcome (caller_of event) rest → ⊥
breaks_outcome [] [] event rest a b m e here =
    let long : length (event_bytes event) ≡ item_length (length (event_entry event).body) = length-spelling (event_entry event) in
    let bad : ⊥ = omega (arith, long, ap length e, length-append (event_bytes event) rest) in bad
breaks_outcome [] (p ∷ ps) event rest a b m e here =
    let behind = outcome_bytes (caller_of p.event) p.outcome ++ trace_bytes ps in
    let first = one_item (event_entry event) (event_entry p.event) rest behind (event_fits event m) (event_fits p.event b.0.event) (e ∙ append_assoc (event_bytes p.event) (outcome_bytes (caller_of p.event) p.outcome) (trace_bytes ps)) in
    let same : event ≡ p.event = one_event event p.event m b.0.event first.0 in
    subst (λ (x : Event). HasNoOutcome (caller_of x) rest) same here p.outcome (trace_bytes ps) b.0.outcome b.0.size first.1
breaks_outcome (q ∷ before) [] event rest a b m e here = some_bytes q (trace_bytes before ++ (event_bytes event ++ rest)) (sym e ∙ append_assoc (pair_bytes q) (trace_bytes before) (event_bytes event ++ rest))
breaks_outcome (q ∷ before) (p ∷ ps) event rest a b m e here =
    breaks_outcome before ps event rest a.1 b.1 m (one_pair q p (trace_bytes before ++ (event_bytes event ++ rest)) (trace_bytes ps) a.0 b.0 (sym (append_assoc (pair_bytes q) (trace_bytes before) (event_bytes event ++ rest)) ∙ e)).1 here

pub no_trace : (bytes : List ℕ) (at : ℕ) (ps : List Pair) → BreaksAt bytes at → IsTrace bytes ps → ⊥
no_trace bytes at ps (inl b) t = breaks_event b.before ps b.rest b.each t.each (sym b.parts ∙ t.spelled) b.more b.here
no_trace bytes at ps (inr b) t = breaks_outcome b.before ps b.event b.rest b.each t.each b.stands (sym b.parts ∙ t.spelled) b.here

-- ---- one verdict

head_is : (x y : Pair) (xs ys : List Pair) → x ∷ xs ≡ y ∷ ys → x ≡ y
head_is x y xs ys e = cc

tail_is : (x y : Pair) (xs ys : List Pair) → x ∷ xs ≡ y ∷ ys → xs ≡ ys
tail_is x y xs ys e = cc

right_there : (w : World) (before behind : List Pair) (p : Pair) → AreRight w (before ++ p ∷ behind) → IsRight (world_after w (events before)) p
unfolding world_after
right_there w [] behind p all = all.0
right_there w (q ∷ before) behind p all = right_there (step w q.event) before behind p all.1

same_front : (w : World) (xs ys xs' ys' : List Pair) (x y : Pair) → xs ++ x ∷ xs' ≡ ys ++ y ∷ ys' → AreRight w xs → AreRight w ys → (IsRight (world_after w (events xs)) x → ⊥) → (IsRight (world_after w (events ys)) y → ⊥) → xs ≡ ys
unfolding world_after
same_front w [] [] xs' ys' x y e a b f g = refl
same_front w [] (z ∷ ys) xs' ys' x y e a b f g = absurd (f (subst (λ (p : Pair). IsRight w p) (sym (head_is x z xs' (ys ++ y ∷ ys') e)) b.0))
same_front w (z ∷ xs) [] xs' ys' x y e a b f g = absurd (g (subst (λ (p : Pair). IsRight w p) (head_is z y (xs ++ x ∷ xs') ys' e) a.0))
same_front w (z ∷ xs) (u ∷ ys) xs' ys' x y e a b f g =
    let h : z ≡ u = head_is z u (xs ++ x ∷ xs') (ys ++ y ∷ ys') e in
    let b' : AreRight (step w z.event) ys = subst (λ (p : Pair). AreRight (step w p.event) ys) (sym h) b.1 in
    let g' : IsRight (world_after (step w z.event) (events ys)) y → ⊥ = subst (λ (p : Pair). IsRight (world_after (step w p.event) (events ys)) y → ⊥) (sym h) g in
    let t = same_front (step w z.event) xs ys xs' ys' x y (tail_is z u (xs ++ x ∷ xs') (ys ++ y ∷ ys') e) a.1 b' f g' in
    ap (λ (p : Pair). p ∷ xs) h ∙ ap (λ (l : List Pair). u ∷ l) t

never_both : (ps : List Pair) (index at : ℕ) → AreRight replay_world ps → IsFirstWrong ps index at → ⊥
never_both ps index at all f = f.here (right_there replay_world f.before f.behind f.wrong (subst (λ (l : List Pair). AreRight replay_world l) f.all all))

pub one_verdict : (ps : List Pair) (v u : Verdict) → IsVerdict ps v → IsVerdict ps u → v ≡ u
one_verdict ps Yes Yes a b = refl
one_verdict ps Yes (No index at) a b = absurd (never_both ps index at a b)
one_verdict ps (No index at) Yes a b = absurd (never_both ps index at b a)
one_verdict ps (No i at) (No j place) a b =
    let front : a.before ≡ b.before = same_front replay_world a.before b.before a.behind b.behind a.wrong b.wrong (sym a.all ∙ b.all) a.right b.right a.here b.here in
    let index : i ≡ j = a.index_is ∙ ap (λ (l : List Pair). length l) front ∙ sym b.index_is in
    let there : at ≡ place = a.place ∙ ap (λ (l : List Pair). length (trace_bytes l)) front ∙ sym b.place in
    ap (λ (n : ℕ). No n at) index ∙ ap (No j) there
