-- What a check knows of the bytes that it has gone over.
use Rattle.std.proofs.Common.{◌≡◌, ℕ, ◌+◌, ◌<◌, ◌≤◌, List, [], ◌∷◌, ◌++◌, length, take, drop, refl, sym, ap, subst, ◌∙◌, append_assoc, length-append, inl, inr, true, false, eqb-true, Result, Ok, Err, arith}
use Rattle.std.specs.Prelude.{◌≢◌, ◌==◌, IsErrAnd}
use Rattle.std.proofs.lemmas.Bool.{true≢false}
use Rattle.std.proofs.lemmas.List.{append-nil, length-take-le, nil_from_length, take-append-drop}
use Rattle.kd_world.specs.State.{World}
use Rattle.kd_trace.specs.declared.verdict.TraceError.{TraceError}
use Rattle.kd_trace.specs.declared.verdict.Verdict.{Verdict}
use Rattle.kd_trace.specs.declared.verdict.Verdict.TheVariants.{Yes, No}
use Rattle.kd_trace.specs.Trace.{ArePairs, BreaksAt, IsTrace, Pair, events, pair_bytes, trace_bytes}
use Rattle.kd_trace.specs.Right.{HasVerdict, IsLegalRun, IsVerdict}
use Rattle.kd_trace.specs.Fronts.{BeginsWithPair, BreaksFrom}
use Rattle.kd_trace.specs.Judging.{AreJudged}
use Rattle.kd_trace.proofs.Runs.{pairs_more, right_run, trace_more}

-- the pairs so far, and the verdict on them
pub record Stands (bytes rest : List ℕ) (at : ℕ) (w : World) (steps k count : ℕ) (v : Verdict) : Type 0 where
  pub pairs : List Pair
  pub each : ArePairs pairs
  pub parts : bytes ≡ trace_bytes pairs ++ rest
  pub place : at ≡ length (trace_bytes pairs)
  pub judged : AreJudged pairs w k count v
  pub few : steps ≤ at
  pub counted : count ≤ at

pub stands_first : (bytes : List ℕ) (w : World) (steps k count : ℕ) (v : Verdict) → AreJudged [] w k count v → steps ≡ 0 → count ≡ 0 → Stands bytes bytes 0 w steps k count v
stands_first bytes w steps k count v j s c = record { pairs = []; each = tt; parts = refl; place = refl; judged = j; few = omega (arith, s); counted = omega (arith, c) }

-- no more pairs than bytes
pub stands_within : (bytes rest : List ℕ) (at : ℕ) (w : World) (steps k count : ℕ) (v : Verdict) → Stands bytes rest at w steps k count v → at + length rest ≡ length bytes
stands_within bytes rest at w steps k count v s = omega (arith, s.place, ap length s.parts, length-append (trace_bytes s.pairs) rest)

pub stands_more : (bytes rest after : List ℕ) (at size : ℕ) (p : Pair) (w next : World) (steps steps' k k' count count' : ℕ) (v v' : Verdict) → Stands bytes rest at w steps k count v → BeginsWithPair rest p size → after ≡ drop size rest
    → ((ps : List Pair) → AreJudged ps w k count v → at ≡ length (trace_bytes ps) → AreJudged (ps ++ p ∷ []) next k' count' v') → steps' ≤ steps + 1 → count' ≤ count + 1
    → Stands bytes after (at + size) next steps' k' count' v'
stands_more bytes rest after at size p w next steps steps' k k' count count' v v' s b is judge few counted =
    let more : trace_bytes (s.pairs ++ p ∷ []) ≡ trace_bytes s.pairs ++ pair_bytes p = trace_more s.pairs p in
    let len : length (take size rest) ≡ size = length-take-le size rest b.inside in
    let some : 0 < size = b.some in
    let was : steps ≤ at = s.few in
    let so_far : count ≤ at = s.counted in
    record {
      pairs = s.pairs ++ p ∷ [];
      each = pairs_more s.pairs p s.each b.pair;
      parts = s.parts ∙ ap (λ (l : List ℕ). trace_bytes s.pairs ++ l) (sym (take-append-drop size rest)) ∙ ap (λ (l : List ℕ). trace_bytes s.pairs ++ (l ++ drop size rest)) b.spelled
          ∙ sym (append_assoc (trace_bytes s.pairs) (pair_bytes p) (drop size rest)) ∙ ap (λ (l : List ℕ). l ++ drop size rest) (sym more) ∙ ap (λ (l : List ℕ). trace_bytes (s.pairs ++ p ∷ []) ++ l) (sym is);
      place = omega (arith, s.place, ap length more, length-append (trace_bytes s.pairs) (pair_bytes p), ap length b.spelled, len);
      judged = judge s.pairs s.judged s.place;
      few = omega (arith, few, was, some);
      counted = omega (arith, counted, so_far, some);
    }

pub stands_whole : (bytes rest : List ℕ) (at : ℕ) (w : World) (steps k count : ℕ) (v : Verdict) (s : Stands bytes rest at w steps k count v) → rest ≡ [] → IsTrace bytes s.pairs
stands_whole bytes rest at w steps k count v s none = record { spelled = s.parts ∙ ap (λ (l : List ℕ). trace_bytes s.pairs ++ l) none ∙ append-nil (trace_bytes s.pairs); each = s.each }

-- ---- verdicts

verdict_by : (ps : List Pair) (w : World) (k count : ℕ) (v : Verdict) → AreJudged ps w k count v → IsVerdict ps v
verdict_by ps w k count Yes j = j.right
verdict_by ps w k count (No index at) j = j

legal_by : (ps : List Pair) (v : Verdict) → IsVerdict ps v → v ≡ Yes → IsLegalRun (events ps)
legal_by ps v j e = right_run ps (subst (λ (u : Verdict). IsVerdict ps u) e j)

pub has_verdict : (bytes rest : List ℕ) (at : ℕ) (w : World) (steps k count : ℕ) (v : Verdict) → Stands bytes rest at w steps k count v → rest ≡ [] → HasVerdict bytes v
has_verdict bytes rest at w steps k count v s none = (s.pairs, stands_whole bytes rest at w steps k count v s none, verdict_by s.pairs w k count v s.judged)

pub is_legal : (bytes rest : List ℕ) (at : ℕ) (w : World) (steps k count : ℕ) (v : Verdict) → Stands bytes rest at w steps k count v → rest ≡ [] → v ≡ Yes → (ps : List Pair) × IsTrace bytes ps × IsLegalRun (events ps)
is_legal bytes rest at w steps k count v s none e = (s.pairs, stands_whole bytes rest at w steps k count v s none, legal_by s.pairs v (verdict_by s.pairs w k count v s.judged) e)

-- ---- where the bytes break

pub breaks : (bytes rest : List ℕ) (at : ℕ) (w : World) (steps k count : ℕ) (v : Verdict) (place : ℕ) → Stands bytes rest at w steps k count v → rest ≢ [] → BreaksFrom rest at place → BreaksAt bytes place
breaks bytes rest at w steps k count v place s some (inl b) = inl (record { before = s.pairs; rest = rest; each = s.each; parts = s.parts; place = b.0 ∙ s.place; more = some; here = b.1 })
breaks bytes rest at w steps k count v place s some (inr b) =
    let len : length (take b.size rest) ≡ b.size = length-take-le b.size rest b.front.inside in
    inr (record {
      before = s.pairs;
      event = b.event;
      rest = drop b.size rest;
      each = s.each;
      stands = b.front.stands;
      parts = s.parts ∙ ap (λ (l : List ℕ). trace_bytes s.pairs ++ l) (sym (take-append-drop b.size rest)) ∙ ap (λ (l : List ℕ). trace_bytes s.pairs ++ (l ++ drop b.size rest)) b.front.spelled;
      place = omega (arith, b.place_is, s.place, len, ap length b.front.spelled);
      here = b.here;
    })

-- ---- at the loop's ends

pub nothing_left : (rest : List ℕ) → (length rest == 0) ≡ true → rest ≡ []
nothing_left rest e = nil_from_length rest (eqb-true (length rest) 0 e)

pub some_left : (rest : List ℕ) → (length rest == 0) ≡ false → rest ≢ []
some_left [] e = λ none. true≢false e
some_left (x ∷ rest) e = λ none. absurd cc

err_same : {X : Type 0} (a b : TraceError) → ◌≡◌ {A = Result X TraceError} (Err a) (Err b) → a ≡ b
err_same a b q = cc

-- an error that is handed on is the one that came
pub err_is : {X Y : Type 0} (r : Result X TraceError) (e f : TraceError) → IsErrAnd r (λ x. x ≡ e) → r ≡ Err f → ◌≡◌ {A = Result Y TraceError} (Err e) (Err f)
err_is (Ok x) e f is same = absurd cc
err_is (Err x) e f is same = ap (λ z. Err z) (sym is ∙ err_same x f same)
