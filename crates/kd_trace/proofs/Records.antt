-- What a record of frames has written.
use Rattle.std.proofs.Common.{◌≡◌, ℕ, ◌+◌, true, List, [], ◌∷◌, ◌++◌, length, take, drop, Option, append_assoc, refl, sym, ap, subst, ◌∙◌, arith}
use Rattle.std.specs.Io.KnownBytes.{Appends}
use Rattle.std.proofs.lemmas.List.{append-nil, take_all}
use Rattle.std.proofs.lemmas.Grind.{flat_map-append}
use Rattle.std.proofs.Math.Seq.{take-append-add}
use Rattle.kd_model.proofs.Truth.{both_true}
use Rattle.kd_outside.proofs.Known.{appends_more, appends_nothing}
use Rattle.kd_world.specs.State.{World}
use Rattle.kd_world.specs.Legal.{Event, legal}
use Rattle.kd_world.specs.Step.{step}
use Rattle.kd_world.specs.Runs.{all_legal, world_after}
use Rattle.kd_replay.specs.Turns.{IsReady, Turn, replay_world}
use Rattle.kd_replay.specs.Frames.{IsCut, IsFrame, joined}
use Rattle.kd_replay.specs.Transcript.{AreRunBy, Ends, IsFrameRun}
use Rattle.kd_replay.specs.Hearing.{heard_along}
use Rattle.kd_replay.proofs.Legal.{ends_join, frame_ends}
use Rattle.kd_replay.proofs.Written.{cut_more, length-joined_more}
use Rattle.kd_trace.specs.Trace.{ArePairs, Pair, pair_bytes, trace_bytes}
use Rattle.kd_trace.specs.Right.{AreRight, outcome}
use Rattle.kd_trace.specs.Judging.{HoldsNumber, IsNumberOf, number_with}
use Rattle.kd_trace.specs.Record.{IsRecord, WritesFront, pairs_along}
use Rattle.kd_trace.specs.Recorded.{IsWritten, pairs_heard}
use Rattle.kd_trace.proofs.Runs.{number_after, outcome_same}

-- ---- what was heard are the pairs

same_pairs : (w : World) (k : ℕ) (es : List Event) → HoldsNumber w k → all_legal w es ≡ true → pairs_heard k (heard_along w es) ≡ pairs_along w es
unfolding heard_along pairs_along all_legal
same_pairs w k [] h l = refl
same_pairs w k (e ∷ es) h l =
    let b = both_true (legal w e) (all_legal (step w e) es) l in
    ap (λ o. record { event = e; outcome = o } ∷ pairs_heard (number_with e k) (heard_along (step w e) es)) (outcome_same w e k b.0 h)
    ∙ ap (λ (ps : List Pair). record { event = e; outcome = outcome w e } ∷ ps) (same_pairs (step w e) (number_with e k) es (number_after w e k h) b.1)

pub pairs_right : (w : World) (es : List Event) → all_legal w es ≡ true → AreRight w (pairs_along w es)
unfolding pairs_along all_legal
pairs_right w [] l = tt
pairs_right w (e ∷ es) l =
    let b = both_true (legal w e) (all_legal (step w e) es) l in
    (record { allowed = b.0; answer = refl }, pairs_right (step w e) es b.1)

pairs_append : (w : World) (es fs : List Event) → pairs_along w (es ++ fs) ≡ pairs_along w es ++ pairs_along (world_after w es) fs
unfolding pairs_along world_after
pairs_append w [] fs = refl
pairs_append w (e ∷ es) fs = ap (λ (ps : List Pair). record { event = e; outcome = outcome w e } ∷ ps) (pairs_append (step w e) es fs)

each_append : (ps qs : List Pair) → ArePairs ps → ArePairs qs → ArePairs (ps ++ qs)
each_append [] qs a b = b
each_append (p ∷ ps) qs a b = (a.0, each_append ps qs a.1 b)

free_number : (w : World) → IsReady w → HoldsNumber w 0
free_number w r = subst (λ o. IsNumberOf o 0) (sym r.free) tt

-- ---- one frame more

frames_more : (w : World) (fs : List (List ℕ)) (es : List Event) (mid : World) (f : List ℕ) (own : List Event) (t : Turn) → AreRunBy w fs es mid → IsFrameRun mid f own t → AreRunBy w (fs ++ f ∷ []) (es ++ own) t.next
frames_more w [] es mid f own t h k =
    (t, own, [], subst (λ (v : World). IsFrameRun v f own t) h.1 k, ap (λ (l : List Event). l ++ own) h.0 ∙ sym (append-nil own), (refl, refl))
frames_more w (g ∷ fs) es mid f own t (s, mine, more, run, is, rest) k =
    (s, mine, more ++ own, run, ap (λ (l : List Event). l ++ own) is ∙ append_assoc mine more own, frames_more s.next fs more mid f own t rest k)

-- the bytes are cut so far, and the trace of these frames was written
pub record Recording (bytes rest : List ℕ) (at : ℕ) (held_before held_after : Option (List ℕ)) (now : World) : Type 0 where
  pub frames : List (List ℕ)
  pub events : List Event
  pub cut : IsCut bytes frames rest
  pub place : at ≡ length (joined frames)
  pub run : AreRunBy replay_world frames events now
  pub ends : Ends replay_world events now
  pub each : ArePairs (pairs_along replay_world events)
  pub held : Appends held_before held_after (trace_bytes (pairs_along replay_world events))

pub recording_first : (bytes : List ℕ) (a : Option (List ℕ)) → Recording bytes bytes 0 a a replay_world
unfolding pairs_along all_legal world_after
recording_first bytes a = record { frames = []; events = []; cut = record { parts = refl; each = tt }; place = refl; run = (refl, refl); ends = record { legal = refl; ends = refl }; each = tt; held = appends_nothing a }

pub recorded : (bytes rest : List ℕ) (at : ℕ) (a b : Option (List ℕ)) (now : World) (s : Recording bytes rest at a b now) → IsRecord s.frames (trace_bytes (pairs_along replay_world s.events))
recorded bytes rest at a b now s = record {
  events = s.events;
  end = now;
  run = s.run;
  ends = s.ends;
  trace = record { spelled = refl; each = s.each };
  right = pairs_right replay_world s.events s.ends.legal;
}

pub all_recorded : (bytes rest : List ℕ) (at : ℕ) (a b : Option (List ℕ)) (now : World) → Recording bytes rest at a b now → WritesFront bytes a b
all_recorded bytes rest at a b now s =
    let written : List ℕ = trace_bytes (pairs_along replay_world s.events) in
    let all : take (length written) written ≡ written = take_all (length written) written (omega arith) in
    (s.frames, rest, written, length written, s.cut, recorded bytes rest at a b now s, rw all s.held)

-- what was heard of one frame more, and what is to be written of it
pub record IsNext (now : World) (frame : List ℕ) (t : Turn) (bytes : List ℕ) : Type 0 where
  pub events : List Event
  pub run : IsFrameRun now frame events t
  pub each : ArePairs (pairs_along now events)
  pub bytes_are : bytes ≡ trace_bytes (pairs_along now events)

pub next_frame : (now : World) (frame : List ℕ) (t : Turn) (bytes : List ℕ) (number : ℕ) (es : List Event) → IsReady now → IsFrameRun now frame es t → IsWritten bytes number (heard_along now es) → IsNext now frame t bytes
next_frame now frame t bytes number es ready run w =
    let same : pairs_heard 0 (heard_along now es) ≡ pairs_along now es = same_pairs now 0 es (free_number now ready) (frame_ends now frame es t run).legal in
    record { events = es; run = run; each = subst ArePairs same w.each; bytes_are = w.bytes_are ∙ ap trace_bytes same }

trace_append : (now : World) (es fs : List Event) → Ends replay_world es now → trace_bytes (pairs_along replay_world (es ++ fs)) ≡ trace_bytes (pairs_along replay_world es) ++ trace_bytes (pairs_along now fs)
trace_append now es fs e =
    ap trace_bytes (pairs_append replay_world es fs ∙ ap (λ (v : World). pairs_along replay_world es ++ pairs_along v fs) (sym e.ends)) ∙ flat_map-append pair_bytes (pairs_along replay_world es) (pairs_along now fs)

pub one_more : (bytes rest : List ℕ) (at n : ℕ) (a b c : Option (List ℕ)) (now : World) (t : Turn) (own : List ℕ) → Recording bytes rest at a b now → IsFrame (take n rest) → length (take n rest) ≡ n → IsNext now (take n rest) t own
    → Appends b c own → Recording bytes (drop n rest) (at + n) a c t.next
one_more bytes rest at n a b c now t own s frame len next more =
    let f = take n rest in
    let both = trace_append now s.events next.events s.ends in
    record {
      frames = s.frames ++ f ∷ [];
      events = s.events ++ next.events;
      cut = cut_more bytes s.frames rest n s.cut frame;
      place = omega (arith, s.place, len, length-joined_more s.frames f);
      run = frames_more replay_world s.frames s.events now f next.events t s.run next.run;
      ends = ends_join replay_world now t.next s.events next.events s.ends (frame_ends now f next.events t next.run);
      each = subst ArePairs (sym (pairs_append replay_world s.events next.events ∙ ap (λ (v : World). pairs_along replay_world s.events ++ pairs_along v next.events) (sym s.ends.ends))) (each_append (pairs_along replay_world s.events) (pairs_along now next.events) s.each next.each);
      held = subst (λ (l : List ℕ). Appends a c l) (sym both) (appends_more a b c (trace_bytes (pairs_along replay_world s.events)) (trace_bytes (pairs_along now next.events)) s.held (subst (λ (l : List ℕ). Appends b c l) next.bytes_are more));
    }

-- a front of what one frame more makes was written
pub some_recorded : (bytes rest : List ℕ) (at n k : ℕ) (a b c : Option (List ℕ)) (now : World) (t : Turn) (own : List ℕ) → Recording bytes rest at a b now → IsFrame (take n rest) → length (take n rest) ≡ n → IsNext now (take n rest) t own
    → Appends b c (take k own) → WritesFront bytes a c
some_recorded bytes rest at n k a b c now t own s frame len next more =
    let f = take n rest in
    let es = s.events ++ next.events in
    let front : List ℕ = trace_bytes (pairs_along replay_world s.events) in
    let last : List ℕ = trace_bytes (pairs_along now next.events) in
    let both : trace_bytes (pairs_along replay_world es) ≡ front ++ last = trace_append now s.events next.events s.ends in
    let ends : Ends replay_world es t.next = ends_join replay_world now t.next s.events next.events s.ends (frame_ends now f next.events t next.run) in
    let each : ArePairs (pairs_along replay_world es) = subst ArePairs (sym (pairs_append replay_world s.events next.events ∙ ap (λ (v : World). pairs_along replay_world s.events ++ pairs_along v next.events) (sym s.ends.ends))) (each_append (pairs_along replay_world s.events) (pairs_along now next.events) s.each next.each) in
    let is : take (length front + k) (front ++ last) ≡ front ++ take k last = take-append-add front last k in (
      s.frames ++ f ∷ [],
      drop n rest,
      front ++ last,
      length front + k,
      cut_more bytes s.frames rest n s.cut frame,
      record { events = es; end = t.next; run = frames_more replay_world s.frames s.events now f next.events t s.run next.run; ends = ends; trace = record { spelled = sym both; each = each }; right = pairs_right replay_world es ends.legal },
      rw is (appends_more a b c front (take k last) s.held (subst (λ (l : List ℕ). Appends b c (take k l)) next.bytes_are more)),
    )
