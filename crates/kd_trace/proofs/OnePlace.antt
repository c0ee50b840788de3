-- Bytes break at one place.
use Rattle.std.proofs.Common.{◌≡◌, ℕ, ◌+◌, List, [], ◌∷◌, ◌++◌, length, refl, sym, ap, subst, ◌∙◌, append_assoc, inl, inr}
use Rattle.kd_item.specs.Spelling.{Entry, spelling}
use Rattle.kd_world.specs.Legal.{Event}
use Rattle.kd_trace.specs.Items.{MayStand, caller_of, event_entry}
use Rattle.kd_trace.specs.Trace.{ArePairs, BreaksAt, HasNoEvent, HasNoOutcome, IsPair, Pair, event_bytes, outcome_bytes, pair_bytes, trace_bytes}
use Rattle.kd_trace.proofs.Fronts.{event_fits}
use Rattle.kd_trace.proofs.OneReading.{one_event, one_item, one_pair}

-- no pair begins the bytes
abbrev HasNoPair : List ℕ → Type 0
HasNoPair bytes = (p : Pair) (rest : List ℕ) → IsPair p → bytes ≡ pair_bytes p ++ rest → ⊥

no_pair_event : (bytes : List ℕ) → HasNoEvent bytes → HasNoPair bytes
no_pair_event bytes here p rest a e =
    here p.event (outcome_bytes (caller_of p.event) p.outcome ++ rest) a.event (e ∙ append_assoc (event_bytes p.event) (outcome_bytes (caller_of p.event) p.outcome) rest)

no_pair_outcome : (event : Event) (rest : List ℕ) → MayStand event → HasNoOutcome (caller_of event) rest → HasNoPair (event_bytes event ++ rest)
no_pair_outcome event rest m here p more a e =
    let behind = outcome_bytes (caller_of p.event) p.outcome ++ more in
    let parts = e ∙ append_assoc (event_bytes p.event) (outcome_bytes (caller_of p.event) p.outcome) more in
    let first = one_item (event_entry event) (event_entry p.event) rest behind (event_fits event m) (event_fits p.event a.event) parts in
    let same : event ≡ p.event = one_event event p.event m a.event first.0 in
    subst (λ (x : Event). HasNoOutcome (caller_of x) rest) same here p.outcome more a.outcome a.size first.1

-- so the whole pairs before that are the same, and so is what is left
same_before : (ps qs : List Pair) (r s : List ℕ) → ArePairs ps → ArePairs qs → HasNoPair r → HasNoPair s → trace_bytes ps ++ r ≡ trace_bytes qs ++ s → (ps ≡ qs) × (r ≡ s)
same_before [] [] r s a b f g e = (refl, e)
same_before [] (q ∷ qs) r s a b f g e = absurd (f q (trace_bytes qs ++ s) b.0 (e ∙ append_assoc (pair_bytes q) (trace_bytes qs) s))
same_before (p ∷ ps) [] r s a b f g e = absurd (g p (trace_bytes ps ++ r) a.0 (sym e ∙ append_assoc (pair_bytes p) (trace_bytes ps) r))
same_before (p ∷ ps) (q ∷ qs) r s a b f g e =
    let parts = sym (append_assoc (pair_bytes p) (trace_bytes ps) r) ∙ e ∙ append_assoc (pair_bytes q) (trace_bytes qs) s in
    let first = one_pair p q (trace_bytes ps ++ r) (trace_bytes qs ++ s) a.0 b.0 parts in
    let more = same_before ps qs r s a.1 b.1 f g first.1 in
    (ap (λ (x : Pair). x ∷ ps) first.0 ∙ ap (λ (l : List Pair). q ∷ l) more.0, more.1)

pub one_place : (bytes : List ℕ) (at place : ℕ) → BreaksAt bytes at → BreaksAt bytes place → at ≡ place
one_place bytes at place (inl a) (inl b) =
    let same = same_before a.before b.before a.rest b.rest a.each b.each (no_pair_event a.rest a.here) (no_pair_event b.rest b.here) (sym a.parts ∙ b.parts) in
    a.place ∙ ap (λ (l : List Pair). length (trace_bytes l)) same.0 ∙ sym b.place
one_place bytes at place (inl a) (inr b) =
    let same = same_before a.before b.before a.rest (event_bytes b.event ++ b.rest) a.each b.each (no_pair_event a.rest a.here) (no_pair_outcome b.event b.rest b.stands b.here) (sym a.parts ∙ b.parts) in
    absurd (a.here b.event b.rest b.stands same.1)
one_place bytes at place (inr a) (inl b) =
    let same = same_before a.before b.before (event_bytes a.event ++ a.rest) b.rest a.each b.each (no_pair_outcome a.event a.rest a.stands a.here) (no_pair_event b.rest b.here) (sym a.parts ∙ b.parts) in
    absurd (b.here a.event a.rest a.stands (sym same.1))
one_place bytes at place (inr a) (inr b) =
    let same = same_before a.before b.before (event_bytes a.event ++ a.rest) (event_bytes b.event ++ b.rest) a.each b.each (no_pair_outcome a.event a.rest a.stands a.here) (no_pair_outcome b.event b.rest b.stands b.here) (sym a.parts ∙ b.parts) in
    let first = one_item (event_entry a.event) (event_entry b.event) a.rest b.rest (event_fits a.event a.stands) (event_fits b.event b.stands) same.1 in
    a.place ∙ ap (λ (l : List Pair). length (trace_bytes l) + length (event_bytes a.event)) same.0 ∙ ap (λ (i : Entry). length (trace_bytes b.before) + length (spelling i)) first.0 ∙ sym b.place
