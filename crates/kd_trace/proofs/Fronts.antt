-- What stands at the front of bytes.
use Rattle.std.proofs.Common.{◌≡◌, ℕ, ◌+◌, ◌^◌, ◌<◌, ◌≤◌, List, [], ◌∷◌, ◌++◌, length, take, drop, refl, sym, ap, subst, ◌∙◌, length-append, length-drop, Some, None, arith}
use Rattle.std.proofs.lemmas.List.{take_at}
use Rattle.std.proofs.Math.Seq.{take-add}
use Rattle.kd_model.proofs.Truth.{no_some, same_some}
use Rattle.kd_item.specs.Spelling.{Entry, Fits, spelling}
use Rattle.kd_item.specs.Reading.{item_at}
use Rattle.kd_item.proofs.Words.{IsBytes, IsBytes-front, length-word, length-words}
use Rattle.kd_item.proofs.OneItem.{item_again}
use Rattle.kd_item.proofs.Splits.{item_takes, spelled_length}
use Rattle.kd_item.proofs.Sizes.{body_bytes}
use Rattle.kd_wire.specs.Frames.{frame_length, frame_of}
use Rattle.kd_wire.proofs.ReadAgain.{laid_frame}
use Rattle.kd_item.specs.Spelling.{word, words}
use Rattle.kd_wire.specs.Commands.{bit}
use Rattle.kd_world.specs.Legal.{Event, visit, leave, publishes, receives, reads, frees, is_caller}
use Rattle.kd_world.specs.Legal as legal
use Rattle.kd_trace.specs.declared.outcome.Outcome.{Outcome}
use Rattle.kd_trace.specs.Items.{IsEventItem, MayStand, caller_of, event_entry, limit_word, mode_flags, outcome_entry}
use Rattle.kd_trace.specs.Reading.{outcome_in}
use Rattle.kd_trace.specs.Trace.{HasNoEvent, HasNoOutcome, event_bytes}
use Rattle.kd_trace.specs.Fronts.{BeginsWithEvent, BeginsWithOutcome, BeginsWithPair}
use Rattle.kd_trace.proofs.EventsAgain.{caller_small}
use Rattle.kd_trace.proofs.Outcomes.{outcome_again, outcome_back}

-- ---- an item

pub record Front (bytes : List ℕ) (i : Entry) (size : ℕ) : Type 0 where
  pub spelled : take size bytes ≡ spelling i
  pub fits : Fits i
  pub body : IsBytes i.body

pub item_front : (bytes : List ℕ) (i : Entry) (size : ℕ) → IsBytes bytes → size ≤ length bytes → Some (i, drop size bytes) ≡ item_at bytes → Front bytes i size
item_front bytes i size fits inside found =
    let t = item_takes bytes (i, drop size bytes) fits (sym found) in
    let len : length (spelling i) ≡ size = omega (arith, spelled_length bytes (i, drop size bytes) (sym found), length-drop size bytes) in
    let front : take size bytes ≡ spelling i = ap (take size) t.parts ∙ take_at (spelling i) (drop size bytes) size len in
    record { spelled = front; fits = t.item; body = body_bytes i (IsBytes-front (spelling i) (drop size bytes) (subst IsBytes t.parts fits)) }

-- an item at the front is the only one there
one_front : (bytes rest after : List ℕ) (i j : Entry) → Some (i, after) ≡ item_at bytes → Fits j → bytes ≡ spelling j ++ rest → i ≡ j
one_front bytes rest after i j found fits e =
    let again : item_at bytes ≡ Some (j, rest) = ap item_at e ∙ item_again j rest fits in
    ap (λ (x : Entry × List ℕ). x.0) (same_some (i, after) (j, rest) (found ∙ again))

none_front : (bytes rest : List ℕ) (j : Entry) → None ≡ item_at bytes → Fits j → bytes ≡ spelling j ++ rest → ⊥
none_front bytes rest j none fits e =
    no_some (none ∙ ap item_at e ∙ item_again j rest fits)

-- ---- an event

few_words : (kind : ℕ) (ws : List ℕ) → kind < 2 ^ 64 → length ws ≤ 8 → Fits (record { kind = kind; body = words ws })
few_words kind ws k few = record { kind = k; size = omega (arith, length-words ws, few) }

pub event_fits : (e : Event) → MayStand e → Fits (event_entry e)
event_fits (legal.take n x) m =
    let frame = frame_of n x in
    let most : frame_length x ≤ 131072 = m.form.form.size in
    let l = laid_frame frame n x m.form.typed (caller_small n m.caller) m.form.form refl in
    let len : length frame ≡ frame_length x = l.long_is in
    record { kind = omega arith; size = omega (arith, most, len, length-append (word n) frame, length-word n) }
event_fits (visit n s) m = few_words 33 (n ∷ s ∷ []) (omega arith) (omega arith)
event_fits (leave n) m = few_words 34 (n ∷ []) (omega arith) (omega arith)
event_fits (publishes n s k) m = few_words 35 (n ∷ s ∷ k ∷ []) (omega arith) (omega arith)
event_fits (receives n mode) m = few_words 36 (n ∷ mode_flags mode ∷ limit_word mode.limit ∷ []) (omega arith) (omega arith)
event_fits (reads n k sealed) m = few_words 37 (n ∷ k ∷ bit sealed ∷ []) (omega arith) (omega arith)
event_fits (frees n k) m = few_words 38 (n ∷ k ∷ []) (omega arith) (omega arith)

pub event_begins : (bytes : List ℕ) (i : Entry) (size : ℕ) (e : Event) → IsBytes bytes → size ≤ length bytes → 0 < size → Some (i, drop size bytes) ≡ item_at bytes → IsEventItem i e → BeginsWithEvent bytes e size
event_begins bytes i size e fits inside some found is =
    let f = item_front bytes i size fits inside found in
    record { stands = is.stands; spelled = f.spelled ∙ ap spelling is.spelled; inside = inside; some = some }

pub no_event_item : (bytes : List ℕ) → None ≡ item_at bytes → HasNoEvent bytes
no_event_item bytes none = λ e rest m is. none_front bytes rest (event_entry e) none (event_fits e m) is

pub no_event_here : (bytes after : List ℕ) (i : Entry) → Some (i, after) ≡ item_at bytes → ((e : Event) → IsEventItem i e → ⊥) → HasNoEvent bytes
no_event_here bytes after i found never = λ e rest m is. never e (record { spelled = one_front bytes rest after i (event_entry e) found (event_fits e m) is; stands = m })

-- ---- an answer

pub outcome_begins : (n : ℕ) (bytes : List ℕ) (i : Entry) (size : ℕ) (o : Outcome) → IsBytes bytes → size ≤ length bytes → 0 < size → Some (i, drop size bytes) ≡ item_at bytes → Some o ≡ outcome_in n i → BeginsWithOutcome n bytes o size
outcome_begins n bytes i size o fits inside some found is =
    let f = item_front bytes i size fits inside found in
    let b = outcome_back n i o f.body (sym is) in
    record { stands = b.stands; fits = subst Fits b.spelled f.fits; spelled = f.spelled ∙ ap spelling b.spelled; inside = inside; some = some }

pub no_outcome_item : (n : ℕ) (bytes : List ℕ) → None ≡ item_at bytes → HasNoOutcome n bytes
no_outcome_item n bytes none = λ o rest s f is. none_front bytes rest (outcome_entry n o) none f is

pub no_outcome_here : (n : ℕ) (bytes after : List ℕ) (i : Entry) → n < 2 ^ 64 → Some (i, after) ≡ item_at bytes → None ≡ outcome_in n i → HasNoOutcome n bytes
no_outcome_here n bytes after i small found none = λ o rest s f is.
    let same : i ≡ outcome_entry n o = one_front bytes rest after i (outcome_entry n o) found f is in
    no_some (none ∙ ap (outcome_in n) same ∙ outcome_again n o small s)

-- ---- a pair

pub pair_begins : (bytes : List ℕ) (e : Event) (front : ℕ) (o : Outcome) (size : ℕ) → BeginsWithEvent bytes e front → BeginsWithOutcome (caller_of e) (drop front bytes) o size → BeginsWithPair bytes (record { event = e; outcome = o }) (front + size)
pair_begins bytes e front o size f b =
    let inside : front ≤ length bytes = f.inside in
    let within : size ≤ length (drop front bytes) = b.inside in
    let both : take (front + size) bytes ≡ take front bytes ++ take size (drop front bytes) = take-add front size bytes in
    record {
      pair = record { event = f.stands; outcome = b.stands; size = b.fits };
      spelled = both ∙ ap (λ (l : List ℕ). l ++ take size (drop front bytes)) f.spelled ∙ ap (λ (l : List ℕ). event_bytes e ++ l) b.spelled;
      inside = omega (arith, inside, within, length-drop front bytes);
      some = let s : 0 < front = f.some in omega (arith, s);
    }
