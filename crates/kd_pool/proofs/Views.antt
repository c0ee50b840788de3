-- The table under the view of a pool.
use Rattle.std.specs.Prelude.{◌≡◌, ◌&&◌, ℕ, Bool, true, false, List, [], ◌∷◌, cond, map, Option, Some, None, option_map, refl}
use Rattle.std.specs.List.{AllByRecursion, find}
use Rattle.std.proofs.Common.{ap, ◌∙◌}
use Rattle.kd_model.specs.Words.{put_in_order}
use Rattle.kd_acts.specs.State.{Answer, Pool, Slice, bytes_of, slot_numbered, lies_lower, is_readable, is_reserved, refused, slots}
use Rattle.kd_acts.specs.Sound.{slot_range}
use Rattle.kd_types.specs.declared.refusal.Refusal.TheVariants.{NoSuchSlice}
use Rattle.kd_acts.specs.Steps.{in_phase, length_reserved, read_answer, reserved_length, set_phase, share_answer}
use Rattle.kd_pool.specs.Sealed.{Shares, share_at}
use Rattle.kd_pool.specs.Table.{slice_shown}
use Rattle.kd_acts.specs.declared.slot.Phase.{Phase}
use Rattle.kd_acts.specs.declared.slot.Slot.{Slot}

-- the table is seen whole
pub slots_shown : (m : List ℕ) (h : Shares) (ss : List Slot) → map (λ (s : Slice). s.slot) (map (slice_shown m h) ss) ≡ ss
slots_shown m h [] = refl
slots_shown m h (s ∷ ss) = ap (s ∷◌) (slots_shown m h ss)

-- what is found is seen
pub find_shown : (m : List ℕ) (h : Shares) (p : Slice → Bool) (ss : List Slot) → find p (map (slice_shown m h) ss) ≡ option_map (slice_shown m h) (find (λ s. p (slice_shown m h s)) ss)
find_shown m h p [] = refl
find_shown m h p (s ∷ ss) = go (p (slice_shown m h s)) (find_shown m h p ss)
  where
    go : (b : Bool) → find p (map (slice_shown m h) ss) ≡ option_map (slice_shown m h) (find (λ s. p (slice_shown m h s)) ss) → cond b (Some (slice_shown m h s)) (find p (map (slice_shown m h) ss)) ≡ option_map (slice_shown m h) (cond b (Some s) (find (λ s. p (slice_shown m h s)) ss))
    go true e = refl
    go false e = e

phase_shown : (m : List ℕ) (h : Shares) (ph : Phase) (n : ℕ) (s : Slot) → slice_shown m h (in_phase ph n s) ≡ set_phase ph n (slice_shown m h s)
phase_shown m h ph n s = go (slot_numbered n s)
  where
    go : (b : Bool) → slice_shown m h (elim b [ true ↦ record s { phase = ph } | false ↦ s ]) ≡ elim b [ true ↦ record (slice_shown m h s) { slot = record s { phase = ph } } | false ↦ slice_shown m h s ]
    go true = refl
    go false = refl

-- a phase is seen to change
pub phases_shown : (m : List ℕ) (h : Shares) (ph : Phase) (n : ℕ) (ss : List Slot) → map (slice_shown m h) (map (in_phase ph n) ss) ≡ map (set_phase ph n) (map (slice_shown m h) ss)
phases_shown m h ph n [] = refl
phases_shown m h ph n (s ∷ ss) = ap (λ x. x ∷ map (slice_shown m h) (map (in_phase ph n) ss)) (phase_shown m h ph n s) ∙ ap (λ xs. set_phase ph n (slice_shown m h s) ∷ xs) (phases_shown m h ph n ss)

-- the answer to a read goes by the slot that may be read, and by its share
pub read_seen : (m : List ℕ) (h : Shares) (p : Pool) (ss : List Slot) (n : ℕ) (sealed : Bool) (o : Option Slot) → p.slices ≡ map (slice_shown m h) ss → find (λ s. slot_numbered n s && is_readable s) ss ≡ o
    → read_answer n sealed p ≡ elim o [ None ↦ refused NoSuchSlice | Some s ↦ elim sealed [ true ↦ share_answer (share_at h s.number) | false ↦ bytes_of (slot_range m s) ] ]
unfolding read_answer
read_seen m h p ss n sealed o e f =
    ap told (ap (find (λ (s : Slice). slot_numbered n s.slot && is_readable s.slot)) e ∙ find_shown m h (λ (s : Slice). slot_numbered n s.slot && is_readable s.slot) ss ∙ ap (option_map (slice_shown m h)) f) ∙ seen o
  where
    told : Option Slice → Answer
    told o = elim o [ None ↦ refused NoSuchSlice | Some s ↦ elim sealed [ true ↦ share_answer s.shared | false ↦ bytes_of s.bytes ] ]

    seen : (o : Option Slot) → told (option_map (slice_shown m h) o) ≡ elim o [ None ↦ refused NoSuchSlice | Some s ↦ elim sealed [ true ↦ share_answer (share_at h s.number) | false ↦ bytes_of (slot_range m s) ] ]
    seen None = refl
    seen (Some s) = refl

-- what is reserved goes by the table
pub reserved_seen : (p : Pool) (ss : List Slot) (n : ℕ) (o : Option Slot) → slots p ≡ ss → find (slot_numbered n) ss ≡ o → reserved_length n p ≡ length_reserved o
unfolding reserved_length
reserved_seen p ss n o e f = ap length_reserved (ap (find (slot_numbered n)) e ∙ f)

-- a reserved slot has the length that is told
pub reserved_takes : (s : Slot) (k : ℕ) → length_reserved (Some s) ≡ Some k → s.len ≡ k
reserved_takes s k h = go (is_reserved s) h
  where
    go : (b : Bool) → elim b [ true ↦ Some s.len | false ↦ None ] ≡ Some k → s.len ≡ k
    go true h = cc
    go false h = cc

-- and is reserved
pub reserved_is : (s : Slot) (k : ℕ) → length_reserved (Some s) ≡ Some k → is_reserved s ≡ true
reserved_is s k h = go (is_reserved s) h
  where
    go : (b : Bool) → elim b [ true ↦ Some s.len | false ↦ None ] ≡ Some k → b ≡ true
    go true h = refl
    go false h = cc

-- a slot that was put into the table is found there, where none had its number
pub finds_put : (n : ℕ) (t : Slot) (ss : List Slot) → slot_numbered n t ≡ true → AllByRecursion (λ (s : Slot). slot_numbered n s ≡ false) ss → find (slot_numbered n) (put_in_order lies_lower t ss) ≡ Some t
finds_put n t [] h a = ap (λ b. cond b (Some t) None) h
finds_put n t (s ∷ ss) h a = go (lies_lower t s) (finds_put n t ss h a.1)
  where
    go : (b : Bool) → find (slot_numbered n) (put_in_order lies_lower t ss) ≡ Some t → find (slot_numbered n) (elim b [ true ↦ t ∷ s ∷ ss | false ↦ s ∷ put_in_order lies_lower t ss ]) ≡ Some t
    go true e = ap (λ b. cond b (Some t) (find (slot_numbered n) (s ∷ ss))) h
    go false e = ap (λ b. cond b (Some s) (find (slot_numbered n) (put_in_order lies_lower t ss))) a.0 ∙ e
