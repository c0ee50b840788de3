-- The shares of slices through each change of the table.
use Rattle.std.specs.Prelude.{◌≡◌, ◌≢◌, ◌<◌, ◌+◌, ◌==◌, ◌&&◌, ◌||◌, ℕ, Bool, true, false, not, cond, List, [], ◌∷◌, drop, get_or, length, map, set, zero, suc, Option, Some, None, refl, replicate, ℤ}
use Rattle.std.specs.List.{AllByRecursion, IsDistinct, find}
use Rattle.std.proofs.Common.{ap, arith, get_or-set_other, get_or-set_same, length-set, sym, ◌∙◌}
use Rattle.std.proofs.lemmas.Bool.{false≢true}
use Rattle.std.proofs.lemmas.Bool.Decides.{nat_tests}
use Rattle.kd_model.proofs.Lists.{all_both, all_follow, all_of_filter, all_of_put, distinct_of_filter, distinct_of_put, map_of_put, rest_at}
use Rattle.kd_model.proofs.Truth.{left_false, right_false}
use Rattle.kd_model.specs.declared.slice_no.TheConstants.{SLICES}
use Rattle.std.proofs.lemmas.List.{length-replicate}
use Rattle.kd_model.specs.Words.{but_those, in_order, put_in_order, some_of, those}
use Rattle.kd_acts.specs.State.{is_earlier, is_reserved, is_waiting, lies_lower, slot_numbered, waiting_slots}
use Rattle.kd_acts.specs.Steps.{in_phase, now_queued, queued_slot, stands_lower}
use Rattle.kd_acts.specs.declared.slot.Phase.{Phase}
use Rattle.kd_acts.specs.declared.slot.Phase.TheVariants.{Freed, Handed, Peeked, Queued, Reserved}
use Rattle.kd_acts.specs.declared.slot.Slot.{Slot}
use Rattle.kd_acts.proofs.Apart.{AreApart}
use Rattle.kd_acts.proofs.Arrivals.{all_of_waiting, all_wait}
use Rattle.kd_pool.specs.Sealed.{AreShared, Shares, may_share, share_at, with_all_moved, with_moved, without_share, without_shares}
use Rattle.kd_pool.specs.Table.{carried, image_with, slice_shown, slice_with}

-- ---- one number

number_of : (n : ℕ) (s : Slot) → slot_numbered n s ≡ true → s.number ≡ n
number_of n s e = grind (arith, nat_tests)

-- the share of another number stays
elsewhere : (h : Shares) (n k : ℕ) (x : Option (List ℕ)) → (k ≡ n → ⊥) → share_at (set h n x) k ≡ share_at h k
elsewhere h n k x e = get_or-set_other h n k x None e

-- none is there where none was put
none_put : (h : Shares) (n : ℕ) → share_at (set h n None) n ≡ None
none_put [] zero = refl
none_put [] (suc n) = refl
none_put (x ∷ h) zero = refl
none_put (x ∷ h) (suc n) = none_put h n

-- nor where there was none before
stays_none : (h : Shares) (n k : ℕ) → share_at h k ≡ None → share_at (set h n None) k ≡ None
stays_none [] n k e = e
stays_none (x ∷ h) zero zero e = refl
stays_none (x ∷ h) zero (suc k) e = e
stays_none (x ∷ h) (suc n) zero e = e
stays_none (x ∷ h) (suc n) (suc k) e = stays_none h n k e

-- the slot of the number has what was put
pub own_share : (h : Shares) (n : ℕ) (s : Slot) (x : Option (List ℕ)) → n < length h → slot_numbered n s ≡ true → share_at (set h n x) s.number ≡ x
own_share h n s x low e = ap (share_at (set h n x)) (number_of n s e) ∙ get_or-set_same h n x None low

-- any other has what it had
pub other_share : (h : Shares) (n : ℕ) (s : Slot) (x : Option (List ℕ)) → slot_numbered n s ≡ false → share_at (set h n x) s.number ≡ share_at h s.number
other_share h n s x e = elsewhere h n s.number x (λ same. let t : slot_numbered n s ≡ true = grind (arith, nat_tests) in false≢true (sym e ∙ t))

-- ---- the slots that go

-- some slot of the number goes
abbrev goes_at : (Slot → Bool) → ℕ → Slot → Bool
goes_at goes n s = slot_numbered n s && goes s

pub length_without : (goes : Slot → Bool) (ss : List Slot) (h : Shares) → length (without_shares goes ss h) ≡ length h
length_without goes [] h = refl
length_without goes (s ∷ ss) h = length_without goes ss (without_share (goes s) s.number h) ∙ one (goes s)
  where
    one : (b : Bool) → length (without_share b s.number h) ≡ length h
    one true = length-set h s.number None
    one false = refl

-- none stays none
none_stays : (goes : Slot → Bool) (ss : List Slot) (h : Shares) (n : ℕ) → share_at h n ≡ None → share_at (without_shares goes ss h) n ≡ None
none_stays goes [] h n e = e
none_stays goes (s ∷ ss) h n e = none_stays goes ss (without_share (goes s) s.number h) n (one (goes s))
  where
    one : (b : Bool) → share_at (without_share b s.number h) n ≡ None
    one true = stays_none h s.number n e
    one false = e

-- what goes has none
none_left : (goes : Slot → Bool) (ss : List Slot) (h : Shares) (n : ℕ) → some_of (goes_at goes n) ss ≡ true → share_at (without_shares goes ss h) n ≡ None
none_left goes [] h n e = absurd (false≢true e)
none_left goes (s ∷ ss) h n e = go (slot_numbered n s) (goes s) refl e (λ k f. none_left goes ss k n f)
  where
    go : (a b : Bool) → slot_numbered n s ≡ a → ((a && b) || some_of (goes_at goes n) ss) ≡ true
        → ((k : Shares) → some_of (goes_at goes n) ss ≡ true → share_at (without_shares goes ss k) n ≡ None)
        → share_at (without_shares goes ss (without_share b s.number h)) n ≡ None
    go true true p f more = none_stays goes ss (set h s.number None) n (ap (share_at (set h s.number None)) (sym (number_of n s p)) ∙ none_put h s.number)
    go true false p f more = more h f
    go false true p f more = more (set h s.number None) f
    go false false p f more = more h f

-- what stays has what it had
stays_at : (goes : Slot → Bool) (ss : List Slot) (h : Shares) (n : ℕ) → some_of (goes_at goes n) ss ≡ false → share_at (without_shares goes ss h) n ≡ share_at h n
stays_at goes [] h n e = refl
stays_at goes (s ∷ ss) h n e = go (slot_numbered n s) (goes s) refl e (λ k f. stays_at goes ss k n f)
  where
    go : (a b : Bool) → slot_numbered n s ≡ a → ((a && b) || some_of (goes_at goes n) ss) ≡ false
        → ((k : Shares) → some_of (goes_at goes n) ss ≡ false → share_at (without_shares goes ss k) n ≡ share_at k n)
        → share_at (without_shares goes ss (without_share b s.number h)) n ≡ share_at h n
    go true true p f more = absurd (false≢true (sym f))
    go true false p f more = more h f
    go false true p f more = more (set h s.number None) f ∙ elsewhere h s.number n None (λ same. let t : slot_numbered n s ≡ true = grind (arith, nat_tests) in false≢true (sym p ∙ t))
    go false false p f more = more h f

-- ---- what the shares keep

-- some_of of a list that was put into
some_put : (p : Slot → Bool) (t : Slot) (ss : List Slot) → p t ≡ false → some_of p (put_in_order lies_lower t ss) ≡ some_of p ss
some_put p t [] e = ap (λ b. b || false) e
some_put p t (s ∷ ss) e = go (lies_lower t s) (some_put p t ss e)
  where
    go : (b : Bool) → some_of p (put_in_order lies_lower t ss) ≡ some_of p ss → some_of p (elim b [ true ↦ t ∷ s ∷ ss | false ↦ s ∷ put_in_order lies_lower t ss ]) ≡ some_of p (s ∷ ss)
    go true f = ap (λ b. b || some_of p (s ∷ ss)) e
    go false f = ap (λ b. p s || b) f

-- a reserved slot has none
holds_none : (n : ℕ) (t : Slot) → is_reserved t ≡ true → may_share n t ≡ false
holds_none n t e = ap (λ b. slot_numbered n t && not b) e ∙ none (slot_numbered n t)
  where
    none : (b : Bool) → (b && false) ≡ false
    none true = refl
    none false = refl

pub shared_put : (t : Slot) (ss : List Slot) (h : Shares) → is_reserved t ≡ true → AreShared ss h → AreShared (put_in_order lies_lower t ss) h
shared_put t ss h e a = record { room = a.room; own = λ n f. a.own n (sym (some_put (may_share n) t ss (holds_none n t e)) ∙ f) }

-- what may hold a share among all, where none goes at the number and none that stays may
none_among : (goes : Slot → Bool) (n : ℕ) (ss : List Slot) → some_of (goes_at goes n) ss ≡ false → some_of (may_share n) (but_those goes ss) ≡ false → some_of (may_share n) ss ≡ false
none_among goes n [] e f = refl
none_among goes n (s ∷ ss) e f = go (slot_numbered n s) (goes s) refl e f (none_among goes n ss)
  where
    go : (a b : Bool) → slot_numbered n s ≡ a → ((a && b) || some_of (goes_at goes n) ss) ≡ false → some_of (may_share n) (cond (not b) (s ∷ but_those goes ss) (but_those goes ss)) ≡ false
        → (some_of (goes_at goes n) ss ≡ false → some_of (may_share n) (but_those goes ss) ≡ false → some_of (may_share n) ss ≡ false)
        → ((a && not (is_reserved s)) || some_of (may_share n) ss) ≡ false
    go true true p g k more = absurd (false≢true (sym g))
    go true false p g k more =
        let head : (true && not (is_reserved s)) ≡ false = ap (λ a. a && not (is_reserved s)) (sym p) ∙ left_false (may_share n s) _ k in
        ap (λ b. b || some_of (may_share n) ss) head ∙ more g (right_false (may_share n s) _ k)
    go false true p g k more = more g k
    go false false p g k more = more g (right_false (may_share n s) _ k)

pub shared_less : (goes : Slot → Bool) (ss : List Slot) (h : Shares) → AreShared ss h → AreShared (but_those goes ss) (without_shares goes ss h)
shared_less goes ss h a = record { room = length_without goes ss h ∙ a.room; own = λ n f. go n (some_of (goes_at goes n) ss) refl f }
  where
    go : (n : ℕ) (b : Bool) → some_of (goes_at goes n) ss ≡ b → some_of (may_share n) (but_those goes ss) ≡ false → share_at (without_shares goes ss h) n ≡ None
    go n true e f = none_left goes ss h n e
    go n false e f = stays_at goes ss h n e ∙ a.own n (none_among goes n ss e f)

kept_none : (n k : ℕ) (ts : List Slot) → (k == n) ≡ false → some_of (may_share k) (but_those (slot_numbered n) ts) ≡ false → some_of (may_share k) ts ≡ false
kept_none n k [] e f = refl
kept_none n k (t ∷ ts) e f = at (slot_numbered n t) refl f (kept_none n k ts e)
  where
    at : (b : Bool) → slot_numbered n t ≡ b → some_of (may_share k) (cond (not b) (t ∷ but_those (slot_numbered n) ts) (but_those (slot_numbered n) ts)) ≡ false
        → (some_of (may_share k) (but_those (slot_numbered n) ts) ≡ false → some_of (may_share k) ts ≡ false)
        → some_of (may_share k) (t ∷ ts) ≡ false
    at true p g more =
        let out : slot_numbered k t ≡ false = grind (arith, nat_tests) in
        ap (λ b. (b && not (is_reserved t)) || some_of (may_share k) ts) out ∙ more g
    at false p g more = ap (λ b. b || some_of (may_share k) ts) (left_false (may_share k t) _ g) ∙ more (right_false (may_share k t) _ g)

-- without the slot of a number
pub shared_without : (n : ℕ) (ss : List Slot) (h : Shares) → AreShared ss h → AreShared (but_those (slot_numbered n) ss) (set h n None)
shared_without n ss h a = record { room = length-set h n None ∙ a.room; own = λ k f. go k (k == n) refl f }
  where
    go : (k : ℕ) (b : Bool) → (k == n) ≡ b → some_of (may_share k) (but_those (slot_numbered n) ss) ≡ false → share_at (set h n None) k ≡ None
    go k true e f = let same : k ≡ n = grind (arith, nat_tests) in ap (share_at (set h n None)) same ∙ none_put h n
    go k false e f = stays_none h n k (a.own k (kept_none n k ss e f))

-- a change of slots after which each may hold a share that might before
shared_map : (f : Slot → Slot) → ((k : ℕ) (s : Slot) → may_share k (f s) ≡ false → may_share k s ≡ false) → (ss : List Slot) (h : Shares) → AreShared ss h → AreShared (map f ss) h
shared_map f keeps ss h a = record { room = a.room; own = λ k e. a.own k (none k ss e) }
  where
    none : (k : ℕ) (ts : List Slot) → some_of (may_share k) (map f ts) ≡ false → some_of (may_share k) ts ≡ false
    none k [] e = refl
    none k (t ∷ ts) e = ap (λ b. b || some_of (may_share k) ts) (keeps k t (left_false (may_share k (f t)) _ e)) ∙ none k ts (right_false (may_share k (f t)) _ e)

-- a slot of a number that isn't reserved any more holds what it may
moves_on : (k : ℕ) (s t : Slot) → t.number ≡ s.number → is_reserved t ≡ false → may_share k t ≡ false → may_share k s ≡ false
moves_on k s t e r f = ap (λ b. b && not (is_reserved s)) out
  where
    keep : (b : Bool) → (b && true) ≡ b
    keep true = refl
    keep false = refl

    out : slot_numbered k s ≡ false
    out = ap (λ n. n == k) (sym e) ∙ sym (keep (slot_numbered k t)) ∙ ap (λ b. slot_numbered k t && not b) (sym r) ∙ f

free_of : (phase : Phase) (s : Slot) → phase ≢ Reserved → is_reserved (record s { phase = phase }) ≡ false
free_of Reserved s e = absurd (e refl)
free_of Queued s e = refl
free_of Peeked s e = refl
free_of Handed s e = refl
free_of Freed s e = refl

pub shared_phase : (phase : Phase) (n : ℕ) (ss : List Slot) (h : Shares) → phase ≢ Reserved → AreShared ss h → AreShared (map (in_phase phase n) ss) h
shared_phase phase n ss h e a = shared_map (in_phase phase n) keeps ss h a
  where
    keeps : (k : ℕ) (s : Slot) → may_share k (in_phase phase n s) ≡ false → may_share k s ≡ false
    keeps k s f = go (slot_numbered n s) f
      where
        go : (b : Bool) → may_share k (elim b [ true ↦ record s { phase = phase } | false ↦ s ]) ≡ false → may_share k s ≡ false
        go true g = moves_on k s (record s { phase = phase }) refl (free_of phase s e) g
        go false g = g

none_at : (k n : ℕ) → share_at (replicate k None) n ≡ None
none_at zero n = refl
none_at (suc k) zero = refl
none_at (suc k) (suc n) = none_at k n

-- no slots, and no shares
pub shared_none : AreShared [] (replicate SLICES None)
shared_none = record { room = length-replicate {A = Option (List ℕ)} SLICES None; own = λ n e. none_at SLICES n }

pub apart_none : AreApart []
unfolding IsDistinct
apart_none = tt

queued_there : (n : ℕ) (priority : ℤ) (arrival : ℕ) (t : Slot) (ts : List Slot) → find (slot_numbered n) ts ≡ Some t → some_of (may_share n) (map (now_queued n priority arrival) ts) ≡ true
queued_there n priority arrival t [] e = absurd cc
queued_there n priority arrival t (s ∷ ts) e = at (slot_numbered n s) refl e (queued_there n priority arrival t ts)
  where
    rest : List Slot
    rest = map (now_queued n priority arrival) ts

    at : (b : Bool) → slot_numbered n s ≡ b → cond b (Some s) (find (slot_numbered n) ts) ≡ Some t → (find (slot_numbered n) ts ≡ Some t → some_of (may_share n) rest ≡ true)
        → (may_share n (elim b [ true ↦ queued_slot priority arrival s | false ↦ s ]) || some_of (may_share n) rest) ≡ true
    at true p g more = ap (λ b. (b && true) || some_of (may_share n) rest) p
    at false p g more = ap (λ b. (b && not (is_reserved s)) || some_of (may_share n) rest) p ∙ more g

-- the slot of the number is queued with its share
pub shared_queued : (n : ℕ) (priority : ℤ) (arrival : ℕ) (ss : List Slot) (t : Slot) (h : Shares) (x : Option (List ℕ)) → find (slot_numbered n) ss ≡ Some t → AreShared ss h → AreShared (map (now_queued n priority arrival) ss) (set h n x)
shared_queued n priority arrival ss t h x found a = record { room = length-set h n x ∙ a.room; own = λ k e. go k (k == n) refl e }
  where
    f : Slot → Slot
    f = now_queued n priority arrival

    keeps : (k : ℕ) (s : Slot) → may_share k (f s) ≡ false → may_share k s ≡ false
    keeps k s e = at (slot_numbered n s) e
      where
        at : (b : Bool) → may_share k (elim b [ true ↦ queued_slot priority arrival s | false ↦ s ]) ≡ false → may_share k s ≡ false
        at true g = moves_on k s (queued_slot priority arrival s) refl refl g
        at false g = g

    go : (k : ℕ) (b : Bool) → (k == n) ≡ b → some_of (may_share k) (map f ss) ≡ false → share_at (set h n x) k ≡ None
    go k true e g =
        let same : k ≡ n = grind (arith, nat_tests) in
        let none : some_of (may_share n) (map f ss) ≡ false = rw same at g in
        absurd (false≢true (sym none ∙ queued_there n priority arrival t ss found))
    go k false e g =
        let apart : k ≡ n → ⊥ = λ same. let t : (k == n) ≡ true = grind (arith, nat_tests) in false≢true (sym e ∙ t) in
        elsewhere h n k x apart ∙ (shared_map f keeps ss h a).own k g

-- ---- what is seen of them

-- a slot of a number that no other has holds none
pub none_new : (n : ℕ) (ss : List Slot) (h : Shares) → AllByRecursion (λ (s : Slot). slot_numbered n s ≡ false) ss → AreShared ss h → share_at h n ≡ None
none_new n ss h free a = a.own n (none ss free)
  where
    none : (ts : List Slot) → AllByRecursion (λ (s : Slot). slot_numbered n s ≡ false) ts → some_of (may_share n) ts ≡ false
    none [] f = refl
    none (t ∷ ts) f = ap (λ b. (b && not (is_reserved t)) || some_of (may_share n) ts) f.0 ∙ none ts f.1

-- slots of which each has the same share are seen alike
pub seen_alike : (m : List ℕ) (h k : Shares) (ss : List Slot) → AllByRecursion (λ (s : Slot). share_at k s.number ≡ share_at h s.number) ss → map (slice_shown m k) ss ≡ map (slice_shown m h) ss
seen_alike m h k [] a = refl
seen_alike m h k (s ∷ ss) a = ap (λ x. record { slot = s; bytes = (slice_shown m h s).bytes; shared = x } ∷ map (slice_shown m k) ss) a.0 ∙ ap (λ xs. slice_shown m h s ∷ xs) (seen_alike m h k ss a.1)

pub carried_alike : (m : List ℕ) (h k : Shares) (ss : List Slot) → AllByRecursion (λ (s : Slot). share_at k s.number ≡ share_at h s.number) ss → map (carried m k) ss ≡ map (carried m h) ss
carried_alike m h k [] a = refl
carried_alike m h k (s ∷ ss) a = one ∙ ap (λ xs. carried m h s ∷ xs) (carried_alike m h k ss a.1)
  where
    one : carried m k s ∷ map (carried m k) ss ≡ carried m h s ∷ map (carried m k) ss
    one = ap (λ x. image_with m x s ∷ map (carried m k) ss) a.0

-- no slot that goes has the number of one that doesn't, where all have numbers of their own
others_at : (goes : Slot → Bool) (s : Slot) (ss : List Slot) → AllByRecursion (λ (x : Slot). (s.number == x.number) ≡ false) ss → some_of (goes_at goes s.number) ss ≡ false
others_at goes s [] a = refl
others_at goes s (x ∷ xs) a =
    let out : slot_numbered s.number x ≡ false = grind (arith, nat_tests) in
    ap (λ b. (b && goes x) || some_of (goes_at goes s.number) xs) out ∙ others_at goes s xs a.1

-- each that stays has the share that it had
each_stays : (goes : Slot → Bool) (ss : List Slot) (h : Shares) → AreApart ss → AllByRecursion (λ (s : Slot). share_at (without_shares goes ss h) s.number ≡ share_at h s.number) (but_those goes ss)
unfolding IsDistinct
each_stays goes [] h d = tt
each_stays goes (s ∷ ss) h d = go (goes s) refl (λ k. each_stays goes ss k d.1)
  where
    P : Shares → Slot → Type 0
    P k x = share_at k x.number ≡ share_at h x.number

    apart : (x : Slot) → (s.number == x.number) ≡ false → x.number ≡ s.number → ⊥
    apart x e same = let t : (s.number == x.number) ≡ true = grind (arith, nat_tests) in false≢true (sym e ∙ t)

    filtered : AllByRecursion (λ (x : Slot). (s.number == x.number) ≡ false) (but_those goes ss)
    filtered = all_of_filter _ (λ x. not (goes x)) ss d.0

    go : (b : Bool) → goes s ≡ b → ((k : Shares) → AllByRecursion (λ (x : Slot). share_at (without_shares goes ss k) x.number ≡ share_at k x.number) (but_those goes ss))
        → AllByRecursion (P (without_shares goes ss (without_share b s.number h))) (cond (not b) (s ∷ but_those goes ss) (but_those goes ss))
    go true e more = all_both _ _ (P (without_shares goes ss (set h s.number None))) (but_those goes ss) (λ (x : Slot) p q. p ∙ elsewhere h s.number x.number None (apart x q)) (more (set h s.number None)) filtered
    go false e more = (stays_at goes ss h s.number (others_at goes s ss d.0), more h)

pub seen_less : (m : List ℕ) (goes : Slot → Bool) (ss : List Slot) (h : Shares) → AreApart ss → map (slice_shown m (without_shares goes ss h)) (but_those goes ss) ≡ map (slice_shown m h) (but_those goes ss)
seen_less m goes ss h d = seen_alike m h (without_shares goes ss h) (but_those goes ss) (each_stays goes ss h d)

each_without : (n : ℕ) (h : Shares) (ts : List Slot) → AllByRecursion (λ (s : Slot). share_at (set h n None) s.number ≡ share_at h s.number) (but_those (slot_numbered n) ts)
each_without n h [] = tt
each_without n h (t ∷ ts) = go (slot_numbered n t) refl (each_without n h ts)
  where
    P : Slot → Type 0
    P s = share_at (set h n None) s.number ≡ share_at h s.number

    go : (b : Bool) → slot_numbered n t ≡ b → AllByRecursion P (but_those (slot_numbered n) ts) → AllByRecursion P (cond (not b) (t ∷ but_those (slot_numbered n) ts) (but_those (slot_numbered n) ts))
    go true e more = more
    go false e more = (other_share h n t None e, more)

-- all but the slot of a number have theirs
pub seen_without : (m : List ℕ) (n : ℕ) (ss : List Slot) (h : Shares) → map (slice_shown m (set h n None)) (but_those (slot_numbered n) ss) ≡ map (slice_shown m h) (but_those (slot_numbered n) ss)
seen_without m n ss h = seen_alike m h (set h n None) (but_those (slot_numbered n) ss) (each_without n h ss)

-- a slot without a share is put into the table
pub seen_put : (m : List ℕ) (h : Shares) (ss : List Slot) (t : Slot) → share_at h t.number ≡ None → map (slice_shown m h) (put_in_order lies_lower t ss) ≡ put_in_order stands_lower (slice_with m None t) (map (slice_shown m h) ss)
seen_put m h ss t e =
    map_of_put (slice_shown m h) lies_lower stands_lower (λ a b. refl) t ss ∙ ap (λ x. put_in_order stands_lower (slice_with m x t) (map (slice_shown m h) ss)) e

-- ---- slot by slot

-- one more slot
pub ends_on : (goes : Slot → Bool) (ss : List Slot) (i : ℕ) (s : Slot) (h after : Shares) → i < length ss → s ≡ get_or ss i s → after ≡ without_share (goes s) s.number h → without_shares goes (drop (i + 1) ss) after ≡ without_shares goes (drop i ss) h
ends_on goes ss i s h after low e f = ap (without_shares goes (drop (i + 1) ss)) f ∙ ap (λ xs. without_shares goes xs h) (sym (rest_at ss i s low e))

pub moved_on : (goes : Slot → Bool) (ss : List Slot) (i : ℕ) (s : Slot) (from to left there : Shares) → i < length ss → s ≡ get_or ss i s → left ≡ without_share (goes s) s.number from → there ≡ with_moved (goes s) s.number from to → with_all_moved goes (drop (i + 1) ss) left there ≡ with_all_moved goes (drop i ss) from to
moved_on goes ss i s from to left there low e f g =
    ap (λ h. with_all_moved goes (drop (i + 1) ss) h there) f ∙ ap (with_all_moved goes (drop (i + 1) ss) (without_share (goes s) s.number from)) g ∙ ap (λ xs. with_all_moved goes xs from to) (sym (rest_at ss i s low e))

-- ---- moving

pub length_moved : (goes : Slot → Bool) (ss : List Slot) (from to : Shares) → length (with_all_moved goes ss from to) ≡ length to
length_moved goes [] from to = refl
length_moved goes (s ∷ ss) from to = length_moved goes ss (without_share (goes s) s.number from) (with_moved (goes s) s.number from to) ∙ one (goes s)
  where
    one : (b : Bool) → length (with_moved b s.number from to) ≡ length to
    one true = length-set to s.number (share_at from s.number)
    one false = refl

-- where no slot has the number, nothing is moved
moved_elsewhere : (goes : Slot → Bool) (ss : List Slot) (from to : Shares) (n : ℕ) → AllByRecursion (λ (x : Slot). (n == x.number) ≡ false) ss → share_at (with_all_moved goes ss from to) n ≡ share_at to n
moved_elsewhere goes [] from to n a = refl
moved_elsewhere goes (s ∷ ss) from to n a = moved_elsewhere goes ss (without_share (goes s) s.number from) (with_moved (goes s) s.number from to) n a.1 ∙ one (goes s)
  where
    one : (b : Bool) → share_at (with_moved b s.number from to) n ≡ share_at to n
    one true = elsewhere to s.number n (share_at from s.number) (λ same. let t : (n == s.number) ≡ true = grind (arith, nat_tests) in false≢true (sym a.0 ∙ t))
    one false = refl

length_one : (b : Bool) (n : ℕ) (from to : Shares) → length (with_moved b n from to) ≡ length to
length_one true n from to = length-set to n (share_at from n)
length_one false n from to = refl

-- each that goes has its share there
moved_each : (goes : Slot → Bool) (ss : List Slot) (from to : Shares) → AreApart ss → AllByRecursion (λ (s : Slot). s.number < length to) ss → AllByRecursion (λ (s : Slot). goes s ≡ true → share_at (with_all_moved goes ss from to) s.number ≡ share_at from s.number) ss
unfolding IsDistinct
moved_each goes [] from to d low = tt
moved_each goes (s ∷ ss) from to d low =
    let lows = all_follow _ _ ss (λ (x : Slot) l. omega (arith, l, length_one (goes s) s.number from to)) low.1 in
    let rest = moved_each goes ss (without_share (goes s) s.number from) (with_moved (goes s) s.number from to) d.1 lows in
    (λ e. head e, all_both _ _ _ ss (λ (x : Slot) p q e. q e ∙ stays x (goes s) p) d.0 rest)
  where
    stays : (x : Slot) (b : Bool) → (s.number == x.number) ≡ false → share_at (without_share b s.number from) x.number ≡ share_at from x.number
    stays x true p = elsewhere from s.number x.number None (λ same. let t : (s.number == x.number) ≡ true = grind (arith, nat_tests) in false≢true (sym p ∙ t))
    stays x false p = refl

    head : goes s ≡ true → share_at (with_all_moved goes (s ∷ ss) from to) s.number ≡ share_at from s.number
    head e =
        moved_elsewhere goes ss (without_share (goes s) s.number from) (with_moved (goes s) s.number from to) s.number d.0
        ∙ ap (λ b. share_at (with_moved b s.number from to) s.number) e ∙ get_or-set_same to s.number (share_at from s.number) None low.0

-- the messages that wait take their shares along
pub moved_waiting : (m : List ℕ) (ss : List Slot) (from to : Shares) → AreApart ss → AllByRecursion (λ (s : Slot). s.number < length to) ss → map (carried m (with_all_moved is_waiting ss from to)) (waiting_slots ss) ≡ map (carried m from) (waiting_slots ss)
moved_waiting m ss from to d low =
    carried_alike m from (with_all_moved is_waiting ss from to) (waiting_slots ss)
    (all_both _ _ _ (waiting_slots ss) (λ (s : Slot) e f. f e) (all_wait ss) (all_of_waiting _ ss (moved_each is_waiting ss from to d low)))

-- ---- the order of arrival

-- what waits has numbers of its own
pub waiting_apart : (ss : List Slot) → AreApart ss → AreApart (waiting_slots ss)
unfolding IsDistinct
waiting_apart ss d = ordered (those is_waiting ss) (distinct_of_filter _ is_waiting ss d)
  where
    all_ordered : (P : Slot → Type 0) (ts : List Slot) → AllByRecursion P ts → AllByRecursion P (in_order is_earlier ts)
    all_ordered P [] a = tt
    all_ordered P (t ∷ ts) a = all_of_put P is_earlier t (in_order is_earlier ts) a.0 (all_ordered P ts a.1)

    ordered : (ts : List Slot) → AreApart ts → AreApart (in_order is_earlier ts)
    ordered [] a = tt
    ordered (t ∷ ts) a =
        let out = all_ordered (λ (x : Slot). (t.number == x.number) ≡ false) ts a.0 in
        distinct_of_put _ is_earlier t (in_order is_earlier ts) out (all_follow _ _ (in_order is_earlier ts) (λ (x : Slot) e. grind (arith, nat_tests)) out) (ordered ts a.1)

pub apart_of_drop : (i : ℕ) (ss : List Slot) → AreApart ss → AreApart (drop i ss)
unfolding IsDistinct
apart_of_drop zero ss d = d
apart_of_drop (suc i) [] d = tt
apart_of_drop (suc i) (s ∷ ss) d = apart_of_drop i ss d.1

-- without the share of a slot, all behind it carry theirs
pub carried_behind : (m : List ℕ) (h after : Shares) (rows : List Slot) (i : ℕ) (s : Slot) → i < length rows → s ≡ get_or rows i s → AreApart rows → after ≡ set h s.number None → map (carried m after) (drop (i + 1) rows) ≡ map (carried m h) (drop (i + 1) rows)
unfolding IsDistinct
carried_behind m h after rows i s low e d f =
    let here : AreApart (s ∷ drop (i + 1) rows) = rw (rest_at rows i s low e) at (apart_of_drop i rows d) in
    ap (λ k. map (carried m k) (drop (i + 1) rows)) f ∙ carried_alike m h (set h s.number None) (drop (i + 1) rows) (all_follow _ _ (drop (i + 1) rows) (λ (x : Slot) p. elsewhere h s.number x.number None (apart x p)) here.0)
  where
    apart : (x : Slot) → (s.number == x.number) ≡ false → x.number ≡ s.number → ⊥
    apart x p same = let t : (s.number == x.number) ≡ true = grind (arith, nat_tests) in false≢true (sym p ∙ t)
