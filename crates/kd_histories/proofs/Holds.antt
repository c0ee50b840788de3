-- A pool along its list: whether it is open, and which of its slices are received and not freed.
use Rattle.std.specs.Prelude.{◌≡◌, ℕ, ◌==◌, ◌&&◌, ◌||◌, Bool, true, false, not, List, [], ◌∷◌, Option, Some, None, is_some, refl}
use Rattle.std.proofs.Common.{sym, ap, ◌∙◌, arith, inl}
use Rattle.std.proofs.lemmas.Bool.{true≢false}
use Rattle.kd_model.specs.Words.{contains}
use Rattle.kd_acts.specs.declared.receive.RecvMode.{RecvMode}
use Rattle.kd_acts.specs.State.{Act, Answer, Hold, Pool, by_desk, publish, receive, read, free, idle as idle_act, got}
use Rattle.kd_acts.specs.Steps.{after, answer, pool_step, closed_answer}
use Rattle.kd_acts.specs.Lasting.{AreNumbered, is_open, open_after, is_handed_in, handed_after}
use Rattle.kd_acts.proofs.Lasting.{open_follows, numbers_stay}
use Rattle.kd_acts.proofs.Handed.{handed_follows}
use Rattle.kd_commands.proofs.Members.{turned}
use Rattle.kd_world.specs.State.{closed_pool}
use Rattle.kd_histories.specs.Turns.{Turn, left, started, removed, did, idle}
use Rattle.kd_histories.specs.Visits.{visit_made, made_by_turn, visits_made}
use Rattle.kd_histories.specs.Pools.{IsAnswered, hold_freed, hold_met, hold_after, hold_from, hold_of, IsDoneTurn, AreDone}
use Rattle.kd_histories.specs.Known.{open_by}
use Rattle.kd_histories.proofs.Snocs.{open_append}

-- ---- after the marked numbers are freed

pub freed_open : (ns : List ℕ) (h : Hold) → is_open (hold_freed ns h) ≡ is_open h
unfolding hold_freed
freed_open [] h = refl
freed_open (n ∷ ns) h = freed_open ns (after h (free n)) ∙ open_follows h (free n)

pub freed_numbered : (ns : List ℕ) (h : Hold) → AreNumbered h.pool → AreNumbered (hold_freed ns h).pool
unfolding hold_freed
freed_numbered [] h d = d
freed_numbered (n ∷ ns) h d = freed_numbered ns (after h (free n)) (numbers_stay h (free n) d)

pub freed_handed : (ns : List ℕ) (h : Hold) (n : ℕ) → AreNumbered h.pool → is_handed_in n (hold_freed ns h) ≡ (not (contains n ns) && is_handed_in n h)
unfolding hold_freed
freed_handed [] h n d = refl
freed_handed (m ∷ ns) h n d =
    freed_handed ns (after h (free m)) n (numbers_stay h (free m) d)
    ∙ (ap (λ b. not (contains n ns) && b) (handed_follows h (free m) n d) ∙ both (m == n) (n == m) (contains n ns) (is_handed_in n h) (turned m n))
  where
    both : (a a' b c : Bool) → a ≡ a' → (not b && (not a && c)) ≡ (not (a' || b) && c)
    both a a' b c e = grind arith

-- ---- what its answers tell

-- whether a pool is open, and what is handed, follows from what an act is answered as from what its
-- pool answers
pub answered_open : (h : Hold) (a : Act) (o : Answer) (b : Bool) → IsAnswered h a o → open_after a (answer h a) b ≡ open_after a o b
answered_open h (by_desk v) o b is = ap (λ x. open_after (by_desk v) x b) (sym is)
answered_open h (publish generation n c) o b is = refl
answered_open h (receive mode) o b is = refl
answered_open h (read n wants) o b is = refl
answered_open h (free n) o b is = refl
answered_open h idle_act o b is = refl

pub answered_handed : (h : Hold) (a : Act) (o : Answer) (n : ℕ) (b : Bool) → IsAnswered h a o → handed_after a (answer h a) n b ≡ handed_after a o n b
answered_handed h (by_desk v) o n b is = ap (λ x. handed_after (by_desk v) x n b) (sym is)
answered_handed h (publish generation m c) o n b is = refl
answered_handed h (receive mode) o n b is = ap (λ x. handed_after (receive mode) x n b) (sym is)
answered_handed h (read m wants) o n b is = refl
answered_handed h (free m) o n b is = refl
answered_handed h idle_act o n b is = refl

-- the pool's answer is one
pub is_answered : (h : Hold) (a : Act) (o : Answer) → o ≡ answer h a → IsAnswered h a o
is_answered h (by_desk v) o e = e
is_answered h (publish generation n c) o e = e
is_answered h (receive mode) o e = e
is_answered h (read n wants) o e = inl e
is_answered h (free n) o e = e
is_answered h idle_act o e = e

-- ---- along the list

pub numbered_after : (t : Turn) (h : Hold) → AreNumbered h.pool → AreNumbered (hold_after t h).pool
unfolding hold_after
numbered_after (left l) h d = d
numbered_after (started b) h d = d
numbered_after (removed g) h d = d
numbered_after (did e) h d = numbers_stay (hold_met e h) e.act (freed_numbered e.freed h d)
numbered_after idle h d = d

pub numbered_from : (h : Hold) (xs : List (ℕ × Turn)) → AreNumbered h.pool → AreNumbered (hold_from h xs).pool
unfolding hold_from
numbered_from h [] d = d
numbered_from h (x ∷ xs) d = numbered_from (hold_after x.1 h) xs (numbered_after x.1 h d)

pub numbered : (xs : List (ℕ × Turn)) → AreNumbered (hold_of xs).pool
numbered xs = numbered_from closed_pool xs tt

-- an entry that is true opens and closes its pool as what it made does
opens_visit : (a : Act) (o : Answer) (b : Bool) → open_after a o b ≡ open_by (visit_made a o) b
unfolding visit_made open_by
opens_visit (by_desk v) o b = refl
opens_visit (publish generation n c) o b = refl
opens_visit (receive mode) o b = refl
opens_visit (read n wants) o b = refl
opens_visit (free n) o b = refl
opens_visit idle_act o b = refl

open_by_one : (t : Turn) (h : Hold) → IsDoneTurn h t → is_open (hold_after t h) ≡ open_by (made_by_turn t) (is_open h)
unfolding hold_after made_by_turn IsDoneTurn open_by
open_by_one (left l) h is = refl
open_by_one (started b) h is = refl
open_by_one (removed g) h is = refl
open_by_one (did d) h is =
    open_follows (hold_met d h) d.act
    ∙ (answered_open (hold_met d h) d.act d.answer (is_open (hold_met d h)) is.answer
    ∙ (ap (open_after d.act d.answer) (freed_open d.freed h) ∙ opens_visit d.act d.answer (is_open h)))
open_by_one idle h is = refl

pub open_along : (h : Hold) (xs : List (ℕ × Turn)) → AreDone h xs → is_open (hold_from h xs) ≡ open_by (visits_made xs) (is_open h)
unfolding hold_from visits_made AreDone open_by
open_along h [] all = refl
open_along h (x ∷ xs) all =
    open_along (hold_after x.1 h) xs all.1
    ∙ (ap (open_by (visits_made xs)) (open_by_one x.1 h all.0) ∙ sym (open_append (made_by_turn x.1) (visits_made xs) (is_open h)))

-- ---- closed pools

-- a closed pool has nothing handed
pub closed_none : (h : Hold) (n : ℕ) → is_open h ≡ false → is_handed_in n h ≡ false
closed_none h n e = go h.pool e
  where
    go : (o : Option Pool) → is_some o ≡ false → is_handed_in n (record { generation = h.generation; pool = o }) ≡ false
    go None e = refl
    go (Some p) e = absurd (true≢false e)

-- and tells no message
pub told_open : (h : Hold) (mode : RecvMode) (m offset len dropped : ℕ) → answer h (receive mode) ≡ got m offset len dropped → is_open h ≡ true
unfolding pool_step closed_answer
told_open h mode m offset len dropped e = go h.pool e
  where
    go : (o : Option Pool) → answer (record { generation = h.generation; pool = o }) (receive mode) ≡ got m offset len dropped → is_some o ≡ true
    go None e = absurd cc
    go (Some p) e = refl
