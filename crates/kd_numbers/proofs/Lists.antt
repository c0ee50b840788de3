-- Numbers along lists of acts.
use Rattle.std.specs.Prelude.{◌≡◌, ◌≢◌, ℕ, Bool, true, false, [], ◌∷◌, Option, Some, None, refl}
use Rattle.std.proofs.Common.{ap, inl, inr, sym, ◌∙◌, eq-eqb}
use Rattle.std.proofs.lemmas.Bool.{false≢true}
use Rattle.kd_acts.specs.declared.receive.RecvMode.{RecvMode}
use Rattle.kd_acts.specs.declared.slot.Phase.{Phase}
use Rattle.kd_acts.specs.declared.slot.Phase.TheVariants.{Reserved, Queued, Peeked, Handed, Freed}
use Rattle.kd_acts.specs.State.{Act, by_desk, close, drain, free, idle, offer, post, publish, raise, read, receive, settle}
use Rattle.kd_acts.specs.Steps.{after}
use Rattle.kd_acts.proofs.Lasting.{numbers_stay}
use Rattle.kd_numbers.specs.Lists.{FreedByFrees, FreedStays, HandedByReceives, HandedStays, acted, ends_handing, is_receive, may_sweep}
use Rattle.kd_numbers.specs.Ways.{GoesOn, is_begun, is_spent, phase_in, taken_by, waits}
use Rattle.kd_numbers.proofs.Goes.{numbers_go_one_way}

-- ---- what is begun is neither handed nor freed

not_begun_handed : (now : Option Phase) → is_begun now ≡ true → now ≡ Some Handed → ⊥
not_begun_handed now b e = false≢true (sym (ap is_begun e) ∙ b)

not_begun_freed : (now : Option Phase) → is_begun now ≡ true → now ≡ Some Freed → ⊥
not_begun_freed now b e = false≢true (sym (ap is_begun e) ∙ b)

taken_not_freed : (mode : RecvMode) → taken_by mode ≡ Some Freed → ⊥
taken_not_freed mode e = go mode.drop_it mode.peek e
  where
    go : (drops peeks : Bool) → elim drops [ true ↦ None | false ↦ Some (elim peeks [ true ↦ Peeked | false ↦ Handed ]) ] ≡ Some Freed → ⊥
    go true peeks e = cc
    go false true e = cc
    go false false e = cc

-- ---- one act

module _ (n : ℕ) (was now : Option Phase) where
  handed_by : (a : Act) → GoesOn a n was now → was ≢ Some Handed → now ≡ Some Handed → (is_receive a ≡ true) × (waits was ≡ true)
  handed_by (by_desk (offer user len source must content)) (inl s) never e = absurd (never (sym s ∙ e))
  handed_by (by_desk (offer user len source must content)) (inr x) never e = absurd (not_begun_handed now x.1 e)
  handed_by (by_desk (post image)) (inl s) never e = absurd (never (sym s ∙ e))
  handed_by (by_desk (post image)) (inr x) never e = absurd (not_begun_handed now x.1 e)
  handed_by (by_desk (settle images)) (inl s) never e = absurd (never (sym s ∙ e))
  handed_by (by_desk (settle images)) (inr x) never e = absurd (not_begun_handed now x.1 e)
  handed_by (by_desk drain) (inl s) never e = absurd (never (sym s ∙ e))
  handed_by (by_desk drain) (inr x) never e = absurd (let f : None ≡ Some Handed = sym x.1 ∙ e in cc)
  handed_by (by_desk (raise size)) s never e = absurd (let f : None ≡ Some Handed = sym s ∙ e in cc)
  handed_by (by_desk (close force)) (inl s) never e = absurd (never (sym s ∙ e))
  handed_by (by_desk (close force)) (inr s) never e = absurd (let f : None ≡ Some Handed = sym s ∙ e in cc)
  handed_by (publish generation m content) (inl s) never e = absurd (never (sym s ∙ e))
  handed_by (publish generation m content) (inr x) never e = absurd (let f : Some Queued ≡ Some Handed = sym x.2 ∙ e in cc)
  handed_by (receive mode) (inl s) never e = absurd (never (sym s ∙ e))
  handed_by (receive mode) (inr x) never e = (refl, x.0)
  handed_by (read m sealed) s never e = absurd (never (sym s ∙ e))
  handed_by (free m) (inl s) never e = absurd (never (sym s ∙ e))
  handed_by (free m) (inr x) never e = absurd (let f : Some Freed ≡ Some Handed = sym x.2 ∙ e in cc)
  handed_by idle s never e = absurd (never (sym s ∙ e))

  freed_by : (a : Act) → GoesOn a n was now → was ≢ Some Freed → now ≡ Some Freed → (a ≡ free n) × (was ≡ Some Handed)
  freed_by (by_desk (offer user len source must content)) (inl s) never e = absurd (never (sym s ∙ e))
  freed_by (by_desk (offer user len source must content)) (inr x) never e = absurd (not_begun_freed now x.1 e)
  freed_by (by_desk (post image)) (inl s) never e = absurd (never (sym s ∙ e))
  freed_by (by_desk (post image)) (inr x) never e = absurd (not_begun_freed now x.1 e)
  freed_by (by_desk (settle images)) (inl s) never e = absurd (never (sym s ∙ e))
  freed_by (by_desk (settle images)) (inr x) never e = absurd (not_begun_freed now x.1 e)
  freed_by (by_desk drain) (inl s) never e = absurd (never (sym s ∙ e))
  freed_by (by_desk drain) (inr x) never e = absurd (let f : None ≡ Some Freed = sym x.1 ∙ e in cc)
  freed_by (by_desk (raise size)) s never e = absurd (let f : None ≡ Some Freed = sym s ∙ e in cc)
  freed_by (by_desk (close force)) (inl s) never e = absurd (never (sym s ∙ e))
  freed_by (by_desk (close force)) (inr s) never e = absurd (let f : None ≡ Some Freed = sym s ∙ e in cc)
  freed_by (publish generation m content) (inl s) never e = absurd (never (sym s ∙ e))
  freed_by (publish generation m content) (inr x) never e = absurd (let f : Some Queued ≡ Some Freed = sym x.2 ∙ e in cc)
  freed_by (receive mode) (inl s) never e = absurd (never (sym s ∙ e))
  freed_by (receive mode) (inr x) never e = absurd (taken_not_freed mode (sym x.1 ∙ e))
  freed_by (read m sealed) s never e = absurd (never (sym s ∙ e))
  freed_by (free m) (inl s) never e = absurd (never (sym s ∙ e))
  freed_by (free m) (inr x) never e = (ap free x.0, x.1)
  freed_by idle s never e = absurd (never (sym s ∙ e))

  -- what is handed is neither spent nor waits
  handed_on : (a : Act) → GoesOn a n was now → ends_handing n a ≡ false → was ≡ Some Handed → now ≡ Some Handed
  handed_on (by_desk (offer user len source must content)) (inl s) t e = s ∙ e
  handed_on (by_desk (offer user len source must content)) (inr x) t e = absurd (false≢true (sym (ap is_spent e) ∙ x.0))
  handed_on (by_desk (post image)) (inl s) t e = s ∙ e
  handed_on (by_desk (post image)) (inr x) t e = absurd (false≢true (sym (ap is_spent e) ∙ x.0))
  handed_on (by_desk (settle images)) (inl s) t e = s ∙ e
  handed_on (by_desk (settle images)) (inr x) t e = absurd (false≢true (sym (ap is_spent e) ∙ x.0))
  handed_on (by_desk drain) (inl s) t e = s ∙ e
  handed_on (by_desk drain) (inr x) t e = absurd (false≢true (sym (ap waits e) ∙ x.0))
  handed_on (by_desk (raise size)) s t e = absurd (false≢true (sym t))
  handed_on (by_desk (close force)) s t e = absurd (false≢true (sym t))
  handed_on (publish generation m content) (inl s) t e = s ∙ e
  handed_on (publish generation m content) (inr x) t e = absurd (let f : Some Reserved ≡ Some Handed = sym x.1 ∙ e in cc)
  handed_on (receive mode) (inl s) t e = s ∙ e
  handed_on (receive mode) (inr x) t e = absurd (false≢true (sym (ap waits e) ∙ x.0))
  handed_on (read m sealed) s t e = s ∙ e
  handed_on (free m) (inl s) t e = s ∙ e
  handed_on (free m) (inr x) t e = absurd (false≢true (sym t ∙ eq-eqb m n x.0))
  handed_on idle s t e = s ∙ e

  freed_on : (a : Act) → GoesOn a n was now → may_sweep a ≡ false → was ≡ Some Freed → now ≡ Some Freed
  freed_on (by_desk (offer user len source must content)) s t e = absurd (false≢true (sym t))
  freed_on (by_desk (post image)) s t e = absurd (false≢true (sym t))
  freed_on (by_desk (settle images)) s t e = absurd (false≢true (sym t))
  freed_on (by_desk drain) (inl s) t e = s ∙ e
  freed_on (by_desk drain) (inr x) t e = absurd (false≢true (sym (ap waits e) ∙ x.0))
  freed_on (by_desk (raise size)) s t e = absurd (false≢true (sym t))
  freed_on (by_desk (close force)) s t e = absurd (false≢true (sym t))
  freed_on (publish generation m content) (inl s) t e = s ∙ e
  freed_on (publish generation m content) (inr x) t e = absurd (let f : Some Reserved ≡ Some Freed = sym x.1 ∙ e in cc)
  freed_on (receive mode) (inl s) t e = s ∙ e
  freed_on (receive mode) (inr x) t e = absurd (false≢true (sym (ap waits e) ∙ x.0))
  freed_on (read m sealed) s t e = s ∙ e
  freed_on (free m) (inl s) t e = s ∙ e
  freed_on (free m) (inr x) t e = absurd (let f : Some Handed ≡ Some Freed = sym x.1 ∙ e in cc)
  freed_on idle s t e = s ∙ e

pub handed_by_receives : HandedByReceives
handed_by_receives h a n d never e = handed_by n (phase_in n h) (phase_in n (after h a)) a (numbers_go_one_way h a n d) never e

pub freed_by_frees : FreedByFrees
freed_by_frees h a n d never e = freed_by n (phase_in n h) (phase_in n (after h a)) a (numbers_go_one_way h a n d) never e

-- ---- any number of them

pub handed_stays : HandedStays
unfolding acted
handed_stays h [] n d e none = e
handed_stays h (a ∷ acts) n d e none =
    handed_stays (after h a) acts n (numbers_stay h a d) (handed_on n (phase_in n h) (phase_in n (after h a)) a (numbers_go_one_way h a n d) none.0 e) none.1

pub freed_stays : FreedStays
unfolding acted
freed_stays h [] n d e none = e
freed_stays h (a ∷ acts) n d e none =
    freed_stays (after h a) acts n (numbers_stay h a d) (freed_on n (phase_in n h) (phase_in n (after h a)) a (numbers_go_one_way h a n d) none.0 e) none.1
