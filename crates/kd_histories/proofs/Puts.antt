-- What each put on a pool owes.
use Rattle.std.specs.Prelude.{◌≡◌, ◌<◌, ◌/◌, ℕ, suc, ◌==◌, ◌&&◌, ◌||◌, Bool, true, false, not, cond, List, [], ◌∷◌, ◌++◌, Some, None, option_map, nat_lt, refl}
use Rattle.std.proofs.Common.{sym, ap, ◌∙◌, subst, eqb-true, arith}
use Rattle.std.proofs.lemmas.Bool.{ltb-true, and_parts}
use Rattle.kd_model.specs.Words.{contains}
use Rattle.kd_acts.specs.declared.receive.RecvMode.{RecvMode}
use Rattle.kd_acts.specs.State.{Answer, Hold, Visit, by_desk, close, drain, offer, post, raise, settle, publish, receive, done, drained, freed, gone, got, placed, refused, slice, bytes_of}
use Rattle.kd_acts.specs.Steps.{after, answer}
use Rattle.kd_acts.specs.Lasting.{is_open, open_after, is_handed_in, handed_after, hands_over, is_let_be}
use Rattle.kd_acts.proofs.Lasting.{open_follows}
use Rattle.kd_acts.proofs.Handed.{handed_follows, receives_waiting}
use Rattle.kd_hands.specs.declared.views.View.{View}
use Rattle.kd_hands.specs.Views.{part}
use Rattle.kd_hands.specs.Lists.{has_mark, is_marked, was_swept, is_word_of}
use Rattle.kd_hands.specs.Locks.{Locks, Handed, hands_after}
use Rattle.kd_hands.specs.Fits.{Fits}
use Rattle.kd_hands.specs.Settles.{Settles}
use Rattle.kd_hands.proofs.Places.{not_both, is_at_some, is_at_not}
use Rattle.kd_hands.proofs.Hands.{settled}
use Rattle.kd_histories.specs.Turns.{Did, Turn, did, idle}
use Rattle.kd_histories.specs.Visits.{visit_made, made_by_turn}
use Rattle.kd_histories.specs.Seats.{Sitter, keeper, sitter}
use Rattle.kd_histories.specs.Pools.{act_sweeps, hold_freed, hold_met, hold_after, hold_of, IsDone, IsDoneTurn, IsAnswered}
use Rattle.kd_histories.specs.Pairs.{due, IsPaired, IsPairedAct}
use Rattle.kd_histories.specs.Lent.{lends, out, hand_by, hand_by_act, hand_after, hand_received, empties}
use Rattle.kd_histories.specs.Tie.{Tie}
use Rattle.kd_histories.specs.Puts.{Acts, IdlesMayBePut, OwesPut, PublishesMayBePut, ReadsMayBePut, ReceivesMayBePut, VisitsMayBePut}
use Rattle.kd_histories.proofs.Sitters.{sits}
use Rattle.kd_histories.proofs.Holds.{freed_open, freed_handed, freed_numbered, numbered, told_open, answered_handed, answered_open}
use Rattle.kd_histories.proofs.Settling.{H, next_is, quiet, closes, comes_free, takes}
use Rattle.kd_histories.proofs.Ties.{visits, between}
use Rattle.kd_histories.proofs.Owing.{owed_is_due}

abbrev SettlesPut : ℕ → Turn → View Turn → Locks Turn → Type 0
SettlesPut s e v w = Settles lends out keeper hand_after (suc s) e v.name w

-- an entry on a pool by a pass that holds the desk, and by one that doesn't
module _ (s : ℕ) (e : Turn) (v : View Turn) (held : (part v (suc s)).holds ≡ true) (is : IsDoneTurn (hold_of (part v (suc s)).seen) e)
    (pairs : (w : Locks Turn) → Fits v w → Tie w.told → (n : ℕ) → IsPaired n v.name e (due n (w.told.lists (suc s))))
    (settles : (w : Locks Turn) → Fits v w → Tie w.told → Handed lends out keeper w → SettlesPut s e v w) where
  by_holder : (part v 0).holds ≡ true → OwesPut v (suc s) e
  by_holder desk w fits f = (
    visits (hands_after hand_after empties) v.name e w f.0 s
        (subst (λ list. IsDoneTurn (hold_of list) e) (fits.whole (suc s) held) is) (pairs w fits f.0)
        (is_at_some v.name w.holder (fits.opened desk).1),
    settled lends out keeper hand_after empties (suc s) e v.name w f.1 (fits.sole (suc s) held) (λ z. omega arith) (settles w fits f.0 f.1),
  )

  by_other : (part v 0).holds ≡ false → made_by_turn e ≡ [] → OwesPut v (suc s) e
  by_other desk none w fits f = (
    between (hands_after hand_after empties) v.name e w f.0 s
        (subst (λ list. IsDoneTurn (hold_of list) e) (fits.whole (suc s) held) is) (pairs w fits f.0)
        (is_at_not v.name w.holder (fits.closed desk)) none,
    settled lends out keeper hand_after empties (suc s) e v.name w f.1 (fits.sole (suc s) held) (λ z. omega arith) (settles w fits f.0 f.1),
  )

-- ---- an act on a pool, with what was swept before it

-- its answer is true, whatever the world is
answer_is : (s : ℕ) (d : Did) (v : View Turn) (w : Locks Turn) → Fits v w → (part v (suc s)).holds ≡ true → IsDone (hold_of (part v (suc s)).seen) d
    → IsAnswered (hold_met d (hold_of (w.told.lists (suc s)))) d.act d.answer
answer_is s d v w fits held is = subst (λ list. IsAnswered (hold_met d (hold_of list)) d.act d.answer) (fits.whole (suc s) held) is.answer

module _ (s : ℕ) (d : Did) (v : View Turn) (w : Locks Turn) (fits : Fits v w) (held : (part v (suc s)).holds ≡ true) (h : Handed lends out keeper w)
    (is : IsDone (hold_of (part v (suc s)).seen) d) (frees : (n : ℕ) → contains n d.freed ≡ was_swept n (part v (suc s)).swept) where
  abbrev before : Hold
  before = hold_of (w.told.lists (suc s))

  abbrev now : Hold
  now = hold_of (w.told.lists (suc s) ++ (v.name, did d) ∷ [])

  now_is : now ≡ after (hold_met d before) d.act
  unfolding hold_after
  now_is = next_is s (did d) v w fits held h

  open_is : is_open now ≡ open_after d.act d.answer (is_open before)
  open_is = ap is_open now_is ∙ (open_follows (hold_met d before) d.act ∙ (answered_open (hold_met d before) d.act d.answer (is_open (hold_met d before)) (answer_is s d v w fits held is) ∙ ap (open_after d.act d.answer) (freed_open d.freed before)))

  handed_is : (n : ℕ) → is_handed_in n now ≡ handed_after d.act d.answer n (not (was_swept n (part v (suc s)).swept) && is_handed_in n before)
  handed_is n = ap (is_handed_in n) now_is ∙ (handed_follows (hold_met d before) d.act n (freed_numbered d.freed before (numbered (w.told.lists (suc s))))
      ∙ (answered_handed (hold_met d before) d.act d.answer n (is_handed_in n (hold_met d before)) (answer_is s d v w fits held is)
      ∙ ap (handed_after d.act d.answer n) (freed_handed d.freed before n (numbered (w.told.lists (suc s))) ∙ ap (λ b. not b && is_handed_in n before) (frees n))))

  -- it hands nothing over, and opens and closes nothing
  calm : ((hand : List ℕ) → hand_by (did d) hand ≡ hand) → ((n : ℕ) (b : Bool) → handed_after d.act d.answer n b ≡ b) → ((b : Bool) → open_after d.act d.answer b ≡ b)
      → SettlesPut s (did d) v w
  calm same handed opens = quiet s (did d) v w fits held h same (open_is ∙ opens (is_open before))
      (λ n. handed_is n ∙ handed n (not (was_swept n (part v (suc s)).swept) && is_handed_in n before))

  -- it closes the pool
  shuts : ((hand : List ℕ) → hand_by (did d) hand ≡ hand) → ((b : Bool) → open_after d.act d.answer b ≡ false) → SettlesPut s (did d) v w
  shuts same opens = closes s (did d) v w fits held h same (open_is ∙ opens (is_open before))

  -- it opens the pool of a seat where nobody sits
  raises : ((hand : List ℕ) → hand_by (did d) hand ≡ hand) → ((n : ℕ) (b : Bool) → handed_after d.act d.answer n b ≡ false) → (part v 0).holds ≡ true
      → sitter s (part v 0).seen ≡ None → ((n : ℕ) → n < 256 → is_word_of n (part v (suc s)).swept ≡ true) → SettlesPut s (did d) v w
  unfolding keeper
  raises same handed desk bare words =
      let none : keeper (suc s) (w.told.lists 0) ≡ None = ap (λ list. option_map (λ (t : Sitter). t.pass) (sitter s list)) (sym (fits.whole 0 desk)) ∙ ap (option_map (λ (t : Sitter). t.pass)) bare in
      comes_free s (did d) v w fits held h same
      (λ n. handed_is n ∙ handed n (not (was_swept n (part v (suc s)).swept) && is_handed_in n before))
      (λ i n q. let no : None ≡ Some i = sym none ∙ h.kept i (suc s) n q in absurd cc)
      (λ n m. not_both (is_marked n (w.marks (suc s))) m (h.clear v.name (suc s) n (fits.opened desk).1 none
      (ap (is_word_of n) (sym (fits.swept (suc s))) ∙ words n (ltb-true n 256 (and_parts (nat_lt n 256) (has_mark n (w.marks (suc s) (n / 64))) m).0))))

-- ---- a visit

pub visits_may_be_put : VisitsMayBePut
unfolding IsPaired IsDoneTurn hand_by
visits_may_be_put s vis d v it = by_holder s (did d) v it.held it.is (λ w fits tie n. unpaired w n) (λ w fits tie h. go w fits h vis it.act it.raises) it.desk
  where
    unpaired : (w : Locks Turn) (n : ℕ) → IsPairedAct n v.name d.act d.answer (due n (w.told.lists (suc s)))
    unpaired w n = subst (λ a. IsPairedAct n v.name a d.answer (due n (w.told.lists (suc s)))) (sym it.act) tt

    hands_none : (u : Visit) → d.act ≡ by_desk u → (hand : List ℕ) → hand_by_act d.act d.answer hand ≡ hand
    hands_none u act hand = ap (λ a. hand_by_act a d.answer hand) act

    go : (w : Locks Turn) → Fits v w → Handed lends out keeper w → (u : Visit) → d.act ≡ by_desk u
        → ((size : ℕ) → u ≡ raise size → (sitter s (part v 0).seen ≡ None) × ((n : ℕ) → n < 256 → is_word_of n (part v (suc s)).swept ≡ true))
        → SettlesPut s (did d) v w
    go w fits h (raise size) act none = let f = none size refl in
        raises s d v w fits it.held h it.is it.frees (hands_none (raise size) act) (λ n b. ap (λ a. handed_after a d.answer n b) act) it.desk f.0 f.1
    go w fits h (close force) act none = by_force (is_let_be force d.answer) refl
      where
        by_force : (b : Bool) → is_let_be force d.answer ≡ b → SettlesPut s (did d) v w
        by_force true q = calm s d v w fits it.held h it.is it.frees (hands_none (close force) act)
            (λ n b. ap (λ a. handed_after a d.answer n b) act ∙ ap (λ t. t && b) q) (λ b. ap (λ a. open_after a d.answer b) act ∙ ap (λ t. t && b) q)
        by_force false q = shuts s d v w fits it.held h it.is it.frees (hands_none (close force) act) (λ b. ap (λ a. open_after a d.answer b) act ∙ ap (λ t. t && b) q)
    go w fits h (offer user len source must content) act none = calm s d v w fits it.held h it.is it.frees (hands_none (offer user len source must content) act)
        (λ n b. ap (λ a. handed_after a d.answer n b) act) (λ b. ap (λ a. open_after a d.answer b) act)
    go w fits h (post image) act none = calm s d v w fits it.held h it.is it.frees (hands_none (post image) act)
        (λ n b. ap (λ a. handed_after a d.answer n b) act) (λ b. ap (λ a. open_after a d.answer b) act)
    go w fits h drain act none = calm s d v w fits it.held h it.is it.frees (hands_none drain act)
        (λ n b. ap (λ a. handed_after a d.answer n b) act) (λ b. ap (λ a. open_after a d.answer b) act)
    go w fits h (settle images) act none = calm s d v w fits it.held h it.is it.frees (hands_none (settle images) act)
        (λ n b. ap (λ a. handed_after a d.answer n b) act) (λ b. ap (λ a. open_after a d.answer b) act)

-- ---- what is done to a pool without the desk: nothing was swept

-- an entry that does nothing
pub idles_may_be_put : IdlesMayBePut
unfolding IsDoneTurn IsPaired hold_after hand_by made_by_turn
idles_may_be_put s v it = by_other s idle v it.held tt (λ w fits tie n. tt)
    (λ w fits tie h.
    quiet s idle v w fits it.held h (λ hand. refl) (ap is_open (next_is s idle v w fits it.held h))
    (λ n. ap (is_handed_in n) (next_is s idle v w fits it.held h) ∙ ap (λ b. not b && is_handed_in n (H s idle v w fits it.held h)) (sym (ap (was_swept n) it.swept))))
    it.desk refl

module _ (s : ℕ) (d : Did) (v : View Turn) (it : Acts s d v) (sweeps : act_sweeps d.act ≡ false) where
  freed_none : d.freed ≡ []
  freed_none = it.is.sweeps sweeps

  frees_none : (n : ℕ) → contains n d.freed ≡ was_swept n (part v (suc s)).swept
  frees_none n = ap (contains n) freed_none ∙ sym (ap (was_swept n) it.alone.swept)

  -- the pass alone acts there
  acts_alone : ((w : Locks Turn) → Fits v w → Tie w.told → (n : ℕ) → IsPairedAct n v.name d.act d.answer (due n (w.told.lists (suc s)))) → visit_made d.act d.answer ≡ []
      → ((w : Locks Turn) → Fits v w → Tie w.told → Handed lends out keeper w → SettlesPut s (did d) v w) → OwesPut v (suc s) (did d)
  unfolding IsDoneTurn IsPaired made_by_turn
  acts_alone pairs none settles = by_other s (did d) v it.alone.held it.is pairs settles it.alone.desk none

  calms : ((hand : List ℕ) → hand_by_act d.act d.answer hand ≡ hand) → ((n : ℕ) (b : Bool) → handed_after d.act d.answer n b ≡ b) → ((b : Bool) → open_after d.act d.answer b ≡ b)
      → (w : Locks Turn) → Fits v w → Handed lends out keeper w → SettlesPut s (did d) v w
  unfolding hand_by
  calms same handed opens w fits h = calm s d v w fits it.alone.held h it.is frees_none same handed opens

-- a publishing pairs with what is due
pub publishes_may_be_put : PublishesMayBePut
unfolding visit_made hold_freed
publishes_may_be_put s g m c d v it act mine = acts_alone s d v it sweeps pairs (ap (λ a. visit_made a d.answer) act)
    (λ w fits tie h. calms s d v it sweeps (λ hand. ap (λ a. hand_by_act a d.answer hand) act) (λ n b. ap (λ a. handed_after a d.answer n b) act) (λ b. ap (λ a. open_after a d.answer b) act) w fits h)
  where
    sweeps : act_sweeps d.act ≡ false
    sweeps = ap act_sweeps act

    pairs : (w : Locks Turn) → Fits v w → Tie w.told → (n : ℕ) → IsPairedAct n v.name d.act d.answer (due n (w.told.lists (suc s)))
    pairs w fits tie n = subst (λ a. IsPairedAct n v.name a d.answer (due n list)) (sym act) (pair d.answer refl)
      where
        list : List (ℕ × Turn)
        list = w.told.lists (suc s)

        met_is : hold_met d (hold_of list) ≡ hold_of list
        met_is = ap (λ ns. hold_freed ns (hold_of list)) (freed_none s d v it sweeps)

        answered : answer (hold_of list) (publish g m c) ≡ d.answer
        answered = sym (subst (λ a. IsAnswered (hold_of list) a d.answer) act (subst (λ x. IsAnswered x d.act d.answer) met_is (answer_is s d v w fits it.alone.held it.is)))

        pair : (o : Answer) → d.answer ≡ o → IsPairedAct n v.name (publish g m c) o (due n list)
        pair done e = tt
        pair placed e = λ z. ap (λ (i : ℕ). due i list) (sym (eqb-true m n z))
            ∙ owed_is_due v.name g m c list (part v (suc s)).own (tie.done s) (tie.paired s m) (fits.mine (suc s)) mine (answered ∙ e)
        pair gone e = tt
        pair freed e = tt
        pair (slice k) e = tt
        pair (refused why) e = tt
        pair (drained images) e = tt
        pair (got k offset len dropped) e = tt
        pair (bytes_of bytes) e = tt

pub reads_may_be_put : ReadsMayBePut
unfolding visit_made
reads_may_be_put s m wants d v it act = acts_alone s d v it (ap act_sweeps act)
    (λ w fits tie n. subst (λ a. IsPairedAct n v.name a d.answer (due n (w.told.lists (suc s)))) (sym act) tt) (ap (λ a. visit_made a d.answer) act)
    (λ w fits tie h. calms s d v it (ap act_sweeps act) (λ hand. ap (λ a. hand_by_act a d.answer hand) act) (λ n b. ap (λ a. handed_after a d.answer n b) act) (λ b. ap (λ a. open_after a d.answer b) act) w fits h)

-- ---- a receive

module _ (s : ℕ) (d : Did) (v : View Turn) (it : Acts s d v) (mode : RecvMode) (act : d.act ≡ receive mode) (w : Locks Turn) (fits : Fits v w) (h : Handed lends out keeper w)
    (mine : keeper (suc s) (w.told.lists 0) ≡ Some v.name) where
  sweeps_none : act_sweeps d.act ≡ false
  sweeps_none = ap act_sweeps act

  abbrev list : List (ℕ × Turn)
  list = w.told.lists (suc s)

  hand_same : ((hand : List ℕ) → hand_received mode d.answer hand ≡ hand) → ((n : ℕ) (b : Bool) → handed_after (receive mode) d.answer n b ≡ b) → SettlesPut s (did d) v w
  hand_same same handed = calms s d v it sweeps_none (λ hand. ap (λ a. hand_by_act a d.answer hand) act ∙ same hand)
      (λ n b. ap (λ a. handed_after a d.answer n b) act ∙ handed n b) (λ b. ap (λ a. open_after a d.answer b) act) w fits h

  told_one : (m offset len dropped : ℕ) → d.answer ≡ got m offset len dropped → SettlesPut s (did d) v w
  unfolding hand_by hold_freed
  told_one m offset len dropped told = by_mode (hands_over mode) refl
    where
      met_is : hold_met d (hold_of list) ≡ hold_of list
      met_is = ap (λ ns. hold_freed ns (hold_of list)) (freed_none s d v it sweeps_none)

      tells : answer (hold_of list) (receive mode) ≡ got m offset len dropped
      tells = sym (subst (λ a. IsAnswered (hold_of list) a d.answer) act (subst (λ x. IsAnswered x d.act d.answer) met_is (answer_is s d v w fits it.alone.held it.is))) ∙ told

      by_mode : (b : Bool) → hands_over mode ≡ b → SettlesPut s (did d) v w
      by_mode false q = hand_same
          (λ hand. ap (λ a. hand_received mode a hand) told ∙ ap (λ b. cond b (m ∷ hand) hand) q)
          (λ n b. ap (λ a. handed_after (receive mode) a n b) told ∙ (ap (λ t. (m == n && t) || b) q ∙ neither (m == n) b))
        where
          neither : (a b : Bool) → ((a && false) || b) ≡ b
          neither true b = refl
          neither false b = refl
      by_mode true q = takes s (did d) v w fits it.alone.held h m
          (λ hand. ap (λ a. hand_by_act a d.answer hand) act ∙ (ap (λ a. hand_received mode a hand) told ∙ ap (λ b. cond b (m ∷ hand) hand) q))
          it.alone.swept
          (open_is s d v w fits it.alone.held h it.is (frees_none s d v it sweeps_none) ∙ ap (λ a. open_after a d.answer (is_open (hold_of list))) act)
          (receives_waiting (hold_of list) mode m offset len dropped (numbered list) tells).1
          (told_open (hold_of list) mode m offset len dropped tells)
          (λ n. handed_is s d v w fits it.alone.held h it.is (frees_none s d v it sweeps_none) n ∙ (ap (λ a. handed_after a d.answer n (was n)) act ∙ (ap (λ a. handed_after (receive mode) a n (was n)) told
          ∙ (ap (λ t. (m == n && t) || was n) q ∙ either (m == n) (was n) (is_handed_in n (hold_of list)) (ap (λ t. not t && is_handed_in n (hold_of list)) (ap (was_swept n) it.alone.swept))))))
          mine
        where
          was : ℕ → Bool
          was n = not (was_swept n (part v (suc s)).swept) && is_handed_in n (hold_of list)

          either : (a b c : Bool) → b ≡ c → ((a && true) || b) ≡ (a || c)
          either true b c z = refl
          either false b c z = z

  received : (o : Answer) → d.answer ≡ o → SettlesPut s (did d) v w
  received (got m offset len dropped) told = told_one m offset len dropped told
  received done told = hand_same (λ hand. ap (λ a. hand_received mode a hand) told) (λ n b. ap (λ a. handed_after (receive mode) a n b) told)
  received placed told = hand_same (λ hand. ap (λ a. hand_received mode a hand) told) (λ n b. ap (λ a. handed_after (receive mode) a n b) told)
  received gone told = hand_same (λ hand. ap (λ a. hand_received mode a hand) told) (λ n b. ap (λ a. handed_after (receive mode) a n b) told)
  received freed told = hand_same (λ hand. ap (λ a. hand_received mode a hand) told) (λ n b. ap (λ a. handed_after (receive mode) a n b) told)
  received (slice k) told = hand_same (λ hand. ap (λ a. hand_received mode a hand) told) (λ n b. ap (λ a. handed_after (receive mode) a n b) told)
  received (refused why) told = hand_same (λ hand. ap (λ a. hand_received mode a hand) told) (λ n b. ap (λ a. handed_after (receive mode) a n b) told)
  received (drained images) told = hand_same (λ hand. ap (λ a. hand_received mode a hand) told) (λ n b. ap (λ a. handed_after (receive mode) a n b) told)
  received (bytes_of bytes) told = hand_same (λ hand. ap (λ a. hand_received mode a hand) told) (λ n b. ap (λ a. handed_after (receive mode) a n b) told)

-- a pass that has a seat by its own entries is its keeper, whatever the world is
pub keeper_mine : (s : ℕ) (t : Sitter) (v : View Turn) (w : Locks Turn) → Fits v w → Tie w.told → sitter s (part v 0).own ≡ Some t → keeper (suc s) (w.told.lists 0) ≡ Some v.name
unfolding keeper
keeper_mine s t v w fits tie mine =
    let it = sits s v.name t (w.told.lists 0) (part v 0).own (tie.fair s) (fits.mine 0) mine in
    ap (option_map (λ (x : Sitter). x.pass)) it.0 ∙ ap (λ (n : ℕ). Some n) it.1

-- what a receive tells comes into the hand of the pass that has the seat
pub receives_may_be_put : ReceivesMayBePut
unfolding visit_made
receives_may_be_put s mode t d v it act mine = acts_alone s d v it (ap act_sweeps act)
    (λ w fits tie n. subst (λ a. IsPairedAct n v.name a d.answer (due n (w.told.lists (suc s)))) (sym act) tt) (ap (λ a. visit_made a d.answer) act)
    (λ w fits tie h. received s d v it mode act w fits h (keeper_mine s t v w fits tie mine) d.answer refl)
