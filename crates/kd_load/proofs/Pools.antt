-- What a pool counts along its list.
use Rattle.std.proofs.Common.{◌≡◌, ◌⊎◌, inl, inr, ℕ, ◌+◌, true, false, drop, get_or, List, [], ◌∷◌, ◌++◌, length, length-append, refl, ap, sym, subst, ◌∙◌, arith}
use Rattle.std.specs.Prelude.{Option, Some, None, is_some}
use Rattle.kd_acts.specs.State.{Act, Answer, Hold, Pool, Visit, by_desk, close, done, drain, free, idle as idle_act, offer, post, publish, raise, read, receive, settle}
use Rattle.kd_acts.specs.Steps.{after, new_pool, pool_step}
use Rattle.kd_acts.specs.Lasting.{is_open}
use Rattle.kd_acts.proofs.Lasting.{open_follows}
use Rattle.kd_counts.specs.Counts.{is_raise, offers_in}
use Rattle.kd_counts.proofs.Steps.{counts_go_on}
use Rattle.kd_histories.specs.Turns.{Turn, left, started, removed, did, idle}
use Rattle.kd_histories.specs.Pools.{hold_after, hold_freed, hold_from, hold_met}
use Rattle.kd_histories.specs.Visits.{made_by_turn, visit_made, visits_made}
use Rattle.kd_load.specs.Laws.{HasOffered}
use Rattle.kd_load.proofs.Offers.{AreOffers}

there : (o : Option Pool) → is_some o ≡ true → (p : Pool) × (o ≡ Some p)
there None e = absurd cc
there (Some p) e = (p, refl)

offers_more : (h : Hold) (a : Act) (n : ℕ) → is_raise a ≡ false → is_open (after h a) ≡ true → HasOffered h n → HasOffered (after h a) (n + offers_in a)
offers_more h a n other opens has =
    let q = there (after h a).pool opens in
    let on = counts_go_on h a has.pool q.0 has.is q.1 other in
    record { pool = q.0; is = q.1; count = omega (arith, on.offered, has.count) }

open_is : (h : Hold) (n : ℕ) → HasOffered h n → is_open h ≡ true
open_is h n has = ap is_some has.is

one_freed : (h : Hold) (k n : ℕ) → HasOffered h n → HasOffered (after h (free k)) n
one_freed h k n has = subst (HasOffered (after h (free k))) (omega arith) (offers_more h (free k) n refl (open_follows h (free k) ∙ open_is h n has) has)

all_freed : (ks : List ℕ) (h : Hold) (n : ℕ) → HasOffered h n → HasOffered (hold_freed ks h) n
unfolding hold_freed
all_freed [] h n has = has
all_freed (k ∷ ks) h n has = all_freed ks (after h (free k)) n (one_freed h k n has)

-- an act of which the visits are offers
acted : (a : Act) (o : Answer) (h : Hold) (n : ℕ) → AreOffers (visit_made a o) → HasOffered h n → HasOffered (after h a) (n + length (visit_made a o))
unfolding visit_made
acted (by_desk (offer user len source must c)) o h n all has = let a : Act = by_desk (offer user len source must c) in offers_more h a n refl (open_follows h a ∙ open_is h n has) has
acted (by_desk (raise size)) o h n all has = absurd all.0
acted (by_desk (close force)) o h n all has = absurd all.0
acted (by_desk (post image)) o h n all has = absurd all.0
acted (by_desk drain) o h n all has = absurd all.0
acted (by_desk (settle images)) o h n all has = absurd all.0
acted (publish g k c) o h n all has = offers_more h (publish g k c) n refl (open_follows h (publish g k c) ∙ open_is h n has) has
acted (receive mode) o h n all has = offers_more h (receive mode) n refl (open_follows h (receive mode) ∙ open_is h n has) has
acted (read k sealed) o h n all has = offers_more h (read k sealed) n refl (open_follows h (read k sealed) ∙ open_is h n has) has
acted (free k) o h n all has = offers_more h (free k) n refl (open_follows h (free k) ∙ open_is h n has) has
acted idle_act o h n all has = offers_more h idle_act n refl (open_follows h idle_act ∙ open_is h n has) has

-- an entry, and a list
one_turn : (e : Turn) (h : Hold) (n : ℕ) → AreOffers (made_by_turn e) → HasOffered h n → HasOffered (hold_after e h) (n + length (made_by_turn e))
unfolding made_by_turn hold_after
one_turn (did d) h n all has = acted d.act d.answer (hold_met d h) n all (all_freed d.freed h n has)
one_turn (left l) h n all has = subst (HasOffered h) (omega arith) has
one_turn (started b) h n all has = subst (HasOffered h) (omega arith) has
one_turn (removed g) h n all has = subst (HasOffered h) (omega arith) has
one_turn idle h n all has = subst (HasOffered h) (omega arith) has

split_all : (vs ws : List (Visit × Answer)) → AreOffers (vs ++ ws) → AreOffers vs × AreOffers ws
split_all [] ws all = (tt, all)
split_all (v ∷ vs) ws all = let rest = split_all vs ws all.1 in ((all.0, rest.0), rest.1)

-- along a list of which the visits are offers an open pool counts them
pub counted : (list : List (ℕ × Turn)) (h : Hold) (n : ℕ) → AreOffers (visits_made list) → HasOffered h n → HasOffered (hold_from h list) (n + length (visits_made list))
unfolding visits_made hold_from
counted [] h n all has = subst (HasOffered h) (omega arith) has
counted (x ∷ xs) h n all has =
    let both = split_all (made_by_turn x.1) (visits_made xs) all in
    let m : ℕ = length (made_by_turn x.1) in
    let more = counted xs (hold_after x.1 h) (n + m) both.1 (one_turn x.1 h n both.0 has) in
    subst (HasOffered (hold_from (hold_after x.1 h) xs)) (let long = length-append (made_by_turn x.1) (visits_made xs) in omega (arith, long)) more

-- ---- a closed pool stays as it is until it is raised

closed_act : (a : Act) (o : Answer) (h : Hold) → visit_made a o ≡ [] → h.pool ≡ None → (after h a).pool ≡ None
unfolding visit_made pool_step
closed_act (by_desk v) o h none shut = absurd cc
closed_act (publish g k c) o h none shut = ap (λ (p : Option Pool). (after (record { generation = h.generation; pool = p }) (publish g k c)).pool) shut
closed_act (receive mode) o h none shut = ap (λ (p : Option Pool). (after (record { generation = h.generation; pool = p }) (receive mode)).pool) shut
closed_act (read k sealed) o h none shut = ap (λ (p : Option Pool). (after (record { generation = h.generation; pool = p }) (read k sealed)).pool) shut
closed_act (free k) o h none shut = ap (λ (p : Option Pool). (after (record { generation = h.generation; pool = p }) (free k)).pool) shut
closed_act idle_act o h none shut = ap (λ (p : Option Pool). (after (record { generation = h.generation; pool = p }) idle_act).pool) shut

closed_freed : (ks : List ℕ) (h : Hold) → h.pool ≡ None → (hold_freed ks h).pool ≡ None
unfolding hold_freed visit_made
closed_freed [] h shut = shut
closed_freed (k ∷ ks) h shut = closed_freed ks (after h (free k)) (closed_act (free k) done h refl shut)

closed_turn : (e : Turn) (h : Hold) → made_by_turn e ≡ [] → h.pool ≡ None → (hold_after e h).pool ≡ None
unfolding made_by_turn hold_after
closed_turn (did d) h none shut = closed_act d.act d.answer (hold_met d h) none (closed_freed d.freed h shut)
closed_turn (left l) h none shut = shut
closed_turn (started b) h none shut = shut
closed_turn (removed g) h none shut = shut
closed_turn idle h none shut = shut

no_parts : {X : Type 0} (xs ys : List X) → xs ++ ys ≡ [] → (xs ≡ []) × (ys ≡ [])
no_parts [] ys e = (refl, e)
no_parts (x ∷ xs) ys e = absurd cc

-- along a list without visits a closed pool stays closed
pub stays_closed : (list : List (ℕ × Turn)) (h : Hold) → visits_made list ≡ [] → h.pool ≡ None → (hold_from h list).pool ≡ None
unfolding visits_made hold_from
stays_closed [] h none shut = shut
stays_closed (x ∷ xs) h none shut =
    let both = no_parts (made_by_turn x.1) (visits_made xs) none in
    stays_closed xs (hold_after x.1 h) both.1 (closed_turn x.1 h both.0 shut)

-- ---- a raise, and then offers

-- the raise opens a pool that has counted nothing
raised : (size : ℕ) (h : Hold) → HasOffered (after h (by_desk (raise size))) 0
unfolding pool_step
raised size h = record { pool = new_pool size; is = refl; count = refl }

same_head : (v w : Visit × Answer) (vs ws : List (Visit × Answer)) → v ∷ vs ≡ w ∷ ws → (v ≡ w) × (vs ≡ ws)
same_head v w vs ws e = (ap (λ (xs : List (Visit × Answer)). get_or xs 0 v) e, ap (λ (xs : List (Visit × Answer)). drop 1 xs) e)

-- the entry of the first visit, if it has one
raising : (e : Turn) (h : Hold) (size : ℕ) (o : Answer) (vs ws : List (Visit × Answer)) → made_by_turn e ++ ws ≡ (raise size, o) ∷ vs → (made_by_turn e ≡ []) ⊎ (HasOffered (hold_after e h) 0 × (ws ≡ vs))
unfolding made_by_turn visit_made hold_after
raising (left l) h size o vs ws e = inl refl
raising (started b) h size o vs ws e = inl refl
raising (removed g) h size o vs ws e = inl refl
raising idle h size o vs ws e = inl refl
raising (did d) h size o vs ws e = go d.act refl e
  where
    go : (a : Act) → d.act ≡ a → visit_made a d.answer ++ ws ≡ (raise size, o) ∷ vs → (visit_made d.act d.answer ≡ []) ⊎ (HasOffered (after (hold_met d h) d.act) 0 × (ws ≡ vs))
    go (by_desk v) is e =
        let same = same_head (v, d.answer) (raise size, o) ws vs e in
        inr (subst (λ (a : Act). HasOffered (after (hold_met d h) a) 0) (sym (is ∙ ap (λ (x : Visit × Answer). by_desk x.0) same.0)) (raised size (hold_met d h)), same.1)
    go (publish g k c) is e = inl (ap (λ (a : Act). visit_made a d.answer) is)
    go (receive mode) is e = inl (ap (λ (a : Act). visit_made a d.answer) is)
    go (read k sealed) is e = inl (ap (λ (a : Act). visit_made a d.answer) is)
    go (free k) is e = inl (ap (λ (a : Act). visit_made a d.answer) is)
    go idle_act is e = inl (ap (λ (a : Act). visit_made a d.answer) is)

pub raised_counted : (list : List (ℕ × Turn)) (h : Hold) (size : ℕ) (o : Answer) (vs : List (Visit × Answer)) → visits_made list ≡ (raise size, o) ∷ vs → AreOffers vs → HasOffered (hold_from h list) (length vs)
unfolding visits_made hold_from
raised_counted [] h size o vs e all = absurd cc
raised_counted (x ∷ xs) h size o vs e all = go (raising x.1 h size o vs (visits_made xs) e) (λ none. raised_counted xs (hold_after x.1 h) size o vs ((λ t. sym none t ++ visits_made xs) ∙ e) all)
  where
    go : (made_by_turn x.1 ≡ []) ⊎ (HasOffered (hold_after x.1 h) 0 × (visits_made xs ≡ vs)) → (made_by_turn x.1 ≡ [] → HasOffered (hold_from (hold_after x.1 h) xs) (length vs)) → HasOffered (hold_from (hold_after x.1 h) xs) (length vs)
    go (inl none) later = later none
    go (inr here) later = subst (HasOffered (hold_from (hold_after x.1 h) xs)) (let e : length (visits_made xs) ≡ length vs = ap (λ (ws : List (Visit × Answer)). length ws) here.1 in omega (arith, e)) (counted xs (hold_after x.1 h) 0 (subst AreOffers (sym here.1) all) here.0)
