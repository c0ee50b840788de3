-- Each visit but a raise meets an open pool.
use Rattle.std.proofs.Common.{◌≡◌, ℕ, ◌≤◌, ◌+◌, Bool, true, false, List, [], ◌∷◌, ◌++◌, map, Some, None, refl, sym, ap, ◌∙◌, arith}
use Rattle.std.specs.Prelude.{◌==◌, ◌&&◌, ◌||◌, not}
use Rattle.std.specs.List.{AllByRecursion, IsDistinct}
use Rattle.std.proofs.lemmas.Bool.{and_from, eq-eqb, or_left, or_right}
use Rattle.kd_types.specs.declared.creds.Kind.{Kind}
use Rattle.kd_types.specs.declared.refusal.Refusal.{Refusal}
use Rattle.kd_model.specs.Words.{contains, some_of}
use Rattle.kd_model.proofs.Lists.{all_follow, all_of_filter, all_of_found, distinct_of_filter}
use Rattle.kd_wire.specs.declared.command.Command.{Command}
use Rattle.kd_acts.specs.Lasting.{is_let_be}
use Rattle.kd_acts.specs.State.{Answer, Image, Visit, close, drain, offer, post, raise, refused, settle}
use Rattle.kd_commands.specs.declared.conn.Conn.{Conn}
use Rattle.kd_commands.specs.declared.who.Who.{Who}
use Rattle.kd_commands.specs.declared.who.WhoKind.{WhoKind}
use Rattle.kd_commands.specs.State.{Desk, has_seat, sits_before}
use Rattle.kd_commands.specs.Leaving.{closing, on_endpoint}
use Rattle.kd_commands.specs.Plans.{Part, Plan}
use Rattle.kd_commands.specs.Visits.{first_ends, images_in, next_part, with_images}
use Rattle.kd_commands.specs.Seating.{is_live, open_along, open_at}
use Rattle.kd_commands.proofs.Asides.{AreAside, IsAside, open_aside}
use Rattle.kd_commands.proofs.Finds.{all_both, some_of_put}
use Rattle.kd_commands.proofs.Gone.{contains_one}
use Rattle.kd_commands.proofs.Members.{endpoint_alike, one_alike, seats_of, seats_without, turned}
use Rattle.kd_commands.proofs.Moves.{Arrives, Ends, Leaves, Moves, arrives, ends, learns, leaves, stays}
use Rattle.kd_commands.proofs.Moving.{moves}
use Rattle.kd_settled.specs.Parts.{IdsGoOn, MeetsOpen, VisitsMeetOpen, needs_pool}
use Rattle.kd_settled.specs.Settled.{IsSettled}
use Rattle.kd_settled.proofs.Always.{at_home}
use Rattle.kd_settled.proofs.Audiences.{AtSeat, AtSeats, Sits, each_sits}
use Rattle.kd_settled.proofs.Placing.{IsPlacedAt, Placed, placed}

-- ---- parts aside are at live seats

aside_at : (cs : List Conn) (seat : ℕ) (v : Visit) → IsAside v → IsPlacedAt cs seat v → some_of (has_seat seat) cs ≡ true
aside_at cs seat (raise size) a h = absurd a
aside_at cs seat (close force) a h = absurd a
aside_at cs seat (offer user len source must content) a h = h
aside_at cs seat (post image) a h = h
aside_at cs seat drain a h = h
aside_at cs seat (settle images) a h = h

asides_at : (cs : List Conn) (ps : List Part) → AreAside ps → AllByRecursion (λ (q : Part). IsPlacedAt cs q.seat q.act) ps → AtSeats cs ps
asides_at cs [] a h = tt
asides_at cs (p ∷ ps) a h = (aside_at cs p.seat p.act a.0 h.0, asides_at cs ps a.1 h.1)

-- the next part is at a seat where all are
next_at : (P : ℕ → Type 0) (is : List Image) (ps : List Part) (outs : List Answer) (q : Part) → AllByRecursion (λ (p : Part). P p.seat) ps → next_part is ps outs ≡ Some q → P q.seat
unfolding next_part
next_at P is [] outs q a e = absurd cc
next_at P is (p ∷ ps) [] q a e = let same : record p { act = with_images is p.act } ≡ q = cc in rw (sym (ap (λ (x : Part). x.seat) same)) a.0
next_at P is (p ∷ ps) (o ∷ outs) q a e = next_at P (is ++ images_in o) ps outs q a.1 e

-- ---- by what a plan does to who sits where

abbrev Meets : ℕ → (ℕ → Bool) → List Part → List Answer → Type 0
Meets seat was ps outs = open_along seat ps outs (was seat) ≡ true

raised_meets :
    (d : Desk) (m : WhoKind) (p : Plan) (t : Arrives d m p) (outs : List Answer) (q : Part) → AtSeats p.next.conns t.rest
    → next_part [] (record { seat = t.one.seat; act = raise t.size } ∷ t.rest) outs ≡ Some q → needs_pool q.act ≡ true
    → open_along q.seat (record { seat = t.one.seat; act = raise t.size } ∷ t.rest) outs (is_live d q.seat) ≡ true
unfolding next_part open_along
raised_meets d m p t [] q at next needs = absurd (let same : record { seat = t.one.seat; act = raise t.size } ≡ q = cc in let never : needs_pool (raise t.size) ≡ true = ap (λ (x : Part). needs_pool x.act) same ∙ needs in cc)
raised_meets d m p t (o ∷ outs) q at next needs =
    open_aside q.seat t.rest outs _ t.aside ∙ go (t.one.seat == q.seat)
    ∙ sym (ap (some_of (has_seat q.seat)) t.conns ∙ some_of_put (has_seat q.seat) sits_before t.one d.conns)
    ∙ next_at (λ n. some_of (has_seat n) p.next.conns ≡ true) (images_in o) t.rest outs q at next
  where
    go : (b : Bool) → elim b [ true ↦ true | false ↦ is_live d q.seat ] ≡ (b || is_live d q.seat)
    go true = refl
    go false = refl

-- after a close that isn't let be
closed_at :
    (s : ℕ) (force : Bool) (c : Conn) (o : Answer) (was : Bool) → is_let_be force o ≡ false
    → open_at s (closing force c) o was ≡ (not (contains s (c.seat ∷ [])) && was)
closed_at s force c o was e =
    ap (λ t. elim (c.seat == s) [ true ↦ t && was | false ↦ was ]) e ∙ go (c.seat == s) (contains s (c.seat ∷ [])) (contains_one c.seat s ∙ turned s c.seat)
  where
    go : (a b : Bool) → b ≡ a → elim a [ true ↦ false | false ↦ was ] ≡ (not b && was)
    go true b e = sym (ap (λ t. not t && was) e)
    go false b e = sym (ap (λ t. not t && was) e)

pub isnt_let_be :
    (force : Bool) (c : Conn) (rest : List Part) (o : Answer) (outs : List Answer) → first_ends (closing force c ∷ rest) (o ∷ outs) ≡ None
    → is_let_be force o ≡ false
unfolding first_ends
isnt_let_be true c rest o outs e = refl
isnt_let_be false c rest (refused why) outs e = absurd cc
isnt_let_be false c rest o outs e = refl

left_meets :
    (d : Desk) (m : WhoKind) (p : Plan) (t : Leaves d m p) (outs : List Answer) (q : Part) → IsSettled d → AtSeats p.next.conns t.rest
    → first_ends (closing t.force t.one ∷ t.rest) outs ≡ None → next_part [] (closing t.force t.one ∷ t.rest) outs ≡ Some q
    → open_along q.seat (closing t.force t.one ∷ t.rest) outs (is_live d q.seat) ≡ true
unfolding next_part open_along
left_meets d m p t [] q s at start next =
    let same : closing t.force t.one ≡ q = cc in
    rw (sym (ap (λ (x : Part). x.seat) same)) (all_of_found (Sits d.conns) _ d.conns t.one (each_sits d.conns) t.live)
left_meets d m p t (o ∷ outs) q s at start next =
    open_aside q.seat t.rest outs _ t.aside ∙ closed_at q.seat t.force t.one o (is_live d q.seat) (isnt_let_be t.force t.one t.rest o outs start)
    ∙ sym (ap (some_of (has_seat q.seat)) t.conns ∙ seats_without q.seat (t.one ∷ []) d.conns (one_alike d t.one s.seated t.live))
    ∙ next_at (λ n. some_of (has_seat n) p.next.conns ≡ true) (images_in o) t.rest outs q at next

-- as many forced closes as connections go
closes_meet :
    (gs : List Conn) (rest : List Part) (outs : List Answer) (is : List Image) (q : Part) (was : ℕ → Bool)
    → AllByRecursion (λ (g : Conn). was g.seat ≡ true) gs → IsDistinct (λ (a b : Conn). a.seat == b.seat) gs → AreAside rest
    → AllByRecursion (λ (r : Part). (not (contains r.seat (seats_of gs)) && was r.seat) ≡ true) rest
    → next_part is (map (closing true) gs ++ rest) outs ≡ Some q
    → open_along q.seat (map (closing true) gs ++ rest) outs (was q.seat) ≡ true
unfolding next_part open_along IsDistinct
closes_meet [] rest outs is q was live own aside at next = open_aside q.seat rest outs (was q.seat) aside ∙ next_at (λ n. was n ≡ true) is rest outs q at next
closes_meet (g ∷ gs) rest [] is q was live own aside at next = let same : closing true g ≡ q = cc in rw (sym (ap (λ (x : Part). x.seat) same)) live.0
closes_meet (g ∷ gs) rest (o ∷ outs) is q was live own aside at next =
    closes_meet gs rest outs (is ++ images_in o) q now
    (all_follow (λ (x : Conn). (was x.seat ≡ true) × ((g.seat == x.seat) ≡ false)) (λ (x : Conn). now x.seat ≡ true) gs others (all_both (λ (x : Conn). was x.seat ≡ true) (λ (x : Conn). (g.seat == x.seat) ≡ false) gs live.1 own.0))
    own.1 aside
    (all_follow (λ (r : Part). (not (contains r.seat (seats_of (g ∷ gs))) && was r.seat) ≡ true) (λ (r : Part). (not (contains r.seat (seats_of gs)) && now r.seat) ≡ true) rest stays at) next
  where
    now : ℕ → Bool
    now n = open_at n (closing true g) o (was n)

    is_now : (n : ℕ) → now n ≡ (not (contains n (g.seat ∷ [])) && was n)
    is_now n = closed_at n true g o (was n) refl

    others : (x : Conn) → (was x.seat ≡ true) × ((g.seat == x.seat) ≡ false) → now x.seat ≡ true
    others x h = is_now x.seat ∙ ap (λ b. not b && was x.seat) (contains_one g.seat x.seat ∙ turned x.seat g.seat ∙ h.1) ∙ h.0

    both : (a b w : Bool) → (not (a || b) && w) ≡ true → (not b && (not (a || false) && w)) ≡ true
    both true b w h = absurd cc
    both false true w h = absurd cc
    both false false w h = h

    stays : (r : Part) → (not (contains r.seat (seats_of (g ∷ gs))) && was r.seat) ≡ true → (not (contains r.seat (seats_of gs)) && now r.seat) ≡ true
    stays r h = ap (λ b. not (contains r.seat (seats_of gs)) && b) (is_now r.seat) ∙ both (r.seat == g.seat) (contains r.seat (seats_of gs)) (was r.seat) h

ended_meets :
    (d : Desk) (m : WhoKind) (p : Plan) (t : Ends d m p) (outs : List Answer) (q : Part) → IsSettled d → AtSeats p.next.conns t.rest
    → next_part [] (map (closing true) (on_endpoint d t.endpoint) ++ t.rest) outs ≡ Some q
    → open_along q.seat (map (closing true) (on_endpoint d t.endpoint) ++ t.rest) outs (is_live d q.seat) ≡ true
ended_meets d m p t outs q s at next =
    closes_meet gone t.rest outs [] q (is_live d) (all_of_filter (Sits d.conns) (λ (c : Conn). c.endpoint == t.endpoint) d.conns (each_sits d.conns))
    (distinct_of_filter (λ (a b : Conn). a.seat == b.seat) (λ (c : Conn). c.endpoint == t.endpoint) d.conns s.seated.own_seats) t.aside
    (all_follow (AtSeat p.next.conns) (λ (r : Part). (not (contains r.seat (seats_of gone)) && is_live d r.seat) ≡ true) t.rest stays at) next
  where
    gone : List Conn
    gone = on_endpoint d t.endpoint

    stays : (r : Part) → AtSeat p.next.conns r → (not (contains r.seat (seats_of gone)) && is_live d r.seat) ≡ true
    stays r h = sym (ap (some_of (has_seat r.seat)) t.conns ∙ seats_without r.seat gone d.conns (endpoint_alike d t.endpoint s.seated)) ∙ h

-- ---- any

nothing : (outs : List Answer) (q : Part) → next_part [] [] outs ≡ Some q → ⊥
unfolding next_part
nothing outs q e = cc

meets : (d : Desk) (m : WhoKind) (p : Plan) → IsSettled d → Placed p → Moves d m p → MeetsOpen d p
meets d m p s a (stays t) = λ outs q start next needs.
    open_aside q.seat p.parts outs (is_live d q.seat) t.aside
    ∙ next_at (λ n. is_live d n ≡ true) [] p.parts outs q
    (all_follow (AtSeat p.next.conns) (λ (r : Part). is_live d r.seat ≡ true) p.parts (λ r h. sym (ap (some_of (has_seat r.seat)) t.conns) ∙ h) (asides_at p.next.conns p.parts t.aside a)) next
meets d m p s a (arrives t) =
    let its : AllByRecursion (λ (q : Part). IsPlacedAt p.next.conns q.seat q.act) (record { seat = t.one.seat; act = raise t.size } ∷ t.rest) = rw t.parts at a in
    λ outs q. rw t.parts (λ start next needs. raised_meets d m p t outs q (asides_at p.next.conns t.rest t.aside its.1) next needs)
meets d m p s a (leaves t) =
    let its : AllByRecursion (λ (q : Part). IsPlacedAt p.next.conns q.seat q.act) (closing t.force t.one ∷ t.rest) = rw t.parts at a in
    λ outs q. rw t.parts (λ start next needs. left_meets d m p t outs q s (asides_at p.next.conns t.rest t.aside its.1) start next)
meets d m p s a (ends t) =
    let its : AllByRecursion (λ (q : Part). IsPlacedAt p.next.conns q.seat q.act) (map (closing true) (on_endpoint d t.endpoint) ++ t.rest) = rw t.parts at a in
    λ outs q. rw t.parts (λ start next needs. ended_meets d m p t outs q s (asides_at p.next.conns t.rest t.aside (behind (on_endpoint d t.endpoint) t.rest its)) next)
  where
    behind : (gs : List Conn) (rest : List Part) → AllByRecursion (λ (q : Part). IsPlacedAt p.next.conns q.seat q.act) (map (closing true) gs ++ rest) → AllByRecursion (λ (q : Part). IsPlacedAt p.next.conns q.seat q.act) rest
    behind [] rest h = h
    behind (g ∷ gs) rest h = behind gs rest h.1
meets d m p s a (learns t) = λ outs q. rw t.parts (λ start next needs. absurd (nothing outs q next))

pub visits_meet_open : VisitsMeetOpen
visits_meet_open d k w x p s home e = meets d w.member p s (placed d k w x p s home e) (moves d k w x p (at_home d k w.member home) e)

-- ---- ids

ids_on : (d : Desk) (m : WhoKind) (p : Plan) → Moves d m p → (d.next_id ≤ p.next.next_id) × (p.next.next_id ≤ d.next_id + 1)
ids_on d m p (stays t) = (omega (arith, t.next_id), omega (arith, t.next_id))
ids_on d m p (arrives t) = (omega (arith, t.next_id), omega (arith, t.next_id))
ids_on d m p (leaves t) = (omega (arith, t.next_id), omega (arith, t.next_id))
ids_on d m p (ends t) = (omega (arith, t.next_id), omega (arith, t.next_id))
ids_on d m p (learns t) = (omega (arith, t.next_id), omega (arith, t.next_id))

pub ids_go_on : IdsGoOn
ids_go_on d k w x p s home e = ids_on d w.member p (moves d k w x p (at_home d k w.member home) e)
