-- Which pools are open while the parts of a plan are visited.
use Rattle.std.proofs.Common.{◌≡◌, ℕ, ◌<◌, Bool, true, false, List, [], ◌∷◌, ◌++◌, map, Some, None, refl, sym, ap, ◌∙◌}
use Rattle.std.specs.Prelude.{◌==◌, ◌&&◌, ◌||◌, not}
use Rattle.kd_types.specs.declared.refusal.Refusal.{Refusal}
use Rattle.kd_model.specs.Words.{contains, some_of}
use Rattle.kd_model.proofs.Lists.{all_follow}
use Rattle.kd_acts.specs.Lasting.{is_let_be}
use Rattle.kd_acts.specs.State.{Answer, Image, raise, refused}
use Rattle.kd_commands.specs.declared.conn.Conn.{Conn}
use Rattle.kd_commands.specs.declared.who.WhoKind.{WhoKind}
use Rattle.kd_commands.specs.State.{Desk, has_seat, sits_before}
use Rattle.kd_commands.specs.Hello.{free_seat, is_free}
use Rattle.kd_commands.specs.Leaving.{closing, on_endpoint}
use Rattle.kd_commands.specs.Plans.{Plan, Part}
use Rattle.kd_commands.specs.Visits.{first_ends, images_in, next_part}
use Rattle.kd_commands.specs.Seating.{AreSeated, OpensAreLive, OpensStay, RaisesFree, is_live, open_along, open_at}
use Rattle.kd_commands.proofs.Asides.{AreAside, IsAside, RaiseNone, RaisesNone, aside_raises, next_raises, open_aside}
use Rattle.kd_commands.proofs.Finds.{some_of_put}
use Rattle.kd_commands.proofs.Gone.{contains_one}
use Rattle.kd_commands.proofs.Members.{endpoint_alike, one_alike, seats_of, seats_without, turned}
use Rattle.kd_commands.proofs.Moves.{Moves, arrives, ends, learns, leaves, stays}
use Rattle.kd_commands.proofs.Moving.{moves}
use Rattle.kd_commands.proofs.Seats.{found_is_free, free_below, free_has_none}

-- the part that opens a pool
abbrev raised : ℕ → ℕ → Part
raised seat size = record { seat = seat; act = raise size }

-- ---- when all is visited

-- whether the pool of a seat is open then
abbrev BecomesAt : List Answer → ℕ → Bool → Bool → List Part → Type 0
BecomesAt outs s was now ps = first_ends ps outs ≡ None → next_part [] ps outs ≡ None → open_along s ps outs was ≡ now

raised_all :
    (s seat size : ℕ) (rest : List Part) (outs : List Answer) (was : Bool) → AreAside rest
    → BecomesAt outs s was ((seat == s) || was) (raised seat size ∷ rest)
unfolding open_along next_part
raised_all s seat size rest [] was a start all = absurd cc
raised_all s seat size rest (o ∷ outs) was a start all = open_aside s rest outs (open_at s (raised seat size) o was) a ∙ go (seat == s)
  where
    go : (b : Bool) → elim b [ true ↦ true | false ↦ was ] ≡ (b || was)
    go true = refl
    go false = refl

-- after a close that isn't let be
closed_at :
    (s : ℕ) (force : Bool) (c : Conn) (o : Answer) (was : Bool) → is_let_be force o ≡ false
    → open_at s (closing force c) o was ≡ (not (contains s (c.seat ∷ [])) && was)
closed_at s force c o was e =
    ap (λ t. elim (c.seat == s) [ true ↦ t && was | false ↦ was ]) e ∙ go (c.seat == s) (contains s (c.seat ∷ [])) (contains_one c.seat s ∙ turned s c.seat)
  where
    go : (a b : Bool) → b ≡ a → elim a [ true ↦ false | false ↦ was ] ≡ (not b && was)
    go true b e = sym (ap (λ t. not t && was) e)
    go false b e = sym (ap (λ t. not t && was) e)

isnt_let_be :
    (force : Bool) (c : Conn) (rest : List Part) (o : Answer) (outs : List Answer) → first_ends (closing force c ∷ rest) (o ∷ outs) ≡ None
    → is_let_be force o ≡ false
unfolding first_ends
isnt_let_be true c rest o outs e = refl
isnt_let_be false c rest (refused why) outs e = absurd cc
isnt_let_be false c rest o outs e = refl

closed_all :
    (s : ℕ) (force : Bool) (c : Conn) (rest : List Part) (outs : List Answer) (was : Bool) → AreAside rest
    → BecomesAt outs s was (not (contains s (c.seat ∷ [])) && was) (closing force c ∷ rest)
unfolding open_along next_part
closed_all s force c rest [] was a start all = absurd cc
closed_all s force c rest (o ∷ outs) was a start all =
    open_aside s rest outs (open_at s (closing force c) o was) a ∙ closed_at s force c o was (isnt_let_be force c rest o outs start)

-- after as many forced closes as connections are gone
closed_along :
    (s : ℕ) (is : List Image) (gone : List Conn) (rest : List Part) (outs : List Answer) (was : Bool) → AreAside rest
    → next_part is (map (closing true) gone ++ rest) outs ≡ None
    → open_along s (map (closing true) gone ++ rest) outs was ≡ (not (contains s (seats_of gone)) && was)
unfolding open_along next_part
closed_along s is [] rest outs was a e = open_aside s rest outs was a
closed_along s is (g ∷ gs) rest [] was a e = absurd cc
closed_along s is (g ∷ gs) rest (o ∷ outs) was a e =
    closed_along s (is ++ images_in o) gs rest outs (open_at s (closing true g) o was) a e
    ∙ ap (λ t. not (contains s (seats_of gs)) && t) (closed_at s true g o was refl)
    ∙ both (s == g.seat) (contains s (seats_of gs))
  where
    both : (a b : Bool) → (not b && (not (a || false) && was)) ≡ (not (a || b) && was)
    both true true = refl
    both true false = refl
    both false true = refl
    both false false = refl

visited_all :
    (d : Desk) (m : WhoKind) (p : Plan) (outs : List Answer) (seat : ℕ) → AreSeated d → Moves d m p
    → BecomesAt outs seat (is_live d seat) (is_live p.next seat) p.parts
visited_all d m p outs seat s (stays t) = λ start all. open_aside seat p.parts outs (is_live d seat) t.aside ∙ sym (ap (some_of (has_seat seat)) t.conns)
visited_all d m p outs seat s (arrives t) =
    rw t.parts (λ start all. raised_all seat t.one.seat t.size t.rest outs (is_live d seat) t.aside start all
    ∙ sym (ap (some_of (has_seat seat)) t.conns ∙ some_of_put (has_seat seat) sits_before t.one d.conns))
visited_all d m p outs seat s (leaves t) =
    rw t.parts (λ start all. closed_all seat t.force t.one t.rest outs (is_live d seat) t.aside start all
    ∙ sym (ap (some_of (has_seat seat)) t.conns ∙ seats_without seat (t.one ∷ []) d.conns (one_alike d t.one s t.live)))
visited_all d m p outs seat s (ends t) =
    rw t.parts (λ start all. closed_along seat [] (on_endpoint d t.endpoint) t.rest outs (is_live d seat) t.aside all
    ∙ sym (ap (some_of (has_seat seat)) t.conns ∙ seats_without seat (on_endpoint d t.endpoint) d.conns (endpoint_alike d t.endpoint s)))
visited_all d m p outs seat s (learns t) =
    rw t.parts (λ start all. open_aside seat [] outs (is_live d seat) tt ∙ sym (ap (some_of (has_seat seat)) t.conns))

pub opens_are_live : OpensAreLive
opens_are_live d k w x p s is e = λ outs seat start all. visited_all d w.member p outs seat s (moves d k w x p is e) start all

-- ---- where the first part ends all

abbrev StaysAt : List Answer → ℕ → Bool → Refusal → List Part → Type 0
StaysAt outs s was why ps = first_ends ps outs ≡ Some why → open_along s ps outs was ≡ was

-- a raise doesn't
raised_goes_on : (seat size : ℕ) (rest : List Part) (outs : List Answer) (why : Refusal) → first_ends (raised seat size ∷ rest) outs ≡ Some why → ⊥
unfolding first_ends
raised_goes_on seat size rest [] why e = absurd cc
raised_goes_on seat size rest (refused r ∷ outs) why e = absurd cc
raised_goes_on seat size rest (o ∷ outs) why e = absurd cc

-- nor does a forced close
forced_goes_on : (c : Conn) (rest : List Part) (outs : List Answer) (why : Refusal) → first_ends (closing true c ∷ rest) outs ≡ Some why → ⊥
unfolding first_ends
forced_goes_on c rest [] why e = absurd cc
forced_goes_on c rest (refused r ∷ outs) why e = absurd cc
forced_goes_on c rest (o ∷ outs) why e = absurd cc

-- a close that is let be
let_be_at : (s : ℕ) (c : Conn) (r : Refusal) (was : Bool) → open_at s (closing false c) (refused r) was ≡ was
let_be_at s c r was = go (c.seat == s)
  where
    go : (b : Bool) → elim b [ true ↦ was | false ↦ was ] ≡ was
    go true = refl
    go false = refl

closed_first :
    (s : ℕ) (force : Bool) (c : Conn) (rest : List Part) (outs : List Answer) (was : Bool) (why : Refusal) → AreAside rest
    → StaysAt outs s was why (closing force c ∷ rest)
unfolding open_along first_ends
closed_first s true c rest outs was why a e = absurd (forced_goes_on c rest outs why e)
closed_first s false c rest [] was why a e = refl
closed_first s false c rest (refused r ∷ outs) was why a e = open_aside s rest outs (open_at s (closing false c) (refused r) was) a ∙ let_be_at s c r was
closed_first s false c rest (o ∷ outs) was why a e = absurd cc

all_closed_first :
    (s : ℕ) (gone : List Conn) (rest : List Part) (outs : List Answer) (was : Bool) (why : Refusal) → AreAside rest
    → StaysAt outs s was why (map (closing true) gone ++ rest)
all_closed_first s [] rest outs was why a e = open_aside s rest outs was a
all_closed_first s (g ∷ gs) rest outs was why a e = absurd (forced_goes_on g (map (closing true) gs ++ rest) outs why e)

visited_first :
    (d : Desk) (m : WhoKind) (p : Plan) (outs : List Answer) (seat : ℕ) (why : Refusal) → Moves d m p
    → StaysAt outs seat (is_live d seat) why p.parts
visited_first d m p outs seat why (stays t) = λ first. open_aside seat p.parts outs (is_live d seat) t.aside
visited_first d m p outs seat why (arrives t) = rw t.parts (λ first. absurd (raised_goes_on t.one.seat t.size t.rest outs why first))
visited_first d m p outs seat why (leaves t) = rw t.parts (closed_first seat t.force t.one t.rest outs (is_live d seat) why t.aside)
visited_first d m p outs seat why (ends t) = rw t.parts (all_closed_first seat (on_endpoint d t.endpoint) t.rest outs (is_live d seat) why t.aside)
visited_first d m p outs seat why (learns t) = rw t.parts (λ first. open_aside seat [] outs (is_live d seat) tt)

pub opens_stay : OpensStay
opens_stay d k w x p s is e = λ outs seat why first. visited_first d w.member p outs seat why (moves d k w x p is e) first

-- ---- a raise

abbrev RaisesFreely : Desk → List Answer → Part → ℕ → List Part → Type 0
RaisesFreely d outs q size ps =
    next_part [] ps outs ≡ Some q → q.act ≡ raise size → (q.seat < 64) × (is_free d q.seat ≡ true) × (open_along q.seat ps outs (is_live d q.seat) ≡ false)

none_raised :
    (is : List Image) (ps : List Part) (outs : List Answer) (q : Part) (size : ℕ) → RaiseNone ps → next_part is ps outs ≡ Some q
    → q.act ≡ raise size → ⊥
none_raised is ps outs q size a next act = rw act at (next_raises is ps outs q a next)

asides_raise : (ps : List Part) → AreAside ps → RaiseNone ps
asides_raise ps a = all_follow (λ (p : Part). IsAside p.act) (λ (p : Part). RaisesNone p.act) ps (λ p h. aside_raises p.act h) a

closes_raise : (gone : List Conn) (rest : List Part) → AreAside rest → RaiseNone (map (closing true) gone ++ rest)
closes_raise [] rest a = asides_raise rest a
closes_raise (g ∷ gs) rest a = (tt, closes_raise gs rest a)

first_raises :
    (d : Desk) (seat size : ℕ) (rest : List Part) (outs : List Answer) (q : Part) (n : ℕ) → free_seat d ≡ Some seat → AreAside rest
    → RaisesFreely d outs q n (raised seat size ∷ rest)
unfolding open_along next_part
first_raises d seat size rest [] q n free a next act =
    let same : raised seat size ≡ q = cc in
    let here : seat ≡ q.seat = ap (λ (x : Part). x.seat) same in
    let free_there : is_free d seat ≡ true = found_is_free d seat free in
    rw (sym here) (free_below d seat free, free_there, free_has_none d seat free_there)
first_raises d seat size rest (o ∷ outs) q n free a next act = absurd (none_raised (images_in o) rest outs q n (asides_raise rest a) next act)

raises_freely : (d : Desk) (m : WhoKind) (p : Plan) (outs : List Answer) (q : Part) (size : ℕ) → Moves d m p → RaisesFreely d outs q size p.parts
raises_freely d m p outs q size (stays t) = λ next act. absurd (none_raised [] p.parts outs q size (asides_raise p.parts t.aside) next act)
raises_freely d m p outs q size (arrives t) = rw t.parts (first_raises d t.one.seat t.size t.rest outs q size t.free t.aside)
raises_freely d m p outs q size (leaves t) =
    rw t.parts (λ next act. absurd (none_raised [] (closing t.force t.one ∷ t.rest) outs q size (tt, asides_raise t.rest t.aside) next act))
raises_freely d m p outs q size (ends t) =
    let gone : List Conn = on_endpoint d t.endpoint in
    rw t.parts (λ next act. absurd (none_raised [] (map (closing true) gone ++ t.rest) outs q size (closes_raise gone t.rest t.aside) next act))
raises_freely d m p outs q size (learns t) = rw t.parts (λ next act. absurd (none_raised [] [] outs q size tt next act))

pub raises_free : RaisesFree
raises_free d k w x p s is e = λ outs q size next act. raises_freely d w.member p outs q size (moves d k w x p is e) next act
