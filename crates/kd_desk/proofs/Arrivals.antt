-- What a HELLO comes to.
use Rattle.std.proofs.Common.{◌≡◌, ◌<◌, ◌%◌, ℕ, Bool, true, false, not, cond, ◌&&◌, List, [], ◌∷◌, ◌++◌, Option, Some, None, Result, Ok, Err, refl, sym, ap, ◌∙◌, arith}
use Rattle.std.specs.Prelude.{◌==◌, ◌||◌, is_err, filter, is_none, unwrap_or}
use Rattle.std.specs.List.{AllByRecursion}
use Rattle.std.proofs.lemmas.Bool.Decides.{nat_tests}
use Rattle.std.proofs.lemmas.Grind.{flat_map-append}
use Rattle.kd_types.specs.declared.creds.Creds.{Creds}
use Rattle.kd_types.specs.declared.creds.Kind.{Kind}
use Rattle.kd_types.specs.declared.creds.Kind.TheVariants.{Ordinary, Activator, Holder, Monitor}
use Rattle.kd_types.specs.declared.owner_change.OwnerChange.{OwnerChange}
use Rattle.kd_types.specs.declared.refusal.Refusal.{Refusal}
use Rattle.kd_types.specs.declared.refusal.Refusal.TheVariants.{BadName, NoSuchEndpoint, NotPermitted, NameTaken, TooMany}
use Rattle.kd_model.specs.Words.{first_that_holds, put_in_order, some_of}
use Rattle.kd_name.specs.Names.{is_name}
use Rattle.kd_wire.specs.declared.item.WireItem.{WireItem}
use Rattle.kd_wire.specs.declared.reply.Reply.TheVariants as reply
use Rattle.kd_policy.specs.Policy.{put_refusal}
use Rattle.kd_registry.specs.Claims.{activator_answer, is_placeholder, owner_id, ranks}
use Rattle.kd_acts.specs.State.{Content, raise}
use Rattle.kd_match.specs.Told as told
use Rattle.kd_commands.proofs.Seats.{free_below}
use Rattle.kd_commands.specs.declared.conn.Conn.{Conn}
use Rattle.kd_commands.specs.State.{Desk, is_monitor, sits_before}
use Rattle.kd_commands.specs.Audience.{Subject, asks_for, audience, id_add, is_shown, is_told, new_owner, telling}
use Rattle.kd_commands.specs.Hello.{Asked, arrival, endpoint_of, first_owner, free_seat, hello, hello_plan, hello_refusals, newcomer, with_newcomer}
use Rattle.kd_commands.specs.Items.{endpoint_in}
use Rattle.kd_commands.specs.Plans.{Part, Plan, itself, notices, posted_to, posts}
use Rattle.kd_commands.specs.Rights.{may_own, may_see_name}
use Rattle.kd_tables.specs.declared.change.Brought.{Brought}
use Rattle.kd_tables.specs.declared.change.Brought.TheVariants as brought
use Rattle.kd_tables.specs.declared.change.Change.TheVariants as change
use Rattle.kd_tables.specs.declared.part.Part as code
use Rattle.kd_desk.specs.Arriving.{IsBrought, owned_first, owner_with, refusals_of_newcomer}
use Rattle.kd_tables.specs.Drafts.{Draft, IsVisitable, StandByOffers, TakesBrought, applied, drafted, parts_with}
use Rattle.kd_desk.specs.Owners.{moved}
use Rattle.kd_tables.specs.Room.{IsSeated}
use Rattle.kd_desk.proofs.Quiet.{all_fail, unless_none, unless_why}
use Rattle.kd_desk.proofs.Standing.{owner_activated}
use Rattle.kd_tables.proofs.Visits.{CanBeVisited, contentless, notices_visits, visitable_of}

-- ---- its refusals

-- what the registry says of a name, by whether it is one, and has an activator
abbrev answer_by : Bool → Bool → Result (Unit {0}) Refusal
answer_by a p = unwrap_or (first_that_holds ((not a, Err BadName) ∷ (p, Err NameTaken) ∷ [])) (Ok tt)

taken_alike : (a p f g : Bool) (r : Refusal)
    → first_that_holds ((not a || false, BadName) ∷ (f, NotPermitted) ∷ (p, NameTaken) ∷ (false, TooMany 256) ∷ (g, r) ∷ [])
    ≡ first_that_holds ((not a, BadName) ∷ (f, NotPermitted) ∷ (is_err (answer_by a p), NameTaken) ∷ (false, TooMany 256) ∷ (g, r) ∷ [])
taken_alike false p f g r = refl
taken_alike true true f g r = refl
taken_alike true false f g r = refl

judged_by_kind : (d : Desk) (c : Conn) (a : Asked) (k : Kind) (b : Brought) (e : ℕ) → c.kind ≡ k → IsBrought k a.items b → endpoint_of d (endpoint_in a.items) ≡ Some e
    → first_that_holds (hello_refusals d c a) ≡ first_that_holds (refusals_of_newcomer d c b)
unfolding hello_refusals refusals_of_newcomer may_own
judged_by_kind d c a Ordinary brought.Nothing e is by at = rw (is, at) refl
judged_by_kind d c a Activator (brought.Name n) e is by at =
    rw (is, at, ← by) (taken_alike (is_name n) (some_of is_placeholder (ranks d.registry n)) (not (may_own d c n)) (is_none (free_seat d)) (TooMany 64))
judged_by_kind d c a Holder (brought.Entries es) e is by at = rw (is, at, by) refl
judged_by_kind d c a Monitor brought.Nothing e is by at = rw (is, at) refl
judged_by_kind d c a Ordinary (brought.Name n) e is by at = absurd by
judged_by_kind d c a Ordinary (brought.Entries es) e is by at = absurd by
judged_by_kind d c a Activator brought.Nothing e is by at = absurd by
judged_by_kind d c a Activator (brought.Entries es) e is by at = absurd by
judged_by_kind d c a Holder brought.Nothing e is by at = absurd by
judged_by_kind d c a Holder (brought.Name n) e is by at = absurd by
judged_by_kind d c a Monitor (brought.Name n) e is by at = absurd by
judged_by_kind d c a Monitor (brought.Entries es) e is by at = absurd by

-- there is no such endpoint
pub hello_nowhere : (d : Desk) (creds : Creds) (a : Asked) → endpoint_of d (endpoint_in a.items) ≡ None → hello d creds a ≡ Err NoSuchEndpoint
unfolding hello hello_refusals
hello_nowhere d creds a none = rw none refl

pub hello_refused : (d : Desk) (creds : Creds) (a : Asked) (c : Conn) (b : Brought) (e : ℕ) (why : Refusal) → c ≡ newcomer d creds a → IsBrought c.kind a.items b → endpoint_of d (endpoint_in a.items) ≡ Some e
    → first_that_holds (refusals_of_newcomer d c b) ≡ Some why → hello d creds a ≡ Err why
unfolding hello
hello_refused d creds a c b e why is by at judged =
    rw (← is) (unless_why (first_that_holds (refusals_of_newcomer d c b)) (hello_refusals d c a) (hello_plan d c a) why (judged_by_kind d c a c.kind b e refl by at) judged)

hello_goes : (d : Desk) (creds : Creds) (a : Asked) (c : Conn) (b : Brought) (e : ℕ) → c ≡ newcomer d creds a → IsBrought c.kind a.items b → endpoint_of d (endpoint_in a.items) ≡ Some e
    → first_that_holds (refusals_of_newcomer d c b) ≡ None → hello d creds a ≡ Ok (hello_plan d c a)
unfolding hello
hello_goes d creds a c b e is by at judged =
    rw (← is) (unless_none (hello_refusals d c a) (hello_plan d c a) (judged_by_kind d c a c.kind b e refl by at ∙ judged))

-- ---- the desk after it

desk_by_kind : (d : Desk) (c : Conn) (a : Asked) (k : Kind) (b : Brought) → c.kind ≡ k → IsBrought k a.items b → with_newcomer d c a ≡ applied (change.Arrives c b) d
unfolding with_newcomer applied
desk_by_kind d c a Ordinary brought.Nothing is by = rw is refl
desk_by_kind d c a Activator (brought.Name n) is by = rw (is, ← by) refl
desk_by_kind d c a Holder (brought.Entries es) is by = rw (is, by) refl
desk_by_kind d c a Monitor brought.Nothing is by = rw is refl
desk_by_kind d c a Ordinary (brought.Name n) is by = absurd by
desk_by_kind d c a Ordinary (brought.Entries es) is by = absurd by
desk_by_kind d c a Activator brought.Nothing is by = absurd by
desk_by_kind d c a Activator (brought.Entries es) is by = absurd by
desk_by_kind d c a Holder brought.Nothing is by = absurd by
desk_by_kind d c a Holder (brought.Name n) is by = absurd by
desk_by_kind d c a Monitor (brought.Name n) is by = absurd by
desk_by_kind d c a Monitor (brought.Entries es) is by = absurd by

owned_by_kind : (d : Desk) (c : Conn) (a : Asked) (k : Kind) (b : Brought) → c.kind ≡ k → IsBrought k a.items b → first_owner d c a ≡ owned_first d c.id b
owned_by_kind d c a Ordinary brought.Nothing is by = rw is refl
owned_by_kind d c a Activator (brought.Name n) is by = rw (is, ← by) (ap (λ new. moved (owner_id d.registry n) new n) (owner_activated d.registry c.id n))
owned_by_kind d c a Holder (brought.Entries es) is by = rw is refl
owned_by_kind d c a Monitor brought.Nothing is by = rw is refl
owned_by_kind d c a Ordinary (brought.Name n) is by = absurd by
owned_by_kind d c a Ordinary (brought.Entries es) is by = absurd by
owned_by_kind d c a Activator brought.Nothing is by = absurd by
owned_by_kind d c a Activator (brought.Entries es) is by = absurd by
owned_by_kind d c a Holder brought.Nothing is by = absurd by
owned_by_kind d c a Holder (brought.Name n) is by = absurd by
owned_by_kind d c a Monitor (brought.Name n) is by = absurd by
owned_by_kind d c a Monitor (brought.Entries es) is by = absurd by

-- ---- what is told

-- an insert of what fails a test changes nothing of what passes
filter_put : {X : Type 0} (p : X → Bool) (below : X → X → Bool) (x : X) (xs : List X) → p x ≡ false → filter p (put_in_order below x xs) ≡ filter p xs
filter_put p below x [] e = ap (λ b. cond b (x ∷ []) []) e
filter_put p below x (y ∷ ys) e = go (below x y) (filter_put p below x ys e)
  where
    go : (b : Bool) → filter p (put_in_order below x ys) ≡ filter p ys → filter p (elim b [ true ↦ x ∷ y ∷ ys | false ↦ y ∷ put_in_order below x ys ]) ≡ filter p (y ∷ ys)
    go true ih = ap (λ b. cond b (x ∷ filter p (y ∷ ys)) (filter p (y ∷ ys))) e
    go false ih = ap (λ zs. cond (p y) (y ∷ zs) zs) ih

never_both : (a x : Bool) → (a && false) && x ≡ false
never_both true x = refl
never_both false x = refl

-- a newcomer isn't told of itself
untold : (d : Desk) (c : Conn) (k : Kind) → c.kind ≡ k → is_monitor k ≡ false → is_told d (id_add c.id) c ≡ false
unfolding is_shown
untold d c Ordinary is other = let same : (c.id == c.id) ≡ true = grind (arith, nat_tests) in rw (is, same) (never_both (c.endpoint == 0) (asks_for d c (told.id_add c.id)))
untold d c Activator is other = rw is refl
untold d c Holder is other = rw is refl
untold d c Monitor is other = absurd cc

arrival_same : (d : Desk) (c : Conn) (b : Brought) (m : Bool) → is_monitor c.kind ≡ m → notices (applied (change.Arrives c b) d) (elim m [ true ↦ [] | false ↦ id_add c.id ∷ [] ]) ≡ notices d (elim m [ true ↦ [] | false ↦ id_add c.id ∷ [] ])
unfolding audience applied is_shown
arrival_same d c b true is = refl
arrival_same d c b false is = ap (λ cs. posted_to cs (telling (id_add c.id)) ++ []) (filter_put (is_told d (id_add c.id)) sits_before c d.conns (untold d c c.kind refl is))

-- nor that it owns its name
untold_owner : (d : Desk) (c : Conn) (x : OwnerChange) → c.kind ≡ Activator → is_told d (new_owner x) c ≡ false
untold_owner d c x is = rw is refl

brings_name : (k : Kind) (is : List WireItem) (n : List ℕ) → IsBrought k is (brought.Name n) → k ≡ Activator
brings_name Activator is n by = refl
brings_name Ordinary is n by = absurd by
brings_name Holder is n by = absurd by
brings_name Monitor is n by = absurd by

moved_same : (d : Desk) (c : Conn) (n m : List ℕ) (old new : ℕ) (same : Bool) → c.kind ≡ Activator
    → notices (applied (change.Arrives c (brought.Name n)) d) (elim same [ true ↦ [] | false ↦ new_owner (record { name = m; old = old; new = new }) ∷ [] ])
    ≡ notices d (elim same [ true ↦ [] | false ↦ new_owner (record { name = m; old = old; new = new }) ∷ [] ])
unfolding audience applied is_shown may_see_name
moved_same d c n m old new true is = refl
moved_same d c n m old new false is =
    let x : OwnerChange = record { name = m; old = old; new = new } in
    ap (λ cs. posted_to cs (telling (new_owner x)) ++ []) (filter_put (is_told d (new_owner x)) sits_before c d.conns (untold_owner d c x is))

owned_same : (d : Desk) (c : Conn) (b : Brought) (is : List WireItem) → IsBrought c.kind is b → notices (applied (change.Arrives c b) d) (owned_first d c.id b) ≡ notices d (owned_first d c.id b)
owned_same d c brought.Nothing is by = refl
owned_same d c (brought.Entries es) is by = refl
owned_same d c (brought.Name n) is by =
    let old : ℕ = owner_id d.registry n in
    let new : ℕ = owner_with d.registry n c.id in
    moved_same d c n n old new (old == new) (brings_name c.kind is n by)

-- all notices, by the desk before it
told_same : (d : Desk) (c : Conn) (a : Asked) (b : Brought) → IsBrought c.kind a.items b → notices (with_newcomer d c a) (arrival c ++ first_owner d c a) ≡ notices d (arrival c ++ owned_first d c.id b)
told_same d c a b by =
    let after : Desk = applied (change.Arrives c b) d in
    let owned : List Subject = owned_first d c.id b in
    ap (λ (e : Desk). notices e (arrival c ++ first_owner d c a)) (desk_by_kind d c a c.kind b refl by)
    ∙ ap (λ ss. notices after (arrival c ++ ss)) (owned_by_kind d c a c.kind b refl by)
    ∙ flat_map-append (posts after) (arrival c) owned
    ∙ ap (λ ps. ps ++ notices after owned) (arrival_same d c b (is_monitor c.kind) refl)
    ∙ ap (λ ps. notices d (arrival c) ++ ps) (owned_same d c b a.items by)
    ∙ sym (flat_map-append (posts d) (arrival c) owned)

-- ---- what is planned

abbrev visits_of : Desk → Conn → Brought → List Part
visits_of d c b = record { seat = c.seat; act = raise c.size } ∷ notices d (arrival c ++ owned_first d c.id b)

abbrev arrived : Desk → Conn → List Part → Desk → Plan
arrived d c ps after = record {
  parts = record { seat = c.seat; act = raise c.size } ∷ ps;
  reply = reply.Hello c.id d.rules.size d.hashes;
  next = after;
  becomes = itself c;
}

abbrev pub draft_of : Desk → Conn → Brought → List code.Part → List (Option Content) → Draft
draft_of d c b qs cs = record { parts = qs; contents = cs; reply = reply.Hello c.id d.rules.size d.hashes; change = change.Arrives c b; after = itself c }

drafted_alike : (d : Desk) (c : Conn) (b : Brought) (qs : List code.Part) (cs : List (Option Content)) → cs ≡ [] → parts_with [] qs ≡ visits_of d c b
    → arrived d c (notices d (arrival c ++ owned_first d c.id b)) (applied (change.Arrives c b) d) ≡ drafted d (draft_of d c b qs cs)
unfolding drafted
drafted_alike d c b qs cs e h = rw (e, h) refl

pub hello_planned : (d : Desk) (creds : Creds) (a : Asked) (c : Conn) (b : Brought) (e : ℕ) (qs : List code.Part) (cs : List (Option Content)) → c ≡ newcomer d creds a → IsBrought c.kind a.items b → endpoint_of d (endpoint_in a.items) ≡ Some e
    → first_that_holds (refusals_of_newcomer d c b) ≡ None → cs ≡ [] → parts_with [] qs ≡ visits_of d c b → hello d creds a ≡ Ok (drafted d (draft_of d c b qs cs))
hello_planned d creds a c b e qs cs is by at judged none h =
    hello_goes d creds a c b e is by at judged
    ∙ ap (λ ps. Ok (arrived d c ps (with_newcomer d c a))) (told_same d c a b by)
    ∙ ap (λ after. Ok (arrived d c (notices d (arrival c ++ owned_first d c.id b)) after)) (desk_by_kind d c a c.kind b refl by)
    ∙ ap Ok (drafted_alike d c b qs cs none h)

can_visit : (d : Desk) (c : Conn) (b : Brought) (qs : List code.Part) → AllByRecursion IsSeated d.conns → c.seat < 64 → c.size % 8 ≡ 0 → parts_with [] qs ≡ visits_of d c b → AllByRecursion CanBeVisited (parts_with [] qs)
can_visit d c b qs seats below eights h = rw h ((below, eights), notices_visits d (arrival c ++ owned_first d c.id b) seats)

-- its parts can be visited
pub hello_visits : (d : Desk) (c : Conn) (b : Brought) (qs : List code.Part) → AllByRecursion IsSeated d.conns → c.seat < 64 → c.size % 8 ≡ 0 → parts_with [] qs ≡ visits_of d c b → AllByRecursion IsVisitable qs
hello_visits d c b qs seats below eights h = visitable_of qs (can_visit d c b qs seats below eights h)

-- without contents
pub hello_contents : (d : Desk) (c : Conn) (b : Brought) (qs : List code.Part) (cs : List (Option Content)) → cs ≡ [] → AllByRecursion IsSeated d.conns → c.seat < 64 → c.size % 8 ≡ 0 → parts_with [] qs ≡ visits_of d c b → StandByOffers cs qs
hello_contents d c b qs cs e seats below eights h = contentless cs qs e (can_visit d c b qs seats below eights h)

-- ---- the change can be made

answers_ok : (r : Result (Unit {0}) Refusal) → is_err r ≡ false → r ≡ Ok tt
answers_ok (Ok x) e = refl
answers_ok (Err why) e = absurd cc

-- what it brings is taken
pub takes_brought : (d : Desk) (c : Conn) (b : Brought) → first_that_holds (refusals_of_newcomer d c b) ≡ None → TakesBrought d.registry c.id b
unfolding refusals_of_newcomer put_refusal
takes_brought d c brought.Nothing none = tt
takes_brought d c (brought.Name n) none = answers_ok (activator_answer d.registry n) (all_fail (refusals_of_newcomer d c (brought.Name n)) none).1.1.0
takes_brought d c (brought.Entries es) none =
    let fail = all_fail (refusals_of_newcomer d c (brought.Entries es)) none in
    rw (fail.0, fail.1.1.1.0) refl

has_seat_left : (d : Desk) (c : Conn) (b : Brought) → first_that_holds (refusals_of_newcomer d c b) ≡ None → is_none (free_seat d) ≡ false
unfolding refusals_of_newcomer
has_seat_left d c b none = (all_fail (refusals_of_newcomer d c b) none).1.1.1.1.0

-- it has a seat
pub seated : (d : Desk) (creds : Creds) (a : Asked) (c : Conn) (b : Brought) → c ≡ newcomer d creds a → first_that_holds (refusals_of_newcomer d c b) ≡ None → c.seat < 64
unfolding newcomer
seated d creds a c b is none = rw is (go (free_seat d) refl (has_seat_left d c b none))
  where
    go : (o : Option ℕ) → free_seat d ≡ o → is_none o ≡ false → unwrap_or o 0 < 64
    go None e left = absurd cc
    go (Some s) e left = free_below d s e

pub size_asked : (d : Desk) (creds : Creds) (a : Asked) (c : Conn) → c ≡ newcomer d creds a → c.size ≡ a.size
unfolding newcomer
size_asked d creds a c is = ap (λ (x : Conn). x.size) is
