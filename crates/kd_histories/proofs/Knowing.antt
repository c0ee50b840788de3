-- Along a fair and true list of the desk each sitter has its seat, and the pools that its entries
-- leave open are those of the live connections.
use Rattle.std.specs.Prelude.{◌≡◌, ◌≢◌, ◌⊎◌, ◌<◌, ℕ, ◌+◌, ◌==◌, ◌&&◌, ◌||◌, Bool, true, false, not, cond, List, [], ◌∷◌, ◌++◌, map, Option, Some, None, Result, Ok, Err, refl, ◌≤◌}
use Rattle.std.proofs.Common.{sym, ap, ◌∙◌, subst, eqb-true, eq-eqb, ne_eqb, inl, inr, ⊎_elim, arith}
use Rattle.std.specs.List.{IsDistinct}
use Rattle.std.proofs.lemmas.Bool.{false≢true}
use mathlib.Core.Logic.{dite}
use native.Mathlib.Decide.{ℕ_discrete}
use Rattle.kd_types.specs.declared.refusal.Refusal.{Refusal}
use Rattle.kd_types.specs.declared.creds.Kind.{Kind}
use Rattle.kd_types.specs.declared.creds.Kind.TheVariants.{Ordinary}
use Rattle.kd_model.specs.Words.{contains, some_of}
use Rattle.kd_wire.specs.declared.command.Command.{Command}
use Rattle.kd_acts.specs.State.{Answer, Image, Visit, by_desk, close, done, drain, offer, post, raise, settle}
use Rattle.kd_acts.specs.Lasting.{open_after}
use Rattle.kd_commands.specs.declared.conn.Conn.{Conn}
use Rattle.kd_commands.specs.declared.who.Who.{Who}
use Rattle.kd_commands.specs.declared.who.WhoKind.{WhoKind}
use Rattle.kd_commands.specs.declared.who.WhoKind.TheVariants as who
use Rattle.kd_commands.specs.State.{Desk, has_seat, opening_desk}
use Rattle.kd_commands.specs.Hello.{is_free}
use Rattle.kd_commands.specs.Leaving.{closing}
use Rattle.kd_commands.specs.Plans.{Part, Plan}
use Rattle.kd_commands.specs.Seating.{IsKnown, IsNow, IsPlaced, is_live, open_along, open_at}
use Rattle.kd_commands.specs.Step.{ended, ended_by, parts_in}
use Rattle.kd_commands.specs.Visits.{first_ends, images_in, met, next_part, parts_visited, with_images}
use Rattle.kd_commands.proofs.Seats.{free_has_none, free_is_unblocked}
use Rattle.kd_histories.specs.Turns.{Left, Turn, left, started, removed, did, idle}
use Rattle.kd_histories.specs.Slots.{AreTold, IsLeft, IsTold, Slot, desk_behind, left_end, next_odd, part_behind, parts_left, planned, slot_after, slot_from, unborn, has_bus}
use Rattle.kd_histories.specs.Visits.{addressed, addressed_by, all_done, closings, visit_at, visits_at}
use Rattle.kd_histories.specs.Seats.{AreFair, IsAt, IsFair, IsOlder, Move, Sitter, arrives, departs, move_of, moved, sitter, sitter_after, sitter_from, stays}
use Rattle.kd_histories.specs.Known.{IsSeated, Knows, open_by}
use Rattle.kd_histories.proofs.Snocs.{open_append}
use Rattle.kd_histories.proofs.Waiting.{behind_seated, behind_unused, lived_behind, placed_either, waited_behind, fresh_bare}
use Rattle.kd_histories.proofs.Carried.{Carried, IsAwaited, IsAway, carried, now_free, planned_plan, plan_fresh, planned_stays}

-- ---- the visits of a seat open and close its pool as all visits do

open_one : (c : ℕ) (p : Part) (o : Answer) (b : Bool) → open_by (visit_at c p o) b ≡ open_at c p o b
unfolding open_by
open_one c p o b = go (p.seat == c)
  where
    go : (t : Bool) → open_by (elim t [ true ↦ (p.act, o) ∷ [] | false ↦ [] ]) b ≡ elim t [ true ↦ open_after (by_desk p.act) o b | false ↦ b ]
    go true = refl
    go false = refl

met_open : (is : List Image) (c : ℕ) (p : Part) (o : Answer) (b : Bool) → open_at c (met is p) o b ≡ open_at c p o b
met_open is c p o b = ap (λ t. elim (p.seat == c) [ true ↦ t | false ↦ b ]) (go p.act)
  where
    go : (v : Visit) → open_after (by_desk (with_images is v)) o b ≡ open_after (by_desk v) o b
    go (raise size) = refl
    go (close force) = refl
    go (offer user len source must content) = refl
    go (post image) = refl
    go drain = refl
    go (settle images) = refl

visited_open : (c : ℕ) (is : List Image) (ps : List Part) (outs : List Answer) (b : Bool) → open_by (visits_at c (parts_visited is ps outs) outs) b ≡ open_along c ps outs b
unfolding visits_at parts_visited open_along open_by
visited_open c is [] outs b = refl
visited_open c is (p ∷ ps) [] b = refl
visited_open c is (p ∷ ps) (o ∷ outs) b =
    open_append (visit_at c (met is p) o) (visits_at c (parts_visited (is ++ images_in o) ps outs) outs) b
    ∙ ap (λ t. open_by (visits_at c (parts_visited (is ++ images_in o) ps outs) outs) t) (open_one c (met is p) o b ∙ met_open is c p o b)
    ∙ visited_open c (is ++ images_in o) ps outs (open_at c p o b)

-- when each connection's pool is closed, none of them is open
closed_open : (c : ℕ) (cs : List Conn) (was : Bool) → open_by (visits_at c (map (closing true) cs) (map (λ (x : Conn). done) cs)) was ≡ (not (some_of (has_seat c) cs) && was)
unfolding visits_at open_by
closed_open c [] was = refl
closed_open c (x ∷ xs) was =
    open_append (visit_at c (closing true x) done) (visits_at c (map (closing true) xs) (map (λ (y : Conn). done) xs)) was
    ∙ (ap (open_by (visits_at c (map (closing true) xs) (map (λ (y : Conn). done) xs))) (open_one c (closing true x) done was)
    ∙ (closed_open c xs (open_at c (closing true x) done was) ∙ both (x.seat == c) (some_of (has_seat c) xs)))
  where
    both : (a b : Bool) → (not b && elim a [ true ↦ false | false ↦ was ]) ≡ (not (a || b) && was)
    both true true = refl
    both true false = refl
    both false true = refl
    both false false = refl

closings_shut : (d : Desk) (c : ℕ) → open_by (visits_at c (closings d) (all_done d)) (is_live d c) ≡ false
closings_shut d c = closed_open c d.conns (is_live d c) ∙ neither (is_live d c)
  where
    neither : (b : Bool) → (not b && b) ≡ false
    neither true = refl
    neither false = refl

-- ---- one entry

abbrev Seats : Type 0
Seats = ℕ → Option Sitter

abbrev Ups : Type 0
Ups = ℕ → Bool

-- an older sitter's seat waits
older_waits : (s : Slot) (k : Seats) (up : Ups) (j c : ℕ) → Knows s k up → IsOlder j s.generation (k c) → contains c s.desk.blocked ≡ true
older_waits s k up j c w old = (w.placed c old.one old.sits).before old.old

-- the caller of an entry is known to the desk, or it is of another bus
pub caller_is : (s : Slot) (k : Seats) (up : Ups) (j g : ℕ) (m : WhoKind) → Knows s k up → g ≡ s.generation → ((c : ℕ) → IsAt c g j m (k c))
    → ((kind : Kind) × IsKnown s.desk kind m) ⊎ ((o : Option ℕ) × (m ≡ who.Old o) × IsAwaited s.desk (who.Old o))
caller_is s k up j g who.Fresh w same at = inl (Ordinary, tt)
caller_is s k up j g (who.Conn id c) w same at =
    let p = w.placed c (record { pass = j; generation = g; id = id }) (at c (eq-eqb c c refl)) in inl (p.now same)
caller_is s k up j g (who.Keeper e) w same at = inl (Ordinary, tt)
caller_is s k up j g (who.Old None) w same at = inr (None, refl, tt)
caller_is s k up j g (who.Old (Some c)) w same at =
    inr (Some c, refl, older_waits s k up j c w (subst (λ (n : ℕ). IsOlder j n (k c)) same (at c (eq-eqb c c refl))))

-- a sitter's seat isn't free
taken : (s : Slot) (c : ℕ) (t : Sitter) → IsSeated s c t → is_free s.desk c ≡ true → ⊥
taken s c t p free = dite (ℕ_discrete t.generation s.generation)
    (λ same. let x = p.now same in
    ⊎_elim (λ l. false≢true (sym (free_has_none s.desk c free) ∙ l)) (λ b. false≢true (sym (free_is_unblocked s.desk c free) ∙ b)) (placed_either s.desk t.id c x.0 x.1))
    (λ other. false≢true (sym (free_is_unblocked s.desk c free) ∙ p.before other))

-- nobody sits at a free seat
nobody : (s : Slot) (k : Seats) (up : Ups) (c : ℕ) → Knows s k up → is_free s.desk c ≡ true → k c ≡ None
nobody s k up c w free = go (k c) refl
  where
    go : (o : Option Sitter) → k c ≡ o → k c ≡ None
    go None e = e
    go (Some t) e = absurd (taken s c t (w.placed c t e) free)

some_sitter : (a b : Sitter) → Some a ≡ Some b → a ≡ b
some_sitter a b e = cc

no_sitter : (t : Sitter) → ◌≡◌ {A = Option Sitter} None (Some t) → ⊥
no_sitter t e = cc

pub moved_same : (g : ℕ) (m : WhoKind) → moved g m m ≡ stays
moved_same g who.Fresh = refl
moved_same g (who.Conn id s) = refl
moved_same g (who.Keeper e) = refl
moved_same g (who.Old None) = refl
moved_same g (who.Old (Some s)) = refl

-- the desk of a slot changed, whose caller is this one
module _ (s : Slot) (d' : Desk) (k : Seats) (j g : ℕ) (was : (c : ℕ) (t : Sitter) → k c ≡ Some t → IsSeated s c t) (same : g ≡ s.generation) where
  abbrev s' : Slot
  s' = record s { desk = d' }

  abbrev Placed : WhoKind → Type 0
  Placed m = (id seat : ℕ) (kind : Kind) → IsPlaced s.desk id seat kind → IsAway seat m → IsPlaced d' id seat kind

  abbrev Waits : WhoKind → Type 0
  Waits m = (c : ℕ) → c < 64 → IsAway c m → contains c s.desk.blocked ≡ true → contains c d'.blocked ≡ true

  seated_still : (m : WhoKind) → Placed m → Waits m → (c : ℕ) (t : Sitter) → IsSeated s c t → IsAway c m → IsSeated s' c t
  seated_still m placed waits c t p away = record {
    low = p.low;
    past = p.past;
    now = λ e. let x = p.now e in (x.0, placed t.id c x.0 x.1 away);
    before = λ ne. waits c p.low away (p.before ne);
  }

  left_seat : (m : WhoKind) (a : ℕ) → Placed m → Waits m → ((c : ℕ) → c ≢ a → IsAway c m) → (c : ℕ) (t : Sitter) → cond (a == c) None (k c) ≡ Some t → IsSeated s' c t
  left_seat m a placed waits away c t e = dite (ℕ_discrete a c)
      (λ z. absurd (no_sitter t (sym (ap (λ b. cond b None (k c)) (eq-eqb a c z)) ∙ e)))
      (λ ne. seated_still m placed waits c t (was c t (sym (ap (λ b. cond b None (k c)) (ne_eqb a c ne)) ∙ e)) (away c (λ z. ne (sym z))))

  -- a connection of this bus at its seat
  placed_now : (id c : ℕ) (kind : Kind) → IsPlaced d' id c kind → IsSeated s' c (record { pass = j; generation = g; id = id })
  placed_now id c kind p = record {
    low = p.low;
    past = omega (arith, same);
    now = λ _. (kind, p);
    before = λ ne. absurd (ne same);
  }

  seated_after : (kind : Kind) (m b : WhoKind) → ((c : ℕ) → IsAt c g j m (k c)) → Placed m → Waits m → IsNow s.desk d' kind m b
      → (c : ℕ) (t : Sitter) → sitter_after c j (moved g m b) (k c) ≡ Some t → IsSeated s' c t
  seated_after kind who.Fresh who.Fresh at placed waits now c t e = seated_still who.Fresh placed waits c t (was c t e) tt
  seated_after kind who.Fresh (who.Keeper x) at placed waits now c t e = seated_still who.Fresh placed waits c t (was c t e) tt
  seated_after kind who.Fresh (who.Old x) at placed waits now c t e = absurd now
  seated_after kind who.Fresh (who.Conn id a) at placed waits now c t e = go (a == c) refl e
    where
      go : (b : Bool) → (a == c) ≡ b → cond b (Some (record { pass = j; generation = g; id = id })) (k c) ≡ Some t → IsSeated s' c t
      go true q e =
          let z : a ≡ c = eqb-true a c q in
          subst (IsSeated s' c) (some_sitter (record { pass = j; generation = g; id = id }) t e)
          (⊎_elim (λ old. absurd (let f : who.Fresh ≡ who.Conn id a = old.0 in cc))
          (λ new. placed_now id c new.2.0.kind (subst (λ (n : ℕ). IsPlaced d' id n new.2.0.kind) z new.2.2)) now)
      go false q e = seated_still who.Fresh placed waits c t (was c t e) tt
  seated_after kind (who.Conn id a) who.Fresh at placed waits now c t e = left_seat (who.Conn id a) a placed waits (λ c ne. ne) c t e
  seated_after kind (who.Conn id a) (who.Keeper x) at placed waits now c t e = left_seat (who.Conn id a) a placed waits (λ c ne. ne) c t e
  seated_after kind (who.Conn id a) (who.Old x) at placed waits now c t e = absurd now
  seated_after kind (who.Conn id a) (who.Conn id' a') at placed waits now c t e = dite (ℕ_discrete c a)
      (λ z.
      let it : record { pass = j; generation = g; id = id } ≡ t = some_sitter (record { pass = j; generation = g; id = id }) t (sym (at c (eq-eqb a c (sym z))) ∙ e) in
      subst (IsSeated s' c) it (placed_now id c kind
      (⊎_elim (λ old. let f : who.Conn id a ≡ who.Conn id' a' = old.0 in
      let ids : id ≡ id' = cc in let seats : a ≡ a' = cc in
      subst (λ (n : ℕ). IsPlaced d' n c kind) (sym ids) (subst (λ (n : ℕ). IsPlaced d' id' n kind) (sym seats ∙ sym z) old.1))
      (λ new. absurd (let f : who.Conn id a ≡ who.Fresh = new.0 in cc)) now)))
      (λ ne. seated_still (who.Conn id a) placed waits c t (was c t e) ne)
  seated_after kind (who.Keeper x) b at placed waits now c t e = seated_still (who.Keeper x) placed waits c t (was c t e) tt
  seated_after kind (who.Old None) b at placed waits now c t e = seated_still (who.Old None) placed waits c t (was c t e) tt
  seated_after kind (who.Old (Some a)) who.Fresh at placed waits now c t e = left_seat (who.Old (Some a)) a placed waits (λ c ne. ne) c t e
  seated_after kind (who.Old (Some a)) (who.Keeper x) at placed waits now c t e = left_seat (who.Old (Some a)) a placed waits (λ c ne. ne) c t e
  seated_after kind (who.Old (Some a)) (who.Old x) at placed waits now c t e = absurd now
  seated_after kind (who.Old (Some a)) (who.Conn id' a') at placed waits now c t e =
      absurd (⊎_elim (λ old. let f : who.Old (Some a) ≡ who.Conn id' a' = old.0 in cc) (λ new. let f : who.Old (Some a) ≡ who.Fresh = new.0 in cc) now)

-- with pools that are open alike
with_ups : (s : Slot) (k : Seats) (up up' : Ups) → ((c : ℕ) → up c ≡ up' c) → Knows s k up → Knows s k up'
with_ups s k up up' same w = record { seated = w.seated; placed = w.placed; live = λ c. sym (same c) ∙ w.live c }

-- the entry of a command
module _ (s : Slot) (k : Seats) (up : Ups) (j : ℕ) (l : Left) (w : Knows s k up) (is : IsLeft s l) (at : (c : ℕ) → IsAt c l.generation j l.who.member (k c)) where
  abbrev plans : Result Plan Refusal
  plans = planned s.generation l.aim s.desk l.who l.command

  abbrev k' : Seats
  k' c = sitter_after c j (moved l.generation l.who.member l.becomes) (k c)

  abbrev up' : Ups
  up' c = open_by (visits_at c (parts_visited [] (parts_left s l) l.outs) l.outs) (up c)

  abbrev Goal : Type 0
  Goal = Knows (record s { desk = (left_end s l).next }) k' up'

  -- nothing changed
  quiet : (left_end s l).next ≡ s.desk → l.becomes ≡ l.who.member → ((c : ℕ) → up' c ≡ is_live s.desk c) → Goal
  quiet desk same ups =
      let still : (c : ℕ) → k' c ≡ k c = λ c. ap (λ b. sitter_after c j (moved l.generation l.who.member b) (k c)) same ∙ ap (λ m. sitter_after c j m (k c)) (moved_same l.generation l.who.member) in
      subst (λ d. Knows (record s { desk = d }) k' up') (sym desk) record {
        seated = w.seated;
        placed = λ c t e. w.placed c t (sym (still c) ∙ e);
        live = ups;
      }

  becomes_refused : (why : Refusal) → plans ≡ Err why → l.becomes ≡ l.who.member
  unfolding left_end
  becomes_refused why e = is.becomes ∙ subst (λ r. (ended_by s.desk l.who r l.outs).becomes ≡ l.who.member) (sym e) refl

  refused_one : (why : Refusal) → plans ≡ Err why → Goal
  unfolding left_end visits_at parts_visited open_by
  refused_one why e = quiet
      (by_end (λ r. (ended_by s.desk l.who r l.outs).next ≡ s.desk) refl)
      (is.becomes ∙ by_end (λ r. (ended_by s.desk l.who r l.outs).becomes ≡ l.who.member) refl)
      (λ c. none c ∙ w.live c)
    where
      by_end : (P : Result Plan Refusal → Type 0) → P (Err why) → P plans
      by_end P x = subst P (sym e) x

      none : (c : ℕ) → up' c ≡ up c
      none c = ap (λ r. open_by (visits_at c (parts_visited [] (parts_in r) l.outs) l.outs) (up c)) e

  module _ (p : Plan) (e : plans ≡ Ok p) where
    it : Carried s.desk l.who.member p
    it = carried s.desk l.who l.command p w.seated (caller_is s k up j l.generation l.who.member w is.generation at) (planned_plan s.generation l.aim s.desk l.who l.command p e)

    by_plan : (P : Result Plan Refusal → Type 0) → P (Ok p) → P plans
    by_plan P x = subst P (sym e) x

    ups_are : (c : ℕ) → up' c ≡ open_along c p.parts l.outs (is_live s.desk c)
    ups_are c =
        ap (λ r. open_by (visits_at c (parts_visited [] (parts_in r) l.outs) l.outs) (up c)) e
        ∙ (visited_open c [] p.parts l.outs (up c) ∙ ap (open_along c p.parts l.outs) (w.live c))

    becomes_same : (why : Refusal) → first_ends p.parts l.outs ≡ Some why → l.becomes ≡ l.who.member
    unfolding left_end
    becomes_same why f = is.becomes ∙ by_plan (λ r. (ended_by s.desk l.who r l.outs).becomes ≡ l.who.member) (subst (λ o. (ended s.desk l.who p o).becomes ≡ l.who.member) (sym f) refl)

    becomes_is : first_ends p.parts l.outs ≡ None → l.becomes ≡ p.becomes
    unfolding left_end
    becomes_is f = is.becomes ∙ by_plan (λ r. (ended_by s.desk l.who r l.outs).becomes ≡ p.becomes) (subst (λ o. (ended s.desk l.who p o).becomes ≡ p.becomes) (sym f) refl)

    all_visited : first_ends p.parts l.outs ≡ None → next_part [] p.parts l.outs ≡ None
    all_visited f = subst (λ o. elim o [ Some why ↦ None | None ↦ next_part [] p.parts l.outs ] ≡ None) f (subst (λ r. part_behind (parts_in r) l.outs ≡ None) e is.all)

    up_next : first_ends p.parts l.outs ≡ None → (c : ℕ) → up' c ≡ is_live p.next c
    up_next f c = ups_are c ∙ it.opens l.outs c f (all_visited f)

    -- its first visit ended all
    stopped : (why : Refusal) → first_ends p.parts l.outs ≡ Some why → Goal
    unfolding left_end
    stopped why f = quiet
        (by_plan (λ r. (ended_by s.desk l.who r l.outs).next ≡ s.desk) (by_end (λ o. (ended s.desk l.who p o).next ≡ s.desk) refl))
        (becomes_same why f)
        (λ c. ups_are c ∙ it.stops l.outs c why f)
      where
        by_end : (P : Option Refusal → Type 0) → P (Some why) → P (first_ends p.parts l.outs)
        by_end P x = subst P (sym f) x

    -- it was carried out
    carried_out : first_ends p.parts l.outs ≡ None → Goal
    unfolding left_end
    carried_out f =
        let next : (left_end s l).next ≡ p.next = by_plan (λ r. (ended_by s.desk l.who r l.outs).next ≡ p.next) (by_end (λ o. (ended s.desk l.who p o).next ≡ p.next) refl) in
        subst (λ d. Knows (record s { desk = d }) k' up') (sym next) record {
          seated = it.seated;
          placed = seated_after s p.next k j l.generation w.placed is.generation it.kind l.who.member l.becomes at it.placed it.waits
              (subst (λ b. IsNow s.desk p.next it.kind l.who.member b) (sym (becomes_is f)) it.now);
          live = up_next f;
        }
      where
        by_end : (P : Option Refusal → Type 0) → P None → P (first_ends p.parts l.outs)
        by_end P x = subst P (sym f) x

  pub left_knows : Goal
  left_knows = go plans refl
    where
      ends : (p : Plan) → plans ≡ Ok p → (o : Option Refusal) → first_ends p.parts l.outs ≡ o → Goal
      ends p e (Some why) f = stopped p e why f
      ends p e None f = carried_out p e f

      go : (r : Result Plan Refusal) → plans ≡ r → Goal
      go (Err why) e = refused_one why e
      go (Ok p) e = ends p e (first_ends p.parts l.outs) refl

  -- what its caller is then: what it was, or what the plan makes of it
  pub becomes_either : (l.becomes ≡ l.who.member) ⊎ ((kind : Kind) × ((next : Desk) × IsNow s.desk next kind l.who.member l.becomes))
  becomes_either = go plans refl
    where
      ends : (p : Plan) → plans ≡ Ok p → (o : Option Refusal) → first_ends p.parts l.outs ≡ o → (l.becomes ≡ l.who.member) ⊎ ((kind : Kind) × ((next : Desk) × IsNow s.desk next kind l.who.member l.becomes))
      ends p e (Some why) f = inl (becomes_same p e why f)
      ends p e None f = let x = it p e in inr (x.kind, (p.next, subst (λ b. IsNow s.desk p.next x.kind l.who.member b) (sym (becomes_is p e f)) x.now))

      go : (r : Result Plan Refusal) → plans ≡ r → (l.becomes ≡ l.who.member) ⊎ ((kind : Kind) × ((next : Desk) × IsNow s.desk next kind l.who.member l.becomes))
      go (Err why) e = inl (becomes_refused why e)
      go (Ok p) e = ends p e (first_ends p.parts l.outs) refl

  -- the desk then is as it was, or the plan's
  next_either : ((left_end s l).next ≡ s.desk) ⊎ ((p : Plan) × (plans ≡ Ok p) × ((left_end s l).next ≡ p.next))
  unfolding left_end
  next_either = go plans refl
    where
      ends : (p : Plan) → plans ≡ Ok p → (o : Option Refusal) → first_ends p.parts l.outs ≡ o → ((ended_by s.desk l.who plans l.outs).next ≡ s.desk) ⊎ ((p : Plan) × (plans ≡ Ok p) × ((ended_by s.desk l.who plans l.outs).next ≡ p.next))
      ends p e (Some why) f = inl (subst (λ r. (ended_by s.desk l.who r l.outs).next ≡ s.desk) (sym e) (subst (λ o. (ended s.desk l.who p o).next ≡ s.desk) (sym f) refl))
      ends p e None f = inr (p, e, subst (λ r. (ended_by s.desk l.who r l.outs).next ≡ p.next) (sym e) (subst (λ o. (ended s.desk l.who p o).next ≡ p.next) (sym f) refl))

      go : (r : Result Plan Refusal) → plans ≡ r → ((ended_by s.desk l.who plans l.outs).next ≡ s.desk) ⊎ ((p : Plan) × (plans ≡ Ok p) × ((ended_by s.desk l.who plans l.outs).next ≡ p.next))
      go (Err why) e = inl (subst (λ r. (ended_by s.desk l.who r l.outs).next ≡ s.desk) (sym e) refl)
      go (Ok p) e = ends p e (first_ends p.parts l.outs) refl

  -- it gives at most one id
  pub left_ids : (left_end s l).next.next_id ≤ s.desk.next_id + 1
  left_ids = ⊎_elim
      (λ same. subst (λ (d : Desk). d.next_id ≤ s.desk.next_id + 1) (sym same) (omega arith))
      (λ x. subst (λ (d : Desk). d.next_id ≤ s.desk.next_id + 1) (sym x.2) (it x.0 x.1).ids)
      next_either

  -- and without a bus nobody becomes a connection
  pub left_bare : has_bus s.generation ≡ false → s.desk.conns ≡ [] → (left_end s l).next.conns ≡ []
  left_bare dead bare = ⊎_elim
      (λ same. ap (λ (d : Desk). d.conns) same ∙ bare)
      (λ x. ap (λ (d : Desk). d.conns) x.2 ∙ planned_bare x.0 x.1 l.who.member refl)
      next_either
    where
      planned_bare : (p : Plan) → plans ≡ Ok p → (m : WhoKind) → l.who.member ≡ m → p.next.conns ≡ []
      planned_bare p e who.Fresh q =
          fresh_bare s.desk l.who.creds l.command p (planned_stays s.generation l.aim s.desk l.who l.command p q dead e)
          (plan_fresh s.desk l.who l.command p q (planned_plan s.generation l.aim s.desk l.who l.command p e)) ∙ bare
      planned_bare p e (who.Conn id c) q = (it p e).bare (λ z. let no : who.Conn id c ≡ who.Fresh = sym q ∙ z in cc) bare
      planned_bare p e (who.Keeper x) q = (it p e).bare (λ z. let no : who.Keeper x ≡ who.Fresh = sym q ∙ z in cc) bare
      planned_bare p e (who.Old o) q = (it p e).bare (λ z. let no : who.Old o ≡ who.Fresh = sym q ∙ z in cc) bare

  -- who moves was carried out
  never : (m : Move) → (m ≡ stays → ⊥) → moved l.generation l.who.member l.becomes ≡ m → l.becomes ≡ l.who.member → ⊥
  never m isnt e same = isnt (sym e ∙ (ap (moved l.generation l.who.member) same ∙ moved_same l.generation l.who.member))

  -- who arrives takes a seat where nobody sits
  pub arrives_free : (g id c : ℕ) → moved l.generation l.who.member l.becomes ≡ arrives g id c → k c ≡ None
  arrives_free g id c m = go plans refl
    where
      isnt : arrives g id c ≡ stays → ⊥
      isnt e = cc

      ends : (p : Plan) → plans ≡ Ok p → (o : Option Refusal) → first_ends p.parts l.outs ≡ o → k c ≡ None
      ends p e (Some why) f = absurd (never (arrives g id c) isnt m (becomes_same p e why f))
      ends p e None f = let x = it p e in
          nobody s k up c w (now_free s.desk p.next x.kind l.who.member p.becomes l.generation g id c (ap (moved l.generation l.who.member) (sym (becomes_is p e f)) ∙ m) x.now)

      go : (r : Result Plan Refusal) → plans ≡ r → k c ≡ None
      go (Err why) e = absurd (never (arrives g id c) isnt m (becomes_refused why e))
      go (Ok p) e = ends p e (first_ends p.parts l.outs) refl

  -- the pool of a seat that was left is closed by what the entry addresses
  pub departs_shut : (c : ℕ) → moved l.generation l.who.member l.becomes ≡ departs c → up' c ≡ false
  departs_shut c m = go plans refl
    where
      isnt : departs c ≡ stays → ⊥
      isnt e = cc

      ends : (p : Plan) → plans ≡ Ok p → (o : Option Refusal) → first_ends p.parts l.outs ≡ o → up' c ≡ false
      ends p e (Some why) f = absurd (never (departs c) isnt m (becomes_same p e why f))
      ends p e None f = let x = it p e in
          up_next p e f c ∙ x.left l.generation c (ap (moved l.generation l.who.member) (sym (becomes_is p e f)) ∙ m)

      go : (r : Result Plan Refusal) → plans ≡ r → up' c ≡ false
      go (Err why) e = absurd (never (departs c) isnt m (becomes_refused why e))
      go (Ok p) e = ends p e (first_ends p.parts l.outs) refl

-- ---- a bus goes, and another comes or none

behind_knows : (s : Slot) (k : Seats) (up : Ups) (g creator size hashes : ℕ) → s.generation < g → Knows s k up
    → Knows (record { generation = g; desk = desk_behind s.desk creator size hashes }) k (λ c. open_by (visits_at c (closings s.desk) (all_done s.desk)) (up c))
behind_knows s k up g creator size hashes more w = record {
  seated = behind_seated s.desk creator size hashes;
  placed = λ c t e. waits c t (w.placed c t e);
  live = λ c. ap (open_by (visits_at c (closings s.desk) (all_done s.desk))) (w.live c) ∙ (closings_shut s.desk c ∙ sym (behind_unused s.desk creator size hashes c));
}
  where
    waiting : (c : ℕ) (t : Sitter) → IsSeated s c t → contains c (desk_behind s.desk creator size hashes).blocked ≡ true
    waiting c t p = dite (ℕ_discrete t.generation s.generation)
        (λ same. let x = p.now same in ⊎_elim (lived_behind s.desk creator size hashes c p.low) (waited_behind s.desk creator size hashes c p.low) (placed_either s.desk t.id c x.0 x.1))
        (λ other. waited_behind s.desk creator size hashes c p.low (p.before other))

    waits : (c : ℕ) (t : Sitter) → IsSeated s c t → IsSeated (record { generation = g; desk = desk_behind s.desk creator size hashes }) c t
    waits c t p = record {
      low = p.low;
      past = let past = p.past in omega (arith, past, more);
      now = λ e. absurd (let past = p.past in omega (arith, past, more, e));
      before = λ _. waiting c t p;
    }

odd_above : (g : ℕ) → g < next_odd g
odd_above g = omega arith

-- ---- any entry, and any list

pub knows_after : (s : Slot) (k : Seats) (up : Ups) (j : ℕ) (t : Turn) → Knows s k up → IsTold s t → ((c : ℕ) → IsFair c j t (k c))
    → Knows (slot_after t s) (λ c. sitter_after c j (move_of t) (k c)) (λ c. open_by (addressed_by c s t) (up c))
unfolding IsTold IsFair slot_after move_of addressed_by open_by
knows_after s k up j (left l) w is fair = left_knows s k up j l w is (λ c. (fair c).0)
knows_after s k up j (started b) w is fair = behind_knows s k up (next_odd s.generation) b.creator b.size b.hashes (odd_above s.generation) w
knows_after s k up j (removed g) w is fair = behind_knows s k up (s.generation + 1) s.desk.creator s.desk.rules.size s.desk.hashes (omega arith) w
knows_after s k up j (did d) w is fair = w
knows_after s k up j idle w is fair = w

pub knows_along : (s : Slot) (k : Seats) (up : Ups) (xs : List (ℕ × Turn)) → Knows s k up → AreTold s xs → ((c : ℕ) → AreFair c (k c) xs)
    → Knows (slot_from s xs) (λ c. sitter_from c (k c) xs) (λ c. open_by (addressed c s xs) (up c))
unfolding AreTold AreFair slot_from sitter_from addressed open_by
knows_along s k up [] w all fair = w
knows_along s k up (x ∷ xs) w all fair =
    let t : Turn = x.1 in
    let s' : Slot = slot_after t s in
    let k'' : Seats = λ c. sitter_after c x.0 (move_of t) (k c) in
    let one : Knows s' k'' (λ c. open_by (addressed_by c s t) (up c)) = knows_after s k up x.0 t w all.0 (λ c. (fair c).0) in
    with_ups (slot_from s' xs) (λ c. sitter_from c (k'' c) xs) (λ c. open_by (addressed c s' xs) (open_by (addressed_by c s t) (up c))) (λ c. open_by (addressed_by c s t ++ addressed c s' xs) (up c))
    (λ c. sym (open_append (addressed_by c s t) (addressed c s' xs) (up c)))
    (knows_along s' k'' (λ c. open_by (addressed_by c s t) (up c)) xs one all.1 (λ c. (fair c).1))

pub unborn_knows : Knows unborn (λ c. None) (λ c. false)
unfolding opening_desk IsDistinct
unborn_knows = record {
  seated = record { old_ids = tt; own_ids = tt; few_seats = tt; own_seats = tt; unblocked = tt };
  placed = λ c t e. absurd (no_sitter t e);
  live = λ c. refl;
}

pub lists_know : (list : List (ℕ × Turn)) → AreTold unborn list → ((c : ℕ) → AreFair c None list) → Knows (slot_from unborn list) (λ c. sitter c list) (λ c. open_by (addressed c unborn list) false)
lists_know list all fair = knows_along unborn (λ c. None) (λ c. false) list unborn_knows all fair

-- a plan opens a pool only where nobody sits
pub raises_nobody : (s : Slot) (k : Seats) (up : Ups) (j : ℕ) (aim : Option ℕ) (w : Who) (x : Command) (p : Plan) → Knows s k up → ((c : ℕ) → IsAt c s.generation j w.member (k c))
    → planned s.generation aim s.desk w x ≡ Ok p
    → (outs : List Answer) (q : Part) (size : ℕ) → next_part [] p.parts outs ≡ Some q → q.act ≡ raise size → (q.seat < 64) × (k q.seat ≡ None)
raises_nobody s k up j aim w x p know at e outs q size next is =
    let it = carried s.desk w x p know.seated (caller_is s k up j s.generation w.member know refl at) (planned_plan s.generation aim s.desk w x p e) in
    let r = it.raises outs q size next is in
    (r.0, nobody s k up q.seat know r.1)
