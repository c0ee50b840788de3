-- All but the caller of a plan stay where they are, or their seats wait for them.
use Rattle.std.proofs.Common.{◌≡◌, ◌≢◌, ℕ, ◌<◌, ◌+◌, Bool, true, false, cond, List, [], ◌∷◌, ◌++◌, Option, Some, None, refl, sym, ap, ◌∙◌, arith}
use Rattle.std.specs.Prelude.{◌==◌, ◌||◌, not}
use Rattle.std.proofs.lemmas.Bool.{eqb-true, ne_eqb, or_left, or_right}
use Rattle.std.proofs.lemmas.Bool.Decides.{nat_tests}
use Rattle.std.proofs.lemmas.List.Folds.{list_any-append}
use Rattle.std.proofs.lemmas.Map.Views.{any-filter_same}
use Rattle.kd_types.specs.declared.creds.Kind.{Kind}
use Rattle.kd_model.specs.Words.{contains, first}
use Rattle.kd_model.proofs.Lists.{all_of_found, found_passes}
use Rattle.kd_replies.specs.Requests.{is_among}
use Rattle.kd_commands.specs.declared.conn.Conn.{Conn}
use Rattle.kd_commands.specs.declared.who.WhoKind.{WhoKind}
use Rattle.kd_commands.specs.State.{Desk, conn_of, has_id, sits_before}
use Rattle.kd_commands.specs.Leaving.{ids_of, on_endpoint}
use Rattle.kd_commands.specs.Plans.{Plan}
use Rattle.kd_commands.specs.Seating.{AreSeated, IsElsewhere, IsPlaced, OthersStay}
use Rattle.kd_commands.proofs.Callers.{same_placed}
use Rattle.kd_commands.proofs.Finds.{first_of_put}
use Rattle.kd_commands.proofs.Gone.{contains_one}
use Rattle.kd_commands.proofs.Members.{AreAlike, IsAlike, endpoint_alike, found_without, one_alike, seats_of, without}
use Rattle.kd_commands.proofs.Moves.{Arrives, Ends, Learns, Leaves, Moves, arrives, ends, learns, leaves, stays}
use Rattle.kd_commands.proofs.Moving.{moves}
use Rattle.kd_commands.proofs.SeatSets.{in_set}

-- ---- where some go

-- what the seats that wait have to have: those that waited, and those of whoever is gone
abbrev Waits : Desk → Desk → List Conn → ℕ → Type 0
Waits d e gone seat =
    (contains seat d.blocked ≡ true → contains seat e.blocked ≡ true)
    × (contains seat (seats_of gone) ≡ true → contains seat e.blocked ≡ true)

placed_without :
    (d e : Desk) (gone : List Conn) (id seat : ℕ) (kind : Kind) → AreAlike gone d.conns → e.conns ≡ without gone d.conns → e.next_id ≡ d.next_id
    → Waits d e gone seat → IsPlaced d id seat kind → IsPlaced e id seat kind
placed_without d e gone id seat kind alike conns next waits placed = record {
  old_id = rw next placed.old_id;
  low = placed.low;
  live = λ c h. placed.live c (stay c (is_among (ids_of gone) id) (sym found ∙ h));
  gone = λ h. left (is_among (ids_of gone) id) refl (conn_of d id) refl (sym found ∙ h);
}
  where
    found : conn_of e id ≡ cond (not (is_among (ids_of gone) id)) (conn_of d id) None
    found = ap (first (has_id id)) conns ∙ found_without id gone d.conns

    stay : (c : Conn) (b : Bool) → cond (not b) (conn_of d id) None ≡ Some c → conn_of d id ≡ Some c
    stay c true h = absurd cc
    stay c false h = h

    among : (c : Conn) → conn_of d id ≡ Some c → is_among (ids_of gone) id ≡ contains seat (seats_of gone)
    among c live =
        let same : c.id ≡ id = eqb-true c.id id (found_passes (has_id id) d.conns c live) in
        let here : IsAlike gone c = all_of_found (IsAlike gone) (has_id id) d.conns c alike live in
        ap (is_among (ids_of gone)) (sym same) ∙ here ∙ ap (λ n. contains n (seats_of gone)) (placed.live c live).0

    left : (b : Bool) → is_among (ids_of gone) id ≡ b → (o : Option Conn) → conn_of d id ≡ o
        → cond (not b) (conn_of d id) None ≡ None → contains seat e.blocked ≡ true
    left true is (Some c) live h = waits.1 (sym (among c live) ∙ is)
    left true is None none h = waits.0 (placed.gone none)
    left false is o live h = waits.0 (placed.gone h)

-- one that sat elsewhere left
placed_left :
    (d : Desk) (m : WhoKind) (p : Plan) (id seat : ℕ) (kind : Kind) (t : Leaves d m p)
    → AreSeated d → IsElsewhere seat m → IsPlaced d id seat kind → IsPlaced p.next id seat kind
placed_left d m p id seat kind t s elsewhere =
    let other : seat ≢ t.one.seat = rw t.was at elsewhere in
    placed_without d p.next (t.one ∷ []) id seat kind (one_alike d t.one s t.live) t.conns t.next_id
    (λ h. ap (contains seat) t.blocked ∙ h, λ h. absurd (other (eqb-true seat t.one.seat (sym (contains_one t.one.seat seat) ∙ h))))

-- all on an endpoint left, and their seats wait
placed_ended :
    (d : Desk) (m : WhoKind) (p : Plan) (id seat : ℕ) (kind : Kind) (t : Ends d m p) → AreSeated d → IsPlaced d id seat kind → IsPlaced p.next id seat kind
placed_ended d m p id seat kind t s placed =
    placed_without d p.next (on_endpoint d t.endpoint) id seat kind (endpoint_alike d t.endpoint s) t.conns t.next_id
    (λ h. both ∙ or_left (contains seat d.blocked) (contains seat seats) h, λ h. both ∙ or_right (contains seat d.blocked) (contains seat seats) h)
    placed
  where
    seats : List ℕ
    seats = seats_of (on_endpoint d t.endpoint)

    both : contains seat p.next.blocked ≡ (contains seat d.blocked || contains seat seats)
    both =
        ap (contains seat) t.blocked
        ∙ in_set seat (d.blocked ++ seats) placed.low
        ∙ list_any-append (λ n. seat == n) d.blocked seats

-- ---- where one comes, or learns that it is gone

placed_arrived : (d : Desk) (m : WhoKind) (p : Plan) (id seat : ℕ) (kind : Kind) (t : Arrives d m p) → IsPlaced d id seat kind → IsPlaced p.next id seat kind
placed_arrived d m p id seat kind t placed =
    let before : id < d.next_id = placed.old_id in
    let next : p.next.next_id ≡ d.next_id + 1 = t.next_id in
    let new : has_id id t.one ≡ false = fresh t.one.id id d.next_id t.new_id before in
    let same : conn_of p.next id ≡ conn_of d id = ap (first (has_id id)) t.conns ∙ first_of_put (has_id id) sits_before t.one d.conns new in
    record {
      old_id = omega arith;
      low = placed.low;
      live = λ c h. placed.live c (sym same ∙ h);
      gone = λ h. ap (contains seat) t.blocked ∙ placed.gone (sym same ∙ h);
    }
  where
    fresh : (a b n : ℕ) → a ≡ n → b < n → (a == b) ≡ false
    fresh a b n e h = grind (arith, nat_tests)

placed_learned :
    (d : Desk) (m : WhoKind) (p : Plan) (id seat : ℕ) (kind : Kind) (t : Learns d m p)
    → IsElsewhere seat m → IsPlaced d id seat kind → IsPlaced p.next id seat kind
placed_learned d m p id seat kind t elsewhere placed =
    let other : seat ≢ t.seat = rw t.was at elsewhere in
    let waits : contains seat p.next.blocked ≡ contains seat d.blocked =
    ap (contains seat) t.blocked
    ∙ any-filter_same (λ n. seat == n) (λ n. not (n == t.seat)) true (λ n h. kept n (eqb-true seat n h) other) d.blocked in
    record {
      old_id = rw t.next_id placed.old_id;
      low = placed.low;
      live = λ c h. placed.live c (ap (first (has_id id)) (sym t.conns) ∙ h);
      gone = λ h. waits ∙ placed.gone (ap (first (has_id id)) (sym t.conns) ∙ h);
    }
  where
    kept : (n : ℕ) → seat ≡ n → seat ≢ t.seat → not (n == t.seat) ≡ true
    kept n e h = ap not (ne_eqb n t.seat (λ same. h (e ∙ same)))

-- ---- any

placed_after :
    (d : Desk) (m : WhoKind) (p : Plan) (id seat : ℕ) (kind : Kind)
    → AreSeated d → Moves d m p → IsElsewhere seat m → IsPlaced d id seat kind → IsPlaced p.next id seat kind
placed_after d m p id seat kind s (stays t) elsewhere = same_placed d p.next id seat kind t.conns t.blocked t.next_id
placed_after d m p id seat kind s (arrives t) elsewhere = placed_arrived d m p id seat kind t
placed_after d m p id seat kind s (leaves t) elsewhere = placed_left d m p id seat kind t s elsewhere
placed_after d m p id seat kind s (ends t) elsewhere = placed_ended d m p id seat kind t s
placed_after d m p id seat kind s (learns t) elsewhere = placed_learned d m p id seat kind t elsewhere

pub others_stay : OthersStay
others_stay d k w x p s is e = λ id seat kind placed elsewhere. placed_after d w.member p id seat kind s (moves d k w x p is e) elsewhere placed
