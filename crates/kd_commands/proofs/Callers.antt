-- Where the caller of a plan is then.
use Rattle.std.proofs.Common.{◌≡◌, ℕ, ◌+◌, Bool, true, false, [], ◌∷◌, Some, refl, sym, ap, ◌∙◌, inl, inr, arith}
use Rattle.std.specs.Prelude.{◌⊎◌, ◌==◌, ◌&&◌, not}
use Rattle.std.proofs.lemmas.Bool.{both_ways, eq-eqb, eqb-true}
use Rattle.kd_types.specs.declared.creds.Kind.{Kind}
use Rattle.kd_model.specs.Words.{contains, first, some_of}
use Rattle.kd_model.proofs.Lists.{all_follow}
use Rattle.kd_commands.specs.declared.conn.Conn.{Conn}
use Rattle.kd_commands.specs.declared.who.WhoKind.{WhoKind}
use Rattle.kd_commands.specs.declared.who.WhoKind.TheVariants as who
use Rattle.kd_commands.specs.State.{Desk, conn_of, has_id, has_seat, sits_before}
use Rattle.kd_commands.specs.Plans.{Plan}
use Rattle.kd_commands.specs.Seating.{AreSeated, CallersMove, IsKnown, IsNow, IsPlaced, is_live}
use Rattle.kd_commands.proofs.Finds.{first_is_put, passes_none}
use Rattle.kd_commands.proofs.Gone.{contains_one}
use Rattle.kd_commands.proofs.Members.{none_new, one_alike, seats_without}
use Rattle.kd_commands.proofs.Moves.{Arrives, Leaves, Moves, Stays, arrives, ends, learns, leaves, stays}
use Rattle.kd_commands.proofs.Moving.{moves}
use Rattle.kd_commands.proofs.Seats.{found_is_free, free_below}

-- ---- it stays

-- on a desk with the same seats
pub same_placed :
    (d e : Desk) (id seat : ℕ) (kind : Kind) → e.conns ≡ d.conns → e.blocked ≡ d.blocked → e.next_id ≡ d.next_id
    → IsPlaced d id seat kind → IsPlaced e id seat kind
same_placed d e id seat kind conns blocked next placed = record {
  old_id = rw next placed.old_id;
  low = placed.low;
  live = λ c h. placed.live c (ap (first (has_id id)) (sym conns) ∙ h);
  gone = λ h. ap (contains seat) blocked ∙ placed.gone (ap (first (has_id id)) (sym conns) ∙ h);
}

same_now : (d : Desk) (k : Kind) (m : WhoKind) (p : Plan) → IsKnown d k m → Stays d m p → IsNow d p.next k m m
same_now d k who.Fresh p is t = tt
same_now d k (who.Conn id s) p is t = inl (refl, same_placed d p.next id s k t.conns t.blocked t.next_id is)
same_now d k (who.Keeper e) p is t = tt
same_now d k (who.Old s) p is t = absurd is

stayed : (d : Desk) (k : Kind) (m : WhoKind) (p : Plan) → IsKnown d k m → Stays d m p → IsNow d p.next k m p.becomes
stayed d k m p is t = go t.alike
  where
    go : (p.becomes ≡ m) ⊎ ((e : ℕ) × (m ≡ who.Fresh) × (p.becomes ≡ who.Keeper e)) → IsNow d p.next k m p.becomes
    go (inl e) = rw e (same_now d k m p is t)
    go (inr (n, was, e)) = rw (e, was) tt

-- ---- it arrives

arrived_found : (d : Desk) (m : WhoKind) (p : Plan) (t : Arrives d m p) → AreSeated d → conn_of p.next t.one.id ≡ Some t.one
arrived_found d m p t s =
    ap (first (has_id t.one.id)) t.conns
    ∙ first_is_put (has_id t.one.id) sits_before t.one d.conns (eq-eqb t.one.id t.one.id refl) (none_new d t.one.id s t.new_id)

arrived_placed : (d : Desk) (m : WhoKind) (p : Plan) (t : Arrives d m p) → AreSeated d → IsPlaced p.next t.one.id t.one.seat t.one.kind
arrived_placed d m p t s =
    let found : conn_of p.next t.one.id ≡ Some t.one = arrived_found d m p t s in
    let old : t.one.id ≡ d.next_id = t.new_id in
    let next : p.next.next_id ≡ d.next_id + 1 = t.next_id in
    record {
      old_id = omega arith;
      low = free_below d t.one.seat t.free;
      live = λ c h. let same : t.one ≡ c = cc in (ap (λ (x : Conn). x.seat) (sym same), ap (λ (x : Conn). x.kind) (sym same));
      gone = λ h. absurd cc;
    }

-- ---- it leaves

-- no live connection has the seat that one left
left_free : (d : Desk) (m : WhoKind) (p : Plan) (t : Leaves d m p) → AreSeated d → is_live p.next t.one.seat ≡ false
left_free d m p t s =
    ap (some_of (has_seat t.one.seat)) t.conns
    ∙ seats_without t.one.seat (t.one ∷ []) d.conns (one_alike d t.one s t.live)
    ∙ ap (λ b. not b && is_live d t.one.seat) (contains_one t.one.seat t.one.seat ∙ eq-eqb t.one.seat t.one.seat refl)

-- nor one that waits for its caller
waiting_free : (d : Desk) (seat : ℕ) → AreSeated d → contains seat d.blocked ≡ true → is_live d seat ≡ false
waiting_free d seat s waits =
    passes_none (has_seat seat) d.conns
    (all_follow (λ (c : Conn). contains c.seat d.blocked ≡ false) (λ (c : Conn). has_seat seat c ≡ false) d.conns
    (λ c h. go c.seat h (c.seat == seat) refl) s.unblocked)
  where
    go : (n : ℕ) → contains n d.blocked ≡ false → (b : Bool) → (n == seat) ≡ b → b ≡ false
    go n h false e = refl
    go n h true e = absurd (both_ways (contains n d.blocked) h (ap (λ x. contains x d.blocked) (eqb-true n seat e) ∙ waits))

-- ---- any

moved : (d : Desk) (k : Kind) (m : WhoKind) (p : Plan) → AreSeated d → IsKnown d k m → Moves d m p → IsNow d p.next k m p.becomes
moved d k m p s is (stays t) = stayed d k m p is t
moved d k m p s is (arrives t) =
    rw t.becomes (inr (t.was, found_is_free d t.one.seat t.free, (t.one, arrived_found d m p t s, arrived_placed d m p t s)))
moved d k m p s is (leaves t) = rw (t.becomes, t.was) (left_free d m p t s)
moved d k m p s is (ends t) = rw (t.becomes, t.was) tt
moved d k m p s is (learns t) =
    let placed : IsPlaced d t.id t.seat k = rw t.was at is in
    rw (t.becomes, t.was) (ap (some_of (has_seat t.seat)) t.conns ∙ waiting_free d t.seat s (placed.gone t.gone))

pub callers_move : CallersMove
callers_move d k w x p s is e = moved d k w.member p s is (moves d k w x p is e)
