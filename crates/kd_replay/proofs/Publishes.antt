-- What a caller has yet to publish.
use Rattle.std.proofs.Common.{◌≡◌, ℕ, zero, suc, ◌+◌, ◌-◌, ◌≤◌, Bool, true, false, eq-eqb, leb, List, [], ◌∷◌, ◌++◌, append_assoc, length, get_or, Option, Some, None, refl, sym, ap, ◌∙◌, arith}
use Rattle.std.specs.Prelude.{is_some, ◌==◌}
use Rattle.std.proofs.lemmas.List.{append-nil, get_or-set_same}
use Rattle.std.proofs.lemmas.Bool.{leb-true}
use Rattle.kd_model.specs.Words.{first}
use Rattle.kd_model.proofs.Truth.{both_true, same_some}
use Rattle.kd_world.specs.State.{Pending, World, Caller, caller_at, stranger}
use Rattle.kd_world.specs.Holding.{holds_desk}
use Rattle.kd_world.specs.Own.{is_pending_at}
use Rattle.kd_world.specs.Legal.{Event, publishes, is_caller, legal}
use Rattle.kd_world.specs.Callers.{callers_after, has_published, with_caller, without_first}
use Rattle.kd_world.specs.Step.{step}
use Rattle.kd_world.specs.Runs.{world_after}
use Rattle.kd_world.specs.Whole.{next_publish, pending_count, publish_place, published, publishings}
use Rattle.kd_replay.specs.Turns.{IsReady}
use Rattle.kd_replay.specs.Events.{publishes_of}
use Rattle.kd_replay.proofs.Along.{one_more_run}
use Rattle.kd_replay.proofs.Holding.{ready_behind_publish}

-- the oldest pending is the one of its seat and number
pub record Oldest (ps : List Pending) (s k : ℕ) : Type 0 where
  pub there : is_some (first (is_pending_at s k) ps) ≡ true
  pub fewer : length (without_first (is_pending_at s k) ps) + 1 ≡ length ps

one_longer : (p : Pending) (ps : List Pending) → length ps + 1 ≡ length (p ∷ ps)
one_longer p ps = omega arith

oldest : (ps : List Pending) (s k : ℕ) → publish_place ps ≡ Some (s, k) → Oldest ps s k
oldest [] s k e = absurd cc
oldest (p ∷ ps) s k e =
    let place : (p.seat, p.number) ≡ (s, k) = same_some (p.seat, p.number) (s, k) e in
    let seat : p.seat ≡ s = ap (λ (x : ℕ × ℕ). x.0) place in
    let number : p.number ≡ k = ap (λ (x : ℕ × ℕ). x.1) place in
    let here : (p.seat == s) ≡ true = eq-eqb p.seat s seat in
    let its : (p.number == k) ≡ true = eq-eqb p.number k number in
    let is : is_pending_at s k p ≡ true = rw (here, its) refl in
    let others : List Pending = without_first (is_pending_at s k) ps in
    let rest : without_first (is_pending_at s k) (p ∷ ps) ≡ ps = ap (λ (b : Bool). elim b [ true ↦ ps | false ↦ p ∷ others ]) is in
    record { there = rw is refl; fewer = ap (λ (l : List Pending). length l + 1) rest ∙ one_longer p ps }

at_least : (n : ℕ) → is_caller n ≡ true → 1 ≤ n
at_least zero e = absurd cc
at_least (suc n) e = omega arith

at_most : (n : ℕ) → is_caller n ≡ true → n ≤ 64
at_most n e = leb-true n 64 (both_true (leb 1 n) (leb n 64) e).1

pub nobody : (w : World) (n : ℕ) → w.holder ≡ None → holds_desk w n ≡ false
nobody w n e = rw e refl

pub publish_may : (w : World) (n s k : ℕ) → is_caller n ≡ true → IsReady w → next_publish w n ≡ Some (s, k) → legal w (publishes n s k) ≡ true
unfolding legal
publish_may w n s k c r e =
    let o = oldest (caller_at w n).pendings s k e in
    rw (c, nobody w n r.free, o.there) refl

changed : (w : World) (n : ℕ) (c : Caller) → is_caller n ≡ true → IsReady w → get_or (with_caller w n c) (n - 1) stranger ≡ c
changed w n c is r = get_or-set_same w.callers (n - 1) c stranger (omega (arith, at_least n is, at_most n is, r.callers))

pub one_fewer : (w : World) (n s k : ℕ) → is_caller n ≡ true → IsReady w → next_publish w n ≡ Some (s, k) → pending_count (step w (publishes n s k)) n + 1 ≡ pending_count w n
unfolding callers_after
one_fewer w n s k c r e =
    let o = oldest (caller_at w n).pendings s k e in
    let after : caller_at (step w (publishes n s k)) n ≡ has_published s k (caller_at w n) = changed w n (has_published s k (caller_at w n)) c r in
    omega (arith, ap (λ (x : Caller). length x.pendings) after, o.fewer)

-- so far, behind these events: what is left to publish
pub record Publishing (start now : World) (n : ℕ) (es : List Event) : Type 0 where
  pub fuel : ℕ
  pub same : publishings fuel n now ≡ published start n
  pub left : es ++ publishes_of fuel n now ≡ publishes_of (pending_count start n) n start
  pub reached : now ≡ world_after start es
  pub enough : pending_count now n ≤ fuel
  pub ready : IsReady now

pub publishing_first : (w : World) (n : ℕ) → IsReady w → Publishing w w n []
unfolding world_after
publishing_first w n r = record { fuel = pending_count w n; same = refl; left = refl; reached = refl; enough = omega arith; ready = r }

go_on : (start now : World) (n s k m : ℕ) (es : List Event) → publishings m n now ≡ published start n → es ++ publishes_of m n now ≡ publishes_of (pending_count start n) n start → now ≡ world_after start es → pending_count now n ≤ m
    → IsReady now → is_caller n ≡ true → next_publish now n ≡ Some (s, k) → Publishing start (step now (publishes n s k)) n (es ++ publishes n s k ∷ [])
unfolding publishings publishes_of
go_on start now n s k zero es same left reached enough r c next = absurd (let bad : ⊥ = omega (arith, one_fewer now n s k c r next, enough) in bad)
go_on start now n s k (suc m) es same left reached enough r c next =
    let mid : World = step now (publishes n s k) in
    let opened : publishings (suc m) n now ≡ publishings m n mid = ap (λ (o : Option (ℕ × ℕ)). elim o [ None ↦ now | Some p ↦ publishings m n (step now (publishes n p.0 p.1)) ]) next in
    let events : publishes_of (suc m) n now ≡ publishes n s k ∷ publishes_of m n mid = ap (λ (o : Option (ℕ × ℕ)). elim o [ None ↦ [] | Some p ↦ publishes n p.0 p.1 ∷ publishes_of m n (step now (publishes n p.0 p.1)) ]) next in
    record {
      fuel = m;
      same = sym opened ∙ same;
      left = append_assoc es (publishes n s k ∷ []) (publishes_of m n mid) ∙ ap (λ (l : List Event). es ++ l) (sym events) ∙ left;
      reached = one_more_run start now es (publishes n s k) reached;
      enough = omega (arith, one_fewer now n s k c r next, enough);
      ready = ready_behind_publish now n s k r;
    }

pub publishing_more : (start now : World) (n s k : ℕ) (es : List Event) → Publishing start now n es → is_caller n ≡ true → next_publish now n ≡ Some (s, k) → Publishing start (step now (publishes n s k)) n (es ++ publishes n s k ∷ [])
publishing_more start now n s k es p c next = go_on start now n s k p.fuel es p.same p.left p.reached p.enough p.ready c next

none_left : (m n : ℕ) (w : World) → next_publish w n ≡ None → publishings m n w ≡ w
unfolding publishings
none_left zero n w e = refl
none_left (suc m) n w e = ap (λ (o : Option (ℕ × ℕ)). elim o [ None ↦ w | Some p ↦ publishings m n (step w (publishes n p.0 p.1)) ]) e

no_publishes : (m n : ℕ) (w : World) → next_publish w n ≡ None → publishes_of m n w ≡ []
unfolding publishes_of
no_publishes zero n w e = refl
no_publishes (suc m) n w e = ap (λ (o : Option (ℕ × ℕ)). elim o [ None ↦ [] | Some p ↦ publishes n p.0 p.1 ∷ publishes_of m n (step w (publishes n p.0 p.1)) ]) e

pub publishing_ends : (start now : World) (n : ℕ) (es : List Event) → Publishing start now n es → next_publish now n ≡ None → now ≡ published start n
publishing_ends start now n es p e = sym (none_left p.fuel n now e) ∙ p.same

pub published_all : (start now : World) (n : ℕ) (es : List Event) → Publishing start now n es → next_publish now n ≡ None → es ≡ publishes_of (pending_count start n) n start
published_all start now n es p e = sym (append-nil es) ∙ ap (λ (l : List Event). es ++ l) (sym (no_publishes p.fuel n now e)) ∙ p.left
