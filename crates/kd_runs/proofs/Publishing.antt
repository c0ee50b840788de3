-- A legal publishing finds its slice.
use Rattle.std.specs.Prelude.{◌≡◌, ◌==◌, ◌&&◌, ℕ, Bool, true, false, not, refl, Option, Some, None, is_some}
use Rattle.std.proofs.Common.{ap, sym, ◌∙◌}
use Rattle.std.proofs.lemmas.Bool.{true≢false}
use Rattle.kd_model.proofs.Truth.{left_true, right_true}
use Rattle.kd_acts.specs.State.{Content, Hold, Pool, gone, placed, publish}
use Rattle.kd_acts.specs.Steps.{answer, closed_answer, is_reserved_for, open_step, pool_step}
use Rattle.kd_acts.proofs.Cases.{acted_by, published_by}
use Rattle.kd_world.specs.Holding.{holds_desk}
use Rattle.kd_world.specs.Legal.{is_caller, legal, publishes}
use Rattle.kd_world.specs.Owed.{is_still_there}
use Rattle.kd_world.specs.Own.{pending_of}
use Rattle.kd_world.specs.State.{Pending, World, pool_at}
use Rattle.kd_world.proofs.Arriving.{publishes_always_arrive}
use Rattle.kd_world.proofs.Holders.{answer_is}
use Rattle.kd_world.proofs.Own.{publish_act}
use Rattle.kd_runs.specs.Met.{FindsSlice, PublishesAreReserved}

legal_publish : (w : World) (n seat number : ℕ) → legal w (publishes n seat number) ≡ true → (is_caller n ≡ true) × (is_some (pending_of w n seat number) ≡ true)
unfolding legal
legal_publish w n seat number l =
    let both = is_caller n && not (holds_desk w n) in
    (left_true (is_caller n) (not (holds_desk w n)) (left_true both (is_some (pending_of w n seat number)) l), right_true both (is_some (pending_of w n seat number)) l)

-- what is placed was reserved
placed_reserved : (h : Hold) (g n : ℕ) (c : Content) → answer h (publish g n c) ≡ placed → (p : Pool) × (h.pool ≡ Some p) × (is_reserved_for n c p ≡ true)
unfolding pool_step closed_answer open_step
placed_reserved h g n c e = go h.pool refl e
  where
    kept : (p : Pool) (a b : Bool) → h.pool ≡ Some p → is_reserved_for n c p ≡ b → (published_by n c p (a && b)).1 ≡ placed
        → (p : Pool) × (h.pool ≡ Some p) × (is_reserved_for n c p ≡ true)
    kept p true true at f e = (p, at, f)
    kept p true false at f e = absurd cc
    kept p false b at f e = absurd cc

    go : (o : Option Pool) → h.pool ≡ o → (acted_by h.generation o (publish g n c)).1 ≡ placed → (p : Pool) × (h.pool ≡ Some p) × (is_reserved_for n c p ≡ true)
    go None at e = absurd cc
    go (Some p) at e = kept p (g == h.generation) (is_reserved_for n c p) at refl e

pub publishes_are_reserved : PublishesAreReserved
publishes_are_reserved w n seat number r l = go (pending_of w n seat number) refl (legal_publish w n seat number l).1
  where
    finds : (p : Pending) → pending_of w n seat number ≡ Some p → is_still_there w p ≡ true → FindsSlice w p
    finds p e there =
        let said : answer (pool_at w p.seat) (publish p.generation p.number p.content) ≡ placed =
        sym (answer_is w (publishes n seat number) (record { seat = p.seat; act = publish p.generation p.number p.content }) (publish_act w n seat number (Some p) e))
        ∙ publishes_always_arrive w r n seat number p (legal_publish w n seat number l).0 e
        ∙ ap (λ b. elim b [ true ↦ placed | false ↦ gone ]) there in
        let x = placed_reserved (pool_at w p.seat) p.generation p.number p.content said in
        record { pool = x.0; there = x.1; reserved = x.2 }

    go : (o : Option Pending) → pending_of w n seat number ≡ o → is_some o ≡ true
        → (p : Pending) × (pending_of w n seat number ≡ Some p) × (is_still_there w p ≡ true → FindsSlice w p)
    go None e t = absurd (true≢false (sym t))
    go (Some p) e t = (p, e, finds p e)
