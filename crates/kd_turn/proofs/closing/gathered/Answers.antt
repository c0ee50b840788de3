use Rattle.std.proofs.Common.{◌≡◌, ℕ, false, [], ◌∷◌, ◌++◌, refl, sym, ap, ◌∙◌, append_assoc}
use Rattle.std.specs.Prelude.{Some}
use Rattle.std.proofs.lemmas.List.Elements.{All-pop}
use Rattle.kd_hands.specs.Views.{part, both}
use Rattle.kd_turn.specs.Told.{Gathered, IsIdle}
use Rattle.kd_turn.proofs.Made.{joins}
use Rattle.kd_turn.proofs.Tells.{holds_nothing}
use Rattle.kd_turn.proofs.closing.gathered.Goals as goal

pub gathering-init : goal.gathering-init
gathering-init g c =
    let p = c.in-Some.last in
    let free = IsIdle {E = g.row.T-Entry.Denot} c.args.table.now.shared.table_id in
    let all = All-pop free c.args.passes.items c.pop.new.self.items (Some p) c.in-Some.ensures.items c.requires.passes in
    let nothing = holds_nothing c.last.inside.turns _ c.last.inside.seat.me c.last.invariant (ap (λ q. q.held) c.last.view_is ∙ all.1.1) in
    let view = ap (λ q. q.view) c.last.view_is in
    let live = ap (λ v. v.live) (sym view) ∙ c.last.invariant.live in
    let idle : (l : ℕ) → (part p.view l).holds ≡ false = λ l. ap (λ v. (part v l).holds) (sym view) ∙ nothing.1 l in
    let now : Gathered (p ∷ []) c.last.inside.seat.me.0 = record { rest = []; last = p; are = refl; now = view; live = live; idle = idle } in
    (ap (λ q. q.gate) c.last.view_is ∙ all.1.0, all.0, (p ∷ [], c.in-Some.ensures.items, now))

pub join_seat-requires : goal.join_seat-requires
join_seat-requires g c =
    let inv = c.gathering.invariant in
    let free = IsIdle {E = g.row.T-Entry.Denot} c.args.table.now.shared.table_id in
    let all = All-pop free c.gathering.passes.items c.pop-in-gathering.new.self.items (Some c.in-Some-pop.pass) c.in-Some-pop.ensures.items inv.1 in
    let nothing = holds_nothing c.pass.inside.turns _ c.pass.inside.seat.me c.pass.invariant (ap (λ q. q.held) c.pass.view_is ∙ all.1.1) in
    let law = joins _ _ _ _ _ _ _ (ap (λ v. v.live) inv.2.2.now ∙ inv.2.2.live) c.pass.invariant.live nothing.1 in
    (inv.0, ap (λ q. q.gate) c.pass.view_is ∙ all.1.0, nothing.0, c.requires.table, law)

pub gathering-preserved : goal.gathering-preserved
gathering-preserved g c =
    let p = c.in-Some-pop.pass in
    let inv = c.gathering.invariant in
    let old = inv.2.2 in
    let free = IsIdle {E = g.row.T-Entry.Denot} c.args.table.now.shared.table_id in
    let all = All-pop free c.gathering.passes.items c.pop-in-gathering.new.self.items (Some p) c.in-Some-pop.ensures.items inv.1 in
    let are = inv.2.1 ∙ (ap (λ xs. xs ++ inv.2.0) c.in-Some-pop.ensures.items ∙ append_assoc c.pop-in-gathering.new.self.items (p ∷ []) inv.2.0) in
    let now = ap (λ q. q.0) c.join_seat.ensures.2 ∙ (λ i. both (old.now i) (c.pass.view_is i).view) in
    let new : Gathered (p ∷ inv.2.0) c.join_seat.new.seat.me.0 =
    record { rest = p ∷ old.rest; last = old.last; are = ap (p ∷◌) old.are; now = now; live = old.live; idle = old.idle } in
    (c.join_seat.ensures.0 ∙ inv.0, all.0, (p ∷ inv.2.0, are, new))
