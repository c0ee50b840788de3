use Rattle.std.proofs.Common.{◌≡◌, ℕ, ◌+◌, ◌<◌, List, [], ◌∷◌, ◌++◌, length, subst, sym, ap, ◌∙◌, ⊎_elim, arith, length-append}
use Rattle.std.proofs.lemmas.List.{length-replicate}
use lib.ListN.{get_elem?}
use Rattle.atomic_table.specs.Seated.{TableId}
use Rattle.kd_hands.specs.Views.{blank, last_view}
use Rattle.kd_turn.specs.Sight.{Sight}
use Rattle.kd_turn.specs.Told.{AreFresh, IsFresh}
use Rattle.kd_hands.proofs.Lists.{snoc_at}
use Rattle.kd_turn.proofs.Made.{splits}
use Rattle.kd_turn.proofs.gate.spread.Goals as goal

one_more : {E : Type 0} (id : TableId) (all more : List (Sight E)) (s : Sight E) (name : ℕ) → more ≡ all ++ s ∷ [] → AreFresh id all → s.gate ≡ id → s.held ≡ []
    → IsFresh name s.view → name ≡ length all → AreFresh id more
one_more {E} id all more s name is old gate held fresh at k t e = ⊎_elim (λ h. old k t h)
    (λ h. subst (λ (u : Sight E). (u.gate ≡ id) × (u.held ≡ []) × IsFresh k u.view) h.1 (gate, held, subst (λ (i : ℕ). IsFresh i s.view) (at ∙ sym h.0) fresh))
    (snoc_at all s t k (ap (λ l. get_elem? l k) (sym is) ∙ e))

pub split_seat-next-requires : goal.split_seat-next-requires
split_seat-next-requires g c =
    let inv = c.making.invariant in
    let most = ap (λ q. q.passes) c.gate.view_is in
    let made : c.making.last.me.0.made ≡ length c.making.all.items + 1 = ap (λ q. q.0.made) inv.3 in
    let some : 0 < c.making.last.me.0.made = omega arith in
    let room : c.making.last.me.0.made < c.gate.inside.table.shared.key.passes = omega arith in
    (inv.2 ∙ sym (ap (λ q. q.id) c.gate.view_is), omega arith, splits _ _ _ _ _ (ap (λ q. q.0.live) inv.3) some room)

pub making-preserved : goal.making-preserved
making-preserved g c =
    let inv = c.making.invariant in
    let e = c.split_seat-next.ensures in
    let more : length c.push_reserved.new.self.items ≡ length c.making.all.items + 1 = ap length c.push_reserved.ensures.items
    ∙ length-append c.making.all.items _ in
    let slots : length c.making.last.me.0.parts ≡ c.split_seat-next.result.table_id.slots = ap (λ q. length q.0.parts) inv.3
    ∙ (length-replicate c.making.last.table_id.slots blank ∙ sym (ap (λ q. q.slots) e.3)) in
    let made : c.making.last.me.0.made ≡ length c.push_reserved.new.self.items = ap (λ q. q.0.made) inv.3 ∙ sym more in
    let fresh = c.pass_of.ensures in (
      omega arith,
      omega arith,
      e.3 ∙ inv.2,
      e.4 ∙ (λ i. (last_view (slots i) (made i), [])),
      one_more c.args.gate.now.id c.making.all.items c.push_reserved.new.self.items c.pass_of.result _ c.push_reserved.ensures.items inv.4
          (fresh.0 ∙ (e.0 ∙ inv.2)) fresh.1 fresh.2
          (ap (λ q. q.0.name) e.2 ∙ ap (λ q. q.0.name) inv.3),
    )

pub returns-clause-fresh : goal.returns-clause-fresh
returns-clause-fresh g c =
    let inv = c.making.invariant in
    let fresh = c.pass_of-2.ensures in
    one_more c.args.gate.now.id c.making.all.items c.push_reserved-2.new.self.items c.pass_of-2.result _ c.push_reserved-2.ensures.items inv.4
    (fresh.0 ∙ inv.2) fresh.1 fresh.2 (ap (λ q. q.0.name) inv.3)
