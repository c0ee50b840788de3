use Rattle.std.proofs.Common.{◌≡◌, ℕ, ◌+◌, ◌<◌, Bool, false, List, Some, length, get_or, set, refl, sym, ap, ◌∙◌, ⊎_elim, arith, length-append, get_or-set_other}
use Rattle.std.specs.Slots.{slots_items, slots_filled}
use lib.ListN.{get_elem?}
use Rattle.kd_turn.specs.declared.views.Cell.{Cell}
use Rattle.kd_hands.proofs.Lists.{each_set, snoc_at}
use Rattle.kd_turn.proofs.closing.emptied.Goals as goal

pub emptying-preserved : goal.emptying-preserved
emptying-preserved g c =
    let inv = c.emptying.invariant in
    let lock : ℕ = c.emptying.lock in
    let push = c.push_reserved.ensures in
    let took = c.take-value.ensures in
    let filled : List Bool = slots_filled c.emptying.closed.slots in
    let now : slots_filled c.take-value.new.self.slots ≡ set filled lock false = took.others.1 in
    let long : length c.push_reserved.new.self.items ≡ length c.emptying.values.items + 1 = ap length push.items ∙ length-append c.emptying.values.items _ in
    let count = inv.0 in
    let len = took.others.2 in (
      omega arith,
      omega arith,
      len ∙ inv.2,
      took.others.0 ∙ inv.3,
      (λ k le near. ap (λ (fs : List Bool). get_or fs k false) now
          ∙ (get_or-set_other filled lock k false false (λ z. omega arith) ∙ inv.4 k (omega arith) (omega arith))),
      (λ k below. ap (λ (fs : List Bool). get_or fs k false) now
          ∙ each_set filled lock false (λ _. false) (omega arith) (λ k x. k < lock + 1 → x ≡ false) (λ _. refl) (λ k ne lt. inv.5 k (omega arith)) k below),
      (λ k x e. ⊎_elim
          (λ h. inv.6 k x h)
          (λ h. (
            c.take-value.result,
            ap (λ (xs : List (Cell g.row.T.Denot g.row.E.Denot)). get_elem? xs k) (sym inv.3)
                ∙ (ap (get_elem? (slots_items c.emptying.closed.slots)) (h.0 ∙ count) ∙ took.value),
            c.unwrap.ensures ∙ ap (λ (y : g.row.T.Denot). Some y) h.1,
          ))
          (snoc_at c.emptying.values.items c.unwrap.result x k (ap (λ (xs : List g.row.T.Denot). get_elem? xs k) (sym push.items) ∙ e))),
    )
