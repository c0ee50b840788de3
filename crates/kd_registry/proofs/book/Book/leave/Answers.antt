use Rattle.std.proofs.Common.{◌≡◌, ap, sym, ◌∙◌, arith, rules}
use Rattle.std.proofs.lemmas.Fn.{filter_same}
use Rattle.kd_registry.specs.Claims.{left_by}
use Rattle.kd_registry.specs.Counts.{but, claimed}
use Rattle.kd_registry.proofs.Counting.{claimed_left}
use Rattle.kd_registry.proofs.book.Book.leave.Goals as goal

-- the filter that `retain` leaves
pub invariant_of-self : goal.invariant_of-self
invariant_of-self c =
    let r = c.self.inside.claims.items in
    let left : c.retain.new.self.items ≡ left_by r c.args.id = filter_same _ _ _ (λ x b f' k. search rules) _ _ c.retain.ensures.filtered in (
      λ chosen. c.clear.ensures chosen ∙ c.self.invariant.0 (but chosen c.args.id) ∙ sym (claimed_left chosen r c.args.id) ∙ sym (ap (claimed chosen) left),
      omega (arith, c.retain.ensures.bound, c.self.invariant.1),
      omega (arith, c.retain.ensures.capacity, c.self.invariant.2),
    )

pub returns : goal.returns
returns c =
    let left : c.retain.new.self.items ≡ left_by c.self.inside.claims.items c.args.id = filter_same _ _ _ (λ x b f' k. search rules) _ _ c.retain.ensures.filtered in
    left ∙ ap (λ z. left_by z c.args.id) c.self.view_is
