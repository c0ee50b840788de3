-- The table with one rule more.
use Rattle.std.proofs.Common.{◌∙◌, sym, ap, arith}
use Rattle.kd_match.specs.Rules.{Table, IsTable, mask_fits, rules_left}
use Rattle.kd_match.specs.declared.rule.Rule.{Rule}
use Rattle.kd_model.specs.Words.{all_of}
use Rattle.kd_match.proofs.Kept.{table_kept, taken_fits, all_put}
use Rattle.kd_match.proofs.matches.Matches.add.Goals as goal

pub insert-requires-clause-order : goal.insert-requires-clause-order
insert-requires-clause-order c =
    let t : IsTable c.self.inside.size c.remove_replaced.new.rules.items = rw c.remove_replaced.ensures.items (table_kept _ _ _ _ _ c.self.invariant.0) in
    t.in_order

pub invariant_of-self : goal.invariant_of-self
invariant_of-self c =
    let t = table_kept c.self.inside.size c.self.inside.rules.items c.args.id c.args.cookie c.args.replace c.self.invariant.0 in
    let fit = taken_fits c.args.self.now c.args.id c.args.cookie c.args.conditions.items c.args.replace (rw c.deref.ensures.value at (sym c.may_add.ensures ∙ c.in_ok-may_add.was)) in
    let size = ap (λ (x : Table). x.size) c.self.view_is in
    let room = c.self.invariant.2 in
    let more = c.remove_replaced.ensures.room in
    let most = c.insert.ensures.room in
    (record { in_order = c.insert.ensures.order; sized = rw (c.insert.ensures.items, c.remove_replaced.ensures.items) (all_put (λ (r : Rule). all_of (mask_fits c.self.inside.size) r.conditions) (record { id = c.args.id; cookie = c.args.cookie; conditions = c.of-conditions.result }) (rules_left c.self.inside.rules.items c.args.id c.args.cookie c.args.replace) (rw (size, c.of-conditions.ensures) fit) t.sized) }, c.self.invariant.1, omega arith)
