-- The place before the first slot behind the new one is its place in order.
use Rattle.std.specs.Prelude.{◌≡◌, true, length, refl, unwrap_or, is_ok}
use Rattle.std.specs.List.{insert, position}
use Rattle.std.proofs.Common.{ap, arith, sym, ◌∙◌}
use Rattle.kd_model.proofs.Lists.{put_before}
use Rattle.kd_acts.specs.State.{lies_lower}
use Rattle.kd_pool.proofs.table.put.Goals as goal

pub returns-clause-items : goal.returns-clause-items
returns-clause-items c =
    let xs = c.args.slots.now.items in
    let ok : is_ok c.insert.result ≡ true = rw c.unwrap.ensures refl in
    let none : c.len.result ≡ length xs = omega arith in
    let seen : c.deref.result.now ≡ xs = c.deref.ensures.value in
    let at : c.unwrap_or-at.result ≡ unwrap_or (position (lies_lower c.args.new) xs) (length xs) = c.unwrap_or-at.ensures ∙ ap (λ n. unwrap_or c.first_behind.result n) none ∙ ap (λ o. unwrap_or o (length xs)) (c.first_behind.ensures ∙ ap (position (lies_lower c.args.new)) seen) in
    rw ok at c.insert.ensures.items ∙ ap (λ n. insert xs n c.args.new) at ∙ sym (put_before lies_lower c.args.new xs)
