-- The place before the first connection on a higher seat is the new one's place in order.
use Rattle.std.specs.Prelude.{◌≡◌, true, length, refl, unwrap_or, is_ok}
use Rattle.std.specs.List.{insert, position}
use Rattle.std.proofs.Common.{ap, arith, sym, ◌∙◌}
use Rattle.kd_model.proofs.Lists.{put_before}
use Rattle.kd_commands.specs.State.{sits_before}
use Rattle.kd_tables.proofs.finishing.seat_conn.Goals as goal

pub returns-clause-put : goal.returns-clause-put
returns-clause-put c =
    let xs = c.args.conns.now.items in
    let ok : is_ok c.insert.result ≡ true = rw c.unwrap.ensures refl in
    let none : c.len.result ≡ length xs = omega arith in
    let seen : c.deref.result.now ≡ xs = c.deref.ensures.value in
    let at : c.unwrap_or-place.result ≡ unwrap_or (position (sits_before c.args.conn) xs) (length xs) = c.unwrap_or-place.ensures ∙ ap (λ n. unwrap_or c.first_behind.result n) none ∙ ap (λ o. unwrap_or o (length xs)) (c.first_behind.ensures ∙ ap (position (sits_before c.args.conn)) seen) in
    rw ok at c.insert.ensures.items ∙ ap (λ n. insert xs n c.args.conn) at ∙ sym (put_before sits_before c.args.conn xs)
