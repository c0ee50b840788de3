use Rattle.std.proofs.Common.{◌≡◌, ◌+◌, ◌*◌, ◌<◌, sym, ap, ◌∙◌, arith}
use Rattle.kd_hands.proofs.Hands.{sweep_law}
use Rattle.kd_turn.proofs.Passes.{sweep_allows}
use Rattle.kd_turn.proofs.pass.clear_word.Goals as goal

pub swap-requires : goal.swap-requires
swap-requires g c =
    let S = g.T.Standing in
    let slots = c.gate.inside.table.shared.table_id.slots in
    let locks = ap (λ q. q.locks) c.gate.view_is in
    let near : c.args.lock < slots = omega arith in
    let place : 2 * c.gate.inside.locks + 4 * c.args.lock + c.args.word ≡ 2 * slots + (4 * c.args.lock + c.args.word) = omega arith in
    let inside : 2 * c.gate.inside.locks + 4 * c.args.lock + c.args.word < c.gate.inside.table.shared.table_id.words = omega arith in
    let law = sweep_allows _ _ _ _ _ _ _ _ _ near c.requires.place.1 place c.requires.live c.requires.held
    (λ w j f. (f.0, sweep_law S.lends S.out S.keeper w f.1 c.args.lock c.args.word j c.requires.place.1)) in
    (c.requires.gate ∙ sym (ap (λ q. q.id) c.gate.view_is), inside, law)

pub returns-clause-seat : goal.returns-clause-seat
returns-clause-seat g c = (c.swap.ensures.0, c.swap.ensures.2 c.args.lock c.args.word c.requires.place.1 (omega arith))
