use Rattle.std.proofs.Common.{◌≡◌, ◌+◌, ◌*◌, ◌/◌, ◌%◌, ◌<◌, sym, ap, ◌∙◌, arith}
use Rattle.kd_hands.proofs.Hands.{mark_law, bit_is}
use Rattle.kd_turn.proofs.Passes.{mark_allows}
use Rattle.kd_turn.proofs.pass.set_mark.Goals as goal

pub fetch_or-requires : goal.fetch_or-requires
fetch_or-requires g c =
    let S = g.T.Standing in
    let n = c.args.number in
    let slots = c.gate.inside.table.shared.table_id.slots in
    let locks = ap (λ q. q.locks) c.gate.view_is in
    let near : c.args.lock < slots = omega arith in
    let place : 2 * c.gate.inside.locks + 4 * c.args.lock + n / 64 ≡ 2 * slots + (4 * c.args.lock + n / 64) = omega arith in
    let inside : 2 * c.gate.inside.locks + 4 * c.args.lock + n / 64 < c.gate.inside.table.shared.table_id.words = omega arith in
    let law = mark_allows _ _ _ _ _ _ _ _ _ _ near c.requires.place.1 place (bit_is (n % 64) (omega arith)) c.requires.live c.requires.in_hand
    (λ w j has f. (f.0, mark_law S.lends S.out S.keeper w f.1 c.args.lock n j c.requires.place.1 has)) in
    (c.requires.gate ∙ sym (ap (λ q. q.id) c.gate.view_is), inside, law)

pub returns-clause-set : goal.returns-clause-set
returns-clause-set g c = c.fetch_or.ensures.2 c.args.lock c.args.number c.requires.place.1 (omega arith) (bit_is (c.args.number % 64) (omega arith))
