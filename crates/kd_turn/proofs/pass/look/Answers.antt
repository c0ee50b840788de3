use Rattle.std.proofs.Common.{◌≡◌, ◌+◌, ◌<◌, sym, ap, ◌∙◌, arith}
use Rattle.kd_hands.proofs.Hands.{take_law}
use Rattle.kd_turn.proofs.Passes.{looks}
use Rattle.kd_turn.proofs.pass.look.Goals as goal

pub load-now-requires : goal.load-now-requires
load-now-requires g c =
    let slots = c.gate.inside.table.shared.table_id.slots in
    let locks = ap (λ q. q.locks) c.gate.view_is in
    let near : c.args.lock < slots = omega arith in
    let place : c.gate.inside.locks + c.args.lock ≡ slots + c.args.lock = omega arith in
    let law = take_law g.T.Standing.lends g.T.Standing.out g.T.Standing.keeper in
    let inside : c.gate.inside.locks + c.args.lock < c.gate.inside.table.shared.table_id.words = omega arith in
    let take = looks _ _ _ _ _ _ _ _ (λ w j bare f. (f.0, law w f.1 c.args.lock j bare)) place near c.requires.free c.requires.live in
    (c.requires.gate ∙ sym (ap (λ q. q.id) c.gate.view_is), inside, take)
