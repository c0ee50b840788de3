use Rattle.std.proofs.Common.{◌≡◌, ◌+◌, ◌<◌, refl, sym, ap, ◌∙◌, arith}
use Rattle.atomic_table.specs.Table.{rest}
use Rattle.kd_hands.specs.Locks.{hands_after}
use Rattle.kd_hands.specs.Views.{passed_on}
use Rattle.kd_turn.proofs.Passes.{passes}
use Rattle.kd_turn.proofs.pass.pass_on.Goals as goal

pub fetch_add-requires : goal.fetch_add-requires
fetch_add-requires g c =
    let slots = c.gate.inside.table.shared.table_id.slots in
    let locks = ap (λ q. q.locks) c.gate.view_is in
    let near : c.args.lock < slots = omega arith in
    let place : c.gate.inside.locks + c.args.lock ≡ slots + c.args.lock = omega arith in
    let law = passes _ _ _ g.T.Standing.hand_after g.T.Standing.empties _ _ _ _ _ _ _ _ _ place near
    c.exchange-value.ensures.3 c.requires.held.0 c.requires.live c.requires.stands c.requires.tie in
    (c.exchange-value.ensures.0 ∙ (c.requires.gate ∙ sym (ap (λ q. q.id) c.gate.view_is)), omega arith, law)

pub returns-clause-passed : goal.returns-clause-passed
returns-clause-passed g c =
    let locks = ap (λ q. q.locks) c.gate.view_is in
    let was = c.exchange-value.ensures.3 in
    c.fetch_add.ensures.2 c.args.lock _ c.args.entry (rest c.args.seat.now.me.1) (omega arith) (ap (λ q. q.1) was) refl
    ∙ (λ i. (passed_on (hands_after g.T.Standing.hand_after g.T.Standing.empties) c.args.lock c.args.entry (was i).0, rest c.args.seat.now.me.1))
