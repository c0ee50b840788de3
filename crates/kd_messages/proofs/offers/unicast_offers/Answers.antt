-- One connection more is looked at.
use Rattle.std.proofs.Common.{◌≡◌, ◌<◌, ◌++◌, ◌∷◌, [], ℕ, List, length, get_or, true, false, ap, arith, ◌∙◌}
use Rattle.kd_commands.specs.declared.conn.Conn.{Conn}
use Rattle.kd_commands.specs.State.{is_monitor}
use Rattle.kd_messages.specs.Sending.{letter_offer, when_told}
use Rattle.kd_messages.proofs.Offering.{walked}
use Rattle.kd_messages.proofs.offers.unicast_offers.Goals as goal

pub monitors-preserved : goal.monitors-preserved
monitors-preserved c =
    let d = c.args.desk.now in
    let s = c.args.sender.now in
    let g = c.in_ok-letter.letter.message in
    let share = c.in_ok-letter.letter.share in
    let r = c.args.receiver.now in
    let cs : List Conn = d.conns in
    let x = c.conn-item.result in
    let same : c.deref-conn-items.result.now ≡ cs = c.deref-conn-items.ensures.value ∙ ap (λ d. d.conns) c.desk.view_is in
    let low : c.monitors.conn-index < length cs = omega (arith, ap length same, c.monitors-test.true) in
    let here : x ≡ get_or cs c.monitors.conn-index x = c.conn-item.is ∙ ap (λ (l : List Conn). get_or l c.monitors.conn-index x) same in
    let dst : c.in_ok-letter.letter.dst ≡ r.id = c.in_ok-letter.ensures.dst ∙ ap (λ (y : Conn). y.id) c.receiver.view_is in
    walked (letter_offer d s g share r.id false) (λ (y : Conn). is_monitor y.kind) cs c.monitors.conn-index x (letter_offer d s g share r.id true r ∷ []) c.monitors.offers c.offer_where.new.offers low here c.monitors.invariant
    (
    c.in_ok-offer_where.ensures.ok
    ∙ ap (λ (n : ℕ). c.monitors.offers ++ when_told c.is_monitor.result (letter_offer d s g share n false x)) dst
    ∙ ap (λ b. c.monitors.offers ++ when_told b (letter_offer d s g share r.id false x)) c.is_monitor.ensures
    )
