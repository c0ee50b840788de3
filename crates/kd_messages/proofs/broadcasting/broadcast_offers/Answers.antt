-- One connection more is looked at, and all of them in the end.
use Rattle.std.proofs.Common.{◌≡◌, ◌<◌, ◌≤◌, ◌++◌, [], ℕ, List, Option, length, map, get_or, false, ap, arith, ◌∙◌}
use Rattle.std.proofs.lemmas.List.{take_all}
use Rattle.kd_model.specs.Words.{those}
use Rattle.kd_image.specs.Images.{any}
use Rattle.kd_image.specs.declared.message.Message.{Message}
use Rattle.kd_commands.specs.declared.conn.Conn.{Conn}
use Rattle.kd_commands.specs.Audience.{audience, broadcast, is_told}
use Rattle.kd_messages.specs.Sending.{letter_offer, when_told}
use Rattle.kd_messages.proofs.Offering.{walked}
use Rattle.kd_messages.proofs.broadcasting.broadcast_offers.Goals as goal

pub receivers-preserved : goal.receivers-preserved
receivers-preserved c =
    let d = c.args.desk.now in
    let s = c.args.sender.now in
    let g = c.in_ok-letter.letter.message in
    let share = c.in_ok-letter.letter.share in
    let b = broadcast s (record { generation = c.args.generation; bits = c.args.filter.now }) in
    let cs : List Conn = d.conns in
    let x = c.conn-item.result in
    let same : c.deref-conn-items.result.now ≡ cs = c.deref-conn-items.ensures.value ∙ ap (λ d. d.conns) c.desk.view_is in
    let low : c.receivers.conn-index < length cs = omega (arith, ap length same, c.receivers-test.true) in
    let here : x ≡ get_or cs c.receivers.conn-index x = c.conn-item.is ∙ ap (λ (l : List Conn). get_or l c.receivers.conn-index x) same in
    walked (letter_offer d s g share any false) (is_told d b) cs c.receivers.conn-index x [] c.receivers.offers c.offer_where.new.offers low here c.receivers.invariant
    (
    c.in_ok-offer_where.ensures.ok
    ∙ ap (λ (n : ℕ). c.receivers.offers ++ when_told c.hears-told.result (letter_offer d s g share n false x)) c.in_ok-letter.ensures.dst
    ∙ ap (λ t. c.receivers.offers ++ when_told t (letter_offer d s g share any false x)) c.hears-told.ensures
    )

pub returns-clause-ok : goal.returns-clause-ok
unfolding audience
returns-clause-ok c =
    let d = c.args.desk.now in
    let s = c.args.sender.now in
    let b = broadcast s (record { generation = c.args.generation; bits = c.args.filter.now }) in
    let cs : List Conn = d.conns in
    let same : c.deref-conn-items.result.now ≡ cs = c.deref-conn-items.ensures.value ∙ ap (λ d. d.conns) c.desk.view_is in
    let far : length cs ≤ c.receivers.conn-index = omega (arith, ap length same, c.receivers-test.false) in
    c.receivers.invariant
    ∙ ap (λ (xs : List Conn). map (letter_offer d s c.in_ok-letter.letter.message c.in_ok-letter.letter.share any false) (those (is_told d b) xs)) (take_all c.receivers.conn-index cs far)
    ∙ ap (λ (g : Message). map (letter_offer d s g c.in_ok-letter.letter.share any false) (those (is_told d b) cs)) c.in_ok-letter.ensures.message
    ∙ ap (λ (x : Option (List ℕ)). map (letter_offer d s c.args.parcel.message x any false) (those (is_told d b) cs)) c.in_ok-letter.ensures.share
