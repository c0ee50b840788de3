use Rattle.std.proofs.Common.{◌++◌, ◌∷◌, [], ap, ◌∙◌}
use Rattle.kd_commands.specs.Plans.{Part}
use Rattle.kd_messages.proofs.Offering.{offer_fits, offered_is}
use Rattle.kd_messages.proofs.offers.offer.Goals as goal

pub push-requires-clause-visitable : goal.push-requires-clause-visitable
push-requires-clause-visitable c =
    let s = c.args.sender.now in
    offer_fits c.args.receiver.now.seat s.creds.uid c.image_len.result s.id c.args.must c.args.letter.now.message c.in_ok-attached.attached c.requires.seat c.image_len.ensures.value

pub returns-clause-ok : goal.returns-clause-ok
returns-clause-ok c =
    let s = c.args.sender.now in
    let g = c.args.letter.now.message in
    let dst = c.args.letter.now.dst in
    let is = offered_is c.args.desk.now s g dst c.args.must c.args.receiver.now c.in_ok-attached.attached c.image_len.result c.args.letter.now.payload c.args.letter.now.share c.in_ok-content.content
    c.in_ok-attached.ensures
    (c.image_len.ensures.whole s.id dst)
    c.in_ok-content.ensures
    c.requires.laid in
    c.in_ok-push.ensures ∙ ap (λ (p : Part). c.args.offers.now ++ p ∷ []) is
