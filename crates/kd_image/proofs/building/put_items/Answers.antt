use Rattle.kd_image.proofs.Written.{items_pieces}
use Rattle.kd_image.proofs.building.put_items.Goals as goal

pub returns : goal.returns
returns c =
    simp (c.in_ok-put_body.ensures, c.in_ok-put_text-2.ensures, c.in_ok-put_moment.ensures, c.in_ok-put_text.ensures, c.in_ok-put_names.ensures, c.texts.ensures, c.in_ok-put_creds.ensures)
    (items_pieces c.args.out.now.items c.args.size c.args.message.now c.args.attached.now)
