use Rattle.std.proofs.Common.{◌≡◌, ◌++◌, refl, arith}
use Rattle.kd_item.specs.Spelling.{spellings}
use Rattle.kd_image.specs.Images.{front_length, message_header}
use Rattle.kd_image.specs.Items.{contents, items}
use Rattle.kd_image.proofs.Lengths.{image_ends, length_parts}
use Rattle.kd_image.proofs.Round.{built_again}
use Rattle.kd_image.proofs.building.build.Goals as goal

pub put_items-requires : goal.put_items-requires
put_items-requires c =
    let m = c.args.message.now in
    let a = c.args.attached.now in
    let size : c.front_len-size.result ≡ front_length (contents m a) = omega (arith, length_parts m a, c.front_len-size.ensures.value, c.requires) in
    rw size (omega (arith, image_ends m a, c.requires))

pub returns-clause-again : goal.returns-clause-again
returns-clause-again c =
    let m = c.args.message.now in
    let a = c.args.attached.now in
    let size : c.front_len-size.result ≡ front_length (contents m a) = omega (arith, length_parts m a, c.front_len-size.ensures.value, c.requires) in
    let bytes : c.put_items.new.out.items ≡ message_header c.front_len-size.result m c.args.sender c.args.dst ++ spellings (items c.front_len-size.result (contents m a)) = rw (c.in_ok-put_items.ensures, c.in_ok-put_header.ensures, c.in_ok-out.ensures.items) refl in
    built_again m c.args.sender c.args.dst a c.front_len-size.result c.put_items.new.out.items size bytes
