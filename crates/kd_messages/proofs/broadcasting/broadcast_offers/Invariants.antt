use Rattle.std.proofs.Common.{◌≡◌, map, take, false}
use Rattle.kd_model.specs.Words.{those}
use Rattle.kd_image.specs.Images.{any}
use Rattle.kd_commands.specs.Audience.{broadcast, is_told}
use Rattle.kd_messages.specs.Sending.{letter_offer}
use Rattle.kd_messages.proofs.broadcasting.broadcast_offers.Given as goal

abbrev pub invariant-receivers : goal.invariant-receivers
invariant-receivers l =
    l.offers ≡ map (letter_offer l.desk l.sender l.letter.message l.letter.share any false) (those (is_told l.desk (broadcast l.sender (record { generation = l.generation; bits = l.filter }))) (take l.conn-index l.desk.conns))
