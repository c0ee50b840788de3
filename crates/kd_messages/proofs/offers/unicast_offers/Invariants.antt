use Rattle.std.proofs.Common.{◌≡◌, ◌∷◌, map, take, true, false}
use Rattle.kd_model.specs.Words.{those}
use Rattle.kd_commands.specs.declared.conn.Conn.{Conn}
use Rattle.kd_commands.specs.State.{is_monitor}
use Rattle.kd_messages.specs.Sending.{letter_offer}
use Rattle.kd_messages.proofs.offers.unicast_offers.Given as goal

abbrev pub invariant-monitors : goal.invariant-monitors
invariant-monitors l =
    l.offers ≡ letter_offer l.desk l.sender l.letter.message l.letter.share l.receiver.id true l.receiver
    ∷ map (letter_offer l.desk l.sender l.letter.message l.letter.share l.receiver.id false) (those (λ (c : Conn). is_monitor c.kind) (take l.conn-index l.desk.conns))
