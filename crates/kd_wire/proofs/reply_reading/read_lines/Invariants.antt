use Rattle.std.proofs.Common.{◌≡◌, ◌+◌, [], length}
use Rattle.kd_wire.specs.ReplyReading.{lines_in}
use Rattle.kd_wire.proofs.reply_reading.read_lines.Given as goal

abbrev pub invariant-lines : goal.invariant-lines
invariant-lines l = (l.at + length l.rest ≡ l.start + length l.bytes) × (lines_in l.left l.at l.lines.items l.rest ≡ lines_in l.count l.start [] l.bytes)

abbrev pub decreases-lines : goal.decreases-lines
decreases-lines l = l.left
