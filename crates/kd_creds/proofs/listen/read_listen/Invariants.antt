use Rattle.std.proofs.Common.{◌≡◌, ◌+◌, ◌≤◌, [], length}
use Rattle.kd_creds.specs.Lines.{pieces_left, bytes_left}
use Rattle.kd_creds.specs.Listen.{read_lines, lines}
use Rattle.kd_creds.proofs.listen.read_listen.Given as goal

abbrev pub invariant-lines : goal.invariant-lines
invariant-lines l = (read_lines l.at l.given.items (pieces_left 10 l.rest) ≡ read_lines 0 [] (lines l.text)) × (l.at + bytes_left l.rest ≤ length l.text + 1)

abbrev pub decreases-lines : goal.decreases-lines
decreases-lines l = bytes_left l.rest
