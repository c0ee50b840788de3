use Rattle.std.proofs.Common.{◌≡◌, ◌≤◌, length, take, drop}
use Rattle.kd_trace.proofs.comparing.same_lines.Given as goal

abbrev pub invariant-lines : goal.invariant-lines
invariant-lines l =
    (take l.line-index l.one ≡ take l.line-index l.other) × (l.rest ≡ drop l.line-index l.other)
    × (l.line-index ≤ length l.other)
