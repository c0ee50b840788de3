use Rattle.std.proofs.Common.{◌≤◌, ◌-◌, ◌^◌, length, take}
use Rattle.std.specs.Prelude.{min}
use Rattle.kd_wire.specs.Replies.{listing_bytes}
use Rattle.kd_replay.proofs.fitting.lines_length.Given as goal

abbrev pub invariant-lines : goal.invariant-lines
invariant-lines l = min (length (listing_bytes (take l.line-index l.lines))) (2 ^ 64 - 1) ≤ l.total
