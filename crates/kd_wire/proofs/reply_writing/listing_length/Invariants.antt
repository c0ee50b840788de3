use Rattle.std.proofs.Common.{◌≡◌, length, take}
use Rattle.kd_wire.specs.Replies.{listing_bytes}
use Rattle.kd_wire.proofs.reply_writing.listing_length.Given as goal

abbrev pub invariant-loop-line : goal.invariant-loop-line
invariant-loop-line l = l.total ≡ length (listing_bytes (take l.line-index l.lines))
