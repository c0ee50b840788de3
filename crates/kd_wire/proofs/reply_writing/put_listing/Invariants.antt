use Rattle.std.proofs.Common.{◌≡◌, ◌+◌, ◌≤◌, ◌++◌, length, take}
use Rattle.std.specs.Prelude.{vec_len, vec_capacity}
use Rattle.kd_wire.specs.Replies.{listing_bytes}
use Rattle.kd_wire.proofs.reply_writing.put_listing.Given as goal

abbrev pub invariant-loop-line : goal.invariant-loop-line
invariant-loop-line l = (l.out.items ≡ l.initial.out.items ++ listing_bytes (take l.line-index l.lines)) × (vec_len l.out ≡ vec_len l.initial.out + length (listing_bytes (take l.line-index l.lines))) × (vec_capacity l.initial.out ≤ vec_capacity l.out)
