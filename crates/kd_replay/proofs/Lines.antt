-- How long the lines of a listing are at most.
use Rattle.std.proofs.Common.{◌≡◌, ℕ, ◌+◌, ◌-◌, ◌^◌, ◌<◌, ◌≤◌, List, length, get_or, take, refl, arith}
use Rattle.std.specs.Prelude.{min}
use Rattle.kd_item.specs.Spelling.{item_length}
use Rattle.kd_wire.specs.declared.reply.ListedItem.{ListedItem}
use Rattle.kd_wire.specs.Replies.{listing_bytes}
use Rattle.kd_wire.proofs.Lengths.{listed_more}

-- one line more: the lines so far are at most so long, or the number is the greatest
pub one_line : (lines : List ListedItem) (i total next len : ℕ) (line : ListedItem) → i < length lines → line ≡ get_or lines i line → len ≡ length line.name
    → min (length (listing_bytes (take i lines))) (2 ^ 64 - 1) ≤ total → min (total + (40 + len)) (2 ^ 64 - 1) ≤ next
    → min (length (listing_bytes (take (i + 1) lines))) (2 ^ 64 - 1) ≤ next
one_line lines i total next len line lt is long before step =
    let more : length (listing_bytes (take i lines)) + item_length (16 + length line.name) ≡ length (listing_bytes (take (i + 1) lines)) = listed_more lines i (length (listing_bytes (take i lines))) line lt is refl in
    omega (arith, more, before, step, long)
