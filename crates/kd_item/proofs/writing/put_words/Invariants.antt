use Rattle.std.proofs.Common.{◌≡◌, ◌+◌, ◌*◌, ◌≤◌, ◌++◌, take}
use Rattle.std.specs.Prelude.{vec_len, vec_capacity}
use Rattle.kd_item.specs.Spelling.{words}
use Rattle.kd_item.proofs.writing.put_words.Given as goal

abbrev pub invariant-loop-number : goal.invariant-loop-number
invariant-loop-number l = (l.out.items ≡ l.initial.out.items ++ words (take l.number-index l.numbers)) × (vec_len l.out ≡ vec_len l.initial.out + 8 * l.number-index) × (vec_capacity l.initial.out ≤ vec_capacity l.out)
