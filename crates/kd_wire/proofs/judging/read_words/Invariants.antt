use Rattle.std.proofs.Common.{◌≡◌, length, take}
use Rattle.kd_wire.specs.Refusals.{words_from}
use Rattle.kd_wire.proofs.judging.read_words.Given as goal

abbrev pub invariant-words : goal.invariant-words
invariant-words l = (length l.into ≡ length l.initial.into) × (take l.place l.into ≡ words_from l.place 0 l.bytes)
