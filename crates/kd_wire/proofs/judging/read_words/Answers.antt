use Rattle.std.proofs.Common.{◌≡◌, length, arith, length-set, ◌∙◌}
use Rattle.kd_wire.proofs.WordLaws.{one_word_read}
use Rattle.kd_wire.proofs.judging.read_words.Goals as goal

pub words-preserved : goal.words-preserved
words-preserved c =
    let size : length c.words.into ≡ length c.args.into.now = c.words.invariant.0 in
    (length-set c.words.into c.words.place c.word_at.result ∙ size, one_word_read c.words.into c.args.bytes.now c.words.place c.word_at.result (omega (arith, size, c.words-test.true)) c.words.invariant.1 c.word_at.ensures)
