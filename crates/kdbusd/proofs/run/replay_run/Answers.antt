use Rattle.std.proofs.Common.{refl, subst, Result}
use Rattle.std.specs.Prelude.{OnErr}
use Rattle.kdbusd.specs.declared.words.Words.{Words}
use Rattle.kdbusd.specs.declared.words.Words.TheVariants.{Replay}
use Rattle.kdbusd.specs.declared.words.WordsError.{WordsError}
use Rattle.kdbusd.specs.Words.{AreBad}
use Rattle.kdbusd.proofs.run.replay_run.Goals as goal

pub returns-in_default-2-clause-bad_words : goal.returns-in_default-2-clause-bad_words
returns-in_default-2-clause-bad_words g c =
    let bad = subst (λ (r : Result Words WordsError). OnErr r (AreBad c.args.words.now)) c.in_default.is c.read_words.ensures.bad in
    (λ e. bad Replay, λ n. refl)
