use Rattle.std.proofs.Common.{◌==◌, sym}
use Rattle.kd_creds.proofs.Pieces.{whole, cut}
use Rattle.kd_creds.proofs.word.cut_at.Goals as goal

pub returns-in-None-clause-pieces : goal.returns-in-None-clause-pieces
returns-in-None-clause-pieces c = whole (λ b. b == c.args.mark) c.args.bytes.now (sym c.in-None.ensures.place)

pub returns-in-Some-clause-pieces : goal.returns-in-Some-clause-pieces
returns-in-Some-clause-pieces c =
    rw (c.split_at.ensures.front, c.split_at-in-Some.ensures.back, c.split_at.ensures.back) (cut (λ b. b == c.args.mark) c.args.bytes.now c.in-Some.at (sym c.in-Some.ensures.place))
