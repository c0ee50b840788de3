use Rattle.kd_name.proofs.Covering.{starred, unstarred}
use Rattle.kd_name.proofs.pattern.is_wildcard_of.Goals as goal

pub returns-in-Some-strip_suffix : goal.returns-in-Some-strip_suffix
returns-in-Some-strip_suffix c =
    let star = c.in-Some-strip_suffix.ensures.cases in
    starred c.args.pattern.now c.args.name.now _ _ _ c.in-Some.ensures star.0 star.1 c.eq.ensures

pub returns-in-None : goal.returns-in-None
returns-in-None c = unstarred c.args.pattern.now c.args.name.now _ c.in-Some.ensures c.in-None.ensures.cases
