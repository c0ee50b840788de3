-- An empty name and another one.
use Rattle.std.proofs.Common.{rules, tests, ◌∙◌, ap, sym, arith, length}
use Rattle.std.proofs.lemmas.Bool.{eqb-false}
use Rattle.std.proofs.lemmas.Iterator.{YieldsList-from_slice}
use Rattle.std.proofs.lemmas.Iterator.Search.{any_from_yields_List}
use Rattle.kd_model.specs.Words.{same}
use Rattle.kd_match.proofs.Owned.{owned_one}
use Rattle.kd_match.proofs.condition.owns.Goals as goal

pub returns : goal.returns
returns c =
    let b = c.bytes.ensures in
    let e = c.if-is_empty.ensures in
    any_from_yields_List (same c.args.wanted.now) c.any.new.self _ c.any.result c.any.ensures.ran (YieldsList-from_slice c.args.names.now (cc)) (λ x b q k. search (rules, tests)) ∙ owned_one c.args.names.now c.args.wanted.now (let none = eqb-false _ _ (sym e) in omega (arith, ap length b))
