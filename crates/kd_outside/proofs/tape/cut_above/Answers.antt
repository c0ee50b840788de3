use Rattle.std.proofs.Common.{rules, sym, ◌∙◌, ap, min, nat_lt, get_or, arith}
use Rattle.kd_outside.proofs.Least.{one_more, none_more}
use Rattle.kd_outside.proofs.tape.cut_above.Goals as goal
use Rattle.kd_outside.proofs.tape.cut_above.Goals.{then-place-cut, else-place-cut}

pub cuts-preserved : goal.cuts-preserved
cuts-preserved c =
    let i = c.cuts.invariant in
    let cut = get_or c.args.cuts.now c.cuts.cut-index 0 in
    elim c.if-place-cut.branch [
      | then-place-cut w ↦ (
        w.best-is ∙ w.min-best.ensures ∙ ap (λ b. min b cut) i.0 ∙ sym (one_more (λ n. nat_lt c.args.place n) c.args.cuts.now c.cuts.cut-index c.args.end c.cuts-test.true (search rules)),
        omega (arith, w.best-is, w.min-best.ensures, i.1, i.2, w.if-place-cut.true),
        omega (arith, w.best-is, w.min-best.ensures, i.1, i.2, w.if-place-cut.true),
      )
      | else-place-cut w ↦ (
        w.best-is ∙ i.0 ∙ sym (none_more (λ n. nat_lt c.args.place n) c.args.cuts.now c.cuts.cut-index c.args.end c.cuts-test.true (search rules)),
        omega (arith, w.best-is, i.1),
        omega (arith, w.best-is, i.2),
      )
    ]
