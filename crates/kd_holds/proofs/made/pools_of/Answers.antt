-- Each part opens what it opens, and the last pool made is the first one to be opened.
use Rattle.std.proofs.Common.{◌∙◌}
use Rattle.std.proofs.lemmas.List.{drop_all}
use Rattle.kd_tables.specs.Drafts.{IsVisitable}
use Rattle.kd_holds.specs.Handing.{IsSmall}
use Rattle.kd_holds.proofs.Stacks.{holds_at, opens_small, opens_words, stack_made}
use Rattle.kd_holds.proofs.made.pools_of.Goals as goal

pub make-requires : goal.make-requires
make-requires c =
    let ps = c.args.parts.now in
    let p = c.part-item.result in
    record {
      eights = opens_words p c.in-Raise.seat c.in-Raise.size c.in-Raise.is (holds_at IsVisitable ps c.parts.part-index p c.parts-test.true c.part-item.is c.requires.each);
      most = opens_small p c.in-Raise.seat c.in-Raise.size c.in-Raise.is (holds_at IsSmall ps c.parts.part-index p c.parts-test.true c.part-item.is c.requires.small);
    }

pub returns : goal.returns
returns c =
    let none = drop_all c.parts.part-index c.args.parts.now c.parts-test.false in
    c.reverse.ensures.items ∙ stack_made c.args.parts.now c.parts.raised.items _ c.parts.invariant none
