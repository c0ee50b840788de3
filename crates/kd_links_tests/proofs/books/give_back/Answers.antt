-- What lies somewhere is placed.
use Rattle.std.specs.Prelude.{is_some}
use Rattle.std.proofs.Common.{ap, sym, ◌∙◌}
use Rattle.kd_model.specs.declared.placed.Placed.{Placed}
use Rattle.kd_links.proofs.Books.{found_is_placed}
use Rattle.kd_links_tests.proofs.books.give_back.Goals as goal

pub give_back-requires : goal.give_back-requires
give_back-requires g c =
    let book = g.B.SliceBook.book c.args.book.now in
    found_is_placed (λ (s : Placed). (s.offset, s.len)) c.args.number book.slices (ap is_some (sym c.at.ensures) ∙ sym c.is_some-placed.ensures ∙ c.if-placed.true)
