-- A slice has some bytes, and a number without has none.
use Rattle.std.specs.Prelude.{◌≡◌, Some, true, false, nat_lt, option_map}
use Rattle.std.proofs.Common.{ap, arith, sym, ◌∙◌}
use Rattle.std.proofs.lemmas.Bool.Decides.{nat_tests}
use Rattle.kd_model.specs.declared.placed.Placed.{Placed}
use Rattle.kd_links.specs.Kept.{slice_of}
use Rattle.kd_links.specs.declared.node.Span.{Span}
use Rattle.kd_links.proofs.Books.{entry_is, none_at}
use Rattle.kd_links.proofs.links.LinksSliceBook.at.Goals as goal

pub returns-then-span-eq0 : goal.returns-then-span-eq0
returns-then-span-eq0 c =
    let size = c.self.inside.size in let chain = c.self.inside.chain in let n = c.number.inside.0 in
    let none : nat_lt 0 c.span-span.result.len ≡ false = grind (arith, nat_tests) in
    let test : nat_lt 0 (slice_of chain.spans n).len ≡ false = ap (λ (s : Span). nat_lt 0 s.len) (sym c.span-span.ensures) ∙ none in
    rw (← c.self.view_is, ← c.number.view_is) (ap (option_map (λ (s : Placed). (s.offset, s.len))) (sym (entry_is size chain n false c.self.invariant.kept (omega arith) test)))

pub returns : goal.returns
returns c =
    let size = c.self.inside.size in let chain = c.self.inside.chain in let n = c.number.inside.0 in
    let some : nat_lt 0 c.span-span.result.len ≡ true = grind (arith, nat_tests) in
    let test : nat_lt 0 (slice_of chain.spans n).len ≡ true = ap (λ (s : Span). nat_lt 0 s.len) (sym c.span-span.ensures) ∙ some in
    let entry = ap (option_map (λ (s : Placed). (s.offset, s.len))) (sym (entry_is size chain n true c.self.invariant.kept (omega arith) test)) in
    rw (← c.self.view_is, ← c.number.view_is) (ap (λ (s : Span). Some (s.offset, s.len)) c.span-span.ensures ∙ entry)

pub returns-then-number-ge-SLICES : goal.returns-then-number-ge-SLICES
returns-then-number-ge-SLICES c =
    let size = c.self.inside.size in let chain = c.self.inside.chain in let n = c.number.inside.0 in
    rw (← c.self.view_is, ← c.number.view_is) (ap (option_map (λ (s : Placed). (s.offset, s.len))) (sym (none_at size chain n c.self.invariant.kept c.if-number-ge-SLICES.true)))
