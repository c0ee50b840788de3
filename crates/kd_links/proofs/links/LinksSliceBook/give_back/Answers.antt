-- The slice's range and the gaps on both its sides are one gap, and the book stays sound without it.
use Rattle.std.specs.Prelude.{◌≡◌, ◌≤◌, ◌+◌, ◌-◌, List, true, slice_index_or}
use Rattle.std.proofs.Common.{ap, arith, set, sym, ◌∙◌}
use Rattle.kd_model.specs.Slices.{has_number, is_placed}
use Rattle.kd_model.specs.Words.{but_those, contains}
use Rattle.kd_model.specs.declared.placed.Gap.{Gap}
use Rattle.kd_model.specs.declared.placed.Placed.{Placed}
use Rattle.kd_links.specs.Chains.{no_span}
use Rattle.kd_links.specs.Filed.{lying, rank}
use Rattle.kd_links.specs.Kept.{chain_book, slice_of, slices_of}
use Rattle.kd_links.specs.declared.node.Span.{Span}
use Rattle.kd_links.specs.declared.node.TheConstants.{GAPS}
use Rattle.kd_links.proofs.Books.{number_in}
use Rattle.kd_links.proofs.Placing.{GivesBack, IsAfter, before_in, before_low, filed_one_less, given_back, low_of, one_less, part_of, sides}
use Rattle.kd_links.proofs.links.LinksSliceBook.give_back.Goals as goal

pub span_inside-span-requires : goal.span_inside-span-requires
span_inside-span-requires c =
    let size = c.self.inside.size in let chain = c.self.inside.chain in let n = c.number.inside.0 in
    let placed : is_placed n (chain_book size chain) ≡ true = rw (← c.self.view_is, ← c.number.view_is) at c.requires in
    let among : contains n chain.order ≡ true = sym (number_in chain.spans n chain.order) ∙ placed in
    let low = low_of size chain n c.self.invariant.kept among in
    omega (arith, low, c.self.invariant.kept.count)

pub previous-before-requires : goal.previous-before-requires
previous-before-requires c =
    let size = c.self.inside.size in let chain = c.self.inside.chain in let n = c.number.inside.0 in
    let placed : is_placed n (chain_book size chain) ≡ true = rw (← c.self.view_is, ← c.number.view_is) at c.requires in
    let among : contains n chain.order ≡ true = sym (number_in chain.spans n chain.order) ∙ placed in
    among

pub overflow_add-before : goal.overflow_add-before
overflow_add-before c =
    let size = c.self.inside.size in let chain = c.self.inside.chain in let n = c.number.inside.0 in
    let placed : is_placed n (chain_book size chain) ≡ true = rw (← c.self.view_is, ← c.number.view_is) at c.requires in
    let among : contains n chain.order ≡ true = sym (number_in chain.spans n chain.order) ∙ placed in
    let low = before_low size chain n c.self.invariant.kept among in
    let is = c.previous-before.ensures in
    record { fits = omega (arith, low, is) }

pub overflow_add-number : goal.overflow_add-number
overflow_add-number c =
    let size = c.self.inside.size in let chain = c.self.inside.chain in let n = c.number.inside.0 in
    let placed : is_placed n (chain_book size chain) ≡ true = rw (← c.self.view_is, ← c.number.view_is) at c.requires in
    let among : contains n chain.order ≡ true = sym (number_in chain.spans n chain.order) ∙ placed in
    let low = low_of size chain n c.self.invariant.kept among in
    record { fits = omega arith }

pub span_inside-left-requires : goal.span_inside-left-requires
span_inside-left-requires c =
    let size = c.self.inside.size in let chain = c.self.inside.chain in let n = c.number.inside.0 in
    let placed : is_placed n (chain_book size chain) ≡ true = rw (← c.self.view_is, ← c.number.view_is) at c.requires in
    let among : contains n chain.order ≡ true = sym (number_in chain.spans n chain.order) ∙ placed in
    let low = before_low size chain n c.self.invariant.kept among in
    let is = c.previous-before.ensures in
    omega (arith, low, is, c.self.invariant.kept.count)

pub span_inside-right-requires : goal.span_inside-right-requires
span_inside-right-requires c =
    let size = c.self.inside.size in let chain = c.self.inside.chain in let n = c.number.inside.0 in
    let placed : is_placed n (chain_book size chain) ≡ true = rw (← c.self.view_is, ← c.number.view_is) at c.requires in
    let among : contains n chain.order ≡ true = sym (number_in chain.spans n chain.order) ∙ placed in
    let low = low_of size chain n c.self.invariant.kept among in
    omega (arith, low, c.self.invariant.kept.count)

pub take_out-requires : goal.take_out-requires
take_out-requires c =
    let size = c.self.inside.size in let chain = c.self.inside.chain in let n = c.number.inside.0 in
    let placed : is_placed n (chain_book size chain) ≡ true = rw (← c.self.view_is, ← c.number.view_is) at c.requires in
    let among : contains n chain.order ≡ true = sym (number_in chain.spans n chain.order) ∙ placed in
    among

pub refile-requires-clause-filed : goal.refile-requires-clause-filed
refile-requires-clause-filed c =
    let size = c.self.inside.size in let chain = c.self.inside.chain in let n = c.number.inside.0 in
    let placed : is_placed n (chain_book size chain) ≡ true = rw (← c.self.view_is, ← c.number.view_is) at c.requires in
    let among : contains n chain.order ≡ true = sym (number_in chain.spans n chain.order) ∙ placed in
    filed_one_less size n chain c.take_out.new.self c.self.invariant.kept c.self.invariant.binned among c.take_out.ensures.gaps c.take_out.ensures.spans

pub refile-requires-clause-number : goal.refile-requires-clause-number
refile-requires-clause-number c =
    let size = c.self.inside.size in let chain = c.self.inside.chain in let n = c.number.inside.0 in
    let placed : is_placed n (chain_book size chain) ≡ true = rw (← c.self.view_is, ← c.number.view_is) at c.requires in
    let among : contains n chain.order ≡ true = sym (number_in chain.spans n chain.order) ∙ placed in
    let low = low_of size chain n c.self.invariant.kept among in
    omega (arith, low)

pub overflow_sub-span : goal.overflow_sub-span
overflow_sub-span c =
    let size = c.self.inside.size in let chain = c.self.inside.chain in let n = c.number.inside.0 in
    let placed : is_placed n (chain_book size chain) ≡ true = rw (← c.self.view_is, ← c.number.view_is) at c.requires in
    let among : contains n chain.order ≡ true = sym (number_in chain.spans n chain.order) ∙ placed in
    let left : c.span_inside-left.result ≡ slice_index_or chain.spans (GAPS + before_in chain n) no_span = c.span_inside-left.ensures ∙ ap (λ k. slice_index_or chain.spans (GAPS + k) no_span) c.previous-before.ensures in
    let left_len : c.span_inside-left.result.len ≡ (rank chain.spans (GAPS + before_in chain n)).len = ap (λ (t : Span). t.len) left in
    let offset : c.span_inside-span.result.offset ≡ (slice_of chain.spans n).offset = ap (λ (t : Span). t.offset) c.span_inside-span.ensures in
    let len : c.span_inside-span.result.len ≡ (slice_of chain.spans n).len = ap (λ (t : Span). t.len) c.span_inside-span.ensures in
    let beside = sides size chain n c.self.invariant.kept c.self.invariant.binned among in
    omega (arith, left_len, offset, beside.0)

pub overflow_add-left : goal.overflow_add-left
overflow_add-left c =
    let size = c.self.inside.size in let chain = c.self.inside.chain in let n = c.number.inside.0 in
    let placed : is_placed n (chain_book size chain) ≡ true = rw (← c.self.view_is, ← c.number.view_is) at c.requires in
    let among : contains n chain.order ≡ true = sym (number_in chain.spans n chain.order) ∙ placed in
    let left : c.span_inside-left.result ≡ slice_index_or chain.spans (GAPS + before_in chain n) no_span = c.span_inside-left.ensures ∙ ap (λ k. slice_index_or chain.spans (GAPS + k) no_span) c.previous-before.ensures in
    let left_len : c.span_inside-left.result.len ≡ (rank chain.spans (GAPS + before_in chain n)).len = ap (λ (t : Span). t.len) left in
    let offset : c.span_inside-span.result.offset ≡ (slice_of chain.spans n).offset = ap (λ (t : Span). t.offset) c.span_inside-span.ensures in
    let len : c.span_inside-span.result.len ≡ (slice_of chain.spans n).len = ap (λ (t : Span). t.len) c.span_inside-span.ensures in
    let beside = sides size chain n c.self.invariant.kept c.self.invariant.binned among in
    let right_len : c.span_inside-right.result.len ≡ (rank chain.spans (GAPS + n)).len = ap (λ (t : Span). t.len) c.span_inside-right.ensures in
    let small = c.self.invariant.kept.fits in
    record { fits = omega (arith, left_len, offset, len, beside.0, beside.1, small) }

pub overflow_add-left-2 : goal.overflow_add-left-2
overflow_add-left-2 c =
    let size = c.self.inside.size in let chain = c.self.inside.chain in let n = c.number.inside.0 in
    let placed : is_placed n (chain_book size chain) ≡ true = rw (← c.self.view_is, ← c.number.view_is) at c.requires in
    let among : contains n chain.order ≡ true = sym (number_in chain.spans n chain.order) ∙ placed in
    let left : c.span_inside-left.result ≡ slice_index_or chain.spans (GAPS + before_in chain n) no_span = c.span_inside-left.ensures ∙ ap (λ k. slice_index_or chain.spans (GAPS + k) no_span) c.previous-before.ensures in
    let left_len : c.span_inside-left.result.len ≡ (rank chain.spans (GAPS + before_in chain n)).len = ap (λ (t : Span). t.len) left in
    let offset : c.span_inside-span.result.offset ≡ (slice_of chain.spans n).offset = ap (λ (t : Span). t.offset) c.span_inside-span.ensures in
    let len : c.span_inside-span.result.len ≡ (slice_of chain.spans n).len = ap (λ (t : Span). t.len) c.span_inside-span.ensures in
    let beside = sides size chain n c.self.invariant.kept c.self.invariant.binned among in
    let right_len : c.span_inside-right.result.len ≡ (rank chain.spans (GAPS + n)).len = ap (λ (t : Span). t.len) c.span_inside-right.ensures in
    let small = c.self.invariant.kept.fits in
    record { fits = omega (arith, left_len, offset, len, right_len, beside.0, beside.1, small) }

pub refile-requires-2-clause-number : goal.refile-requires-2-clause-number
refile-requires-2-clause-number c =
    let size = c.self.inside.size in let chain = c.self.inside.chain in let n = c.number.inside.0 in
    let placed : is_placed n (chain_book size chain) ≡ true = rw (← c.self.view_is, ← c.number.view_is) at c.requires in
    let among : contains n chain.order ≡ true = sym (number_in chain.spans n chain.order) ∙ placed in
    let low = before_low size chain n c.self.invariant.kept among in
    let is = c.previous-before.ensures in
    omega (arith, low, is)

pub overflow_sub-self : goal.overflow_sub-self
overflow_sub-self c =
    let size = c.self.inside.size in let chain = c.self.inside.chain in let n = c.number.inside.0 in
    let placed : is_placed n (chain_book size chain) ≡ true = rw (← c.self.view_is, ← c.number.view_is) at c.requires in
    let among : contains n chain.order ≡ true = sym (number_in chain.spans n chain.order) ∙ placed in
    let left : c.span_inside-left.result ≡ slice_index_or chain.spans (GAPS + before_in chain n) no_span = c.span_inside-left.ensures ∙ ap (λ k. slice_index_or chain.spans (GAPS + k) no_span) c.previous-before.ensures in
    let left_len : c.span_inside-left.result.len ≡ (rank chain.spans (GAPS + before_in chain n)).len = ap (λ (t : Span). t.len) left in
    let offset : c.span_inside-span.result.offset ≡ (slice_of chain.spans n).offset = ap (λ (t : Span). t.offset) c.span_inside-span.ensures in
    let len : c.span_inside-span.result.len ≡ (slice_of chain.spans n).len = ap (λ (t : Span). t.len) c.span_inside-span.ensures in
    let beside = sides size chain n c.self.invariant.kept c.self.invariant.binned among in
    let part = part_of size c.self.inside.used n chain c.take_out.new.self c.self.invariant among (one_less size n chain c.take_out.new.self c.self.invariant.kept among c.take_out.ensures.order c.take_out.ensures.gaps c.take_out.ensures.spans) in
    omega (arith, part, len)

-- what a slice and the gaps on both its sides are together
abbrev together : Span → Span → Span → Gap
together s l r = lying (s.offset - l.len) (s.offset + s.len + r.len)

-- the book afterwards
after : (c : goal.After-self-1) → IsAfter c.self.inside.size (c.self.inside.used - c.span_inside-span.result.len) (but_those (has_number c.number.inside.0) (slices_of c.self.inside.chain)) c.refile-2.new.chain
after c =
    let size = c.self.inside.size in let chain = c.self.inside.chain in let n = c.number.inside.0 in
    let placed : is_placed n (chain_book size chain) ≡ true = rw (← c.self.view_is, ← c.number.view_is) at c.requires in
    let among : contains n chain.order ≡ true = sym (number_in chain.spans n chain.order) ∙ placed in
    let left : c.span_inside-left.result ≡ slice_index_or chain.spans (GAPS + before_in chain n) no_span = c.span_inside-left.ensures ∙ ap (λ k. slice_index_or chain.spans (GAPS + k) no_span) c.previous-before.ensures in
    let left_len : c.span_inside-left.result.len ≡ (rank chain.spans (GAPS + before_in chain n)).len = ap (λ (t : Span). t.len) left in
    let offset : c.span_inside-span.result.offset ≡ (slice_of chain.spans n).offset = ap (λ (t : Span). t.offset) c.span_inside-span.ensures in
    let len : c.span_inside-span.result.len ≡ (slice_of chain.spans n).len = ap (λ (t : Span). t.len) c.span_inside-span.ensures in
    let beside = sides size chain n c.self.invariant.kept c.self.invariant.binned among in
    let whole = c.span_from-whole.result in
    let low : c.span_inside-left.result.len ≤ c.span_inside-span.result.offset = omega (arith, left_len, offset, beside.0) in
    let sum : c.span_inside-span.result.offset - c.span_inside-left.result.len + (c.span_inside-left.result.len + c.span_inside-span.result.len + c.span_inside-right.result.len) ≡ c.span_inside-span.result.offset + c.span_inside-span.result.len + c.span_inside-right.result.len = omega arith in
    let d : GivesBack n chain c.take_out.new.self c.refile.new.chain c.refile-2.new.chain whole = record {
      order1 = c.take_out.ensures.order;
      gaps1 = c.take_out.ensures.gaps;
      spans1 = c.take_out.ensures.spans;
      order2 = c.refile.ensures.order;
      spans2 = c.refile.ensures.spans;
      order3 = c.refile-2.ensures.order;
      filed3 = c.refile-2.ensures.filed;
      spans3 = c.refile-2.ensures.spans ∙ ap (λ k. set c.refile.new.chain.spans (GAPS + k) whole) c.previous-before.ensures;
      merged = c.span_from-whole.ensures ∙ ap (lying (c.span_inside-span.result.offset - c.span_inside-left.result.len)) sum ∙ ap (λ s. together s c.span_inside-left.result c.span_inside-right.result) c.span_inside-span.ensures ∙ ap (λ l. together (slice_index_or chain.spans n no_span) l c.span_inside-right.result) left ∙ ap (together (slice_index_or chain.spans n no_span) (slice_index_or chain.spans (GAPS + before_in chain n) no_span)) c.span_inside-right.ensures;
    } in
    rw len (given_back size c.self.inside.used n chain c.take_out.new.self c.refile.new.chain c.refile-2.new.chain whole c.self.invariant among d)

pub invariant_of-self : goal.invariant_of-self
invariant_of-self c = (after c).linked

pub returns-clause-gone : goal.returns-clause-gone
returns-clause-gone c = rw (← c.self.view_is, ← c.number.view_is) (ap (λ (ss : List Placed). record { size = c.self.inside.size; slices = ss }) (after c).slices_are)

pub returns-clause-sound : goal.returns-clause-sound
returns-clause-sound c = (after c).linked.kept.sound
