-- An unused number stands nowhere in the chain, and the book stays sound with it at its place.
use Rattle.std.specs.Prelude.{◌≡◌, ◌≤◌, ◌<◌, ◌+◌, ◌-◌, ◌%◌, ℕ, ◌∷◌, List, None, Some, option_map}
use Rattle.std.proofs.Common.{ap, arith, set, sym, ◌∙◌}
use Rattle.kd_model.specs.Slices.{is_lower, unused_number}
use Rattle.kd_model.specs.Words.{put_in_order}
use Rattle.kd_model.specs.declared.placed.Placed.{Placed}
use Rattle.kd_links.specs.Chains.{Chained}
use Rattle.kd_links.specs.Filed.{first_fit, lying, rank}
use Rattle.kd_links.specs.Kept.{IsLinked, chain_book, slices_of}
use Rattle.kd_links.specs.declared.node.Span.{Span}
use Rattle.kd_rings.specs.declared.heads.TheConstants.{START}
use Rattle.kd_links.specs.declared.node.TheConstants.{GAPS}
use Rattle.kd_links.proofs.Books.{free}
use Rattle.kd_rings.proofs.Linked.{not_in}
use Rattle.kd_links.proofs.Placing.{IsAfter, IsPlacing, Places, best_of, bytes_fit, filed_one_more, fit_low, is_place, new_span, none_placed, placed, placed_at, within_pool}
use Rattle.kd_links.proofs.links.LinksSliceBook.place.Goals as goal

-- what is known once the gap is found
placing : (size bytes len p n : ℕ) (chain : Chained) → IsLinked size bytes chain → 0 < len → len % 8 ≡ 0 → unused_number (chain_book size chain) ≡ Some n → first_fit chain len ≡ Some (GAPS + p) → IsPlacing size len p n chain
placing size bytes len p n chain l some even unused fit = record { kept = l.kept; binned = l.binned; some = some; even = even; unused = unused; fit = fit }

pub returns-in_default-smallest-clause-full : goal.returns-in_default-smallest-clause-full
returns-in_default-smallest-clause-full c =
    let size = c.self.inside.size in let chain = c.self.inside.chain in
    let none : first_fit chain c.args.len ≡ None = sym c.smallest.ensures ∙ ap (option_map (λ n. GAPS + n)) c.in_default-smallest.is in
    λ _. rw (← c.self.view_is) (none_placed size c.args.len chain c.self.invariant.kept c.self.invariant.binned none)

pub overflow_add-behind : goal.overflow_add-behind
overflow_add-behind c =
    let size = c.self.inside.size in let chain = c.self.inside.chain in
    let p = c.in-Some-smallest.behind in let n = c.in-Some.number in
    let w = placing size c.self.inside.used c.args.len p n chain c.self.invariant c.requires.some c.requires.eights (sym c.lowest_unused.ensures ∙ c.in-Some.is) (sym c.smallest.ensures ∙ ap (option_map (λ n. GAPS + n)) c.in-Some-smallest.is) in
    let low = fit_low chain c.args.len p w.fit in
    record { fits = omega arith }

pub span_inside-offset-requires : goal.span_inside-offset-requires
span_inside-offset-requires c =
    let size = c.self.inside.size in let chain = c.self.inside.chain in
    let p = c.in-Some-smallest.behind in let n = c.in-Some.number in
    let w = placing size c.self.inside.used c.args.len p n chain c.self.invariant c.requires.some c.requires.eights (sym c.lowest_unused.ensures ∙ c.in-Some.is) (sym c.smallest.ensures ∙ ap (option_map (λ n. GAPS + n)) c.in-Some-smallest.is) in
    let low = fit_low chain c.args.len p w.fit in
    omega (arith, low, w.kept.count)

pub put_behind-requires-clause-place : goal.put_behind-requires-clause-place
put_behind-requires-clause-place c =
    let size = c.self.inside.size in let chain = c.self.inside.chain in
    let p = c.in-Some-smallest.behind in let n = c.in-Some.number in
    let w = placing size c.self.inside.used c.args.len p n chain c.self.invariant c.requires.some c.requires.eights (sym c.lowest_unused.ensures ∙ c.in-Some.is) (sym c.smallest.ensures ∙ ap (option_map (λ n. GAPS + n)) c.in-Some-smallest.is) in
    (is_place size c.args.len p n chain w).behind.among

pub put_behind-requires-clause-number : goal.put_behind-requires-clause-number
put_behind-requires-clause-number c =
    let size = c.self.inside.size in let chain = c.self.inside.chain in
    let p = c.in-Some-smallest.behind in let n = c.in-Some.number in
    let w = placing size c.self.inside.used c.args.len p n chain c.self.invariant c.requires.some c.requires.eights (sym c.lowest_unused.ensures ∙ c.in-Some.is) (sym c.smallest.ensures ∙ ap (option_map (λ n. GAPS + n)) c.in-Some-smallest.is) in
    not_in n (START ∷ chain.order) (free size chain n w.kept w.unused).other

pub put_behind-requires-clause-low : goal.put_behind-requires-clause-low
put_behind-requires-clause-low c =
    let size = c.self.inside.size in let chain = c.self.inside.chain in
    let p = c.in-Some-smallest.behind in let n = c.in-Some.number in
    let w = placing size c.self.inside.used c.args.len p n chain c.self.invariant c.requires.some c.requires.eights (sym c.lowest_unused.ensures ∙ c.in-Some.is) (sym c.smallest.ensures ∙ ap (option_map (λ n. GAPS + n)) c.in-Some-smallest.is) in
    (free size chain n w.kept w.unused).below

pub put_behind-requires-clause-inside : goal.put_behind-requires-clause-inside
put_behind-requires-clause-inside c =
    let size = c.self.inside.size in let chain = c.self.inside.chain in
    let p = c.in-Some-smallest.behind in let n = c.in-Some.number in
    let w = placing size c.self.inside.used c.args.len p n chain c.self.invariant c.requires.some c.requires.eights (sym c.lowest_unused.ensures ∙ c.in-Some.is) (sym c.smallest.ensures ∙ ap (option_map (λ n. GAPS + n)) c.in-Some-smallest.is) in
    (free size chain n w.kept w.unused).inside

pub refile-requires-clause-filed : goal.refile-requires-clause-filed
refile-requires-clause-filed c =
    let size = c.self.inside.size in let chain = c.self.inside.chain in
    let p = c.in-Some-smallest.behind in let n = c.in-Some.number in
    let w = placing size c.self.inside.used c.args.len p n chain c.self.invariant c.requires.some c.requires.eights (sym c.lowest_unused.ensures ∙ c.in-Some.is) (sym c.smallest.ensures ∙ ap (option_map (λ n. GAPS + n)) c.in-Some-smallest.is) in
    let spans : c.put_behind.new.self.spans ≡ set chain.spans n (new_span chain p c.args.len) = c.put_behind.ensures.spans ∙ ap (λ (t : Span). set chain.spans n (record { offset = t.offset; len = c.args.len })) c.span_inside-offset.ensures in
    filed_one_more size c.args.len p n chain c.put_behind.new.self w c.put_behind.ensures.gaps spans

pub refile-requires-clause-number : goal.refile-requires-clause-number
refile-requires-clause-number c =
    let size = c.self.inside.size in let chain = c.self.inside.chain in
    let p = c.in-Some-smallest.behind in let n = c.in-Some.number in
    let w = placing size c.self.inside.used c.args.len p n chain c.self.invariant c.requires.some c.requires.eights (sym c.lowest_unused.ensures ∙ c.in-Some.is) (sym c.smallest.ensures ∙ ap (option_map (λ n. GAPS + n)) c.in-Some-smallest.is) in
    fit_low chain c.args.len p w.fit

pub overflow_add-offset : goal.overflow_add-offset
overflow_add-offset c =
    let size = c.self.inside.size in let chain = c.self.inside.chain in
    let p = c.in-Some-smallest.behind in let n = c.in-Some.number in
    let w = placing size c.self.inside.used c.args.len p n chain c.self.invariant c.requires.some c.requires.eights (sym c.lowest_unused.ensures ∙ c.in-Some.is) (sym c.smallest.ensures ∙ ap (option_map (λ n. GAPS + n)) c.in-Some-smallest.is) in
    let start : c.span_inside-offset.result.offset ≡ (rank chain.spans (GAPS + p)).start = ap (λ (t : Span). t.offset) c.span_inside-offset.ensures in
    let room : c.span_inside-offset.result.len ≡ (rank chain.spans (GAPS + p)).len = ap (λ (t : Span). t.len) c.span_inside-offset.ensures in
    let within = within_pool size c.args.len p n chain w in
    let enough = (best_of size c.args.len p n chain w).enough in
    let small = w.kept.fits in
    record { fits = omega (arith, start, within, enough, small) }

pub overflow_sub-room : goal.overflow_sub-room
overflow_sub-room c =
    let size = c.self.inside.size in let chain = c.self.inside.chain in
    let p = c.in-Some-smallest.behind in let n = c.in-Some.number in
    let w = placing size c.self.inside.used c.args.len p n chain c.self.invariant c.requires.some c.requires.eights (sym c.lowest_unused.ensures ∙ c.in-Some.is) (sym c.smallest.ensures ∙ ap (option_map (λ n. GAPS + n)) c.in-Some-smallest.is) in
    let start : c.span_inside-offset.result.offset ≡ (rank chain.spans (GAPS + p)).start = ap (λ (t : Span). t.offset) c.span_inside-offset.ensures in
    let room : c.span_inside-offset.result.len ≡ (rank chain.spans (GAPS + p)).len = ap (λ (t : Span). t.len) c.span_inside-offset.ensures in
    let enough = (best_of size c.args.len p n chain w).enough in
    omega (arith, room, enough)

pub refile-requires-2-clause-number : goal.refile-requires-2-clause-number
refile-requires-2-clause-number c =
    let size = c.self.inside.size in let chain = c.self.inside.chain in
    let p = c.in-Some-smallest.behind in let n = c.in-Some.number in
    let w = placing size c.self.inside.used c.args.len p n chain c.self.invariant c.requires.some c.requires.eights (sym c.lowest_unused.ensures ∙ c.in-Some.is) (sym c.smallest.ensures ∙ ap (option_map (λ n. GAPS + n)) c.in-Some-smallest.is) in
    let below = (free size chain n w.kept w.unused).below in
    omega (arith, below)

pub overflow_add-self : goal.overflow_add-self
overflow_add-self c =
    let size = c.self.inside.size in let chain = c.self.inside.chain in
    let p = c.in-Some-smallest.behind in let n = c.in-Some.number in
    let w = placing size c.self.inside.used c.args.len p n chain c.self.invariant c.requires.some c.requires.eights (sym c.lowest_unused.ensures ∙ c.in-Some.is) (sym c.smallest.ensures ∙ ap (option_map (λ n. GAPS + n)) c.in-Some-smallest.is) in
    let spans : c.put_behind.new.self.spans ≡ set chain.spans n (new_span chain p c.args.len) = c.put_behind.ensures.spans ∙ ap (λ (t : Span). set chain.spans n (record { offset = t.offset; len = c.args.len })) c.span_inside-offset.ensures in
    let fit = bytes_fit size c.self.inside.used c.args.len p n chain c.put_behind.new.self w c.self.invariant.total c.put_behind.ensures.order c.put_behind.ensures.gaps spans in
    let small = w.kept.fits in
    record { fits = omega (arith, fit, small) }

-- the book afterwards
after : (c : goal.After-self-1) → IsAfter c.self.inside.size (c.self.inside.used + c.args.len) (put_in_order is_lower (record { number = c.in-Some.number; offset = c.span_inside-offset.result.offset; len = c.args.len }) (slices_of c.self.inside.chain)) c.refile-2.new.chain
after c =
    let size = c.self.inside.size in let chain = c.self.inside.chain in
    let p = c.in-Some-smallest.behind in let n = c.in-Some.number in
    let w = placing size c.self.inside.used c.args.len p n chain c.self.invariant c.requires.some c.requires.eights (sym c.lowest_unused.ensures ∙ c.in-Some.is) (sym c.smallest.ensures ∙ ap (option_map (λ n. GAPS + n)) c.in-Some-smallest.is) in
    let spans : c.put_behind.new.self.spans ≡ set chain.spans n (new_span chain p c.args.len) = c.put_behind.ensures.spans ∙ ap (λ (t : Span). set chain.spans n (record { offset = t.offset; len = c.args.len })) c.span_inside-offset.ensures in
    let start : c.span_inside-offset.result.offset ≡ (rank chain.spans (GAPS + p)).start = ap (λ (t : Span). t.offset) c.span_inside-offset.ensures in
    let room : c.span_inside-offset.result.len ≡ (rank chain.spans (GAPS + p)).len = ap (λ (t : Span). t.len) c.span_inside-offset.ensures in
    let enough : c.args.len ≤ (rank chain.spans (GAPS + p)).len = (best_of size c.args.len p n chain w).enough in
    let sum : c.span_inside-offset.result.offset + c.args.len + (c.span_inside-offset.result.len - c.args.len) ≡ c.span_inside-offset.result.offset + c.span_inside-offset.result.len = omega (arith, room, enough) in
    let d : Places c.args.len p n chain c.put_behind.new.self c.refile.new.chain c.refile-2.new.chain c.span_from-rest.result = record {
      order1 = c.put_behind.ensures.order;
      gaps1 = c.put_behind.ensures.gaps;
      spans1 = spans;
      order2 = c.refile.ensures.order;
      spans2 = c.refile.ensures.spans;
      order3 = c.refile-2.ensures.order;
      filed3 = c.refile-2.ensures.filed;
      spans3 = c.refile-2.ensures.spans;
      left = c.span_from-rest.ensures ∙ ap (lying (c.span_inside-offset.result.offset + c.args.len)) sum ∙ ap (λ (t : Span). lying (t.offset + c.args.len) (t.offset + t.len)) c.span_inside-offset.ensures;
    } in
    rw start (placed size c.self.inside.used c.args.len p n chain c.put_behind.new.self c.refile.new.chain c.refile-2.new.chain c.span_from-rest.result w c.self.invariant.total d)

pub invariant_of-self : goal.invariant_of-self
invariant_of-self c = (after c).linked

pub returns-clause-offset : goal.returns-clause-offset
returns-clause-offset c =
    let size = c.self.inside.size in let chain = c.self.inside.chain in
    let p = c.in-Some-smallest.behind in let n = c.in-Some.number in
    let w = placing size c.self.inside.used c.args.len p n chain c.self.invariant c.requires.some c.requires.eights (sym c.lowest_unused.ensures ∙ c.in-Some.is) (sym c.smallest.ensures ∙ ap (option_map (λ n. GAPS + n)) c.in-Some-smallest.is) in
    rw (← c.self.view_is) (placed_at size c.args.len p n chain w ∙ ap (λ (t : Span). Some t.offset) (sym c.span_inside-offset.ensures))

pub returns-clause-placed : goal.returns-clause-placed
returns-clause-placed c = rw (← c.self.view_is) (ap (λ (ss : List Placed). record { size = c.self.inside.size; slices = ss }) (after c).slices_are)

pub returns-clause-sound : goal.returns-clause-sound
returns-clause-sound c = (after c).linked.kept.sound
