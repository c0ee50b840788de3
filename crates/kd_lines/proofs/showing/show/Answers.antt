use Rattle.std.proofs.Common.{◌≡◌, ℕ, List, [], refl, sym, subst, ◌∙◌}
use Rattle.std.proofs.lemmas.List.{length-take-le}
use Rattle.kd_lines.specs.Pieces.{IsPiece, IsCut}
use Rattle.kd_lines.specs.Lines.{IsLine}
use Rattle.kd_lines.proofs.Written.{nothing_left, all_written, some_written, one_more}
use Rattle.kd_lines.proofs.showing.show.Goals as goal

pub returns-in_default-put_line-clause-shown : goal.returns-in_default-put_line-clause-shown
returns-in_default-put_line-clause-shown g c = all_written _ _ _ _ _ _ _ c.pieces.invariant.0

pub returns-in_default-write_whole-clause-shown : goal.returns-in_default-write_whole-clause-shown
returns-in_default-write_whole-clause-shown g c =
    let t = c.in-Ok.ensures in
    let rest = c.pieces.rest.now in
    let written : c.deref.result.now ≡ t.0 = c.deref.ensures.value ∙ t.2 ∙ rw c.clear.ensures.items refl in
    let line = subst (λ (p : List ℕ). IsLine c.args.kind p t.0) c.split_at.ensures.front t.1 in
    let e = c.in_default-write_whole.ensures.err in
    some_written (IsPiece c.args.kind) (IsLine c.args.kind) c.args.bytes.now rest c.pieces.at c.in-Some.size e.0 _ _ (g.K.Sink.held c.write_whole.new.sink) t.0 c.pieces.invariant.0 c.in-Some.ensures.piece line (rw (← written) e.1)

pub pieces-preserved : goal.pieces-preserved
pieces-preserved g c =
    let t = c.in-Ok.ensures in
    let rest = c.pieces.rest.now in
    let written : c.deref.result.now ≡ t.0 = c.deref.ensures.value ∙ t.2 ∙ rw c.clear.ensures.items refl in
    let line = subst (λ (p : List ℕ). IsLine c.args.kind p t.0) c.split_at.ensures.front t.1 in
    let more = one_more (IsPiece c.args.kind) (IsLine c.args.kind) c.args.bytes.now rest c.pieces.at c.in-Some.size _ _ (g.K.Sink.held c.write_whole.new.sink) t.0 c.pieces.invariant.0 c.in-Some.ensures.piece
    (length-take-le c.in-Some.size rest c.in-Some.ensures.inside) line (rw (← written) c.in-Ok-write_whole.ensures.ok) in
    (rw c.split_at.ensures.back more, c.in-Ok-write_whole.ensures.cause.kept ∙ c.pieces.invariant.1)

pub returns-then-is_empty-clause-shown : goal.returns-then-is_empty-clause-shown
returns-then-is_empty-clause-shown g c =
    let i = c.pieces.invariant.0 in
    let none : c.pieces.rest.now ≡ [] = nothing_left c.pieces.rest.now (sym c.if-is_empty.ensures) in
    (i.parts, subst (IsCut (IsPiece c.args.kind) c.args.bytes.now i.parts) none i.cut, (i.written, i.comes, i.held))
