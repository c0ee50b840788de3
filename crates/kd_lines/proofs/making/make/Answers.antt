use Rattle.std.proofs.Common.{ℕ, List, subst, ◌∙◌}
use Rattle.std.proofs.lemmas.List.{length-take-le}
use Rattle.kd_lines.specs.Making.{IsOneLine, IsMade}
use Rattle.kd_lines.proofs.Written.{all_written, some_written, one_more}
use Rattle.kd_lines.proofs.making.make.Goals as goal

pub returns-in-Err-OutOfMemory-clause-made : goal.returns-in-Err-OutOfMemory-clause-made
returns-in-Err-OutOfMemory-clause-made g c = all_written _ _ _ _ _ _ _ c.lines.invariant.0

pub returns-in_default-write_whole-clause-made : goal.returns-in_default-write_whole-clause-made
returns-in_default-write_whole-clause-made g c =
    let rest = c.lines.rest.now in
    let made = subst (λ (l : List ℕ). IsMade l c.deref.result.now) c.split_at.ensures.front (rw c.deref.ensures.value c.in-Ok.ensures.made) in
    let e = c.in_default-write_whole.ensures.err in
    some_written IsOneLine IsMade c.args.bytes.now rest c.lines.at c.in-Some.size e.0 _ _ (g.K.Sink.held c.write_whole.new.sink) c.deref.result.now c.lines.invariant.0 c.in-Some.ensures.line made e.1

pub lines-preserved : goal.lines-preserved
lines-preserved g c =
    let rest = c.lines.rest.now in
    let made = subst (λ (l : List ℕ). IsMade l c.deref.result.now) c.split_at.ensures.front (rw c.deref.ensures.value c.in-Ok.ensures.made) in
    let more = one_more IsOneLine IsMade c.args.bytes.now rest c.lines.at c.in-Some.size _ _ (g.K.Sink.held c.write_whole.new.sink) c.deref.result.now c.lines.invariant.0 c.in-Some.ensures.line
    (length-take-le c.in-Some.size rest c.in-Some.ensures.inside) made c.in-Ok-write_whole.ensures.ok in
    (rw c.split_at.ensures.back more, c.in-Ok-write_whole.ensures.cause.kept ∙ c.lines.invariant.1)
