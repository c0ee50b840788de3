use Rattle.std.proofs.Common.{◌+◌, drop, ap, ◌∙◌}
use Rattle.std.proofs.lemmas.List.{drop-drop}
use Rattle.kd_outside.proofs.Known.{appends_taken}
use Rattle.kd_outside.proofs.whole.write_whole.Goals as goal

pub writing-preserved : goal.writing-preserved
writing-preserved g c =
    let i = c.writing.invariant in
    let n = c.in_ok-count.count in
    let piece = c.args.piece.now in (
      i.0 + n,
      c.split_at.ensures.back ∙ ap (drop n) i.1 ∙ drop-drop n i.0 piece,
      appends_taken (g.K.Sink.held c.args.sink.now) (g.K.Sink.held c.writing.sink) (g.K.Sink.held c.write.new.self) i.0 n piece i.2 (rw (← i.1) c.in_ok-count.ensures.bytes),
      c.in_ok-count.ensures.cause.kept ∙ i.3,
      c.in_ok-count.ensures.beside ∙ i.4,
    )
