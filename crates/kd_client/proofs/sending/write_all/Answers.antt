use Rattle.std.proofs.Common.{◌+◌, drop, ap, ◌∙◌}
use Rattle.std.proofs.lemmas.List.{drop-drop}
use Rattle.kd_outside.proofs.Known.{appends_taken}
use Rattle.kd_client.proofs.sending.write_all.Goals as goal

pub writing-preserved : goal.writing-preserved
writing-preserved g c =
    let i = c.writing.invariant in
    let n = c.in_ok-count.count in
    let piece = c.args.piece.now in (
      i.0 + n,
      c.split_at.ensures.back ∙ ap (drop n) i.1 ∙ drop-drop n i.0 piece,
      appends_taken (g.L.Link.told c.args.link.now).writing.bytes (g.L.Link.told c.writing.link).writing.bytes (g.L.Link.told c.send.new.self).writing.bytes i.0 n piece i.2 (rw (← i.1) c.in_ok-count.ensures.bytes),
      c.in_ok-count.ensures.cause.kept ∙ i.3,
      c.in_ok-count.ensures.kept ∙ i.4,
    )
