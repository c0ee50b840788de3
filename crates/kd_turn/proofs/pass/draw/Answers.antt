use Rattle.std.proofs.Common.{◌<◌, sym, ap, ◌∙◌, arith}
use Rattle.kd_turn.proofs.Passes.{draws}
use Rattle.kd_turn.proofs.pass.draw.Goals as goal

pub fetch_add-requires : goal.fetch_add-requires
fetch_add-requires g c =
    let locks = ap (λ q. q.locks) c.gate.view_is in
    let near : c.args.lock < c.gate.inside.table.shared.table_id.slots = omega arith in
    (c.requires.gate ∙ sym (ap (λ q. q.id) c.gate.view_is), omega arith, draws _ _ _ _ _ _ _ near c.requires.idle c.requires.live c.requires.turns)
