use Rattle.std.proofs.Common.{◌∙◌}
use Rattle.kd_turn.proofs.Made.{opens}
use Rattle.kd_hands.proofs.Hands.{opening_hands}
use Rattle.kd_turn.proofs.gate.Gate.make.Goals as goal

pub new-requires : goal.new-requires
new-requires g c =
    let hands = opening_hands g.T.Standing.lends g.T.Standing.out g.T.Standing.keeper c.requires.none_out in
    let words = c.as_slice.ensures.value ∙ c.in_ok-words.ensures.items_if_clones_equal (λ y e. e) in
    opens _ _ _ c.in-Ok.locks c.as_slice.result.now c.in_ok-cells.cells.items c.args.values.items c.requires.passes.0 c.requires.passes.1 words
    c.in_ok-cells.ensures (c.in-Ok.ensures.1 ∙ (c.len.ensures ∙ c.args.values.ok.0)) c.requires.stands (c.requires.tie, hands)
