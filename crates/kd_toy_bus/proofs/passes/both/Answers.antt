use Rattle.std.proofs.Common.{◌≡◌, List, [], ◌∷◌, ◌++◌, subst, sym, ap, ◌∙◌}
use Rattle.kd_turn.specs.Sight.{Sight}
use Rattle.kd_toy_bus.specs.Rests.{AreBack}
use Rattle.kd_toy_bus.proofs.Backs.{two_back}
use Rattle.kd_toy_bus.proofs.passes.both.Goals as goal

pub returns-clause-back : goal.returns-clause-back
returns-clause-back g c =
    let E = g.row.T-Entry.Denot in
    let are : c.push_reserved-2.new.self.items ≡ c.args.first ∷ c.args.second ∷ [] =
    c.push_reserved-2.ensures.items ∙ ap (λ (l : List (Sight E)). l ++ c.args.second ∷ []) (c.push_reserved.ensures.items ∙ ap (λ (l : List (Sight E)). l ++ c.args.first ∷ []) c.in_ok-all.ensures.items) in
    subst (AreBack c.args.gate.now) (sym are) (two_back c.args.gate.now c.args.first c.args.second c.requires.two c.requires.first.0 c.requires.first.1 c.requires.second.0 c.requires.second.1)
