use Rattle.kd_hands.proofs.Hands.{settled}
use Rattle.kd_hands.proofs.laws.a_settled_entry_keeps_it.Goals as goal

pub returns : goal.returns
returns g c = let L = g.T.Lending in λ l e j w far sole s h. settled L.lends L.out L.keeper L.hand_after L.empties l e j w h sole far s
