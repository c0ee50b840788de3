use Rattle.kd_hands.proofs.Hands.{mark_law}
use Rattle.kd_hands.proofs.laws.a_mark_keeps_it.Goals as goal

pub returns : goal.returns
returns g c = let L = g.T.Lending in λ w l n j small in_hand h. mark_law L.lends L.out L.keeper w h l n j small in_hand
