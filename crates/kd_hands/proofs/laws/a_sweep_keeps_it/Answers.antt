use Rattle.kd_hands.proofs.Hands.{sweep_law}
use Rattle.kd_hands.proofs.laws.a_sweep_keeps_it.Goals as goal

pub returns : goal.returns
returns g c = let L = g.T.Lending in λ w l q j qt h. sweep_law L.lends L.out L.keeper w h l q j qt
