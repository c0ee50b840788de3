-- What closing tells after a run.
use Rattle.std.proofs.Common.{◌≡◌, ℕ, ◌+◌, List, [], ◌∷◌, length, map, subst, sym, refl, ap, ◌∙◌}
use Rattle.kd_hands.specs.Views.{part}
use Rattle.kd_hands.specs.Lists.{made_by}
use Rattle.kd_turn.specs.Sight.{Sight}
use Rattle.kd_turn.specs.Told.{Ended}
use Rattle.kd_hands.specs.Locks.{Fact}
use Rattle.kd_toy_bus.specs.declared.act.Slip.{Slip}
use Rattle.kd_toy_bus.specs.declared.locked.Locked.{Locked}
use Rattle.kd_toy_bus.specs.Bus.{Tie, stands, lends, out, keeper}
use Rattle.kd_toy_bus.specs.Run.{HasAll}

abbrev Told : ℕ → List (Sight Slip) → List Locked → Type 0
Told count passes values = Ended stands (Fact Tie lends out keeper) count (map (λ p. p.view) passes) values

pub all_told : (rounds count : ℕ) (a b : Sight Slip) (passes : List (Sight Slip)) (values : List Locked) → count ≡ 2 → passes ≡ a ∷ b ∷ [] → Told count passes values
    → a.view.name ≡ 0 → b.view.name ≡ 1 → length (part a.view 0).own ≡ 2 → length (part a.view 1).own ≡ rounds + 2 → length (part b.view 0).own ≡ rounds → HasAll rounds values
all_told rounds count a b passes values two are ended na nb desk pool sent =
    let e : Told 2 (a ∷ b ∷ []) values = subst (λ n. Told n (a ∷ b ∷ []) values) two (subst (λ ps. Told count ps values) are ended) in
    record {
      told = e.world.told;
      stood = e.stood;
      tied = e.tied.0;
      shut = e.shut;
      seat = ap (λ (j : ℕ). length (made_by j (e.world.told.lists 0))) (sym na) ∙ (ap length (e.own 0 a.view refl 0) ∙ desk);
      received = ap (λ (j : ℕ). length (made_by j (e.world.told.lists 1))) (sym na) ∙ (ap length (e.own 0 a.view refl 1) ∙ pool);
      sent = ap (λ (j : ℕ). length (made_by j (e.world.told.lists 0))) (sym nb) ∙ (ap length (e.own 1 b.view refl 0) ∙ sent);
      nobody = e.nobody;
    }
