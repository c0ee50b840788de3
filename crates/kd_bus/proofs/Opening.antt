-- The values of a slot that never had a bus.
use Rattle.std.specs.Prelude.{◌≡◌, ◌+◌, ℕ, zero, suc, All, List, [], ◌∷◌, ◌++◌, map, None, replicate, refl}
use Rattle.std.proofs.Common.{sym, ap, ◌∙◌, arith, subst}
use Rattle.atomic_table.specs.Seated.{TableId}
use Rattle.kd_hands.specs.declared.views.Part.{Part}
use Rattle.kd_hands.proofs.Lists.{map_at, read, some_at}
use Rattle.kd_turn.specs.Sight.{Sight}
use Rattle.kd_turn.specs.Told.{AreFresh, IsFresh}
use Rattle.kd_histories.specs.Turns.{Turn}
use Rattle.kd_bus.specs.Sight.{BusSight, Rests, unaimed}
use mathlib.Core.Option.{some, some-injective, some-ne-none}
use lib.ListN.{get_elem?}
use Rattle.kd_world.specs.State.{closed_pool}
use Rattle.kd_histories.specs.Slots.{slot_from, unborn}
use Rattle.kd_histories.specs.Pools.{hold_from}
use Rattle.kd_bus.specs.declared.locked.Locked.{Locked}
use Rattle.kd_bus.specs.declared.locked.Locked.TheVariants as locked
use Rattle.kd_bus.specs.Values.{opening_values, stands}

alike : (n k : ℕ) (x : Locked) → get_elem? (replicate n (locked.Pool closed_pool)) k ≡ some x → x ≡ locked.Pool closed_pool
alike zero k x e = absurd (some-ne-none x (sym e))
alike (suc n) zero x e = sym (some-injective (locked.Pool closed_pool) x e)
alike (suc n) (suc k) x e = alike n k x e

pub stands_at : (n l : ℕ) (x : Locked) → get_elem? (opening_values n) l ≡ some x → stands l [] x
unfolding slot_from hold_from
stands_at n zero x e = sym (some-injective (locked.Desk unborn) x e)
stands_at n (suc c) x e = (alike n c x e, record { generation = omega arith; pool = tt })

pub one_more : (n : ℕ) → opening_values n ++ locked.Pool closed_pool ∷ [] ≡ opening_values (n + 1)
one_more n = ap (λ xs. locked.Desk unborn ∷ xs) (go n)
  where
    go : (n : ℕ) → replicate n (locked.Pool closed_pool) ++ locked.Pool closed_pool ∷ [] ≡ replicate (n + 1) (locked.Pool closed_pool)
    go zero = refl
    go (suc n) = ap (λ xs. locked.Pool closed_pool ∷ xs) (go n) ∙ ap (λ k. replicate k (locked.Pool closed_pool)) (let e : suc (n + 1) ≡ suc n + 1 = omega arith in e)

-- ---- passes that have seen nothing

pub fresh_rest : (id : TableId) (all : List (Sight Turn)) → AreFresh id all → All Rests all
fresh_rest id all fresh k d lt =
    let at = some_at all k lt in
    let here = read all k at.0 d at.1 in
    let f = fresh k at.0 at.1 in
    subst Rests (sym here.1) record { held = f.1; holds = λ l. ap (λ (p : Part Turn). p.holds) (f.2.parts l) }

pub unaimed_fresh : (id : TableId) (all : List (Sight Turn)) → AreFresh id all → (k : ℕ) (p : BusSight) → get_elem? (map unaimed all) k ≡ some p → (p.gate ≡ id) × (p.aim ≡ None) × IsFresh k p.view
unaimed_fresh id all fresh k p e =
    let m = map_at unaimed all k p e in
    let f = fresh k m.0 m.1 in
    subst (λ (q : BusSight). (q.gate ≡ id) × (q.aim ≡ None) × IsFresh k q.view) m.2 (f.0, refl, f.2)

pub unaimed_more : (ps : List (Sight Turn)) (p : Sight Turn) → map unaimed (ps ++ p ∷ []) ≡ map unaimed ps ++ unaimed p ∷ []
unaimed_more [] p = refl
unaimed_more (q ∷ ps) p = ap (λ xs. unaimed q ∷ xs) (unaimed_more ps p)

pub others_rest : (p : Sight Turn) (ps qs : List (Sight Turn)) → qs ≡ p ∷ ps → All Rests qs → All Rests ps
others_rest p ps qs e all k d lt = let whole : All Rests (p ∷ ps) = subst (All Rests) e all in whole (suc k) d (omega (arith, lt))
