-- The tie, after an entry on a pool and after one on the desk.
use Rattle.std.proofs.Common.{◌≡◌, ℕ, suc, ◌==◌, true, false, cond, List, [], ◌∷◌, ◌++◌, eq-eqb, ne_eqb, subst, sym, refl, ap, ◌∙◌, arith, append_assoc}
use Rattle.std.specs.Prelude.{None}
use Rattle.std.proofs.lemmas.List.{append-nil}
use mathlib.Core.Logic.{dite}
use native.Mathlib.Decide.{ℕ_discrete}
use Rattle.kd_hands.specs.Lists.{is_at, at_place}
use Rattle.kd_hands.specs.Locks.{Locks, entered, opened_after}
use Rattle.kd_hands.proofs.Places.{place_here, place_else}
use Rattle.kd_hands.proofs.Entries.{opened_on, opened_off}
use Rattle.kd_toy_bus.specs.declared.act.Slip.{Slip}
use Rattle.kd_toy_bus.specs.Bus.{slip_act, IsFair, AreFair, kept_from, errand_at, errands, made_by_one, made, opened_at, Tie}
use Rattle.kd_toy_bus.proofs.Laws.{made_snoc, errands_snoc, opened_snoc, fair_snoc}

module _ (after : ℕ → Slip → (ℕ → List ℕ) → ℕ → List ℕ) (j : ℕ) (e : Slip) (w : Locks Slip) (tie : Tie w.told) where
  module _ (s : ℕ) where
    abbrev list' : List (ℕ × Slip)
    list' = w.told.lists (suc s) ++ (j, e) ∷ []

    abbrev lists' : ℕ → List (ℕ × Slip)
    lists' = at_place w.told.lists (suc s) list'

    same_zero : lists' 0 ≡ w.told.lists 0
    same_zero = place_else w.told.lists (suc s) 0 list' (λ z. omega arith)

    fair_still : (c : ℕ) → AreFair c None (lists' 0)
    fair_still c = subst (AreFair c None) (sym same_zero) (tie.fair c)

    -- a visit of the pool of the seat s by the holder of the desk
    pub visits : is_at j w.holder ≡ true → Tie (entered after (suc s) j e w).told
    visits holds =
        let op' : List (ℕ × ℕ × Slip) = opened_after (suc s) (j, e) (is_at j w.holder) w.told.opened in
        let now : op' ≡ w.told.opened ++ (suc s, j, e) ∷ [] = opened_on (suc s) (j, e) (is_at j w.holder) w.told.opened (λ z. omega arith) holds in
        record {
          addressed = λ c.
              let ended : made (lists' (suc c)) ≡ errands c (w.told.lists 0) ++ (opened_at (suc c) w.told.opened ++ cond ((suc s) == (suc c)) (made_by_one (slip_act e)) []) = dite (ℕ_discrete (suc c) (suc s))
              (λ z. ap made (place_here w.told.lists (suc s) (suc c) list' z) ∙ (made_snoc (w.told.lists (suc s)) (j, e) ∙ (ap (λ q. q ++ made_by_one (slip_act e)) (ap (λ (k : ℕ). made (w.told.lists k)) (sym z) ∙ tie.addressed c)
              ∙ (append_assoc (errands c (w.told.lists 0)) (opened_at (suc c) w.told.opened) (made_by_one (slip_act e)) ∙ ap (λ b. errands c (w.told.lists 0) ++ (opened_at (suc c) w.told.opened ++ cond b (made_by_one (slip_act e)) [])) (sym (eq-eqb (suc s) (suc c) (sym z)))))))
              (λ z. ap made (place_else w.told.lists (suc s) (suc c) list' z) ∙ (tie.addressed c ∙ (ap (λ q. errands c (w.told.lists 0) ++ q) (sym (append-nil (opened_at (suc c) w.told.opened)))
              ∙ ap (λ b. errands c (w.told.lists 0) ++ (opened_at (suc c) w.told.opened ++ cond b (made_by_one (slip_act e)) [])) (sym (ne_eqb (suc s) (suc c) (λ y. z (sym y))))))) in
              ended ∙ (ap (λ q. errands c (w.told.lists 0) ++ q) (sym (ap (opened_at (suc c)) now ∙ opened_snoc (suc c) w.told.opened (suc s, j, e))) ∙ ap (λ q. errands c q ++ opened_at (suc c) op') (sym same_zero));
          fair = fair_still;
        }

    -- an entry on a pool that is none of the desk's errands
    pub between : is_at j w.holder ≡ false → made_by_one (slip_act e) ≡ [] → Tie (entered after (suc s) j e w).told
    between free none =
        let op' : List (ℕ × ℕ × Slip) = opened_after (suc s) (j, e) (is_at j w.holder) w.told.opened in
        let now : op' ≡ w.told.opened = opened_off (suc s) (j, e) (is_at j w.holder) w.told.opened (λ z. omega arith) free in
        record {
          addressed = λ c.
              let same : made (lists' (suc c)) ≡ made (w.told.lists (suc c)) = dite (ℕ_discrete (suc c) (suc s))
              (λ z. ap made (place_here w.told.lists (suc s) (suc c) list' z) ∙ (made_snoc (w.told.lists (suc s)) (j, e) ∙ (ap (λ q. made (w.told.lists (suc s)) ++ q) none ∙ (append-nil (made (w.told.lists (suc s))) ∙ ap (λ (k : ℕ). made (w.told.lists k)) (sym z)))))
              (λ z. ap made (place_else w.told.lists (suc s) (suc c) list' z)) in
              same ∙ (tie.addressed c ∙ (ap (λ q. errands c (w.told.lists 0) ++ opened_at (suc c) q) (sym now) ∙ ap (λ q. errands c q ++ opened_at (suc c) op') (sym same_zero)));
          fair = fair_still;
        }

  -- the desk is left, where what is open is what its entry addresses
  pub leaves : ((c : ℕ) → opened_at (suc c) w.told.opened ≡ errand_at c (slip_act e)) → ((c : ℕ) → IsFair c j (slip_act e) (kept_from c None (w.told.lists 0))) → Tie (entered after 0 j e w).told
  leaves same one =
      let list' : List (ℕ × Slip) = w.told.lists 0 ++ (j, e) ∷ [] in
      let now : at_place w.told.lists 0 list' 0 ≡ list' = place_here w.told.lists 0 0 list' refl in
      record {
        addressed = λ c. ap made (place_else w.told.lists 0 (suc c) list' (λ z. omega arith)) ∙ (tie.addressed c ∙ (ap (λ q. errands c (w.told.lists 0) ++ q) (same c) ∙ (sym (errands_snoc c (w.told.lists 0) (j, e)) ∙ (ap (errands c) (sym now) ∙ sym (append-nil (errands c (at_place w.told.lists 0 list' 0)))))));
        fair = λ c. subst (AreFair c None) (sym now) (fair_snoc c None (w.told.lists 0) (j, e) (tie.fair c) (one c));
      }
