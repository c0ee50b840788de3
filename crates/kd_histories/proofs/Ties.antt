-- The tie, after an entry on a pool and after one on the desk.
use Rattle.std.specs.Prelude.{◌≡◌, ℕ, zero, suc, ◌==◌, Bool, true, false, cond, List, [], ◌∷◌, ◌++◌, None, refl}
use Rattle.std.proofs.Common.{sym, ap, ◌∙◌, subst, eq-eqb, ne_eqb, arith, append_assoc}
use Rattle.std.proofs.lemmas.Bool.{false≢true}
use Rattle.std.proofs.lemmas.List.{append-nil}
use mathlib.Core.Logic.{dite}
use native.Mathlib.Decide.{ℕ_discrete}
use Rattle.kd_hands.specs.Lists.{is_at, at_place}
use Rattle.kd_hands.specs.Locks.{Locks, entered, opened_after}
use Rattle.kd_hands.proofs.Places.{place_here, place_else}
use Rattle.kd_hands.proofs.Entries.{opened_on, opened_off}
use Rattle.kd_world.specs.State.{closed_pool}
use Rattle.kd_histories.specs.Turns.{Turn}
use Rattle.kd_histories.specs.Slots.{AreTold, IsTold, slot_of, unborn}
use Rattle.kd_histories.specs.Visits.{addressed, addressed_by, made_by_turn, visits_made, visits_opened}
use Rattle.kd_histories.specs.Seats.{AreFair, IsFair, sitter}
use Rattle.kd_histories.specs.Pools.{AreDone, IsDoneTurn, hold_from, hold_of}
use Rattle.kd_histories.specs.Pairs.{ArePaired, IsPaired, due}
use Rattle.kd_histories.specs.Lent.{out}
use Rattle.kd_histories.specs.Tie.{Tie, no_entry}
use Rattle.kd_histories.proofs.Snocs.{addressed_snoc, done_snoc, fair_snoc, made_snoc, opened_snoc, paired_snoc, told_snoc}

-- ---- before any entry

pub opening_tie : Tie no_entry
unfolding visits_made addressed visits_opened AreFair AreTold AreDone ArePaired
opening_tie = record { addressed = λ c. refl; fair = λ c. tt; told = tt; done = λ c. tt; paired = λ c n. tt }

pub none_out : (l n : ℕ) → out l [] n → ⊥
unfolding out hold_from
none_out zero n o = o
none_out (suc c) n o = false≢true o

-- ---- after one more

opened_none : (l : ℕ) → visits_opened l [] ≡ []
unfolding visits_opened
opened_none l = refl

module _ (after : ℕ → Turn → (ℕ → List ℕ) → ℕ → List ℕ) (j : ℕ) (e : Turn) (w : Locks Turn) (tie : Tie w.told) where
  -- an entry on the pool of the seat s
  module _ (s : ℕ) (is : IsDoneTurn (hold_of (w.told.lists (suc s))) e) (pairs : (n : ℕ) → IsPaired n j e (due n (w.told.lists (suc s)))) where
    abbrev list' : List (ℕ × Turn)
    list' = w.told.lists (suc s) ++ (j, e) ∷ []

    abbrev lists' : ℕ → List (ℕ × Turn)
    lists' = at_place w.told.lists (suc s) list'

    same_zero : lists' 0 ≡ w.told.lists 0
    same_zero = place_else w.told.lists (suc s) 0 list' (λ z. omega arith)

    -- what holds of the pool's longer list, and of all others as they were
    each_pool : (P : List (ℕ × Turn) → Type 0) → ((c : ℕ) → P (w.told.lists (suc c))) → P list' → (c : ℕ) → P (lists' (suc c))
    each_pool P old new c = dite (ℕ_discrete (suc c) (suc s))
        (λ z. subst P (sym (place_here w.told.lists (suc s) (suc c) list' z)) new)
        (λ z. subst P (sym (place_else w.told.lists (suc s) (suc c) list' z)) (old c))

    made_here : (c : ℕ) → visits_made (lists' (suc c)) ≡ visits_made (w.told.lists (suc c)) ++ cond (suc s == suc c) (made_by_turn e) []
    made_here c = dite (ℕ_discrete (suc c) (suc s))
        (λ z. ap visits_made (place_here w.told.lists (suc s) (suc c) list' z) ∙ (made_snoc (w.told.lists (suc s)) (j, e) ∙ (ap (λ (k : ℕ). visits_made (w.told.lists k) ++ made_by_turn e) (sym z)
        ∙ ap (λ b. visits_made (w.told.lists (suc c)) ++ cond b (made_by_turn e) []) (sym (eq-eqb (suc s) (suc c) (sym z))))))
        (λ z. ap visits_made (place_else w.told.lists (suc s) (suc c) list' z) ∙ (sym (append-nil (visits_made (w.told.lists (suc c))))
        ∙ ap (λ b. visits_made (w.told.lists (suc c)) ++ cond b (made_by_turn e) []) (sym (ne_eqb (suc s) (suc c) (λ y. z (sym y))))))

    tied : (op' : List (ℕ × ℕ × Turn)) → ((c : ℕ) → visits_opened (suc c) op' ≡ visits_opened (suc c) w.told.opened ++ cond (suc s == suc c) (made_by_turn e) []) → Tie (record { lists = lists'; opened = op' })
    tied op' opens = record {
      addressed = λ c.
          made_here c ∙ (ap (λ q. q ++ cond (suc s == suc c) (made_by_turn e) []) (tie.addressed c)
          ∙ (append_assoc (addressed c unborn (w.told.lists 0)) (visits_opened (suc c) w.told.opened) (cond (suc s == suc c) (made_by_turn e) [])
          ∙ (ap (λ q. addressed c unborn (w.told.lists 0) ++ q) (sym (opens c)) ∙ ap (λ q. addressed c unborn q ++ visits_opened (suc c) op') (sym same_zero))));
      fair = λ c. subst (AreFair c None) (sym same_zero) (tie.fair c);
      told = subst (AreTold unborn) (sym same_zero) tie.told;
      done = each_pool (AreDone closed_pool) tie.done (done_snoc closed_pool (w.told.lists (suc s)) (j, e) (tie.done s) is);
      paired = λ c n. each_pool (ArePaired n None) (λ c. tie.paired c n) (paired_snoc n None (w.told.lists (suc s)) (j, e) (tie.paired s n) (pairs n)) c;
    }

    -- a visit by the holder of the desk
    pub visits : is_at j w.holder ≡ true → Tie (entered after (suc s) j e w).told
    visits holds = tied (opened_after (suc s) (j, e) (is_at j w.holder) w.told.opened)
        (λ c. ap (visits_opened (suc c)) (opened_on (suc s) (j, e) (is_at j w.holder) w.told.opened (λ z. omega arith) holds) ∙ opened_snoc (suc c) w.told.opened (suc s, j, e))

    -- an entry that is none of the desk's parts
    pub between : is_at j w.holder ≡ false → made_by_turn e ≡ [] → Tie (entered after (suc s) j e w).told
    between free none = tied (opened_after (suc s) (j, e) (is_at j w.holder) w.told.opened)
        (λ c. ap (visits_opened (suc c)) (opened_off (suc s) (j, e) (is_at j w.holder) w.told.opened (λ z. omega arith) free)
        ∙ (sym (append-nil (visits_opened (suc c) w.told.opened)) ∙ ap (λ q. visits_opened (suc c) w.told.opened ++ q) (sym (nothing (suc s == suc c)))))
      where
        nothing : (b : Bool) → cond b (made_by_turn e) [] ≡ []
        nothing true = none
        nothing false = refl

  -- the desk is left, where what is open is what its entry addresses
  pub leaves : ((c : ℕ) → visits_opened (suc c) w.told.opened ≡ addressed_by c (slot_of (w.told.lists 0)) e) → ((c : ℕ) → IsFair c j e (sitter c (w.told.lists 0)))
      → IsTold (slot_of (w.told.lists 0)) e → Tie (entered after 0 j e w).told
  leaves same one is =
      let list' : List (ℕ × Turn) = w.told.lists 0 ++ (j, e) ∷ [] in
      let now : at_place w.told.lists 0 list' 0 ≡ list' = place_here w.told.lists 0 0 list' refl in
      let pool : (c : ℕ) → at_place w.told.lists 0 list' (suc c) ≡ w.told.lists (suc c) = λ c. place_else w.told.lists 0 (suc c) list' (λ z. omega arith) in
      record {
        addressed = λ c. ap visits_made (pool c) ∙ (tie.addressed c ∙ (ap (λ q. addressed c unborn (w.told.lists 0) ++ q) (same c) ∙ (sym (addressed_snoc c unborn (w.told.lists 0) (j, e))
            ∙ (ap (addressed c unborn) (sym now) ∙ (sym (append-nil (addressed c unborn (at_place w.told.lists 0 list' 0))) ∙ ap (λ q. addressed c unborn (at_place w.told.lists 0 list' 0) ++ q) (sym (opened_none (suc c))))))));
        fair = λ c. subst (AreFair c None) (sym now) (fair_snoc c None (w.told.lists 0) (j, e) (tie.fair c) (one c));
        told = subst (AreTold unborn) (sym now) (told_snoc unborn (w.told.lists 0) (j, e) tie.told is);
        done = λ c. subst (AreDone closed_pool) (sym (pool c)) (tie.done c);
        paired = λ c n. subst (ArePaired n None) (sym (pool c)) (tie.paired c n);
      }
