-- Two tied locks: what each turn owes, and what the turns of one round tell together.
use Rattle.std.proofs.Common.{◌≡◌, ℕ, ◌+◌, ◌*◌, ◌≢◌, true, false, List, [], ◌∷◌, ◌++◌, length, sym, refl, ap, ◌∙◌, arith, length-append}
use Rattle.std.specs.Prelude.{None}
use Rattle.std.specs.declared.snapshot.Snapshot.{Snapshot}
use Rattle.kd_hands.specs.declared.views.Part.{Part}
use Rattle.kd_hands.specs.declared.views.View.{View}
use Rattle.kd_hands.specs.Views.{part}
use Rattle.kd_hands.specs.Lists.{is_at, at_place}
use Rattle.kd_hands.specs.Locks.{Locks, Histories, Fact, hands_after, opened_after}
use Rattle.kd_hands.specs.Fits.{Owes}
use Rattle.kd_turn.specs.Told.{Passed, Took}
use Rattle.kd_hands.proofs.Places.{place_here, place_else, is_at_some}
use Rattle.kd_hands.proofs.Entries.{opened_on}
use Rattle.kd_hands.proofs.Hands.{lends_nothing}
use Rattle.kd_toy_bus.specs.declared.twice.Twice.{Twice}

abbrev Turn : Type 0
Turn = Snapshot ℕ

abbrev Tied : Histories Turn → Type 0
Tied h = length (h.lists 1) ≡ 2 * length (h.lists 0) + length h.opened

abbrev AreTied : Locks Turn → Type 0
AreTied = Fact Tied (λ l list n. ⊥) (λ l list n. ⊥) (λ l list. None)

abbrev after : ℕ → Turn → (ℕ → List ℕ) → ℕ → List ℕ
after = hands_after (λ l e hand. hand) (λ e. None)

abbrev Counts : ℕ → List (ℕ × Turn) → Twice → Type 0
Counts l list x = x.turns ≡ length list

module _ (e : Turn) (v : View Turn) (held : (part v 0).holds ≡ true) where
  -- a turn on the second lock is one more that is open
  pub inner_owes : Owes AreTied after v 1 e
  inner_owes w fits f =
      let x : ℕ × Turn = (v.name, e) in
      let list' : List (ℕ × Turn) = w.told.lists 1 ++ x ∷ [] in
      let now = opened_on 1 x (is_at v.name w.holder) w.told.opened (λ z. omega arith) (is_at_some v.name w.holder (fits.opened held).1) in
      let one : length (at_place w.told.lists 1 list' 1) ≡ length (w.told.lists 1) + 1 = ap length (place_here w.told.lists 1 1 list' refl) ∙ length-append (w.told.lists 1) (x ∷ []) in
      let zero : length (at_place w.told.lists 1 list' 0) ≡ length (w.told.lists 0) = ap length (place_else w.told.lists 1 0 list' (λ z. omega arith)) in
      let op : length (opened_after 1 x (is_at v.name w.holder) w.told.opened) ≡ length w.told.opened + 1 = ap length now ∙ length-append w.told.opened ((1, x.0, x.1) ∷ []) in
      let tie = f.0 in
      (omega arith, lends_nothing (λ l list. None) (λ l e hand. hand) (λ e. None) 1 e v.name w (λ hand. refl) f.1)

  -- the first lock is passed on after two turns on the second
  pub outer_owes : length v.opened ≡ 2 → Owes AreTied after v 0 e
  outer_owes two w fits f =
      let x : ℕ × Turn = (v.name, e) in
      let list' : List (ℕ × Turn) = w.told.lists 0 ++ x ∷ [] in
      let one : length (at_place w.told.lists 0 list' 1) ≡ length (w.told.lists 1) = ap length (place_else w.told.lists 0 1 list' (λ z. omega arith)) in
      let zero : length (at_place w.told.lists 0 list' 0) ≡ length (w.told.lists 0) + 1 = ap length (place_here w.told.lists 0 0 list' refl) ∙ length-append (w.told.lists 0) (x ∷ []) in
      let same : length w.told.opened ≡ 2 = ap length (sym (fits.opened held).0) ∙ two in
      let tie = f.0 in
      (omega arith, lends_nothing (λ l list. None) (λ l e hand. hand) (λ e. None) 0 e v.name w (λ hand. refl) f.1)

-- one turn on the second lock, by a pass that holds the first
module _ (e : Turn) (x : Twice) (v v₁ v₂ : View Turn) (took : Took Counts AreTied 1 v v₁ x) (put : Passed after 1 e v₁ v₂) where
  pub others : (k : ℕ) → k ≢ 1 → part v₂ k ≡ part v k
  others k ne = put.others k ne ∙ took.others k ne

  pub left : (part v₂ 1).holds ≡ false
  left = ap (λ (p : Part Turn). p.holds) put.here

  pub longer : (part v 0).holds ≡ true → length v₂.opened ≡ length v.opened + 1
  longer held =
      let on = opened_on 1 (v₁.name, e) (part v₁ 0).holds v₁.opened (λ z. omega arith) (ap (λ (p : Part Turn). p.holds) (took.others 0 (λ z. omega arith)) ∙ held) in
      ap length put.opened ∙ (ap length on ∙ (length-append v₁.opened ((1, v₁.name, e) ∷ []) ∙ ap (λ (xs : List (ℕ × ℕ × Turn)). length xs + 1) took.opened))
