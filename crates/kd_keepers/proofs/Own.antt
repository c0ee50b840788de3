-- A pass's own entries tell whether it keeps an endpoint.
use Rattle.std.specs.Prelude.{◌≡◌, ◌≢◌, ℕ, Bool, true, false, cond, List, [], ◌∷◌, Option, Some, None, refl}
use Rattle.std.proofs.Common.{sym, ap, ◌∙◌, subst, eq-eqb, ne_eqb}
use mathlib.Core.Logic.{dite}
use native.Mathlib.Decide.{ℕ_discrete}
use Rattle.kd_hands.specs.Lists.{made_by}
use Rattle.kd_histories.specs.Turns.{Turn, left, started, removed, did, idle}
use Rattle.kd_histories.specs.Slots.{AreTold, IsTold, Slot, slot_after, unborn}
use Rattle.kd_histories.specs.Visits.{addressed_by}
use Rattle.kd_histories.specs.Seats.{AreFair, IsFair, Sitter, move_of, sitter_after}
use Rattle.kd_histories.specs.Known.{open_by}
use Rattle.kd_keepers.specs.Keeping.{AreKept, Change, Endpoint, IsKeptAt, change_of, changed, ends, is_same, keeping, keeping_after, keeping_from, makes, unchanged}
use Rattle.kd_keepers.specs.Known.{OwnKeepersStay, OwnKeepersTell}
use Rattle.kd_keepers.proofs.Commands.{Keepings, home_or_old, makes_new, same_is, some_pass}
use Rattle.kd_keepers.proofs.Along.{Stands, keeps_what_it_ends, stands_after, unborn_stands}
use Rattle.kd_keepers.proofs.Lists.{keeping_snoc}

-- where the list says k of an endpoint and the entries of the pass j say o: if these say that it
-- keeps it, the list does too
abbrev pub Tells : ℕ → Option ℕ → Option ℕ → Type 0
Tells j k o = (i : ℕ) → o ≡ Some i → k ≡ Some j

no_pass : (i : ℕ) → ◌≡◌ {A = Option ℕ} None (Some i) → ⊥
no_pass i e = cc

-- a change of the pass's own is seen either way
tells_own : (x : Endpoint) (j : ℕ) (c : Change) (k o : Option ℕ) → Tells j k o → Tells j (keeping_after x j c k) (keeping_after x j c o)
tells_own x j unchanged k o a = a
tells_own x j (ends y) k o a = go (is_same y x)
  where
    go : (b : Bool) → Tells j (cond b None k) (cond b None o)
    go true = λ i q. absurd (no_pass i q)
    go false = a
tells_own x j (makes y) k o a = go (is_same y x)
  where
    go : (b : Bool) → Tells j (cond b (Some j) k) (cond b (Some j) o)
    go true = λ i q. refl
    go false = a

-- and another's leaves it, where that was fair
tells_other : (x : Endpoint) (h j : ℕ) (c : Change) (k o : Option ℕ) → h ≢ j → (c ≡ makes x → k ≡ None) → (c ≡ ends x → k ≡ Some h) → Tells j k o → Tells j (keeping_after x h c k) o
tells_other x h j unchanged k o ne new its a i q = a i q
tells_other x h j (makes y) k o ne new its a i q = go (is_same y x) refl
  where
    go : (b : Bool) → is_same y x ≡ b → cond b (Some h) k ≡ Some j
    go true z = absurd (no_pass j (sym (new (ap makes (same_is y x z))) ∙ a i q))
    go false z = a i q
tells_other x h j (ends y) k o ne new its a i q = go (is_same y x) refl
  where
    go : (b : Bool) → is_same y x ≡ b → cond b None k ≡ Some j
    go true z = absurd (ne (some_pass h j (sym (its (ap ends (same_is y x z))) ∙ a i q)))
    go false z = a i q

-- an entry of another pass
others_after : (s : Slot) (k : ℕ → Option Sitter) (up : ℕ → Bool) (n : Keepings) (x : Endpoint) (h j : ℕ) (t : Turn) (o : Option ℕ) → Stands s k up n → h ≢ j → IsTold s t
    → ((c : ℕ) → IsFair c h t (k c)) → ((x : Endpoint) → IsKeptAt x h t (n x)) → Tells j (n x) o → Tells j (keeping_after x h (change_of t) (n x)) o
unfolding IsTold IsFair IsKeptAt change_of
others_after s k up n x h j (left l) o a ne is fair kept b =
    tells_other x h j (changed l.generation l.who.member l.becomes) (n x) o ne
    (makes_new s n h l a.home is (home_or_old s k up n h l.generation l.who.member a.knows a.home is.generation (λ c. (fair c).0) kept) x)
    (keeps_what_it_ends h l n x kept) b
others_after s k up n x h j (started y) o a ne is fair kept b = b
others_after s k up n x h j (removed g) o a ne is fair kept b = b
others_after s k up n x h j (did d) o a ne is fair kept b = b
others_after s k up n x h j idle o a ne is fair kept b = b

-- ---- any list

tells_along : (s : Slot) (k : ℕ → Option Sitter) (up : ℕ → Bool) (n : Keepings) (x : Endpoint) (j : ℕ) (o : Option ℕ) (es : List (ℕ × Turn)) → Stands s k up n → AreTold s es
    → ((c : ℕ) → AreFair c (k c) es) → ((x : Endpoint) → AreKept x (n x) es) → Tells j (n x) o → Tells j (keeping_from x (n x) es) (keeping_from x o (made_by j es))
unfolding AreTold AreFair AreKept keeping_from
tells_along s k up n x j o [] a told fair kept b = b
tells_along s k up n x j o (e ∷ es) a told fair kept b =
    let n' : Keepings = λ x. keeping_after x e.0 (change_of e.1) (n x) in
    let more : (o' : Option ℕ) → Tells j (n' x) o' → Tells j (keeping_from x (n' x) es) (keeping_from x o' (made_by j es)) =
    λ o' t. tells_along (slot_after e.1 s) (λ c. sitter_after c e.0 (move_of e.1) (k c)) (λ c. open_by (addressed_by c s e.1) (up c)) n' x j o' es
    (stands_after s k up n e.0 e.1 a told.0 (λ c. (fair c).0) (λ x. (kept x).0)) told.1 (λ c. (fair c).1) (λ x. (kept x).1) t in
    dite (ℕ_discrete e.0 j)
    (λ mine. subst (λ t. Tells j (keeping_from x (n' x) es) (keeping_from x o (cond t (e ∷ made_by j es) (made_by j es)))) (sym (eq-eqb e.0 j mine))
    (more (keeping_after x e.0 (change_of e.1) o) (subst (λ (h : ℕ). Tells j (keeping_after x h (change_of e.1) (n x)) (keeping_after x h (change_of e.1) o)) (sym mine) (tells_own x j (change_of e.1) (n x) o b))))
    (λ ne. subst (λ t. Tells j (keeping_from x (n' x) es) (keeping_from x o (cond t (e ∷ made_by j es) (made_by j es)))) (sym (ne_eqb e.0 j ne))
    (more o (others_after s k up n x e.0 j e.1 o a ne told.0 (λ c. (fair c).0) (λ x. (kept x).0) b)))

pub own_keepers_tell : OwnKeepersTell
own_keepers_tell x j i list it own =
    tells_along unborn (λ c. None) (λ c. false) (λ x. None) x j None list unborn_stands it.told it.fair it.kept (λ i q. absurd (no_pass i q)) i own

-- ---- one entry more of the pass's own

stays_after : (x : Endpoint) (j i : ℕ) (c : Change) (k : Option ℕ) → k ≡ Some i → c ≢ ends x → (h : ℕ) × (keeping_after x j c k ≡ Some h)
stays_after x j i unchanged k q ne = (i, q)
stays_after x j i (makes y) k q ne = go (is_same y x)
  where
    go : (b : Bool) → (h : ℕ) × (cond b (Some j) k ≡ Some h)
    go true = (j, refl)
    go false = (i, q)
stays_after x j i (ends y) k q ne = go (is_same y x) refl
  where
    go : (b : Bool) → is_same y x ≡ b → (h : ℕ) × (cond b None k ≡ Some h)
    go true z = absurd (ne (ap ends (same_is y x z)))
    go false z = (i, q)

pub own_keepers_stay : OwnKeepersStay
own_keepers_stay x j i own e q ne =
    let then = stays_after x j i (change_of e) (keeping x own) q ne in
    (then.0, keeping_snoc x None own (j, e) ∙ then.1)
