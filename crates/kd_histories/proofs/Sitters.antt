-- Who has a seat: a pass's own entries tell, whatever others did.
use Rattle.std.specs.Prelude.{◌≡◌, ◌≢◌, ℕ, ◌==◌, Bool, true, false, cond, List, [], ◌∷◌, Option, Some, None, refl}
use Rattle.std.proofs.Common.{sym, ap, ◌∙◌, subst, eqb-true, eq-eqb, ne_eqb}
use mathlib.Core.Logic.{dite}
use native.Mathlib.Decide.{ℕ_discrete}
use Rattle.kd_commands.specs.declared.who.WhoKind.{WhoKind}
use Rattle.kd_commands.specs.declared.who.WhoKind.TheVariants as who
use Rattle.kd_hands.specs.Lists.{made_by}
use Rattle.kd_histories.specs.Turns.{Turn, left, started, removed, did, idle}
use Rattle.kd_histories.specs.Seats.{Sitter, Move, arrives, departs, stays, arrival, departure, moved, move_of, sitter_after, sitter_from, sitter, IsAt, IsOpenTo, IsFair, AreFair, OwnEntriesTell}

-- the sitter, where it is this pass
abbrev pub if_mine : ℕ → Option Sitter → Option Sitter
if_mine j None = None
if_mine j (Some t) = cond (t.pass == j) (Some t) None

if_mine_cond : (j : ℕ) (b : Bool) (x y : Option Sitter) → if_mine j (cond b x y) ≡ cond b (if_mine j x) (if_mine j y)
if_mine_cond j true x y = refl
if_mine_cond j false x y = refl

cond_same : {A : Type 0} (b : Bool) (x y : A) → (b ≡ true → x ≡ y) → cond b x y ≡ y
cond_same true x y h = h refl
cond_same false x y h = refl

-- its own moves are seen either way
mine : (c j : ℕ) (m : Move) (k : Option Sitter) → if_mine j (sitter_after c j m k) ≡ sitter_after c j m (if_mine j k)
mine c j (arrives g id s) k =
    if_mine_cond j (s == c) (Some (record { pass = j; generation = g; id = id })) k
    ∙ ap (λ b. cond (s == c) (cond b (Some (record { pass = j; generation = g; id = id })) None) (if_mine j k)) (eq-eqb j j refl)
mine c j (departs s) k = if_mine_cond j (s == c) None k
mine c j stays k = refl

not_mine : (i j : ℕ) (t : Sitter) → i ≢ j → t.pass ≡ i → if_mine j (Some t) ≡ None
not_mine i j t ne e = ap (λ b. cond b (Some t) None) (ap (λ (n : ℕ). n == j) e ∙ ne_eqb i j ne)

-- what another did leaves it, where that was fair
by_move : (c i j : ℕ) (m : Move) (k : Option Sitter) → i ≢ j → IsOpenTo c m k → ((s : ℕ) → m ≡ departs s → (s == c) ≡ true → (t : Sitter) × (k ≡ Some t) × (t.pass ≡ i))
    → if_mine j (sitter_after c i m k) ≡ if_mine j k
by_move c i j (arrives g id s) k ne free at = if_mine_cond j (s == c) (Some (record { pass = i; generation = g; id = id })) k ∙ cond_same (s == c) _ (if_mine j k)
    (λ t. not_mine i j (record { pass = i; generation = g; id = id }) ne refl ∙ sym (ap (if_mine j) (free t)))
by_move c i j (departs s) k ne free at = if_mine_cond j (s == c) None k ∙ cond_same (s == c) None (if_mine j k)
    (λ t. let one = at s refl t in sym (ap (if_mine j) one.1 ∙ not_mine i j one.0 ne one.2))
by_move c i j stays k ne free at = refl

never_arrives : (g : ℕ) (b : WhoKind) (s : ℕ) → arrival g b ≡ departs s → ⊥
never_arrives g who.Fresh s e = cc
never_arrives g (who.Conn id t) s e = cc
never_arrives g (who.Keeper e') s e = cc
never_arrives g (who.Old o) s e = cc

departs_own : (s : ℕ) (b : WhoKind) (t : ℕ) → departure s b ≡ departs t → s ≡ t
departs_own s who.Fresh t e = cc
departs_own s (who.Conn id' t') t e = absurd cc
departs_own s (who.Keeper e') t e = cc
departs_own s (who.Old o) t e = absurd cc

-- who departs from a seat was its sitter
pub departs_from : (c g i : ℕ) (m b : WhoKind) (k : Option Sitter) → IsAt c g i m k → (s : ℕ) → moved g m b ≡ departs s → (s == c) ≡ true → (t : Sitter) × (k ≡ Some t) × (t.pass ≡ i)
departs_from c g i who.Fresh b k at s e h = absurd (never_arrives g b s e)
departs_from c g i (who.Conn id t) b k at s e h = (record { pass = i; generation = g; id = id }, at (ap (λ x. x == c) (departs_own t b s e) ∙ h), refl)
departs_from c g i (who.Keeper x) b k at s e h = absurd cc
departs_from c g i (who.Old None) b k at s e h = absurd cc
departs_from c g i (who.Old (Some t)) b k at s e h = let old = at (ap (λ x. x == c) (departs_own t b s e) ∙ h) in (old.one, old.sits, old.mine)

other : (c i j : ℕ) (t : Turn) (k : Option Sitter) → i ≢ j → IsFair c i t k → if_mine j (sitter_after c i (move_of t) k) ≡ if_mine j k
unfolding IsFair move_of
other c i j (left l) k ne fair = by_move c i j (moved l.generation l.who.member l.becomes) k ne fair.1 (departs_from c l.generation i l.who.member l.becomes k fair.0)
other c i j (started b) k ne fair = refl
other c i j (removed g) k ne fair = refl
other c i j (did d) k ne fair = refl
other c i j idle k ne fair = refl

-- along a fair list a pass has a seat just as its own entries say
pub seated_along : (c j : ℕ) (k : Option Sitter) (xs : List (ℕ × Turn)) → AreFair c k xs → if_mine j (sitter_from c k xs) ≡ sitter_from c (if_mine j k) (made_by j xs)
unfolding AreFair sitter_from
seated_along c j k [] fair = refl
seated_along c j k (x ∷ xs) fair =
    let m : Move = move_of x.1 in
    let ih = seated_along c j (sitter_after c x.0 m k) xs fair.1 in
    dite (ℕ_discrete x.0 j)
    (λ e. ih ∙ (ap (λ o. sitter_from c o (made_by j xs)) (own_one e m) ∙ sym (ap (λ b. sitter_from c (if_mine j k) (cond b (x ∷ made_by j xs) (made_by j xs))) (eq-eqb x.0 j e))))
    (λ ne. ih ∙ (ap (λ o. sitter_from c o (made_by j xs)) (other c x.0 j x.1 k ne fair.0) ∙ sym (ap (λ b. sitter_from c (if_mine j k) (cond b (x ∷ made_by j xs) (made_by j xs))) (ne_eqb x.0 j ne))))
  where
    own_one : x.0 ≡ j → (m : Move) → if_mine j (sitter_after c x.0 m k) ≡ sitter_after c x.0 m (if_mine j k)
    own_one e m = subst (λ (i : ℕ). if_mine j (sitter_after c i m k) ≡ sitter_after c i m (if_mine j k)) (sym e) (mine c j m k)

own_is : (j : ℕ) (k : Option Sitter) (t : Sitter) → if_mine j k ≡ Some t → (k ≡ Some t) × (t.pass ≡ j)
own_is j None t e = absurd cc
own_is j (Some x) t e = go (x.pass == j) refl e
  where
    go : (b : Bool) → (x.pass == j) ≡ b → cond b (Some x) None ≡ Some t → (Some x ≡ Some t) × (t.pass ≡ j)
    go true q e = let same : x ≡ t = cc in (ap (λ (y : Sitter). Some y) same, ap (λ (y : Sitter). y.pass) (sym same) ∙ eqb-true x.pass j q)
    go false q e = absurd cc

-- a pass that has the seat by its own entries is its sitter
pub sits : (c j : ℕ) (t : Sitter) (list own : List (ℕ × Turn)) → AreFair c None list → made_by j list ≡ own → sitter c own ≡ Some t → (sitter c list ≡ Some t) × (t.pass ≡ j)
sits c j t list own fair are mine = own_is j (sitter c list) t (seated_along c j None list fair ∙ (ap (sitter_from c None) are ∙ mine))

pub own_entries_tell : OwnEntriesTell
own_entries_tell c j t list fair mine = sits c j t list (made_by j list) fair refl mine
