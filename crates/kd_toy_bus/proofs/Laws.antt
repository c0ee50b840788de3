-- One entry more at the end of a list, and who has a seat.
use Rattle.std.proofs.Common.{◌≡◌, ℕ, ◌≢◌, ◌==◌, Bool, true, false, cond, List, [], ◌∷◌, ◌++◌, eq-eqb, ne_eqb, sym, refl, ap, ◌∙◌, append_assoc}
use Rattle.std.specs.Prelude.{Option, Some, None}
use Rattle.std.proofs.lemmas.List.{append-nil}
use mathlib.Core.Logic.{dite}
use native.Mathlib.Decide.{ℕ_discrete}
use Rattle.kd_hands.specs.Lists.{made_by, is_at}
use Rattle.kd_toy_bus.specs.declared.act.Slip.{Slip}
use Rattle.kd_toy_bus.specs.declared.act.Act.{Act}
use Rattle.kd_toy_bus.specs.declared.act.Act.TheVariants.{Join, Leave, Send, Raise, Close, Offer, Receive, Idle}
use Rattle.kd_toy_bus.specs.declared.locked.Pool.{Pool}
use Rattle.kd_toy_bus.specs.declared.locked.Pool.TheVariants.{Closed, Free, Placed, Handed}
use Rattle.kd_toy_bus.specs.Bus.{slip_act, offered, received, raised, closed, offer, pool_after, pool_from, keeper_after, kept_from, IsFair, AreFair, sits, seated_from, Errand, errand_at, errands, made_by_one, made, opened_at}

pub pool_snoc : (p : Pool) (xs : List (ℕ × Slip)) (x : ℕ × Slip) → pool_from p (xs ++ x ∷ []) ≡ pool_after (slip_act x.1) (pool_from p xs)
pool_snoc p [] x = refl
pool_snoc p (y ∷ ys) x = pool_snoc (pool_after (slip_act y.1) p) ys x

pub kept_snoc : (c : ℕ) (k : Option ℕ) (xs : List (ℕ × Slip)) (x : ℕ × Slip) → kept_from c k (xs ++ x ∷ []) ≡ keeper_after c x.0 (slip_act x.1) (kept_from c k xs)
kept_snoc c k [] x = refl
kept_snoc c k (y ∷ ys) x = kept_snoc c (keeper_after c y.0 (slip_act y.1) k) ys x

pub fair_snoc : (c : ℕ) (k : Option ℕ) (xs : List (ℕ × Slip)) (x : ℕ × Slip) → AreFair c k xs → IsFair c x.0 (slip_act x.1) (kept_from c k xs) → AreFair c k (xs ++ x ∷ [])
fair_snoc c k [] x fair one = (one, tt)
fair_snoc c k (y ∷ ys) x fair one = (fair.0, fair_snoc c (keeper_after c y.0 (slip_act y.1) k) ys x fair.1 one)

pub seated_snoc : (c : ℕ) (b : Bool) (xs : List (ℕ × Slip)) (x : ℕ × Slip) → seated_from c b (xs ++ x ∷ []) ≡ sits c (slip_act x.1) (seated_from c b xs)
seated_snoc c b [] x = refl
seated_snoc c b (y ∷ ys) x = seated_snoc c (sits c (slip_act y.1) b) ys x

pub made_snoc : (xs : List (ℕ × Slip)) (x : ℕ × Slip) → made (xs ++ x ∷ []) ≡ made xs ++ made_by_one (slip_act x.1)
made_snoc [] x = append-nil (made_by_one (slip_act x.1))
made_snoc (y ∷ ys) x = ap (λ zs. made_by_one (slip_act y.1) ++ zs) (made_snoc ys x) ∙ sym (append_assoc (made_by_one (slip_act y.1)) (made ys) (made_by_one (slip_act x.1)))

pub errands_snoc : (c : ℕ) (xs : List (ℕ × Slip)) (x : ℕ × Slip) → errands c (xs ++ x ∷ []) ≡ errands c xs ++ errand_at c (slip_act x.1)
errands_snoc c [] x = append-nil (errand_at c (slip_act x.1))
errands_snoc c (y ∷ ys) x = ap (λ zs. errand_at c (slip_act y.1) ++ zs) (errands_snoc c ys x) ∙ sym (append_assoc (errand_at c (slip_act y.1)) (errands c ys) (errand_at c (slip_act x.1)))

pub opened_snoc : (l : ℕ) (xs : List (ℕ × ℕ × Slip)) (x : ℕ × ℕ × Slip) → opened_at l (xs ++ x ∷ []) ≡ opened_at l xs ++ cond (x.0 == l) (made_by_one (slip_act x.2)) []
opened_snoc l [] x = append-nil (cond (x.0 == l) (made_by_one (slip_act x.2)) [])
opened_snoc l (y ∷ ys) x = ap (λ zs. cond (y.0 == l) (made_by_one (slip_act y.2)) [] ++ zs) (opened_snoc l ys x) ∙ sym (append_assoc (cond (y.0 == l) (made_by_one (slip_act y.2)) []) (opened_at l ys) (cond (x.0 == l) (made_by_one (slip_act x.2)) []))

-- a pass's own entries tell whether it has the seat
pub cond_same : {A : Type 0} (b : Bool) (x y : A) → (b ≡ true → x ≡ y) → cond b x y ≡ y
cond_same true x y h = h refl
cond_same false x y h = refl

at_cond : (j : ℕ) (b : Bool) (o k : Option ℕ) → is_at j (cond b o k) ≡ cond b (is_at j o) (is_at j k)
at_cond j true o k = refl
at_cond j false o k = refl

keeps_mine : (c j : ℕ) (a : Act) (k : Option ℕ) → is_at j (keeper_after c j a k) ≡ sits c a (is_at j k)
keeps_mine c j (Join s) k = at_cond j (s == c) (Some j) k ∙ ap (λ t. cond (s == c) t (is_at j k)) (eq-eqb j j refl)
keeps_mine c j (Leave s) k = at_cond j (s == c) None k
keeps_mine c j (Send s) k = refl
keeps_mine c j Raise k = refl
keeps_mine c j Close k = refl
keeps_mine c j (Offer b) k = refl
keeps_mine c j Receive k = refl
keeps_mine c j Idle k = refl

keeps_other : (c j i : ℕ) (a : Act) (k : Option ℕ) → i ≢ j → IsFair c i a k → is_at j (keeper_after c i a k) ≡ is_at j k
keeps_other c j i (Join s) k ne fair = at_cond j (s == c) (Some i) k ∙ cond_same (s == c) (is_at j (Some i)) (is_at j k) (λ t. ne_eqb i j ne ∙ sym (ap (is_at j) (fair t)))
keeps_other c j i (Leave s) k ne fair = at_cond j (s == c) None k ∙ cond_same (s == c) (is_at j None) (is_at j k) (λ t. sym (ap (is_at j) (fair t) ∙ ne_eqb i j ne))
keeps_other c j i (Send s) k ne fair = refl
keeps_other c j i Raise k ne fair = refl
keeps_other c j i Close k ne fair = refl
keeps_other c j i (Offer b) k ne fair = refl
keeps_other c j i Receive k ne fair = refl
keeps_other c j i Idle k ne fair = refl

pub seated_is : (c j : ℕ) (k : Option ℕ) (xs : List (ℕ × Slip)) → AreFair c k xs → is_at j (kept_from c k xs) ≡ seated_from c (is_at j k) (made_by j xs)
seated_is c j k [] fair = refl
seated_is c j k (x ∷ xs) fair =
    let k' : Option ℕ = keeper_after c x.0 (slip_act x.1) k in
    let ih = seated_is c j k' xs fair.1 in
    dite (ℕ_discrete x.0 j)
    (λ e. ih ∙ (ap (λ b. seated_from c b (made_by j xs)) (ap (λ (i : ℕ). is_at j (keeper_after c i (slip_act x.1) k)) e ∙ keeps_mine c j (slip_act x.1) k) ∙ sym (ap (λ b. seated_from c (is_at j k) (cond b (x ∷ made_by j xs) (made_by j xs))) (eq-eqb x.0 j e))))
    (λ ne. ih ∙ (ap (λ b. seated_from c b (made_by j xs)) (keeps_other c j x.0 (slip_act x.1) k ne fair.0) ∙ sym (ap (λ b. seated_from c (is_at j k) (cond b (x ∷ made_by j xs) (made_by j xs))) (ne_eqb x.0 j ne))))

-- a pool is open or closed as its errands say
abbrev is_open : Pool → Bool
is_open Closed = false
is_open Free = true
is_open Placed = true
is_open Handed = true

abbrev open_after : List Errand → Bool → Bool
open_after [] b = b
open_after (raised ∷ ps) b = open_after ps true
open_after (closed ∷ ps) b = open_after ps false
open_after (offer ∷ ps) b = open_after ps b

open_append : (ps qs : List Errand) (b : Bool) → open_after (ps ++ qs) b ≡ open_after qs (open_after ps b)
open_append [] qs b = refl
open_append (raised ∷ ps) qs b = open_append ps qs true
open_append (closed ∷ ps) qs b = open_append ps qs false
open_append (offer ∷ ps) qs b = open_append ps qs b

open_offered : (swept : Bool) (p : Pool) → is_open (offered swept p) ≡ is_open p
open_offered swept Closed = refl
open_offered swept Free = refl
open_offered swept Placed = refl
open_offered true Handed = refl
open_offered false Handed = refl

open_received : (p : Pool) → is_open (received p) ≡ is_open p
open_received Closed = refl
open_received Free = refl
open_received Placed = refl
open_received Handed = refl

open_one : (a : Act) (p : Pool) → is_open (pool_after a p) ≡ open_after (made_by_one a) (is_open p)
open_one (Join s) p = refl
open_one (Leave s) p = refl
open_one (Send s) p = refl
open_one Raise p = refl
open_one Close p = refl
open_one (Offer swept) p = open_offered swept p
open_one Receive p = open_received p
open_one Idle p = refl

open_is : (p : Pool) (xs : List (ℕ × Slip)) → is_open (pool_from p xs) ≡ open_after (made xs) (is_open p)
open_is p [] = refl
open_is p (x ∷ xs) = open_is (pool_after (slip_act x.1) p) xs ∙ (ap (open_after (made xs)) (open_one (slip_act x.1) p) ∙ sym (open_append (made_by_one (slip_act x.1)) (made xs) (is_open p)))

-- a pool whose last part is its closing is closed, whatever was received since
pub shut_is : (xs : List (ℕ × Slip)) (ps : List Errand) → made xs ≡ ps ++ closed ∷ [] → pool_from Closed xs ≡ Closed
shut_is xs ps is = none (pool_from Closed xs) (open_is Closed xs ∙ (ap (λ qs. open_after qs false) is ∙ open_append ps (closed ∷ []) false))
  where
    none : (p : Pool) → is_open p ≡ false → p ≡ Closed
    none Closed e = refl
    none Free e = absurd cc
    none Placed e = absurd cc
    none Handed e = absurd cc
