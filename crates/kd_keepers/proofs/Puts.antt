-- Puts, and what the holder of the desk finds.
use Rattle.std.specs.Prelude.{◌≡◌, ℕ, suc, true, false, cond, List, [], ◌∷◌, ◌++◌, Option, Some, None, refl}
use Rattle.std.proofs.Common.{sym, ap, ◌∙◌, subst, eqb-true, arith}
use Rattle.kd_commands.specs.declared.who.WhoKind.{WhoKind}
use Rattle.kd_commands.specs.declared.who.WhoKind.TheVariants as who
use Rattle.kd_hands.specs.declared.views.View.{View}
use Rattle.kd_hands.specs.Lists.{at_place, made_by}
use Rattle.kd_hands.specs.Views.{part}
use Rattle.kd_hands.specs.Locks.{Locks}
use Rattle.kd_hands.specs.Fits.{Fits, Stood}
use Rattle.kd_hands.proofs.Places.{place_else, place_here}
use Rattle.kd_histories.specs.Turns.{Left, Turn, left, started, removed, did, idle}
use Rattle.kd_histories.specs.Slots.{IsLeft, IsTold, slot_of, unborn}
use Rattle.kd_histories.specs.Visits.{addressed}
use Rattle.kd_histories.specs.Seats.{AreFair, IsAt, sitter}
use Rattle.kd_histories.specs.Known.{open_by}
use Rattle.kd_histories.specs.Puts.{EndsTurn, IsOwn, OwesPut}
use Rattle.kd_histories.proofs.Knowing.{lists_know}
use Rattle.kd_histories.proofs.DeskPuts.{leaves_may_be_put}
use Rattle.kd_histories.proofs.Owners.{callers_are_own}
use Rattle.kd_histories.proofs.Sitters.{sits}
use Rattle.kd_histories.proofs.Ties.{opening_tie}
use Rattle.kd_keepers.specs.Keeping.{AreKept, Endpoint, IsKeeper, IsKeptAt, change_of, changed, keeping, keeping_after, makes, unchanged}
use Rattle.kd_keepers.specs.Known.{IsOfDesk}
use Rattle.kd_keepers.specs.Puts.{DesksStayKept, HoldersAreHome, HoldersFindSettled, IsNoCommand, IsOwnCaller, KeptBegins, KeptCallersAreOwn, KeptFact, KeptIsTied, KeptLeavesMayBePut, KeptTie, OwesKept, PoolsStayKept}
use Rattle.kd_keepers.proofs.Along.{Entered, entered_by, lists_are_home}
use Rattle.kd_keepers.proofs.Commands.{at, home_or_old, keeper_stays, same_is, same_refl}
use Rattle.kd_keepers.proofs.Lists.{keeping_snoc, kept_snoc}
use Rattle.kd_keepers.proofs.Own.{own_keepers_tell}

-- ---- the tie

pub kept_begins : KeptBegins
unfolding AreKept
kept_begins = record { tie = opening_tie; kept = λ e. tt }

pub kept_is_tied : KeptIsTied
kept_is_tied v stood = record { world = stood.world; fits = stood.fits; holds = (stood.holds.0.tie, stood.holds.1) }

-- its list of the desk
of_desk : (w : Locks Turn) → KeptTie w.told → IsOfDesk (w.told.lists 0)
of_desk w k = record { told = k.tie.told; fair = k.tie.fair; kept = k.kept }

-- ---- whose the caller is

own_of : (own : List (ℕ × Turn)) (g : ℕ) (m : WhoKind) → IsOwnCaller own g m → IsOwn own g m
own_of own g who.Fresh o = o
own_of own g (who.Conn id s) o = o
own_of own g (who.Keeper e) o = tt
own_of own g (who.Old s) o = o

-- whose seat it is by its pass's own entries, it is on the list
own_at : (j g : ℕ) (list own : List (ℕ × Turn)) → ((c : ℕ) → AreFair c None list) → made_by j list ≡ own → (m : WhoKind) → IsOwn own g m → (c : ℕ) → IsAt c g j m (sitter c list)
own_at j g list own fair mine who.Fresh o c = tt
own_at j g list own fair mine (who.Conn id s) o c = λ t.
    let it = sits s j (record { pass = o.0; generation = g; id = id }) list own (fair s) mine o.1 in
    ap (λ (i : ℕ). sitter i list) (sym (eqb-true s c t)) ∙ (it.0 ∙ ap (λ (n : ℕ). Some (record { pass = n; generation = g; id = id })) it.1)
own_at j g list own fair mine (who.Keeper x) o c = tt
own_at j g list own fair mine (who.Old None) o c = tt
own_at j g list own fair mine (who.Old (Some s)) o c = λ t.
    let it = sits s j o.0 list own (fair s) mine o.1 in
    record { one = o.0; sits = ap (λ (i : ℕ). sitter i list) (sym (eqb-true s c t)) ∙ it.0; mine = it.1; old = o.2 }

own_keeper : (own : List (ℕ × Turn)) (g n : ℕ) (m : WhoKind) → m ≡ who.Keeper n → IsOwnCaller own g m → (j : ℕ) × (keeping (at g n) own ≡ Some j)
own_keeper own g n m is o = subst (IsOwnCaller own g) is o

-- whose endpoint its pass keeps by its own entries, it keeps it on the list
own_kept : (j g : ℕ) (list own : List (ℕ × Turn)) → IsOfDesk list → made_by j list ≡ own → (m : WhoKind) → IsOwnCaller own g m → (x : Endpoint) → IsKeeper x g j m (keeping x list)
own_kept j g list own it mine who.Fresh o x = tt
own_kept j g list own it mine (who.Conn id s) o x = tt
own_kept j g list own it mine (who.Old s) o x = tt
own_kept j g list own it mine (who.Keeper n) o x = λ t.
    ap (λ (y : Endpoint). keeping y list) (sym (same_is (at g n) x t)) ∙ own_keepers_tell (at g n) j o.0 list it (ap (keeping (at g n)) mine ∙ o.1)

-- ---- puts

pub pools_stay_kept : PoolsStayKept
pools_stay_kept v s e owes w fits f =
    let x = owes w fits (f.0.tie, f.1) in
    let same : at_place w.told.lists (suc s) (w.told.lists (suc s) ++ (v.name, e) ∷ []) 0 ≡ w.told.lists 0 = place_else w.told.lists (suc s) 0 (w.told.lists (suc s) ++ (v.name, e) ∷ []) (λ z. omega arith) in
    (record { tie = x.0; kept = λ i. subst (AreKept i None) (sym same) (f.0.kept i) }, x.1)

-- an entry on the desk that is kept
on_desk : (v : View Turn) (e : Turn) → OwesPut v 0 e → ((w : Locks Turn) → Fits v w → KeptFact w → (i : Endpoint) → IsKeptAt i v.name e (keeping i (w.told.lists 0))) → OwesKept v 0 e
on_desk v e owes one w fits f =
    let x = owes w fits (f.0.tie, f.1) in
    let now : at_place w.told.lists 0 (w.told.lists 0 ++ (v.name, e) ∷ []) 0 ≡ w.told.lists 0 ++ (v.name, e) ∷ [] = place_here w.told.lists 0 0 (w.told.lists 0 ++ (v.name, e) ∷ []) refl in
    (record { tie = x.0; kept = λ i. subst (AreKept i None) (sym now) (kept_snoc i None (w.told.lists 0) (v.name, e) (f.0.kept i) (one w fits f i)) }, x.1)

no_command : (i : Endpoint) (j : ℕ) (e : Turn) (k : Option ℕ) → IsNoCommand e → IsKeptAt i j e k
unfolding IsKeptAt
no_command i j (left l) k never = absurd never
no_command i j (started b) k never = tt
no_command i j (removed g) k never = tt
no_command i j (did d) k never = tt
no_command i j idle k never = tt

pub desks_stay_kept : DesksStayKept
desks_stay_kept v e bare owes = on_desk v e owes (λ w fits f i. no_command i v.name e (keeping i (w.told.lists 0)) bare)

-- ---- a command

module _ (l : Left) (v : View Turn) (it : EndsTurn (left l) v) (mine : IsOwnCaller (part v 0).own l.generation l.who.member) where
  module _ (w : Locks Turn) (fits : Fits v w) (k : KeptTie w.told) where
    abbrev list : List (ℕ × Turn)
    list = w.told.lists 0

    whole : (part v 0).seen ≡ list
    whole = fits.whole 0 it.desk

    is_now : IsLeft (slot_of list) l
    unfolding IsTold
    is_now = subst (λ xs. IsLeft (slot_of xs) l) whole it.is

    pub stands : Entered list v.name l
    stands = record {
      of_desk = of_desk w k;
      is = is_now;
      fair = own_at v.name l.generation list (part v 0).own k.tie.fair (fits.mine 0) l.who.member (own_of (part v 0).own l.generation l.who.member mine);
      kept = own_kept v.name l.generation list (part v 0).own (of_desk w k) (fits.mine 0) l.who.member mine;
    }

    pub same_keeper : (x y : ℕ) → l.who.member ≡ who.Keeper x → l.becomes ≡ who.Keeper y → x ≡ y
    same_keeper x y its b = keeper_stays (slot_of list) (λ x. keeping x list) v.name l (lists_are_home list (of_desk w k)) is_now (entered_by list v.name l stands) x y its b

pub kept_leaves_may_be_put : KeptLeavesMayBePut
unfolding IsKeptAt
kept_leaves_may_be_put l v it mine =
    on_desk v (left l) (leaves_may_be_put l v it (own_of (part v 0).own l.generation l.who.member mine)) (λ w fits f. (stands l v it mine w fits f.0).kept)

pub kept_callers_are_own : KeptCallersAreOwn
unfolding change_of
kept_callers_are_own l v stood it mine = go l.becomes refl plain
  where
    own : List (ℕ × Turn)
    own = (part v 0).own

    own' : List (ℕ × Turn)
    own' = own ++ (v.name, left l) ∷ []

    plain : IsOwn own' l.generation l.becomes
    plain = callers_are_own l v (kept_is_tied v stood) it (own_of own l.generation l.who.member mine)

    follows : (x : Endpoint) → keeping x own' ≡ keeping_after x v.name (changed l.generation l.who.member l.becomes) (keeping x own)
    follows x = keeping_snoc x None own (v.name, left l)

    -- whoever was no keeper made it
    made : (n : ℕ) → changed l.generation l.who.member l.becomes ≡ makes (at l.generation n) → (j : ℕ) × (keeping (at l.generation n) own' ≡ Some j)
    made n c = (
      v.name,
      follows (at l.generation n)
          ∙ (ap (λ y. keeping_after (at l.generation n) v.name y (keeping (at l.generation n) own)) c
          ∙ ap (λ b. cond b (Some v.name) (keeping (at l.generation n) own)) (same_refl (at l.generation n))),
    )

    by_caller : (n : ℕ) (m : WhoKind) → l.who.member ≡ m → l.becomes ≡ who.Keeper n → (j : ℕ) × (keeping (at l.generation n) own' ≡ Some j)
    by_caller n who.Fresh is b = made n (ap (λ m. changed l.generation m l.becomes) is ∙ ap (changed l.generation who.Fresh) b)
    by_caller n (who.Conn id s) is b = made n (ap (λ m. changed l.generation m l.becomes) is ∙ ap (changed l.generation (who.Conn id s)) b)
    by_caller n (who.Old s) is b = made n (ap (λ m. changed l.generation m l.becomes) is ∙ ap (changed l.generation (who.Old s)) b)
    by_caller n (who.Keeper k) is b =
        let same : k ≡ n = same_keeper l v it mine stood.world stood.fits stood.holds.0 k n is b in
        let was = own_keeper own l.generation n l.who.member (is ∙ ap who.Keeper same) mine in
        let quiet : changed l.generation l.who.member l.becomes ≡ unchanged = ap (λ m. changed l.generation m l.becomes) is ∙ ap (changed l.generation (who.Keeper k)) b in
        (was.0, follows (at l.generation n) ∙ (ap (λ y. keeping_after (at l.generation n) v.name y (keeping (at l.generation n) own)) quiet ∙ was.1))

    go : (b : WhoKind) → l.becomes ≡ b → IsOwn own' l.generation b → IsOwnCaller own' l.generation b
    go who.Fresh b o = o
    go (who.Conn id s) b o = o
    go (who.Old s) b o = o
    go (who.Keeper e) b o = by_caller e l.who.member refl b

-- ---- what the holder of the desk finds

found : (v : View Turn) → Stood KeptFact v → (part v 0).holds ≡ true → IsOfDesk (part v 0).seen
found v stood desk = subst IsOfDesk (sym (stood.fits.whole 0 desk)) (of_desk stood.world stood.holds.0)

pub holders_find_settled : HoldersFindSettled
holders_find_settled v stood desk = (lists_are_home (part v 0).seen (found v stood desk)).settled

pub holders_are_home : HoldersAreHome
holders_are_home v m stood desk mine =
    let list : List (ℕ × Turn) = (part v 0).seen in
    let own : List (ℕ × Turn) = (part v 0).own in
    let it : IsOfDesk list = found v stood desk in
    let g : ℕ = (slot_of list).generation in
    let is_mine : made_by v.name list ≡ own = ap (made_by v.name) (stood.fits.whole 0 desk) ∙ stood.fits.mine 0 in
    home_or_old (slot_of list) (λ c. sitter c list) (λ c. open_by (addressed c unborn list) false) (λ x. keeping x list) v.name g m
    (lists_know list it.told it.fair) (lists_are_home list it) refl
    (own_at v.name g list own it.fair is_mine m (own_of own g m mine)) (own_kept v.name g list own it is_mine m mine)
