-- What each put on the desk owes.
use Rattle.std.specs.Prelude.{◌≡◌, ◌⊎◌, ℕ, suc, false, cond, List, [], ◌∷◌, ◌++◌, Option, Some, None, option_map, refl}
use Rattle.std.proofs.Common.{sym, ap, ◌∙◌, subst, eqb-true, eq-eqb, ne_eqb, inl, inr, arith}
use Rattle.std.proofs.lemmas.Bool.{true≢false}
use mathlib.Core.Logic.{dite}
use native.Mathlib.Decide.{ℕ_discrete}
use Rattle.kd_acts.specs.Lasting.{is_open}
use Rattle.kd_commands.specs.declared.who.WhoKind.{WhoKind}
use Rattle.kd_commands.specs.declared.who.WhoKind.TheVariants as who
use Rattle.kd_hands.specs.declared.views.View.{View}
use Rattle.kd_hands.specs.Views.{part}
use Rattle.kd_hands.specs.Lists.{is_at, made_by}
use Rattle.kd_hands.specs.Locks.{Locks, hands_after}
use Rattle.kd_hands.specs.Fits.{Fits}
use Rattle.kd_world.specs.State.{closed_pool}
use Rattle.kd_histories.specs.Turns.{Left, Turn, left, started, removed, idle}
use Rattle.kd_histories.specs.Slots.{AreTold, IsLeft, IsTold, Slot, slot_of, unborn}
use Rattle.kd_histories.specs.Visits.{addressed, addressed_by, visits_opened}
use Rattle.kd_histories.specs.Seats.{AreFair, IsAt, IsFair, IsOpenTo, Move, Sitter, arrives, departs, keeper, move_of, moved, sitter, sitter_after, stays}
use Rattle.kd_histories.specs.Pools.{hold_of}
use Rattle.kd_histories.specs.Lent.{emptied_by, empties, hand_after, hand_by, lends, out}
use Rattle.kd_histories.specs.Tie.{Tie}
use Rattle.kd_histories.specs.Known.{Knows, open_by}
use Rattle.kd_histories.specs.Puts.{EndsTurn, IdleDesksMayBePut, IsOwn, LeavesMayBePut, OwesPut, RaisesWhereNobodySits, RemovesMayBePut, StartsMayBePut}
use Rattle.kd_histories.proofs.Snocs.{open_append, sitter_snoc}
use Rattle.kd_histories.proofs.Sitters.{departs_from, sits}
use Rattle.kd_histories.proofs.Holds.{closed_none, open_along}
use Rattle.kd_histories.proofs.Knowing.{arrives_free, departs_shut, lists_know, raises_nobody}
use Rattle.kd_histories.proofs.DeskHands.{Leaves, Empties, desk_keeps}
use Rattle.kd_histories.proofs.Ties.{leaves}

zero_lends : (list : List (ℕ × Turn)) (n : ℕ) → lends 0 list n → ⊥
unfolding lends
zero_lends list n x = x

zero_out : (list : List (ℕ × Turn)) (n : ℕ) → out 0 list n → ⊥
unfolding out
zero_out list n x = x

-- whose the caller is by its pass's own entries, it is on the list
own_at : (j g : ℕ) (list own : List (ℕ × Turn)) → ((c : ℕ) → AreFair c None list) → made_by j list ≡ own → (m : WhoKind) → IsOwn own g m → (c : ℕ) → IsAt c g j m (sitter c list)
own_at j g list own fair mine who.Fresh o c = tt
own_at j g list own fair mine (who.Conn id s) o c = λ t.
    let it = sits s j (record { pass = o.0; generation = g; id = id }) list own (fair s) mine o.1 in
    ap (λ (i : ℕ). sitter i list) (sym (eqb-true s c t)) ∙ (it.0 ∙ ap (λ (n : ℕ). Some (record { pass = n; generation = g; id = id })) it.1)
own_at j g list own fair mine (who.Keeper x) o c = tt
own_at j g list own fair mine (who.Old None) o c = tt
own_at j g list own fair mine (who.Old (Some s)) o c = λ t.
    let it = sits s j o.0 list own (fair s) mine o.1 in
    record { one = o.0; sits = ap (λ (i : ℕ). sitter i list) (sym (eqb-true s c t)) ∙ it.0; mine = it.1; old = o.2 }

-- a keeper stays where the entry moves nobody there
keeper_stays : (j c : ℕ) (e : Turn) (list : List (ℕ × Turn)) → ((k : Option Sitter) → k ≡ sitter c list → sitter_after c j (move_of e) k ≡ k) → (i : ℕ) → keeper (suc c) list ≡ Some i → keeper (suc c) (list ++ (j, e) ∷ []) ≡ Some i
unfolding keeper
keeper_stays j c e list same i q = ap (option_map (λ (t : Sitter). t.pass)) (sitter_snoc c None list (j, e) ∙ same (sitter c list) refl) ∙ q

-- ---- an entry that moves nobody

still_owes : (e : Turn) (v : View Turn) → move_of e ≡ stays → ((hand : List ℕ) → hand_by e hand ≡ hand) → ((j c : ℕ) (k : Option Sitter) → IsFair c j e k) → EndsTurn e v → OwesPut v 0 e
still_owes e v still same fair it w fits f =
    let whole = fits.whole 0 it.desk in (
      leaves (hands_after hand_after empties) v.name e w f.0
          (λ c. ap (visits_opened (suc c)) (sym (fits.opened it.desk).0) ∙ (it.opened c ∙ ap (λ list. addressed_by c (slot_of list) e) whole))
          (λ c. fair v.name c (sitter c (w.told.lists 0)))
          (subst (λ list. IsTold (slot_of list) e) whole it.is),
      desk_keeps lends out keeper hand_after empties zero_lends zero_out e v.name w f.1 same
          (λ c. inl (ap (λ m. is_at (suc c) (emptied_by m)) still, keeper_stays v.name c e (w.told.lists 0) (λ k _. ap (λ m. sitter_after c v.name m k) still))),
    )

pub idle_desks_may_be_put : IdleDesksMayBePut
unfolding move_of hand_by IsFair
idle_desks_may_be_put v it = still_owes idle v refl (λ hand. refl) (λ j c k. tt) it

pub starts_may_be_put : StartsMayBePut
unfolding move_of hand_by IsFair
starts_may_be_put b v it = still_owes (started b) v refl (λ hand. refl) (λ j c k. tt) it

pub removes_may_be_put : RemovesMayBePut
unfolding move_of hand_by IsFair
removes_may_be_put g v it = still_owes (removed g) v refl (λ hand. refl) (λ j c k. tt) it

-- ---- a command

module _ (l : Left) (v : View Turn) (it : EndsTurn (left l) v) (mine : IsOwn (part v 0).own l.generation l.who.member) where
  module _ (w : Locks Turn) (fits : Fits v w) (tie : Tie w.told) where
    abbrev pub list : List (ℕ × Turn)
    list = w.told.lists 0

    abbrev pub slot : Slot
    slot = slot_of list

    whole : (part v 0).seen ≡ list
    whole = fits.whole 0 it.desk

    pub is_now : IsLeft slot l
    unfolding IsTold
    is_now = subst (λ xs. IsLeft (slot_of xs) l) whole it.is

    pub know : Knows slot (λ c. sitter c list) (λ c. open_by (addressed c unborn list) false)
    know = lists_know list tie.told tie.fair

    pub at : (c : ℕ) → IsAt c l.generation v.name l.who.member (sitter c list)
    at c = own_at v.name l.generation list (part v 0).own tie.fair (fits.mine 0) l.who.member mine c

    abbrev move : Move
    move = moved l.generation l.who.member l.becomes

    free : (c : ℕ) → IsOpenTo c move (sitter c list)
    free c = go move refl
      where
        go : (m : Move) → move ≡ m → IsOpenTo c m (sitter c list)
        go (arrives g id s) q = λ t. ap (λ (i : ℕ). sitter i list) (sym (eqb-true s c t)) ∙ arrives_free slot (λ c. sitter c list) (λ c. open_by (addressed c unborn list) false) v.name l know is_now at g id s q
        go (departs s) q = tt
        go stays q = tt

    opened_now : (c : ℕ) → visits_opened (suc c) w.told.opened ≡ addressed_by c slot (left l)
    opened_now c = ap (visits_opened (suc c)) (sym (fits.opened it.desk).0) ∙ (it.opened c ∙ ap (λ xs. addressed_by c (slot_of xs) (left l)) whole)

    -- the pool of a seat that is left is closed by then
    shut : (c : ℕ) → move ≡ departs c → is_open (hold_of (w.told.lists (suc c))) ≡ false
    unfolding addressed_by
    shut c q =
        open_along closed_pool (w.told.lists (suc c)) (tie.done c)
        ∙ (ap (λ xs. open_by xs false) (tie.addressed c)
        ∙ (open_append (addressed c unborn list) (visits_opened (suc c) w.told.opened) false
        ∙ (ap (λ xs. open_by xs (open_by (addressed c unborn list) false)) (opened_now c)
        ∙ departs_shut slot (λ c. sitter c list) (λ c. open_by (addressed c unborn list) false) v.name l know is_now at c q)))

    moves : move_of (left l) ≡ move
    unfolding move_of
    moves = refl

    each : (c : ℕ) → Leaves keeper empties (left l) v.name w (suc c) ⊎ Empties out keeper empties (left l) v.name w (suc c)
    unfolding keeper out
    each c = go move refl
      where
        go : (m : Move) → move ≡ m → Leaves keeper empties (left l) v.name w (suc c) ⊎ Empties out keeper empties (left l) v.name w (suc c)
        go (arrives g id s) q = inl (ap (λ m. is_at (suc c) (emptied_by m)) (moves ∙ q), keeper_kept)
          where
            keeper_kept : (i : ℕ) → keeper (suc c) list ≡ Some i → keeper (suc c) (list ++ (v.name, left l) ∷ []) ≡ Some i
            keeper_kept i k = dite (ℕ_discrete s c)
                (λ z. let no : None ≡ Some i = sym (ap (option_map (λ (t : Sitter). t.pass)) (subst (λ m. IsOpenTo c m (sitter c list)) q (free c) (eq-eqb s c z))) ∙ k in absurd cc)
                (λ ne. keeper_stays v.name c (left l) list (λ x _. ap (λ m. sitter_after c v.name m x) (moves ∙ q) ∙ ap (λ b. cond b (Some (record { pass = v.name; generation = g; id = id })) x) (ne_eqb s c ne)) i k)
        go (departs s) q = dite (ℕ_discrete s c)
            (λ z.
            let one = departs_from c l.generation v.name l.who.member l.becomes (sitter c list) (at c) s q (eq-eqb s c z) in
            inr (
              ap (λ m. is_at (suc c) (emptied_by m)) (moves ∙ q) ∙ eq-eqb (suc s) (suc c) (ap suc z),
              ap (option_map (λ (t : Sitter). t.pass)) one.1 ∙ ap (λ (n : ℕ). Some n) one.2,
              λ n o. true≢false (sym o ∙ closed_none (hold_of (w.told.lists (suc c))) n (shut c (q ∙ ap (λ (i : ℕ). departs i) z))),
            ))
            (λ ne. inl (
              ap (λ m. is_at (suc c) (emptied_by m)) (moves ∙ q) ∙ ne_eqb (suc s) (suc c) (λ z. ne (omega arith)),
              keeper_stays v.name c (left l) list (λ x _. ap (λ m. sitter_after c v.name m x) (moves ∙ q) ∙ ap (λ b. cond b None x) (ne_eqb s c ne)),
            ))
        go stays q = inl (ap (λ m. is_at (suc c) (emptied_by m)) (moves ∙ q), keeper_stays v.name c (left l) list (λ x _. ap (λ m. sitter_after c v.name m x) (moves ∙ q)))

  left_owes : OwesPut v 0 (left l)
  unfolding IsFair IsTold hand_by
  left_owes w fits f = (
    leaves (hands_after hand_after empties) v.name (left l) w f.0 (opened_now w fits f.0) (λ c. (at w fits f.0 c, free w fits f.0 c)) (is_now w fits f.0),
    desk_keeps lends out keeper hand_after empties zero_lends zero_out (left l) v.name w f.1 (λ hand. refl) (each w fits f.0),
  )

pub leaves_may_be_put : LeavesMayBePut
leaves_may_be_put l v it mine = left_owes l v it mine

-- ---- what the holder of the desk finds

pub raises_where_nobody_sits : RaisesWhereNobodySits
raises_where_nobody_sits v aim w x p stood desk mine e outs q size next is =
    let f = stood.fits in
    let tie : Tie stood.world.told = stood.holds.0 in
    let list : List (ℕ × Turn) = (part v 0).seen in
    let whole : list ≡ stood.world.told.lists 0 = f.whole 0 desk in
    let told = subst (λ xs. (c : ℕ) → AreFair c None xs) (sym whole) tie.fair in
    let know = lists_know list (subst (AreTold unborn) (sym whole) tie.told) told in
    raises_nobody (slot_of list) (λ c. sitter c list) (λ c. open_by (addressed c unborn list) false) v.name aim w x p know
    (own_at v.name (slot_of list).generation list (part v 0).own told (ap (made_by v.name) whole ∙ f.mine 0) w.member mine) e outs q size next is
