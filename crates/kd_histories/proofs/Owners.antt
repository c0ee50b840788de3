-- Whose a caller is by its pass's own entries, through its commands.
use Rattle.std.specs.Prelude.{◌≡◌, ℕ, false, cond, List, [], ◌∷◌, ◌++◌, Some, None, refl}
use Rattle.std.proofs.Common.{sym, ap, ◌∙◌, subst, eq-eqb, ⊎_elim}
use Rattle.kd_types.specs.declared.creds.Kind.{Kind}
use Rattle.kd_commands.specs.declared.who.WhoKind.{WhoKind}
use Rattle.kd_commands.specs.declared.who.WhoKind.TheVariants as who
use Rattle.kd_commands.specs.State.{Desk}
use Rattle.kd_commands.specs.Seating.{IsNow}
use Rattle.kd_hands.specs.Views.{part}
use Rattle.kd_histories.specs.Turns.{Turn, left}
use Rattle.kd_histories.specs.Slots.{unborn}
use Rattle.kd_histories.specs.Visits.{addressed}
use Rattle.kd_histories.specs.Seats.{Move, move_of, moved, sitter, sitter_after}
use Rattle.kd_histories.specs.Known.{open_by}
use Rattle.kd_histories.specs.Puts.{CallersAreOwn, IsOwn}
use Rattle.kd_histories.proofs.Snocs.{sitter_snoc}
use Rattle.kd_histories.proofs.Knowing.{becomes_either, moved_same}
use Rattle.kd_histories.proofs.DeskPuts.{at, is_now, know, list, slot}

-- where nobody moved at any seat
own_still : (own own' : List (ℕ × Turn)) (g : ℕ) (m : WhoKind) → ((c : ℕ) → sitter c own' ≡ sitter c own) → IsOwn own g m → IsOwn own' g m
own_still own own' g who.Fresh same o = tt
own_still own own' g (who.Conn id s) same o = (o.0, same s ∙ o.1)
own_still own own' g (who.Keeper e) same o = tt
own_still own own' g (who.Old None) same o = tt
own_still own own' g (who.Old (Some s)) same o = (o.0, same s ∙ o.1, o.2)

-- a pass's own entries with one more, which moves like this
module _ (own own' : List (ℕ × Turn)) (j g : ℕ) where
  abbrev Follows : Move → Type 0
  Follows m = (c : ℕ) → sitter c own' ≡ sitter_after c j m (sitter c own)

  own_same : (m b : WhoKind) → b ≡ m → Follows (moved g m b) → IsOwn own g m → IsOwn own' g b
  own_same m b e f o = subst (IsOwn own' g) (sym e) (own_still own own' g m
      (λ c. f c ∙ ap (λ x. sitter_after c j x (sitter c own)) (ap (moved g m) e ∙ moved_same g m)) o)

  own_now : (d d' : Desk) (kind : Kind) (m b : WhoKind) → IsNow d d' kind m b → Follows (moved g m b) → IsOwn own g m → IsOwn own' g b
  own_now d d' kind m who.Fresh now f o = tt
  own_now d d' kind m (who.Keeper e) now f o = tt
  own_now d d' kind m (who.Old s) now f o = absurd now
  own_now d d' kind m (who.Conn id s) now f o = ⊎_elim
      (λ same. own_same m (who.Conn id s) (sym same.0) f o)
      (λ new. (
        j,
        f s ∙ (ap (λ x. sitter_after s j (moved g x (who.Conn id s)) (sitter s own)) new.0
            ∙ ap (λ b. cond b (Some (record { pass = j; generation = g; id = id })) (sitter s own)) (eq-eqb s s refl)),
      ))
      now

pub callers_are_own : CallersAreOwn
unfolding move_of
callers_are_own l v stood it mine =
    let w = stood.world in
    let tie = stood.holds.0 in
    let own : List (ℕ × Turn) = (part v 0).own in
    let own' : List (ℕ × Turn) = own ++ (v.name, left l) ∷ [] in
    let follows : (c : ℕ) → sitter c own' ≡ sitter_after c v.name (moved l.generation l.who.member l.becomes) (sitter c own) = λ c. follow c own in
    ⊎_elim
    (λ same. own_same own own' v.name l.generation l.who.member l.becomes same follows mine)
    (λ now. own_now own own' v.name l.generation (slot l v it mine w stood.fits tie).desk now.1.0 now.0 l.who.member l.becomes now.1.1 follows mine)
    (becomes_either (slot l v it mine w stood.fits tie) (λ c. sitter c (list l v it mine w stood.fits tie)) (λ c. open_by (addressed c unborn (list l v it mine w stood.fits tie)) false) v.name l
    (know l v it mine w stood.fits tie) (is_now l v it mine w stood.fits tie) (at l v it mine w stood.fits tie))
  where
    follow : (c : ℕ) (own : List (ℕ × Turn)) → sitter c (own ++ (v.name, left l) ∷ []) ≡ sitter_after c v.name (moved l.generation l.who.member l.becomes) (sitter c own)
    follow c own = sitter_snoc c None own (v.name, left l)
