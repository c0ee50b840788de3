-- The pendings that a holder's visits make.
use Rattle.std.specs.Prelude.{◌≡◌, ℕ, true, List, [], ◌∷◌, ◌++◌, refl, Some}
use Rattle.std.proofs.Common.{ap, inl, inr, sym, ◌∙◌, append-nil, append_assoc}
use Rattle.std.proofs.lemmas.Bool.{false≢true}
use Rattle.kd_acts.specs.State.{Answer, Image, Visit, by_desk, bytes_of, close, done, drain, drained, freed, gone, got, offer, placed, post, raise, refused, settle, slice}
use Rattle.kd_acts.proofs.Reserved.{turns}
use Rattle.kd_commands.specs.Plans.{Part}
use Rattle.kd_commands.specs.Visits.{images_in, next_part, with_images}
use Rattle.kd_commands.proofs.Asides.{next_aside}
use Rattle.kd_commands.proofs.Laid.{AreLaidOut, aside_turns}
use Rattle.kd_world.specs.State.{World, pool_at}
use Rattle.kd_world.specs.Callers.{pending_made, pendings_made}
use Rattle.kd_model.proofs.Truth.{same_some}

module _ (w : World) where
  pub turn_makes : (s : ℕ) (v : Visit) (o : Answer) → turns (by_desk v) ≡ true → pending_made w s v o ≡ []
  turn_makes s (raise size) o e = refl
  turn_makes s (close force) o e = refl
  turn_makes s (offer user len source must content) o e = absurd (false≢true e)
  turn_makes s (post image) o e = refl
  turn_makes s drain o e = refl
  turn_makes s (settle images) o e = refl

  -- nothing before a part that ends a generation
  pub none_made : (is : List Image) (ps : List Part) (outs : List Answer) (q : Part) → AreLaidOut ps → next_part is ps outs ≡ Some q
      → turns (by_desk q.act) ≡ true → pendings_made w ps outs ≡ []
  unfolding next_part
  none_made is [] outs q a e t = refl
  none_made is (p ∷ ps) [] q a e t = refl
  none_made is (p ∷ ps) (o ∷ outs) q (inl a) e t =
      ap (λ xs. xs ++ pendings_made w ps outs) (turn_makes p.seat p.act o a.0) ∙ none_made (is ++ images_in o) ps outs q a.1 e t
  none_made is (p ∷ ps) (o ∷ outs) q (inr a) e t = absurd (false≢true (sym (aside_turns q.act (next_aside is (p ∷ ps) (o ∷ outs) q a e)) ∙ t))

  pub made_of_none : (ps : List Part) → pendings_made w ps [] ≡ []
  made_of_none [] = refl
  made_of_none (p ∷ ps) = refl

  met_makes : (is : List Image) (s : ℕ) (v : Visit) (o : Answer) → pending_made w s v o ≡ pending_made w s (with_images is v) o
  met_makes is s (raise size) o = refl
  met_makes is s (close force) o = refl
  met_makes is s (offer user len source must content) o = refl
  met_makes is s (post image) o = refl
  met_makes is s drain o = refl
  met_makes is s (settle images) o = refl

  -- one visit more
  pub made_more : (is : List Image) (ps : List Part) (outs : List Answer) (o : Answer) (q : Part) → next_part is ps outs ≡ Some q
      → pendings_made w ps (outs ++ o ∷ []) ≡ pendings_made w ps outs ++ pending_made w q.seat q.act o
  unfolding next_part
  made_more is [] outs o q e = absurd cc
  made_more is (p ∷ ps) [] o q e =
      ap (λ xs. pending_made w p.seat p.act o ++ xs) (made_of_none ps) ∙ append-nil (pending_made w p.seat p.act o) ∙ met_makes is p.seat p.act o
      ∙ ap (λ (x : Part). pending_made w x.seat x.act o) (same_some _ _ e)
  made_more is (p ∷ ps) (x ∷ outs) o q e =
      ap (λ xs. pending_made w p.seat p.act x ++ xs) (made_more (is ++ images_in x) ps outs o q e)
      ∙ sym (append_assoc (pending_made w p.seat p.act x) (pendings_made w ps outs) (pending_made w q.seat q.act o))

-- by the generations of the pools alone
module _ (w x : World) (same : (s : ℕ) → (pool_at x s).generation ≡ (pool_at w s).generation) where
  one_alike : (s : ℕ) (v : Visit) (o : Answer) → pending_made x s v o ≡ pending_made w s v o
  one_alike s (offer user len source must content) (slice n) = ap (λ g. record { seat = s; generation = g; number = n; content = content } ∷ []) (same s)
  one_alike s (offer user len source must content) done = refl
  one_alike s (offer user len source must content) placed = refl
  one_alike s (offer user len source must content) gone = refl
  one_alike s (offer user len source must content) freed = refl
  one_alike s (offer user len source must content) (refused why) = refl
  one_alike s (offer user len source must content) (drained images) = refl
  one_alike s (offer user len source must content) (got number offset size dropped) = refl
  one_alike s (offer user len source must content) (bytes_of bytes) = refl
  one_alike s (raise size) o = refl
  one_alike s (close force) o = refl
  one_alike s (post image) o = refl
  one_alike s drain o = refl
  one_alike s (settle images) o = refl

  pub made_alike : (ps : List Part) (outs : List Answer) → pendings_made x ps outs ≡ pendings_made w ps outs
  made_alike [] outs = refl
  made_alike (p ∷ ps) [] = refl
  made_alike (p ∷ ps) (o ∷ outs) =
      ap (λ xs. xs ++ pendings_made x ps outs) (one_alike p.seat p.act o) ∙ ap (λ xs. pending_made w p.seat p.act o ++ xs) (made_alike ps outs)
