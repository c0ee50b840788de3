-- What visits take out of a sound pool can settle in any.
use Rattle.std.specs.Prelude.{◌≡◌, ◌+◌, ◌&&◌, ◌++◌, ℕ, Bool, true, false, not, length, List, [], ◌∷◌, Option, Some, None, refl}
use Rattle.std.specs.List.{AllByRecursion}
use Rattle.std.proofs.Common.{subst}
use Rattle.kd_model.proofs.Lists.{all_of_append}
use Rattle.kd_model.proofs.Truth.{no_some, same_some}
use Rattle.kd_model.specs.Slices.{place, unused_number}
use Rattle.kd_types.specs.declared.refusal.Refusal.TheVariants.{Quota}
use Rattle.kd_acts.specs.State.{Answer, Content, Hold, Image, Pool, Visit, book_of, by_desk, close, drain, drained, offer, post, raise, refused, settle, slots}
use Rattle.kd_acts.specs.Steps.{answer, closed_answer, drop_counted, fill_reserved, fill_step, is_awaited, must_offer_step, offer_step, open_step, over_quota, pool_step, post_step, reserve_at, reserve_step, swept, visit_step}
use Rattle.kd_acts.proofs.Cases.{acted_by, closed_by}
use Rattle.kd_sound.specs.Lengths.{HasLengths, HaveLengths, IsLength}
use Rattle.kd_sound.specs.Staying.{IsSoundHold}
use Rattle.kd_sound.proofs.Lists.{drained_have_lengths}
use Rattle.kd_commands.specs.Plans.{Part}
use Rattle.kd_commands.specs.Visits.{images_in, next_part, with_images}
use Rattle.kd_lengths.specs.Plans.{PartsHaveLengths}

-- what it carries, if anything, can settle
abbrev pub Carries : Answer → Type 0
Carries a = HaveLengths (images_in a)

reserved : (n at : Option ℕ) (len source : ℕ) (user : Option ℕ) (p : Pool) → Carries (reserve_at n at len user source p).1
reserved None at len source user p = tt
reserved (Some n) None len source user p = tt
reserved (Some n) (Some at) len source user p = tt

filled : (n at : Option ℕ) (c : Content) (len source : ℕ) (user : Option ℕ) (p : Pool) → Carries (fill_reserved c (reserve_at n at len user source p)).1
filled None at c len source user p = tt
filled (Some n) None c len source user p = tt
filled (Some n) (Some at) c len source user p = tt

counted : (must : Bool) (p : Pool) (a : Answer) → Carries a → Carries (drop_counted must (p, a)).1
counted true p a t = t
counted false p (refused why) t = tt
counted false p a t = t

offered : (user len source : ℕ) (must : Bool) (p : Pool) → Carries (offer_step user len source must p).1
unfolding offer_step must_offer_step reserve_step
offered user len source must p =
    let s = must_offer_step user len source p in counted must s.0 s.1 (go (over_quota q.size (slots q) user len))
  where
    q : Pool
    q = swept (record p { offered = p.offered + 1 })

    go : (b : Bool) → Carries (elim b as (λ b. Pool × Answer) [ true ↦ (q, refused Quota) | false ↦ reserve_step len (Some user) source q ]).1
    go true = tt
    go false = reserved (unused_number (book_of q)) (place (book_of q) len) len source (Some user) q

posted : (image : List ℕ) (p : Pool) → Carries (post_step image p).1
unfolding post_step fill_step reserve_step
posted image p = filled _ _ _ _ _ None (swept p)

by_drain : (h : Hold) → IsSoundHold h → (a : Answer) → answer h (by_desk drain) ≡ a → Carries a
by_drain h s (drained images) e = drained_have_lengths h images s e
by_drain h s a e = tt

closed : (h : Hold) (b : Bool) → Carries (closed_by h b).1
closed h true = tt
closed h false = tt

by_offer : (g : ℕ) (o : Option Pool) (user len source : ℕ) (must : Bool) (c : Content) → Carries (acted_by g o (by_desk (offer user len source must c))).1
unfolding open_step visit_step closed_answer
by_offer g None user len source must c = tt
by_offer g (Some p) user len source must c = offered user len source must p

by_post : (g : ℕ) (o : Option Pool) (image : List ℕ) → Carries (acted_by g o (by_desk (post image))).1
unfolding open_step visit_step closed_answer
by_post g None image = tt
by_post g (Some p) image = posted image p

by_settle : (g : ℕ) (o : Option Pool) (images : List Image) → Carries (acted_by g o (by_desk (settle images))).1
unfolding open_step visit_step closed_answer
by_settle g None images = tt
by_settle g (Some p) images = tt

pub visit_carries : (h : Hold) (v : Visit) → IsSoundHold h → Carries (answer h (by_desk v))
unfolding pool_step
visit_carries h (raise size) s = tt
visit_carries h (close force) s = closed h (not force && is_awaited h)
visit_carries h (offer user len source must c) s = by_offer h.generation h.pool user len source must c
visit_carries h (post image) s = by_post h.generation h.pool image
visit_carries h drain s = by_drain h s (answer h (by_desk drain)) refl
visit_carries h (settle images) s = by_settle h.generation h.pool images

-- ---- the part that is visited next

met_fits : (is : List Image) (v : Visit) → HaveLengths is → HasLengths (by_desk v) → HasLengths (by_desk (with_images is v))
met_fits is (raise size) carried f = f
met_fits is (close force) carried f = f
met_fits is (offer user len source must c) carried f = f
met_fits is (post image) carried f = f
met_fits is drain carried f = f
met_fits is (settle old) carried f = carried

pub next_fits : (is : List Image) (ps : List Part) (outs : List Answer) (q : Part) → HaveLengths is → PartsHaveLengths ps → AllByRecursion Carries outs → next_part is ps outs ≡ Some q → HasLengths (by_desk q.act)
unfolding next_part
next_fits is [] outs q carried f outs_carry e = absurd (no_some e)
next_fits is (p ∷ ps) [] q carried f outs_carry e = subst (λ (r : Part). HasLengths (by_desk r.act)) (same_some _ q e) (met_fits is p.act carried f.0)
next_fits is (p ∷ ps) (o ∷ outs) q carried f outs_carry e =
    next_fits (is ++ images_in o) ps outs q (all_of_append (λ (i : Image). IsLength (length i.content.image)) is (images_in o) carried outs_carry.0) f.1 outs_carry.1 e
