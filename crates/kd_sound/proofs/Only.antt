-- Where something is placed in a pool that is sound then, it has the length of a slice.
use Rattle.std.specs.Prelude.{◌≡◌, ◌+◌, IfSome, ℕ, Bool, true, false, length, List, Option, Some, None, pos, refl}
use Rattle.std.proofs.Common.{subst, sym, ◌∙◌}
use Rattle.std.proofs.lemmas.Bool.{false≢true}
use Rattle.kd_model.proofs.Lists.{all_under}
use Rattle.kd_model.specs.Slices.{IsEven, IsSound, place, unused_number}
use Rattle.kd_types.specs.declared.refusal.Refusal.TheVariants.{Quota}
use Rattle.kd_acts.specs.Sound.{IsSoundPool}
use Rattle.kd_acts.specs.State.{Answer, Content, Pool, Slice, book_of, by_desk, close, drain, free, idle, offer, placed_of, post, publish, raise, read, receive, refused, settle, slice, slots}
use Rattle.kd_acts.specs.Steps.{closed_answer, drop_counted, fill_reserved, fill_step, filled, must_offer_step, offer_step, open_step, over_quota, pool_step, post_step, reserve_at, reserve_step, stands_lower, swept, visit_step, with_content, with_reserved}
use Rattle.kd_acts.proofs.Added.{new_slice}
use Rattle.kd_acts.proofs.Apart.{slot_of}
use Rattle.kd_acts.proofs.Cases.{acted_by}
use Rattle.kd_sound.specs.Lengths.{IsLength}
use Rattle.kd_sound.specs.Staying.{OnlyLengthsKeepPoolsSound, is_put}
use Rattle.kd_sound.proofs.Books.{LiesIn, behind, book_stays, of_put, under}
use Rattle.kd_sound.proofs.Steps.{content_stays}

abbrev is_slice : Answer → Bool
is_slice (slice n) = true
is_slice _ = false

-- a slice that is reserved in a sound book has the length of one
one : (n at len source : ℕ) (user : Option ℕ) (p : Pool) → IsSound (book_of (with_reserved n at len user source p)) → IsLength len
one n at len source user p s =
    let q : Pool = with_reserved n at len user source p in
    let x : Slice = new_slice n at len user source p in
    let lies = all_under (LiesIn 0 q.size) slot_of q.slices (behind 0 q.size (slots q) s.order) in
    let here : LiesIn 0 q.size x.slot = of_put (λ (y : Slice). LiesIn 0 q.size y.slot) stands_lower x p.slices lies in
    let even : IsEven (placed_of x.slot) = of_put (λ (y : Slice). IsEven (placed_of y.slot)) stands_lower x p.slices (under IsEven q.slices s.even) in
    (here.some, even.1)

reserves : (len source : ℕ) (user : Option ℕ) (p : Pool) → is_slice (reserve_step len user source p).1 ≡ true → IsSoundPool (reserve_step len user source p).0 → IsLength len
unfolding reserve_step
reserves len source user p e s = go (unused_number (book_of p)) (place (book_of p) len) e s
  where
    go : (n at : Option ℕ) → is_slice (reserve_at n at len user source p).1 ≡ true → IsSoundPool (reserve_at n at len user source p).0 → IsLength len
    go None at e s = absurd (false≢true e)
    go (Some n) None e s = absurd (false≢true e)
    go (Some n) (Some at) e s = one n at len source user p s.book

fills : (c : Content) (source : ℕ) (user : Option ℕ) (p : Pool) → is_slice (fill_step c user source p).1 ≡ true → IsSoundPool (fill_step c user source p).0 → IsLength (length c.image)
unfolding fill_step reserve_step filled
fills c source user p e s = go (unused_number (book_of p)) (place (book_of p) len) e s
  where
    len : ℕ
    len = length c.image

    go : (n at : Option ℕ) → is_slice (fill_reserved c (reserve_at n at len user source p)).1 ≡ true → IsSoundPool (fill_reserved c (reserve_at n at len user source p)).0 → IsLength len
    go None at e s = absurd (false≢true e)
    go (Some n) None e s = absurd (false≢true e)
    go (Some n) (Some at) e s =
        let q : Pool = with_reserved n at len user source p in
        one n at len source user p (subst IsSound (book_stays (with_content n c p.next_arrival) (content_stays n c p.next_arrival) q) s.book)

must_offers : (user len source : ℕ) (p : Pool) → is_slice (must_offer_step user len source p).1 ≡ true → IsSoundPool (must_offer_step user len source p).0 → IsLength len
unfolding must_offer_step
must_offers user len source p e s = go (over_quota q.size (slots q) user len) e s
  where
    q : Pool
    q = swept (record p { offered = p.offered + 1 })

    by_quota : Bool → Pool × Answer
    by_quota b = elim b as (λ b. Pool × Answer) [ true ↦ (q, refused Quota) | false ↦ reserve_step len (Some user) source q ]

    go : (b : Bool) → is_slice (by_quota b).1 ≡ true → IsSoundPool (by_quota b).0 → IsLength len
    go true e s = absurd (false≢true e)
    go false e s = reserves len source (Some user) q e s

counted : (must : Bool) (p : Pool) (a : Answer) → is_slice (drop_counted must (p, a)).1 ≡ true → IsSoundPool (drop_counted must (p, a)).0 → (is_slice a ≡ true) × IsSoundPool p
counted true p a e s = (e, s)
counted false p (refused why) e s = absurd (false≢true e)
counted false p a e s = (e, s)

offers : (user len source : ℕ) (must : Bool) (p : Pool) → is_slice (offer_step user len source must p).1 ≡ true → IsSoundPool (offer_step user len source must p).0 → IsLength len
unfolding offer_step
offers user len source must p e s =
    let t = counted must (must_offer_step user len source p).0 (must_offer_step user len source p).1 e s in
    must_offers user len source p t.0 t.1

-- ---- any act

put_by : (user len source : ℕ) (must : Bool) (c : Content) (a : Answer) → is_put (by_desk (offer user len source must c)) a ≡ is_slice a
put_by user len source must c (slice n) = refl
put_by user len source must c a = refl

posted_by : (image : List ℕ) (a : Answer) → is_put (by_desk (post image)) a ≡ is_slice a
posted_by image (slice n) = refl
posted_by image a = refl

of_offer : (g : ℕ) (o : Option Pool) (user len source : ℕ) (must : Bool) (c : Content)
    → (let s = acted_by g o (by_desk (offer user len source must c)) in is_put (by_desk (offer user len source must c)) s.1 ≡ true → IfSome s.0.pool IsSoundPool → IsLength len)
unfolding open_step visit_step closed_answer
of_offer g None user len source must c e s = absurd (false≢true e)
of_offer g (Some p) user len source must c e s = offers user len source must p (sym (put_by user len source must c (offer_step user len source must p).1) ∙ e) s

of_post : (g : ℕ) (o : Option Pool) (image : List ℕ)
    → (let s = acted_by g o (by_desk (post image)) in is_put (by_desk (post image)) s.1 ≡ true → IfSome s.0.pool IsSoundPool → IsLength (length image))
unfolding open_step visit_step closed_answer post_step
of_post g None image e s = absurd (false≢true e)
of_post g (Some p) image e s =
    fills (record { image = image; shared = None; priority = pos 0 }) 0 None (swept p) (sym (posted_by image (post_step image p).1) ∙ e) s

pub only_lengths_keep_pools_sound : OnlyLengthsKeepPoolsSound
unfolding pool_step
only_lengths_keep_pools_sound h (by_desk (raise size)) e s = s.book.eights
only_lengths_keep_pools_sound h (by_desk (close force)) e s = tt
only_lengths_keep_pools_sound h (by_desk (offer user len source must content)) e s = of_offer h.generation h.pool user len source must content e s
only_lengths_keep_pools_sound h (by_desk (post image)) e s = of_post h.generation h.pool image e s
only_lengths_keep_pools_sound h (by_desk drain) e s = tt
only_lengths_keep_pools_sound h (by_desk (settle images)) e s = absurd (false≢true e)
only_lengths_keep_pools_sound h (publish generation n c) e s = tt
only_lengths_keep_pools_sound h (receive mode) e s = tt
only_lengths_keep_pools_sound h (read n sealed) e s = tt
only_lengths_keep_pools_sound h (free n) e s = tt
only_lengths_keep_pools_sound h idle e s = tt
