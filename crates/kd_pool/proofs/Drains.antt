-- What a drain takes, in the order of its arrival, and how it settles.
use Rattle.std.specs.Prelude.{◌≡◌, ◌<◌, ◌≤◌, ◌+◌, ℕ, Bool, true, false, List, [], ◌∷◌, cond, drop, length, map, Option, Some, None, refl, set}
use Rattle.std.specs.List.{AllByRecursion}
use Rattle.std.proofs.lemmas.List.{length-map}
use Rattle.std.proofs.Common.{ap, arith, get_or, suc, sym, zero, ◌∙◌}
use Rattle.kd_model.proofs.Lists.{map_of_filter, map_of_put, rest_at}
use Rattle.kd_model.specs.Words.{in_order, least, put_in_order, those}
use Rattle.kd_types.specs.declared.refusal.Refusal.TheVariants.{Busy}
use Rattle.kd_acts.specs.State.{Answer, Pool, Slice, drained, is_earlier, is_reserved, is_waiting, refused, slots, waiting_slots}
use Rattle.kd_acts.specs.Steps.{arrived_earlier, drain_step, image_of, of_lower_number, settled, waiting_images, without_waiting}
use Rattle.kd_pool.specs.Sealed.{Shares, share_at}
use Rattle.kd_pool.specs.Table.{carried, image_with, slice_shown}
use Rattle.kd_pool.proofs.Sharing.{carried_behind}
use Rattle.kd_acts.proofs.Apart.{AreApart}
use Rattle.kd_acts.specs.declared.slot.Slot.{Slot}

-- what holds of each holds of those from a place on, and of the one there
all_of_drop : (P : Slot → Type 0) (i : ℕ) (ss : List Slot) → AllByRecursion P ss → AllByRecursion P (drop i ss)
all_of_drop P zero ss a = a
all_of_drop P (suc i) [] a = tt
all_of_drop P (suc i) (s ∷ ss) a = all_of_drop P i ss a.1

pub all_at : (P : Slot → Type 0) (ss : List Slot) (i : ℕ) (s : Slot) → i < length ss → s ≡ get_or ss i s → AllByRecursion P ss → P s
all_at P ss i s h e a = (rw (rest_at ss i s h e) at (all_of_drop P i ss a)).0

-- an insert adds one
length_put : (below : Slot → Slot → Bool) (s : Slot) (ss : List Slot) → length (put_in_order below s ss) ≡ length ss + 1
length_put below s [] = refl
length_put below s (t ∷ ts) = go (below s t) (length_put below s ts)
  where
    go : (b : Bool) → length (put_in_order below s ts) ≡ length ts + 1 → length {A = Slot} (elim b [ true ↦ s ∷ t ∷ ts | false ↦ t ∷ put_in_order below s ts ]) ≡ length (t ∷ ts) + 1
    go true e = omega arith
    go false e = omega (arith, e)

-- as many messages as slots
pub few_carried : (memory : List ℕ) (shares : Shares) (ss : List Slot) (n : ℕ) → length ss ≤ n → length (map (carried memory shares) ss) ≤ n
few_carried memory shares ss n le = omega (arith, length-map ss (carried memory shares), le)

-- at most as many wait as there are
pub few_arrive : (ss : List Slot) → length (waiting_slots ss) ≤ length ss
few_arrive [] = omega arith
few_arrive (s ∷ ss) = go (is_waiting s) (few_arrive ss)
  where
    go : (b : Bool) → length (waiting_slots ss) ≤ length ss → length (in_order is_earlier (cond b (s ∷ those is_waiting ss) (those is_waiting ss))) ≤ length (s ∷ ss)
    go true h = omega (arith, h, length_put is_earlier s (waiting_slots ss))
    go false h = omega (arith, h)

map_in_order : (m : List ℕ) (h : Shares) (ss : List Slot) → map (slice_shown m h) (in_order is_earlier ss) ≡ in_order arrived_earlier (map (slice_shown m h) ss)
map_in_order m h [] = refl
map_in_order m h (s ∷ ss) = map_of_put (slice_shown m h) is_earlier arrived_earlier (λ a b. refl) s (in_order is_earlier ss) ∙ ap (put_in_order arrived_earlier (slice_shown m h s)) (map_in_order m h ss)

map_twice : (m : List ℕ) (h : Shares) (ss : List Slot) → map (carried m h) ss ≡ map image_of (map (slice_shown m h) ss)
map_twice m h [] = refl
map_twice m h (s ∷ ss) = ap (λ xs. carried m h s ∷ xs) (map_twice m h ss)

-- the messages that wait in a pool, by its table
pub images_shown : (m : List ℕ) (h : Shares) (ss : List Slot) (p : Pool) → p.slices ≡ map (slice_shown m h) ss → map (carried m h) (waiting_slots ss) ≡ waiting_images p
images_shown m h ss p e =
    map_twice m h (waiting_slots ss)
    ∙ ap (map image_of) (map_in_order m h (those is_waiting ss) ∙ ap (in_order arrived_earlier) (map_of_filter (slice_shown m h) is_waiting (λ (s : Slice). is_waiting s.slot) (λ s. refl) ss))
    ∙ ap (λ xs. map image_of (in_order arrived_earlier (those (λ (s : Slice). is_waiting s.slot) xs))) (sym e)

-- by the lowest reserved number, if any
pub drains : (p : Pool) (ss : List Slot) (o : Option Slot) → slots p ≡ ss → least of_lower_number (those is_reserved ss) ≡ o → drain_step p ≡ elim o [ Some s ↦ (p, refused (Busy s.number)) | None ↦ (without_waiting p, drained (waiting_images p)) ]
unfolding drain_step
drains p ss o e f = ap told (ap (λ xs. least of_lower_number (those is_reserved xs)) e ∙ f)
  where
    told : Option Slot → Pool × Answer
    told o = elim o [ Some s ↦ (p, refused (Busy s.number)) | None ↦ (without_waiting p, drained (waiting_images p)) ]

-- nothing is seen of an empty table alone
pub none_seen : (m : List ℕ) (h : Shares) (ss : List Slot) → map (carried m h) ss ≡ [] → ss ≡ []
none_seen m h [] e = refl
none_seen m h (s ∷ ss) e = cc

-- one more message settles, with its share
pub settles_on : (m : List ℕ) (h left : Shares) (rows : List Slot) (i : ℕ) (s : Slot) (p after : Pool) → i < length rows → s ≡ get_or rows i s → AreApart rows → left ≡ set h s.number None → after ≡ settled (image_with m (share_at h s.number) s ∷ []) p
    → settled (map (carried m left) (drop (i + 1) rows)) after ≡ settled (map (carried m h) (drop i rows)) p
settles_on m h left rows i s p after low e d taken f =
    ap (λ xs. settled xs after) (carried_behind m h left rows i s low e d taken)
    ∙ ap (settled (map (carried m h) (drop (i + 1) rows))) f ∙ ap (λ xs. settled (map (carried m h) xs) p) (sym (rest_at rows i s low e))
