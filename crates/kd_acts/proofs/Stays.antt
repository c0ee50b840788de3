-- Each slice that isn't freed, and isn't let go, stands after any act as it was.
use Rattle.std.specs.Prelude.{◌≡◌, ◌==◌, ◌&&◌, ℕ, Bool, true, false, List, [], ◌∷◌, cond, map, not, Option, Some, None, filter, refl}
use Rattle.std.specs.List.{AllByRecursion, find}
use Rattle.std.proofs.Common.{ap, arith, inl, inr, subst, sym, ◌∙◌}
use Rattle.std.proofs.lemmas.Bool.{and_parts, false≢true, not_from_false}
use Rattle.std.proofs.lemmas.Bool.Decides.{nat_tests}
use Rattle.std.proofs.lemmas.Option.{same_Some}
use Rattle.kd_model.proofs.Lists.{all_both, all_follow, all_under}
use Rattle.kd_model.specs.Words.{AnyOf, least, put_in_order, some_of, those}
use Rattle.kd_types.specs.declared.refusal.Refusal.{Refusal}
use Rattle.kd_types.specs.declared.refusal.Refusal.TheVariants.{MessagesQueued}
use Rattle.kd_acts.specs.declared.receive.RecvMode.{RecvMode}
use Rattle.kd_acts.specs.declared.slot.Phase.{Phase}
use Rattle.kd_acts.specs.declared.slot.Phase.TheVariants.{Freed}
use Rattle.kd_acts.specs.declared.slot.Slot.{Slot}
use Rattle.kd_acts.specs.Lasting.{AreNumbered, IsPublished, IsSame, Lasts, SlicesLast, lets_go}
use Rattle.kd_acts.specs.State.{Act, Answer, Content, Image, Pool, Slice, by_desk, close, done, drain, free, slot_numbered, idle, is_freed, is_reserved, is_waiting, offer, post, publish, raise, read, receive, refused, settle, slots}
use Rattle.kd_acts.specs.Steps.{after, answer, drain_step, filled, free_refusal, is_awaited, is_reserved_for, next, of_lower_number, open_step, pool_step, receive_step, set_phase, stands_lower, visit_step, with_content, with_phase, without_handed}
use Rattle.kd_acts.proofs.Added.{IsKeptByAdding, offer_keeps, post_keeps, settle_keeps}
use Rattle.kd_acts.proofs.Apart.{each_found, slot_of, slots_apart}
use Rattle.kd_acts.proofs.Cases.{closed_by, drained_by, freed_by, hold, none_received_by, phase_by, published_by, received_by, taken_by}
use Rattle.kd_acts.proofs.Changes.{content_is_of_one, now_in, now_with}
use Rattle.kd_acts.proofs.Handed.{reserved_found}

-- ---- one of a list

any_follow : {X : Type 0} (P Q : X → Type 0) (xs : List X) → ((x : X) → P x → Q x) → AnyOf P xs → AnyOf Q xs
any_follow P Q [] f a = a
any_follow P Q (x ∷ xs) f (inl p) = inl (f x p)
any_follow P Q (x ∷ xs) f (inr a) = inr (any_follow P Q xs f a)

-- what is kept by a filter
pub any_of_filter : {X : Type 0} (P : X → Type 0) (keeps : X → Bool) (xs : List X) → ((x : X) → P x → keeps x ≡ true) → AnyOf P xs → AnyOf P (filter keeps xs)
any_of_filter P keeps [] f a = a
any_of_filter P keeps (x ∷ xs) f (inl p) = let kept = f x p in rw kept (inl p)
any_of_filter P keeps (x ∷ xs) f (inr a) =
    elim (keeps x) as (λ b. AnyOf P (cond b (x ∷ filter keeps xs) (filter keeps xs))) [
      | true ↦ inr (any_of_filter P keeps xs f a)
      | false ↦ any_of_filter P keeps xs f a
    ]

-- beside one more
any_of_put : {X : Type 0} (P : X → Type 0) (below : X → X → Bool) (x : X) (xs : List X) → AnyOf P xs → AnyOf P (put_in_order below x xs)
any_of_put P below x [] a = absurd a
any_of_put {X = X} P below x (y ∷ ys) (inl p) = go (below x y)
  where
    go : (b : Bool) → AnyOf P (elim b as (λ b. List X) [ true ↦ x ∷ y ∷ ys | false ↦ y ∷ put_in_order below x ys ])
    go true = inr (inl p)
    go false = inl p
any_of_put {X = X} P below x (y ∷ ys) (inr a) = go (below x y) (any_of_put P below x ys a)
  where
    go : (b : Bool) → AnyOf P (put_in_order below x ys) → AnyOf P (elim b as (λ b. List X) [ true ↦ x ∷ y ∷ ys | false ↦ y ∷ put_in_order below x ys ])
    go true later = inr (inr a)
    go false later = inr later

-- after a change
pub any_of_map : {X Y : Type 0} (P : X → Type 0) (Q : Y → Type 0) (f : X → Y) (xs : List X) → ((x : X) → P x → Q (f x)) → AnyOf P xs → AnyOf Q (map f xs)
any_of_map P Q f [] g a = a
any_of_map P Q f (x ∷ xs) g (inl p) = inl (g x p)
any_of_map P Q f (x ∷ xs) g (inr a) = inr (any_of_map P Q f xs g a)

-- with what holds of each
any_with : {X : Type 0} (P Q R : X → Type 0) (xs : List X) → ((x : X) → P x → Q x → R x) → AnyOf P xs → AllByRecursion Q xs → AnyOf R xs
any_with P Q R [] f a b = a
any_with P Q R (x ∷ xs) f (inl p) b = inl (f x p b.0)
any_with P Q R (x ∷ xs) f (inr a) b = inr (any_with P Q R xs f a b.1)

-- each of a list is one of it
each_is_one : {X : Type 0} (xs : List X) → AllByRecursion (λ x. AnyOf (λ y. y ≡ x) xs) xs
each_is_one [] = tt
each_is_one (x ∷ xs) = (inl refl, all_follow _ _ xs (λ y a. inr a) (each_is_one xs))

-- ---- what a pool knows of each of its slices

-- it is in the pool, and found by its number
pub record IsIn (p : Pool) (x : Slice) : Type 0 where
  pub there : AnyOf (λ (y : Slice). y ≡ x) p.slices
  pub found : find (slot_numbered x.slot.number) (slots p) ≡ Some x.slot

pub all_in : (p : Pool) → AreNumbered (Some p) → AllByRecursion (IsIn p) p.slices
all_in p d =
    let found = all_under (λ (s : Slot). find (slot_numbered s.number) (slots p) ≡ Some s) slot_of p.slices (each_found (slots p) (slots_apart p d)) in
    all_both _ _ (IsIn p) p.slices (λ x a f. record { there = a; found = f }) (each_is_one p.slices) found

same_slice : (x y : Slice) → y ≡ x → IsSame x y
same_slice x y e = record {
  number = ap (λ (s : Slice). s.slot.number) e;
  offset = ap (λ (s : Slice). s.slot.offset) e;
  len = ap (λ (s : Slice). s.slot.len) e;
  user = ap (λ (s : Slice). s.slot.user) e;
  source = ap (λ (s : Slice). s.slot.source) e;
  bytes = ap (λ (s : Slice). s.bytes) e;
  share = ap (λ (s : Slice). s.shared) e;
}

-- one of some slices is the slice itself, so one is the same
still : (x : Slice) (xs : List Slice) → AnyOf (λ (y : Slice). y ≡ x) xs → AnyOf (IsSame x) xs
still x xs a = any_follow _ (IsSame x) xs (λ y e. same_slice x y e) a

-- where all slices stay
stays : (p : Pool) (x : Slice) → IsIn p x → AnyOf (IsSame x) p.slices
stays p x i = still x p.slices i.there

-- where some go, and this one doesn't
stays_by_filter : (goes : Slot → Bool) (p : Pool) (x : Slice) → IsIn p x → goes x.slot ≡ false
    → AnyOf (IsSame x) (filter (λ (y : Slice). not (goes y.slot)) p.slices)
stays_by_filter goes p x i out =
    let kept : (y : Slice) → y ≡ x → not (goes y.slot) ≡ true = λ y e. not_from_false (goes y.slot) (ap (λ (s : Slice). goes s.slot) e ∙ out) in
    still x _ (any_of_filter (λ (y : Slice). y ≡ x) (λ (y : Slice). not (goes y.slot)) p.slices kept i.there)

-- where one comes into a phase
stays_by_phase : (phase : Phase) (n : ℕ) (p : Pool) (x : Slice) → IsIn p x → AnyOf (IsSame x) (with_phase phase n p).slices
stays_by_phase phase n p x i = any_of_map _ (IsSame x) (set_phase phase n) p.slices (λ y e. same_phase y (same_slice x y e) (slot_numbered n y.slot)) i.there
  where
    same_phase : (y : Slice) → IsSame x y → (b : Bool) → IsSame x (elim b as (λ b. Slice) [ true ↦ now_in phase y | false ↦ y ])
    same_phase y s true = record {
      number = s.number;
      offset = s.offset;
      len = s.len;
      user = s.user;
      source = s.source;
      bytes = s.bytes;
      share = s.share;
    }
    same_phase y s false = s

-- ---- what is put into a pool

pub there_kept_by_adding : (x : Slice) → is_freed x.slot ≡ false → IsKeptByAdding (λ xs. AnyOf (λ (y : Slice). y ≡ x) xs)
there_kept_by_adding x out = record {
  sweeping = λ xs a. any_of_filter _ _ xs (λ y e. not_from_false (is_freed y.slot) (ap (λ (s : Slice). is_freed s.slot) e ∙ out)) a;
  reserving = λ xs s new a. any_of_put _ stands_lower s xs a;
  filling = λ xs s c arrival new a.
      let Other : Slice → Type 0 = λ (y : Slice). (y ≡ x) × (slot_numbered s.slot.number y.slot ≡ false) in
      any_of_map Other (λ (y : Slice). y ≡ x) (with_content s.slot.number c arrival) (put_in_order stands_lower s xs)
      (λ y h. (content_is_of_one s.slot.number c arrival).others y h.1 ∙ h.0)
      (any_of_put Other stands_lower s xs (any_with _ _ Other xs (λ y e f. (e, f)) a new.free));
}

-- ---- act by act

drain_leaves : (p : Pool) (x : Slice) → IsIn p x → lets_go (by_desk drain) (drain_step p).1 x.slot ≡ false → AnyOf (IsSame x) (drain_step p).0.slices
unfolding drain_step
drain_leaves p x i stay = go (least of_lower_number (those is_reserved (slots p))) stay
  where
    go : (o : Option Slot)
        → (let s = drained_by p o in lets_go (by_desk drain) s.1 x.slot ≡ false → AnyOf (IsSame x) s.0.slices)
    go None out = stays_by_filter is_waiting p x i out
    go (Some s) out = stays p x i

receive_leaves : (mode : RecvMode) (p : Pool) (x : Slice) → IsIn p x → lets_go (receive mode) (receive_step mode p).1 x.slot ≡ false
    → AnyOf (IsSame x) (receive_step mode p).0.slices
unfolding receive_step
receive_leaves mode p x i stay = go (next (slots p) mode.limit) stay
  where
    none : (b : Bool) → AnyOf (IsSame x) (none_received_by p b).0.slices
    none true = stays p x i
    none false = stays p x i

    taken : (drops : Bool) (n : ℕ) → (drops && slot_numbered n x.slot) ≡ false → AnyOf (IsSame x) (taken_by drops mode.peek n p).slices
    taken true n out = stays_by_filter (slot_numbered n) p x i out
    taken false n out = stays_by_phase (phase_by mode.peek) n p x i

    go : (o : Option Slot)
        → (let s = received_by mode p o in lets_go (receive mode) s.1 x.slot ≡ false → AnyOf (IsSame x) s.0.slices)
    go (Some s) out = taken mode.drop_it s.number out
    go None out = none (some_of is_waiting (slots p))

free_leaves : (n : ℕ) (p : Pool) (x : Slice) → IsIn p x → AnyOf (IsSame x) (without_handed n p).slices
free_leaves n p x i = go (free_refusal n (slots p))
  where
    go : (o : Option Refusal) → AnyOf (IsSame x) (freed_by n p o).slices
    go None = stays_by_phase Freed n p x i
    go (Some why) = stays p x i

-- what a publishing of a number makes of a slice
abbrev LastsPublished : ℕ → Content → Slice → Slice → Type 0
LastsPublished n c old new = elim (slot_numbered n old.slot) [ true ↦ IsPublished c old new | false ↦ IsSame old new ]

fill_leaves : (n : ℕ) (c : Content) (p : Pool) (x : Slice) → IsIn p x → is_reserved_for n c p ≡ true → AnyOf (LastsPublished n c x) (filled n c p).slices
unfolding filled
fill_leaves n c p x i h = any_of_map _ (LastsPublished n c x) fill p.slices (λ y e. rw e (go (slot_numbered n x.slot) refl)) i.there
  where
    fill : Slice → Slice
    fill = with_content n c p.next_arrival

    was_reserved : slot_numbered n x.slot ≡ true → is_reserved x.slot ≡ true
    was_reserved e =
        let t = reserved_found n c p h in
        let same : x.slot.number ≡ n = grind (arith, nat_tests) in
        let it : t.0 ≡ x.slot = same_Some t.0 x.slot (sym t.1.found ∙ ap (λ k. find (slot_numbered k) (slots p)) (sym same) ∙ i.found) in
        ap is_reserved (sym it) ∙ t.1.reserved

    go : (b : Bool) → slot_numbered n x.slot ≡ b → (elim b as (λ b. Type 0) [ true ↦ IsPublished c x (fill x) | false ↦ IsSame x (fill x) ])
    go true e =
        let now : fill x ≡ now_with c p.next_arrival x = (content_is_of_one n c p.next_arrival).own x e in
        record {
          reserved = was_reserved e;
          number = ap (λ (s : Slice). s.slot.number) now;
          offset = ap (λ (s : Slice). s.slot.offset) now;
          len = ap (λ (s : Slice). s.slot.len) now;
          user = ap (λ (s : Slice). s.slot.user) now;
          source = ap (λ (s : Slice). s.slot.source) now;
          bytes = ap (λ (s : Slice). s.bytes) now;
          share = ap (λ (s : Slice). s.shared) now;
        }
    go false e = same_slice x (fill x) ((content_is_of_one n c p.next_arrival).others x e)

publish_leaves : (generation n : ℕ) (c : Content) (p : Pool) (own : Bool) (x : Slice) → IsIn p x
    → (let s = published_by n c p (own && is_reserved_for n c p) in AnyOf (Lasts (publish generation n c) s.1 x) s.0.slices)
publish_leaves generation n c p own x i = go (own && is_reserved_for n c p) refl
  where
    go : (b : Bool) → (own && is_reserved_for n c p) ≡ b
        → (let s = published_by n c p b in AnyOf (Lasts (publish generation n c) s.1 x) s.0.slices)
    go true e = fill_leaves n c p x i (and_parts own (is_reserved_for n c p) e).1
    go false e = stays p x i

-- ---- any act

-- a slice that isn't freed, and isn't let go, stands in a pool after an act that was answered so
abbrev StandsIn : Act → Answer → Pool → Slice → Type 0
StandsIn a told q x = is_freed x.slot ≡ false → lets_go a told x.slot ≡ false → AnyOf (Lasts a told x) q.slices

abbrev AllStand : Act → ℕ → Pool → Type 0
AllStand a g p = (x : Slice) → IsIn p x → StandsIn a (open_step g p a).1 (open_step g p a).0 x

offer_stands : (g user len source : ℕ) (must : Bool) (c : Content) (p : Pool) → AllStand (by_desk (offer user len source must c)) g p
unfolding open_step visit_step
offer_stands g user len source must c p x i out stay = still x _ (offer_keeps _ (there_kept_by_adding x out) user len source must p i.there)

post_stands : (g : ℕ) (image : List ℕ) (p : Pool) → AllStand (by_desk (post image)) g p
unfolding open_step visit_step
post_stands g image p x i out stay = still x _ (post_keeps _ (there_kept_by_adding x out) image p i.there)

settle_stands : (g : ℕ) (images : List Image) (p : Pool) → AllStand (by_desk (settle images)) g p
unfolding open_step visit_step
settle_stands g images p x i out stay = still x _ (settle_keeps _ (there_kept_by_adding x out) images p i.there)

drain_stands : (g : ℕ) (p : Pool) → AllStand (by_desk drain) g p
unfolding open_step visit_step
drain_stands g p x i out stay = drain_leaves p x i stay

publish_stands : (g generation n : ℕ) (c : Content) (p : Pool) → AllStand (publish generation n c) g p
unfolding open_step
publish_stands g generation n c p x i out stay = publish_leaves generation n c p (generation == g) x i

receive_stands : (g : ℕ) (mode : RecvMode) (p : Pool) → AllStand (receive mode) g p
unfolding open_step
receive_stands g mode p x i out stay = receive_leaves mode p x i stay

read_stands : (g n : ℕ) (sealed : Bool) (p : Pool) → AllStand (read n sealed) g p
unfolding open_step
read_stands g n sealed p x i out stay = stays p x i

free_stands : (g n : ℕ) (p : Pool) → AllStand (free n) g p
unfolding open_step
free_stands g n p x i out stay = free_leaves n p x i

idle_stands : (g : ℕ) (p : Pool) → AllStand idle g p
unfolding open_step
idle_stands g p x i out stay = stays p x i

-- what is said of the pool after an act, of a hold by its parts
abbrev StandsAfter : Act → ℕ → Option Pool → Pool → Pool → Type 0
StandsAfter a g o p q = (after (hold g o) a).pool ≡ Some q → AreNumbered o → AllByRecursion (StandsIn a (answer (hold g o) a) q) p.slices

stands_after : (a : Act) (g : ℕ) (p q : Pool) → AllStand a g p
    → Some (open_step g p a).0 ≡ Some q → AreNumbered (Some p) → AllByRecursion (StandsIn a (open_step g p a).1 q) p.slices
stands_after a g p q all e d =
    all_follow (IsIn p) (StandsIn a (open_step g p a).1 q) p.slices
    (λ x i out stay. subst (λ (r : Pool). AnyOf (Lasts a (open_step g p a).1 x) r.slices) (same_Some _ q e) (all x i out stay)) (all_in p d)

close_after : (g : ℕ) (force awaited : Bool) (p q : Pool)
    → (let s = closed_by (hold g (Some p)) (not force && awaited) in s.0.pool ≡ Some q → AreNumbered (Some p)
    → AllByRecursion (StandsIn (by_desk (close force)) s.1 q) p.slices)
close_after g true awaited p q e d = absurd cc
close_after g false false p q e d = absurd cc
close_after g false true p q e d =
    all_follow (IsIn p) (StandsIn (by_desk (close false)) (refused MessagesQueued) q) p.slices
    (λ x i out stay. subst (λ (r : Pool). AnyOf (IsSame x) r.slices) (same_Some p q e) (stays p x i)) (all_in p d)

raise_after : (size : ℕ) (told : Answer) (q : Pool) (xs : List Slice) → AllByRecursion (StandsIn (by_desk (raise size)) told q) xs
raise_after size told q [] = tt
raise_after size told q (x ∷ xs) = (λ out stay. absurd (false≢true (sym stay)), raise_after size told q xs)

open_lasts : (a : Act) (g : ℕ) (p q : Pool) → StandsAfter a g (Some p) p q
unfolding pool_step
open_lasts (by_desk (raise size)) g p q e d = raise_after size done q p.slices
open_lasts (by_desk (close force)) g p q e d = close_after g force (is_awaited (hold g (Some p))) p q e d
open_lasts (by_desk (offer user len source must c)) g p q e d =
    stands_after (by_desk (offer user len source must c)) g p q (offer_stands g user len source must c p) e d
open_lasts (by_desk (post image)) g p q e d = stands_after (by_desk (post image)) g p q (post_stands g image p) e d
open_lasts (by_desk drain) g p q e d = stands_after (by_desk drain) g p q (drain_stands g p) e d
open_lasts (by_desk (settle images)) g p q e d = stands_after (by_desk (settle images)) g p q (settle_stands g images p) e d
open_lasts (publish generation n c) g p q e d = stands_after (publish generation n c) g p q (publish_stands g generation n c p) e d
open_lasts (receive mode) g p q e d = stands_after (receive mode) g p q (receive_stands g mode p) e d
open_lasts (read n sealed) g p q e d = stands_after (read n sealed) g p q (read_stands g n sealed p) e d
open_lasts (free n) g p q e d = stands_after (free n) g p q (free_stands g n p) e d
open_lasts idle g p q e d = stands_after idle g p q (idle_stands g p) e d

-- each slice that isn't freed, and isn't let go, stands after any act as it was
pub slices_last : SlicesLast
slices_last h a p q was e d = subst (λ (o : Option Pool). StandsAfter a h.generation o p q) (sym was) (open_lasts a h.generation p q) e d
