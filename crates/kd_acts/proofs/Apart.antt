-- Slots and slices under numbers of their own.
use Rattle.std.specs.Prelude.{◌≡◌, ◌<◌, filter, ◌==◌, Bool, true, false, cond, List, [], ◌∷◌, map, Some}
use Rattle.std.specs.List.{AllByRecursion, IsDistinct, find}
use Rattle.std.proofs.Common.{ap, arith, ◌∙◌}
use Rattle.std.proofs.lemmas.Bool.Decides.{nat_tests}
use Rattle.kd_model.proofs.Lists.{all_both, all_follow, all_of_filter, all_of_put, all_over, all_under, distinct_of_filter, distinct_of_put, distinct_over, distinct_under}
use Rattle.kd_model.specs.Slices as model
use Rattle.kd_model.specs.Words.{put_in_order}
use Rattle.kd_model.specs.declared.placed.Placed.{Placed}
use Rattle.kd_model.specs.declared.slice_no.TheConstants.{SLICES}
use Rattle.kd_acts.specs.Steps.{stands_lower}
use Rattle.kd_acts.specs.Lasting.{AreNumbered}
use Rattle.kd_acts.specs.State.{Pool, Slice, slot_numbered, is_reserved, placed_of, slots}
use Rattle.kd_acts.specs.declared.slot.Slot.{Slot}

-- slots of which no two have one number
abbrev pub AreApart : List Slot → Type 0
AreApart ss = IsDistinct (λ (a b : Slot). a.number == b.number) ss

abbrev pub slot_of : Slice → Slot
slot_of s = s.slot

-- slices of which no two have one number
abbrev pub LieApart : List Slice → Type 0
LieApart xs = IsDistinct (λ (a b : Slice). a.slot.number == b.slot.number) xs

-- a slice beside others: reserved, under a number of its own below 256
pub record IsNew (s : Slice) (xs : List Slice) : Type 0 where
  pub reserved : is_reserved s.slot ≡ true
  pub low : s.slot.number < SLICES
  pub free : AllByRecursion (λ (x : Slice). slot_numbered s.slot.number x.slot ≡ false) xs

-- slices under numbers of their own, below 256
pub record HaveNumbers (xs : List Slice) : Type 0 where
  pub apart : LieApart xs
  pub below : AllByRecursion (λ (x : Slice). x.slot.number < SLICES) xs

-- the numbers of a pool's slices, as its book has them, in its table and of its slices
pub slots_apart : (p : Pool) → AreNumbered (Some p) → AreApart (slots p)
slots_apart p d = distinct_under placed_of model.has_same_number (slots p) d.distinct

pub slots_below : (p : Pool) → AreNumbered (Some p) → AllByRecursion (λ (s : Slot). s.number < SLICES) (slots p)
slots_below p d = all_under (λ (s : Placed). s.number < SLICES) placed_of (slots p) d.below

pub slices_numbered : (p : Pool) → AreNumbered (Some p) → HaveNumbers p.slices
slices_numbered p d = record {
  apart = distinct_under slot_of (λ (a b : Slot). a.number == b.number) p.slices (slots_apart p d);
  below = all_under (λ (s : Slot). s.number < SLICES) slot_of p.slices (slots_below p d);
}

pub pool_numbered : (p : Pool) → HaveNumbers p.slices → AreNumbered (Some p)
pool_numbered p d = record {
  distinct = distinct_over placed_of model.has_same_number (slots p) (distinct_over slot_of (λ (a b : Slot). a.number == b.number) p.slices d.apart);
  below = all_over (λ (s : Placed). s.number < SLICES) placed_of (slots p) (all_over (λ (s : Slot). s.number < SLICES) slot_of p.slices d.below);
}

-- a change of slices that keeps their numbers keeps them apart
apart_of_map : (f : Slice → Slice) → ((x : Slice) → (f x).slot.number ≡ x.slot.number) → (xs : List Slice) → LieApart xs → LieApart (map f xs)
unfolding IsDistinct
apart_of_map f keeps [] d = tt
apart_of_map f keeps (x ∷ xs) d = (all_over _ f xs (all_follow _ _ xs (λ y e. same_numbers y e) d.0), apart_of_map f keeps xs d.1)
  where
    same_numbers : (y : Slice) → (x.slot.number == y.slot.number) ≡ false → ((f x).slot.number == (f y).slot.number) ≡ false
    same_numbers y e = ap (λ n. n == (f y).slot.number) (keeps x) ∙ ap (λ n. x.slot.number == n) (keeps y) ∙ e

pub numbered_of_map : (f : Slice → Slice) → ((x : Slice) → (f x).slot.number ≡ x.slot.number) → (xs : List Slice) → HaveNumbers xs → HaveNumbers (map f xs)
numbered_of_map f keeps xs d = record {
  apart = apart_of_map f keeps xs d.apart;
  below = all_over (λ (x : Slice). x.slot.number < SLICES) f xs (all_follow _ _ xs (λ (x : Slice) h. omega (arith, keeps x)) d.below);
}

-- slices stay numbered with fewer of them
pub numbered_of_filter : (p : Slice → Bool) (xs : List Slice) → HaveNumbers xs → HaveNumbers (filter p xs)
numbered_of_filter p xs d = record { apart = distinct_of_filter _ p xs d.apart; below = all_of_filter _ p xs d.below }

-- and with a new one
pub numbered_of_put : (s : Slice) (xs : List Slice) → IsNew s xs → HaveNumbers xs → HaveNumbers (put_in_order stands_lower s xs)
numbered_of_put s xs new d = record {
  apart = distinct_of_put _ stands_lower s xs (all_follow _ _ xs (λ (x : Slice) e. grind (arith, nat_tests)) new.free) new.free d.apart;
  below = all_of_put _ stands_lower s xs new.low d.below;
}

-- a slot of the table is the one that is found by its number
pub each_found : (ss : List Slot) → AreApart ss → AllByRecursion (λ (s : Slot). find (slot_numbered s.number) ss ≡ Some s) ss
unfolding IsDistinct
each_found [] d = tt
each_found (s ∷ ss) d =
    let here : slot_numbered s.number s ≡ true = grind (arith, nat_tests) in (
      ap (λ b. cond b (Some s) (find (slot_numbered s.number) ss)) here,
      all_both _ _ _ ss (λ (x : Slot) e f. ap (λ b. cond b (Some s) (find (slot_numbered x.number) ss)) e ∙ f) d.0 (each_found ss d.1),
    )
