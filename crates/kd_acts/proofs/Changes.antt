-- Changes of the slice of one number.
use Rattle.std.specs.Prelude.{◌≡◌, ℕ, Bool, true, false, refl}
use Rattle.std.proofs.Common.{ap}
use Rattle.kd_acts.specs.State.{Content, Slice, slot_numbered}
use Rattle.kd_acts.specs.Steps.{queued_slot, set_phase, with_content}
use Rattle.kd_acts.specs.declared.slot.Phase.{Phase}

-- a change of slices that is another one for those of a number, keeps their numbers, and leaves all
-- others
pub record IsOfOne (n : ℕ) (f change : Slice → Slice) : Type 0 where
  pub number : (x : Slice) → (f x).slot.number ≡ x.slot.number
  pub own : (x : Slice) → slot_numbered n x.slot ≡ true → f x ≡ change x
  pub others : (x : Slice) → slot_numbered n x.slot ≡ false → f x ≡ x

-- a slice in a phase
abbrev pub now_in : Phase → Slice → Slice
now_in phase x = record x { slot = record x.slot { phase = phase } }

-- a slice with a content, queued
abbrev pub now_with : Content → ℕ → Slice → Slice
now_with c arrival x = record { slot = queued_slot c.priority arrival x.slot; bytes = c.image; shared = c.shared }

-- one of two slices
abbrev chosen : Slice → Slice → Bool → Slice
chosen x y b = elim b [ true ↦ x | false ↦ y ]

chosen_number : (x y : Slice) (b : Bool) → x.slot.number ≡ y.slot.number → (chosen x y b).slot.number ≡ y.slot.number
chosen_number x y true e = e
chosen_number x y false e = refl

pub phase_is_of_one : (phase : Phase) (n : ℕ) → IsOfOne n (set_phase phase n) (now_in phase)
phase_is_of_one phase n = record {
  number = λ x. chosen_number (now_in phase x) x (slot_numbered n x.slot) refl;
  own = λ x e. ap (chosen (now_in phase x) x) e;
  others = λ x e. ap (chosen (now_in phase x) x) e;
}

pub content_is_of_one : (n : ℕ) (c : Content) (arrival : ℕ) → IsOfOne n (with_content n c arrival) (now_with c arrival)
content_is_of_one n c arrival = record {
  number = λ x. chosen_number (now_with c arrival x) x (slot_numbered n x.slot) refl;
  own = λ x e. ap (chosen (now_with c arrival x) x) e;
  others = λ x e. ap (chosen (now_with c arrival x) x) e;
}
