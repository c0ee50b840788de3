-- The commands of a load have their form.
use Rattle.std.proofs.Common.{◌≡◌, ◌≤◌, ℕ, ◌+◌, ◌*◌, true, false, get_or, List, [], ◌∷◌, length, length-append, refl, ap, sym, subst, ◌∙◌, arith}
use Rattle.std.specs.Prelude.{pos, IfOk, IsTrue, Result, Ok, Err}
use Rattle.byteorder.specs.Endian.{little_bytes}
use Rattle.kd_item.specs.Spelling.{item_length, spelling}
use Rattle.kd_image.specs.Images.{any}
use Rattle.kd_wire.specs.declared.command.Command.{Command}
use Rattle.kd_wire.specs.declared.command.Command.TheVariants as cmd
use Rattle.kd_wire.specs.declared.item.WireItem.TheVariants as item
use Rattle.kd_wire.specs.Items.{spelled, wire_entry}
use Rattle.kd_wire.specs.Refusals.{flaw_of}
use Rattle.kd_wire.specs.WellFormed.{is_well_formed}
use Rattle.kd_wire.proofs.Lengths.{length_item, length_one}
use Rattle.kd_load.specs.Bus.{AreFilters, IsTarget, command_of, command_to, hello_command, rule_command}
use Rattle.kd_load.specs.Counts.{digit_of}
use Rattle.kd_load.specs.declared.message.Message.{Message}
use Rattle.kd_load.specs.declared.message.Target.{Target}
use Rattle.kd_load.specs.declared.message.Target.TheVariants.{All, One}
use Rattle.kd_load.proofs.Ranges.{other_number}

pub hello_formed : is_well_formed hello_command ≡ true
unfolding flaw_of
hello_formed = refl

module _ (bits : List ℕ) (long : length bits ≡ 64) where
  mask_length : length (spelled (item.Mask bits ∷ [])) ≡ 80
  mask_length = length_one (item.Mask bits) ∙ ap (λ (n : ℕ). item_length (8 * 0 + n)) long

  pub rule_formed : is_well_formed (cmd.MatchAdd false 0 (item.Mask bits ∷ [])) ≡ true
  unfolding flaw_of
  rule_formed = rw mask_length refl

payload_length : (k : ℕ) → length (spelled (item.Payload (little_bytes 8 k) ∷ [])) ≡ 24
payload_length k = length_one (item.Payload (little_bytes 8 k))

filter_length : (bits : List ℕ) → length bits ≡ 64 → length (spelled (item.Filter 0 bits ∷ [])) ≡ 88
filter_length bits long = length_one (item.Filter 0 bits) ∙ ap (λ (n : ℕ). item_length (8 * 1 + n)) long

both_length : (k : ℕ) (bits : List ℕ) → length bits ≡ 64 → length (spelled (item.Payload (little_bytes 8 k) ∷ item.Filter 0 bits ∷ [])) ≡ 112
both_length k bits long =
    let one = length_item (item.Payload (little_bytes 8 k)) in
    let two = filter_length bits long in
    length-append (spelling (wire_entry (item.Payload (little_bytes 8 k)))) (spelled (item.Filter 0 bits ∷ [])) ∙ (λ t. one t + two t)

pub all_formed : (k : ℕ) (bits : List ℕ) → length bits ≡ 64
    → is_well_formed (cmd.Send (record { 0 = 0 }) (pos 0) any 0 0 0 0 (item.Payload (little_bytes 8 k) ∷ item.Filter 0 bits ∷ [])) ≡ true
unfolding flaw_of
all_formed k bits long = rw (both_length k bits long) refl

pub one_formed : (k id : ℕ) → 1 ≤ id → id ≤ 16 → is_well_formed (cmd.Send (record { 0 = 0 }) (pos 0) id 0 0 0 0 (item.Payload (little_bytes 8 k) ∷ [])) ≡ true
unfolding flaw_of
one_formed k id some few = rw (payload_length k, other_number id 0 (λ z. omega arith), other_number id any (λ z. omega arith)) refl

pub formed_by : {E : Type 0} (x : Command) (r : Result Command E) → is_well_formed x ≡ true → IfOk r (λ y. y ≡ x) → IfOk r (λ y. IsTrue (is_well_formed y))
formed_by x (Ok y) form is = subst (λ (z : Command). IsTrue (is_well_formed z)) (sym is) form
formed_by x (Err e) form is = tt

module _ (filters : List (List ℕ)) (are : AreFilters filters) where
  pub rule_of_formed : (id : ℕ) → is_well_formed (rule_command filters id) ≡ true
  rule_of_formed id = rule_formed (get_or filters (digit_of id) []) (are (digit_of id) (omega arith)).sized

  by_target : (k : ℕ) (t : Target) → IsTarget 16 t → is_well_formed (command_to filters (item.Payload (little_bytes 8 k)) t) ≡ true
  by_target k (All digit) small = all_formed k (get_or filters digit []) (are digit small).sized
  by_target k (One id) within = one_formed k id within.0 within.1

  pub sending_formed : (m : Message) → IsTarget 16 m.target → is_well_formed (command_of filters m) ≡ true
  sending_formed m target = by_target m.number m.target target
