-- Whether a command has a frame, step by step.
use Rattle.std.proofs.lemmas.Bool.{le-leb, leb-true}
use Rattle.std.proofs.Common.{◌≡◌, ℕ, ◌+◌, ◌-◌, ◌*◌, ◌<◌, cond, Bool, true, false, List, [], ◌∷◌, ◌++◌, length, get_or, take, Some, None, Result, Ok, Err, refl, sym, ap, ◌∙◌, arith, length-append}
use Rattle.std.specs.Prelude.{not, ◌&&◌, ◌||◌, nat_le, nat_lt, is_none, IfOk}
use Rattle.std.specs.Str.{is_utf8}
use Rattle.kd_model.proofs.Truth.{and_true, both_true, none_is}
use Rattle.kd_model.specs.Words.{first_that_holds}
use Rattle.kd_item.specs.Spelling.{words, item_length}
use Rattle.kd_item.proofs.Words.{length-words}
use Rattle.kd_types.specs.declared.flags.NameFlags.{NameFlags}
use Rattle.kd_types.specs.declared.refusal.Refusal.TheVariants.{DoubledItem, MissingItem, BadFlags}
use Rattle.kd_wire.specs.declared.item.WireItem.{WireItem}
use Rattle.kd_wire.specs.declared.item.WireItem.TheVariants.{Name, Bus, Payload}
use Rattle.kd_wire.specs.declared.opcode.Opcode.TheVariants as opcodes
use Rattle.kd_wire.specs.declared.command.Command.{Command}
use Rattle.kd_wire.specs.declared.command.Command.TheVariants.{NameAcquire, NameRelease, MakeBus, Seal}
use Rattle.kd_wire.specs.Opcodes.{opcode_number, word_count}
use Rattle.kd_wire.specs.Items.{spelled, wire_length}
use Rattle.kd_wire.specs.Commands.{opcode_in, flags_of, command_words, items_of}
use Rattle.kd_wire.specs.Frames.{frame_of, frame_length}
use Rattle.kd_wire.specs.Refusals.{has_unknown_flag, has_bad_word, flaw_of, IsWellFormed}
use Rattle.kd_wire.specs.WellFormed.{is_well_formed}
use Rattle.kd_wire.proofs.Lengths.{spelled_so_far, length_alone}

too_long : (n : ℕ) → 131072 < n → None ≡ cond (nat_le n 131072) (Some n) None
too_long n long = grind arith

-- the items as far as one are longer than a frame
pub exceeds : (items : List WireItem) (i total size : ℕ) (item : WireItem) → i < length items → item ≡ get_or items i item → total ≡ length (spelled (take i items)) → size ≡ wire_length item → 131072 - total < size
    → None ≡ cond (nat_le (length (spelled items)) 131072) (Some (length (spelled items))) None
exceeds items i total size item lt is so_far size-is long = too_long (length (spelled items)) (omega (arith, spelled_so_far items i item lt is))

-- ---- commands with one item

one_text : (a b d : Bool) → (a && (b && true) && is_none (first_that_holds ((false, DoubledItem) ∷ (false || false, MissingItem) ∷ (d || false || false, BadFlags) ∷ []))) ≡ ((a && b) && not d)
one_text true true true = refl
one_text true true false = refl
one_text true false d = refl
one_text false b d = refl

one_bus : (a b d : Bool) → (a && (b && true) && is_none (first_that_holds ((false, DoubledItem) ∷ (false || false, MissingItem) ∷ (false || d || false, BadFlags) ∷ []))) ≡ ((a && b) && not d)
one_bus true true true = refl
one_bus true true false = refl
one_bus true false d = refl
one_bus false b d = refl

one_alone : (a b : Bool) → (a && (b && true) && true) ≡ (a && b)
one_alone true true = refl
one_alone true false = refl
one_alone false b = refl

pub acquires : (flags : NameFlags) (name : List ℕ) → is_well_formed (NameAcquire flags name) ≡ ((nat_le (32 + 8 * word_count opcodes.NameAcquire + item_length (length name)) 131072 && is_utf8 name) && not (has_unknown_flag opcodes.NameAcquire flags.0))
unfolding flaw_of
acquires flags name =
    ap (λ n. nat_le (32 + n) 131072 && (is_utf8 name && true) && is_none (flaw_of opcodes.NameAcquire flags.0 [] (Name name ∷ []))) (sym (length_alone (Name name) (length name) (omega arith)))
    ∙ one_text (nat_le (32 + item_length (length name)) 131072) (is_utf8 name) (nat_lt 7 flags.0)

pub releases : (name : List ℕ) → is_well_formed (NameRelease name) ≡ (nat_le (32 + 8 * word_count opcodes.NameRelease + item_length (length name)) 131072 && is_utf8 name)
unfolding flaw_of
releases name =
    ap (λ n. nat_le (32 + n) 131072 && (is_utf8 name && true) && true) (sym (length_alone (Name name) (length name) (omega arith)))
    ∙ one_alone (nat_le (32 + item_length (length name)) 131072) (is_utf8 name)

pub makes_bus : (size hashes : ℕ) (bus : List ℕ) → is_well_formed (MakeBus size hashes bus) ≡ ((nat_le (32 + 8 * word_count opcodes.MakeBus + item_length (length bus)) 131072 && is_utf8 bus) && not (has_bad_word opcodes.MakeBus 0 (size ∷ hashes ∷ [])))
unfolding flaw_of
makes_bus size hashes bus =
    ap (λ n. nat_le (48 + n) 131072 && (is_utf8 bus && true) && is_none (flaw_of opcodes.MakeBus 0 (size ∷ hashes ∷ []) (Bus bus ∷ []))) (sym (length_alone (Bus bus) (length bus) (omega arith)))
    ∙ one_bus (nat_le (48 + item_length (length bus)) 131072) (is_utf8 bus) (has_bad_word opcodes.MakeBus 0 (size ∷ hashes ∷ []))

pub seals : (payload : List ℕ) → is_well_formed (Seal payload) ≡ nat_le (32 + 8 * word_count opcodes.Seal + item_length (length payload)) 131072
unfolding flaw_of
seals payload =
    ap (λ n. nat_le (32 + n) 131072 && true && true) (sym (length_alone (Payload payload) (length payload) (omega arith)))
    ∙ one_alone (nat_le (32 + item_length (length payload)) 131072) true
    ∙ and_true (nat_le (32 + item_length (length payload)) 131072)

-- the tests of these commands, as they were made
abbrev pub IsShortText : ℕ → List ℕ → Bool → Type 0
IsShortText own text short = short ≡ (nat_le (32 + 8 * own + item_length (length text)) 131072 && is_utf8 text)

pub acquires_so : (flags : NameFlags) (name bytes : List ℕ) (flag_word : ℕ) (short unknown : Bool) → bytes ≡ name → IsShortText 0 bytes short → flag_word ≡ flags.0 → unknown ≡ has_unknown_flag opcodes.NameAcquire flag_word
    → is_well_formed (NameAcquire flags name) ≡ (short && not unknown)
acquires_so flags name bytes flag_word short unknown e s w u = acquires flags name ∙ rw (u, w, s, e) refl

pub releases_so : (name bytes : List ℕ) (short : Bool) → bytes ≡ name → IsShortText 0 bytes short → is_well_formed (NameRelease name) ≡ short
releases_so name bytes short e s = releases name ∙ rw (s, e) refl

pub makes_bus_so : (size hashes : ℕ) (bus bytes : List ℕ) (short bad : Bool) → bytes ≡ bus → IsShortText 2 bytes short → bad ≡ has_bad_word opcodes.MakeBus 0 (size ∷ hashes ∷ []) → is_well_formed (MakeBus size hashes bus) ≡ (short && not bad)
makes_bus_so size hashes bus bytes short bad e s u = makes_bus size hashes bus ∙ rw (u, s, e) refl

-- ---- the record of a well-formed command and its test

all_three : (a b d : Bool) → a ≡ true → b ≡ true → d ≡ true → (a && b && d) ≡ true
all_three a b d x y z = rw (x, y, z) refl

pub judged : (command : Command) → IsWellFormed command → is_well_formed command ≡ true
judged command w = all_three _ _ _ (le-leb _ _ w.size) w.items (ap is_none w.values)

pub formed : (command : Command) → is_well_formed command ≡ true → IsWellFormed command
formed command e =
    let all = both_true _ _ e in
    let form = both_true _ _ all.0 in
    record { size = leb-true _ _ form.0; items = form.1; values = none_is _ all.1 }

-- ---- the length of a frame

length_frame : (caller : ℕ) (command : Command) → length (frame_of caller command) ≡ frame_length command
length_frame caller command =
    let own = command_words command in
    let items = items_of command in
    let head : List ℕ = frame_length command ∷ opcode_number (opcode_in command) ∷ caller ∷ flags_of command ∷ [] in
    omega (arith, length-append (words head ++ words own) (spelled items), length-append (words head) (words own), length-words head, length-words own)

-- what is read of a frame has its length
pub length_read : (frame : List ℕ) (caller : ℕ) (command : Command) → frame ≡ frame_of caller command → frame_length command ≡ length frame
length_read frame caller command e = sym (ap length e ∙ length_frame caller command)

-- what follows of an answer that was given
pub of_answer : {T E : Type 0} {P Q : T → Type 0} (r : Result T E) → ((x : T) → P x → Q x) → IfOk r P → IfOk r Q
of_answer (Ok x) follows p = follows x p
of_answer (Err x) follows p = tt
