-- What a command's frame says of it.
use Rattle.std.specs.Prelude.{ℕ, ◌%◌, ◌==◌, Bool, true, false, not, ◌&&◌, ◌||◌, List, [], ◌∷◌, IsTrue, is_none, nat_le, nat_lt}
use Rattle.std.proofs.Common.{◌≡◌, cond, rules, refl, sym, ap, ◌∙◌}
use Rattle.std.proofs.lemmas.Bool.{true≢false}
use Rattle.kd_types.specs.declared.flags.HelloFlags.{HelloFlags}
use Rattle.kd_types.specs.declared.refusal.Refusal.{Refusal}
use Rattle.std.specs.List.{list_any}
use Rattle.kd_types.specs.declared.refusal.Refusal.TheVariants.{DoubledItem, MissingItem, BadFlags}
use Rattle.kd_model.specs.Words.{first_that_holds}
use Rattle.kd_model.proofs.Truth.{left_false, not_false, right_false, right_true}
use Rattle.kd_wire.specs.Kinds.{has_holder_flag, kinds_of, single_kinds, needed_kinds}
use Rattle.kd_wire.specs.Reading.{stand}
use Rattle.kd_wire.specs.Frames.{frame_length}
use Rattle.kd_wire.specs.declared.item.WireItem.{WireItem}
use Rattle.kd_wire.specs.declared.opcode.Opcode.TheVariants.{Hello}
use Rattle.kd_wire.specs.declared.command.Command.{Command}
use Rattle.kd_wire.specs.declared.command.Command.TheVariants as cmd
use Rattle.kd_wire.specs.Commands.{opcode_in, flags_of, command_words, items_of}
use Rattle.kd_wire.specs.Refusals.{command_flaw, flaw_of, has_bad_word, is_pool_of, is_pool_size, is_two_kinds, has_unknown_flag, has_double, lacks_one, has_empty_group, is_bad_access}
use Rattle.kd_wire.specs.WellFormed.{is_well_formed}

third_doesnt_hold : (a b c : Bool) (x y z : Refusal) → IsTrue (is_none (first_that_holds ((a, x) ∷ (b, y) ∷ (c, z) ∷ []))) → c ≡ false
third_doesnt_hold true b c x y z h = absurd (true≢false (sym h))
third_doesnt_hold false true c x y z h = absurd (true≢false (sym h))
third_doesnt_hold false false true x y z h = absurd (true≢false (sym h))
third_doesnt_hold false false false x y z h = refl

-- no flag, word or access is outside its values
well_valued : (x : Command) → IsTrue (is_well_formed x) → has_unknown_flag (opcode_in x) (flags_of x) || has_bad_word (opcode_in x) (flags_of x) (command_words x) || list_any is_bad_access (items_of x) ≡ false
unfolding flaw_of
well_valued x h =
    let access : Bool = list_any is_bad_access (items_of x) in
    let none : IsTrue (is_none (command_flaw x)) = right_true (nat_le (frame_length x) 131072 && stand (kinds_of (opcode_in x) (flags_of x)) [] (items_of x)) (is_none (command_flaw x)) h in
    third_doesnt_hold (has_double (single_kinds (opcode_in x) (flags_of x)) (items_of x)) (lacks_one (needed_kinds (opcode_in x) (flags_of x) (command_words x)) (items_of x) || has_empty_group (kinds_of (opcode_in x) (flags_of x)) (items_of x))
    (has_unknown_flag (opcode_in x) (flags_of x) || has_bad_word (opcode_in x) (flags_of x) (command_words x) || access) DoubledItem MissingItem BadFlags none

-- each access has numbers of the kinds that it names
pub no_bad_access : (x : Command) (is : List WireItem) → items_of x ≡ is → IsTrue (is_well_formed x) → list_any is_bad_access is ≡ false
no_bad_access x is e h =
    sym (ap (list_any is_bad_access) e)
    ∙ right_false (has_unknown_flag (opcode_in x) (flags_of x) || has_bad_word (opcode_in x) (flags_of x) (command_words x)) (list_any is_bad_access (items_of x)) (well_valued x h)

whole : (holds : Bool) (pool : ℕ) → cond holds (pool == 0) (is_pool_size pool) ≡ true → pool % 8 ≡ 0
whole true pool h = let none : pool ≡ 0 = search (rules, h) in rw none refl
whole false pool h = search (rules, right_true (nat_le 256 pool && nat_le pool 1048576) (pool % 8 == 0) h)

no_bad_word : (flags pool send receive : ℕ) → has_bad_word Hello flags (pool ∷ send ∷ receive ∷ []) ≡ false → pool % 8 ≡ 0
no_bad_word flags pool send receive h =
    let two : Bool = is_two_kinds flags in
    let size : is_pool_of flags pool ≡ true = not_false (is_pool_of flags pool)
    (right_false two (not (is_pool_of flags pool)) (left_false (two || not (is_pool_of flags pool)) (nat_lt 15 send)
    (left_false (two || not (is_pool_of flags pool) || nat_lt 15 send) (nat_lt 15 receive) h))) in
    whole (has_holder_flag flags) pool size

well_worded : (x : Command) → IsTrue (is_well_formed x) → has_bad_word (opcode_in x) (flags_of x) (command_words x) ≡ false
well_worded x h =
    let unknown : Bool = has_unknown_flag (opcode_in x) (flags_of x) in
    let bad : Bool = has_bad_word (opcode_in x) (flags_of x) (command_words x) in
    right_false unknown bad (left_false (unknown || bad) (list_any is_bad_access (items_of x)) (well_valued x h))

-- the pool of a connection has whole words
pub has_whole_pool : (x : Command) (flags : HelloFlags) (pool send receive : ℕ) (is : List WireItem) → x ≡ cmd.Hello flags pool send receive is → IsTrue (is_well_formed x) → pool % 8 ≡ 0
has_whole_pool x flags pool send receive is e form = no_bad_word flags.0 pool send receive (well_worded (cmd.Hello flags pool send receive is) (sym (ap is_well_formed e) ∙ form))
