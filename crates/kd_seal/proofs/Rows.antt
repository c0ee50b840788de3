-- Worked examples of seals.
use Rattle.std.specs.Prelude.{◌≡◌, [], ◌∷◌, Some, None, refl}
use Rattle.std.specs.declared.result.Result.TheVariants.{Ok, Err}
use Rattle.kd_types.specs.declared.refusal.Refusal.TheVariants.{NoSuchSeal, TooLong}
use Rattle.kd_seal.specs.Book.{SealBook, no_seals, seal_answer, shared, unseal_answer, unsealed, with_seal}

-- connection 1 has sealed the bytes of `sealed`
abbrev one_seal : SealBook
one_seal = with_seal no_seals 1 (115 ∷ 101 ∷ 97 ∷ 108 ∷ 101 ∷ 100 ∷ [])

numbers_count_from_one : seal_answer no_seals 1 6 ≡ Ok 1
numbers_count_from_one = refl

each_connection_counts_for_itself : seal_answer one_seal 2 6 ≡ Ok 1
each_connection_counts_for_itself = refl

a_number_is_not_used_again : seal_answer (unsealed one_seal 1 1) 1 6 ≡ Ok 2
a_number_is_not_used_again = refl

the_whole_is_shared : shared one_seal 1 1 0 6 ≡ Some (115 ∷ 101 ∷ 97 ∷ 108 ∷ 101 ∷ 100 ∷ [])
the_whole_is_shared = refl

a_part_is_shared : shared one_seal 1 1 2 3 ≡ Some (97 ∷ 108 ∷ 101 ∷ [])
a_part_is_shared = refl

an_empty_range_at_the_end_is_inside : shared one_seal 1 1 6 0 ≡ Some []
an_empty_range_at_the_end_is_inside = refl

a_range_past_the_end_is_outside : shared one_seal 1 1 6 1 ≡ None
a_range_past_the_end_is_outside = refl

another_connection_has_no_such_seal : shared one_seal 2 1 0 6 ≡ None
another_connection_has_no_such_seal = refl

what_is_unsealed_is_gone : unseal_answer (unsealed one_seal 1 1) 1 1 ≡ Err NoSuchSeal
what_is_unsealed_is_gone = refl

too_long_by_one_byte : seal_answer one_seal 1 65537 ≡ Err TooLong
too_long_by_one_byte = refl
