-- Worked examples of the order of receives.
use Rattle.std.specs.Prelude.{◌≡◌, pos, negsuc, List, [], ◌∷◌, Some, None, option_map, refl}
use Rattle.kd_model.specs.Words.{but_those}
use Rattle.kd_queue.specs.declared.entry.Entry.{Entry}
use Rattle.kd_queue.specs.Order.{is_entry_of, next_entry, entry_number}

-- priorities 5, -1, -1, 5 in order of arrival
abbrev four : List Entry
four = record { number = 0; priority = pos 5 } ∷ record { number = 1; priority = negsuc 0 } ∷ record { number = 2; priority = negsuc 0 } ∷ record { number = 3; priority = pos 5 } ∷ []

least_priority_first : option_map entry_number (next_entry four (Some (pos 5))) ≡ Some 1
least_priority_first = refl

then_the_second_of_equals : option_map entry_number (next_entry (but_those (is_entry_of 1) four) (Some (pos 5))) ≡ Some 2
then_the_second_of_equals = refl

then_the_first_of_the_rest : option_map entry_number (next_entry (but_those (is_entry_of 2) (but_those (is_entry_of 1) four)) (Some (pos 5))) ≡ Some 0
then_the_first_of_the_rest = refl

none_within_a_low_limit : next_entry four (Some (negsuc 1)) ≡ None
none_within_a_low_limit = refl

without_a_limit_the_oldest : option_map entry_number (next_entry four None) ≡ Some 0
without_a_limit_the_oldest = refl
