-- Worked examples: what the definitions say of a few labels.
use Rattle.std.proofs.Common.{◌≡◌, [], ◌∷◌, Ok, Err, Some, None, refl}
use Rattle.std.specs.Prelude.{codes}
use Rattle.kd_types.specs.declared.refusal.Refusal.TheVariants.{BadName, EndpointExists}
use Rattle.kd_endpoint.specs.Labels.{no_labels, label_number, free_place, label_refusal, add_answer, after_add, after_remove}

the_default_one : label_number no_labels (codes "bus") ≡ Some 0
unfolding label_number
the_default_one = refl

taken_by_the_default_one : add_answer no_labels (codes "bus") ≡ Err EndpointExists
unfolding add_answer label_refusal label_number free_place
taken_by_the_default_one = refl

no_label : add_answer no_labels (codes "a/b") ≡ Err BadName
unfolding add_answer label_refusal label_number free_place
no_label = refl

the_first : add_answer no_labels (codes "ep1") ≡ Ok 1
unfolding add_answer label_refusal label_number free_place
the_first = refl

the_second : add_answer (after_add no_labels (codes "ep1")) (codes "ep2") ≡ Ok 2
unfolding add_answer after_add label_refusal label_number free_place
the_second = refl

given_again : add_answer (after_remove (after_add no_labels (codes "ep1")) 1) (codes "ep2") ≡ Ok 1
unfolding add_answer after_add after_remove label_refusal label_number free_place
given_again = refl
