-- The book of labels: what the endpoints of a bus are called.
use Rattle.std.specs.Prelude.{ℕ, Bool, false, not, ◌+◌, ◌-◌, ◌&&◌, nat_le, if◌then◌else◌, List, [], ◌∷◌, Option, Some, None, Result, Ok, Err, is_some, is_none, unwrap_or, option_map, position, slice_set, codes}
use Rattle.kd_types.specs.declared.refusal.Refusal.{Refusal}
use Rattle.kd_types.specs.declared.refusal.Refusal.TheVariants.{BadName, EndpointExists, TooMany}
use Rattle.kd_types.specs.Words.{same, first_that_holds}
use Rattle.kd_name.specs.Names.{is_label}

-- the labels of the endpoints 1 to 8, in this order; none where there is no such endpoint
abbrev pub Labels : Type 0
Labels = List (Option (List ℕ))

-- the book of a new bus, which has its default endpoint alone
abbrev pub no_labels : Labels
no_labels = None ∷ None ∷ None ∷ None ∷ None ∷ None ∷ None ∷ None ∷ []

-- the label of the default endpoint, which is number 0
abbrev pub default_label : List ℕ
default_label = codes "bus"

-- whether the place has this label
abbrev pub is_called : List ℕ → Option (List ℕ) → Bool
is_called label None = false
is_called label (Some own) = same own label

-- the number of the endpoint with this label
unfoldable pub label_number : Labels → List ℕ → Option ℕ
label_number labels label =
    if same label default_label then Some 0
    else option_map (λ place. place + 1) (position (is_called label) labels)

-- the place of the lowest number that no endpoint has
unfoldable pub free_place : Labels → Option ℕ
free_place labels = position is_none labels

-- why the label can't be added, as the first of these that holds
unfoldable pub label_refusal : Labels → List ℕ → Option Refusal
label_refusal labels label =
    first_that_holds
    ((not (is_label label), BadName)
    ∷ (is_some (label_number labels label), EndpointExists)
    ∷ (is_none (free_place labels), TooMany 8)
    ∷ [])

-- what adding the label answers: a refusal, or the lowest number that no endpoint has
unfoldable pub add_answer : Labels → List ℕ → Result ℕ Refusal
add_answer labels label =
    elim (label_refusal labels label) [
      | Some refusal ↦ Err refusal
      | None ↦ Ok (unwrap_or (free_place labels) 0 + 1)
    ]

-- the book after the label was added, or not
unfoldable pub after_add : Labels → List ℕ → Labels
after_add labels label =
    elim (label_refusal labels label) [
      | Some refusal ↦ labels
      | None ↦ slice_set labels (unwrap_or (free_place labels) 0) (Some label)
    ]

-- the numbers of the endpoints beside the default one
abbrev pub is_number : ℕ → Bool
is_number n = nat_le 1 n && nat_le n 8

-- the book without the endpoint of this number; the default one stays
unfoldable pub after_remove : Labels → ℕ → Labels
after_remove labels number = if is_number number then slice_set labels (number - 1) None else labels
