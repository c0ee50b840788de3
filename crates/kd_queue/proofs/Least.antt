-- The least of a list that grows at its end.
use Rattle.std.proofs.Common.{◌≡◌, ℕ, ℤ, ◌+◌, ◌<◌, Bool, List, [], ◌∷◌, ◌++◌, length, get_or, take, Option, Some, None, refl, ap, sym, ◌∙◌, arith}
use Rattle.std.specs.Option.{option_to_list}
use Rattle.std.proofs.lemmas.Int.{ints}
use Rattle.std.proofs.lemmas.List.{take_more}
use Rattle.std.proofs.lemmas.List.Elements.{filter-append}
use Rattle.kd_model.specs.Words.{least, lesser}
use Rattle.kd_model.proofs.Least.{IsRanking, least_of_append}
use Rattle.kd_queue.specs.declared.entry.Entry.{Entry}
use Rattle.kd_queue.specs.Order.{entry_priority, has_priority_over, is_within_limit, most_urgent, those_within}

least_of_one : {X : Type 0} (below : X → X → Bool) (o : Option X) → least below (option_to_list o) ≡ o
least_of_one below None = refl
least_of_one below (Some x) = refl

-- what is behind need only be compared with the least before it
least_more : {X : Type 0} (below : X → X → Bool) → IsRanking below → (xs ys : List X) → least below (option_to_list (least below xs) ++ ys) ≡ least below (xs ++ ys)
least_more below r xs ys = least_of_append below r (option_to_list (least below xs)) ys ∙ ap (λ o. lesser below o (least below ys)) (least_of_one below (least below xs)) ∙ sym (least_of_append below r xs ys)

priorities_rank : IsRanking (has_priority_over entry_priority)
priorities_rank = record { chains = λ a b c g h. grind (arith, ints); levels = λ a b c g h. grind (arith, ints) }

-- an entry more: its priority is compared with the best before it
pub best_more : (limit : ℤ) (es : List Entry) (i : ℕ) (e : Entry) (before after : Option Entry) → i < length es → e ≡ get_or es i e
    → before ≡ most_urgent (those_within limit (take i es))
    → after ≡ most_urgent (option_to_list before ++ those_within limit (e ∷ []))
    → after ≡ most_urgent (those_within limit (take (i + 1) es))
best_more limit es i e before after lt is b a =
    let seen : List Entry = take i es in
    let grown : take (i + 1) es ≡ seen ++ e ∷ [] = rw (is) (take_more es i e lt) in
    a ∙ ap (λ (t : Option Entry). most_urgent (option_to_list t ++ those_within limit (e ∷ []))) b
    ∙ least_more (has_priority_over entry_priority) priorities_rank (those_within limit seen) (those_within limit (e ∷ []))
    ∙ ap most_urgent (sym (filter-append (is_within_limit entry_priority limit) seen (e ∷ [])))
    ∙ ap (λ (t : List Entry). most_urgent (those_within limit t)) (sym grown)
