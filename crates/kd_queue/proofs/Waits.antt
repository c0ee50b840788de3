-- What is received next waits.
use Rattle.std.proofs.Common.{◌≡◌, ℕ, ℤ, Bool, true, false, ◌||◌, eqb, List, [], ◌∷◌, Option, Some, None, refl}
use Rattle.std.proofs.lemmas.Bool.{eq-eqb}
use Rattle.std.specs.List.{AllByRecursion}
use Rattle.std.specs.Option.{IfSome, option_map}
use Rattle.kd_model.proofs.Lists.{all_follow}
use Rattle.kd_queue.specs.declared.entry.Entry.{Entry}
use Rattle.kd_queue.specs.Order.{entry_number, entry_priority, has_entry, next_entry}
use Rattle.kd_queue.proofs.Next.{all_of_next_by}

abbrev WaitsIn : List Entry → Entry → Type 0
WaitsIn es e = has_entry e.number es ≡ true

itself : (e : Entry) (es : List Entry) → WaitsIn (e ∷ es) e
itself e es = rw (eq-eqb e.number e.number refl) refl

behind : (x e : Entry) (es : List Entry) → WaitsIn es e → WaitsIn (x ∷ es) e
behind x e es h = one (eqb e.number x.number)
  where
    one : (t : Bool) → (t || has_entry e.number es) ≡ true
    one true = refl
    one false = h

each_waits : (es : List Entry) → AllByRecursion (WaitsIn es) es
each_waits [] = tt
each_waits (e ∷ es) = (itself e es, all_follow _ _ es (λ x h. behind e x es h) (each_waits es))

-- the number that is next has an entry
pub next_waits : (es now : List Entry) (limit : Option ℤ) (next : Option ℕ) → es ≡ now → next ≡ option_map entry_number (next_entry es limit) → IfSome next (λ n. has_entry n now ≡ true)
next_waits es now limit next same is = rw (is, ← same) (one (next_entry es limit) refl)
  where
    one : (o : Option Entry) → next_entry es limit ≡ o → IfSome (option_map entry_number o) (λ n. has_entry n es ≡ true)
    one None e = tt
    one (Some x) e = all_of_next_by (WaitsIn es) entry_priority es limit x (each_waits es) e
