-- The pools that parts open, in the order of their making.
use Rattle.std.specs.Prelude.{◌≡◌, ◌<◌, ◌≤◌, ◌++◌, ◌%◌, ℕ, List, [], ◌∷◌, drop, flat_map, get_or, length, reverse, refl, zero, suc}
use Rattle.std.specs.List.{AllByRecursion}
use Rattle.std.proofs.Common.{ap, sym, ◌∙◌}
use Rattle.std.proofs.lemmas.List.{append-nil, reverse-append}
use Rattle.kd_model.proofs.Lists.{rest_at}
use Rattle.kd_acts.specs.State.{Pool}
use Rattle.kd_tables.specs.declared.part.Part.{Part}
use Rattle.kd_tables.specs.declared.part.Part.TheVariants as part
use Rattle.kd_tables.specs.Drafts.{IsVisitable}
use Rattle.kd_pool.specs.declared.memory.TheConstants.{LARGEST}
use Rattle.kd_holds.specs.Handing.{IsSmall}
use Rattle.kd_holds.specs.Stack.{pool_in, stack_of}

-- one pool, or none, is the same from the back
same_back : (p : Part) → reverse (pool_in p) ≡ pool_in p
same_back (part.Raise seat size) = refl
same_back (part.Close seat force) = refl
same_back (part.Offer seat user len from must) = refl
same_back (part.Post seat image) = refl
same_back (part.Drain seat size) = refl
same_back (part.Settle seat) = refl

-- the stack is what the parts open, from the back
pub stack_is : (ps : List Part) → reverse (flat_map pool_in ps) ≡ stack_of ps
stack_is [] = refl
stack_is (p ∷ ps) = reverse-append (pool_in p) (flat_map pool_in ps) ∙ ap (reverse (flat_map pool_in ps) ++◌) (same_back p) ∙ ap (λ xs. xs ++ pool_in p) (stack_is ps)

-- the whole stack, where nothing is left to make
pub stack_made : (ps : List Part) (made : List Pool) (rest : List Part) → made ++ flat_map pool_in rest ≡ flat_map pool_in ps → rest ≡ [] → reverse made ≡ stack_of ps
stack_made ps made rest e none = ap reverse (sym (append-nil made) ∙ ap (λ xs. made ++ flat_map pool_in xs) (sym none) ∙ e) ∙ stack_is ps

-- what holds of all parts holds of those from a place on
all_behind : (P : Part → Type 0) (i : ℕ) (ps : List Part) → AllByRecursion P ps → AllByRecursion P (drop i ps)
all_behind P zero ps a = a
all_behind P (suc i) [] a = a
all_behind P (suc i) (p ∷ ps) a = all_behind P i ps a.1

-- and of the part at a place
pub holds_at : (P : Part → Type 0) (ps : List Part) (i : ℕ) (p : Part) → i < length ps → p ≡ get_or ps i p → AllByRecursion P ps → P p
holds_at P ps i p h e a = (rw (rest_at ps i p h e) at (all_behind P i ps a)).0

-- so a pool is opened with whole words
pub opens_words : (p : Part) (seat size : ℕ) → p ≡ part.Raise seat size → IsVisitable p → size % 8 ≡ 0
unfolding IsVisitable
opens_words p seat size e v = (rw e at v).1

-- and no more than a pool may have
pub opens_small : (p : Part) (seat size : ℕ) → p ≡ part.Raise seat size → IsSmall p → size ≤ LARGEST
opens_small p seat size e v = rw e at v
