-- What a rule's items ask for.
use Rattle.std.specs.Prelude.{◌≡◌, ◌≤◌, ◌<◌, ◌+◌, ◌*◌, ◌/◌, ◌==◌, ◌||◌, ◌&&◌, not, ℕ, zero, suc, Bool, true, false, List, [], ◌∷◌, length, filter_map, take, drop, Option, Some, None, Result, Ok, Err, nat_le, nat_lt, refl}
use Rattle.std.proofs.Common.{ap, arith, sym, ◌∙◌}
use Rattle.std.proofs.Math.Nat.{div-mul-le_self}
use Rattle.std.proofs.lemmas.Bool.Decides.{nat_tests}
use Rattle.std.proofs.lemmas.List.{length-take-le, length-drop}
use Rattle.std.specs.List.{cons_option}
use Rattle.std.proofs.lemmas.List.Sums.{count_by-le-length, length-filter}
use Rattle.kd_model.specs.Words.{some_of, first_that_holds}
use Rattle.kd_types.specs.declared.refusal.Refusal.{Refusal}
use Rattle.kd_types.specs.declared.refusal.Refusal.TheVariants.{BadName, BloomSize, TooMany}
use Rattle.kd_wire.specs.declared.item.WireItem.{WireItem}
use Rattle.kd_wire.specs.declared.item.WireItem.TheVariants as item
use Rattle.kd_wire.specs.declared.reply.Reply.TheVariants as reply
use Rattle.kd_bloom.specs.Bits.{has_filter_size, pieces}
use Rattle.kd_match.specs.declared.condition.Condition.{Condition}
use Rattle.kd_match.specs.declared.rule.Rule.{Rule}
use Rattle.kd_match.specs.Rules.{has_all_rules, is_bad_name, is_named, mask_fits, misnames, remove_refusal, result_of, rule_refusal, rules_left, without_rules}
use Rattle.kd_seal.specs.Book.{unseal_answer, unsealed}
use Rattle.kd_commands.specs.declared.conn.Conn.{Conn}
use Rattle.kd_commands.specs.State.{Desk}
use Rattle.kd_commands.specs.Items.{condition_of, conditions_in, is_bad_mask}
use Rattle.kd_commands.specs.Matches.{match_add, match_refusals, match_remove, with_rule_of}
use Rattle.kd_commands.specs.Seals.{unseal}
use Rattle.kd_commands.specs.Plans.{Plan, quiet, unless_refused}
use Rattle.kd_tables.specs.declared.change.Change.TheVariants as change
use Rattle.kd_tables.specs.Drafts.{Fits, applied}
use Rattle.kd_desk.proofs.Quiet.{by_answer, by_refusal, refused_by}
use Rattle.kd_said.specs.Said.{misnamed}

-- the names of the items are those of the conditions
pub names_asked : (size : ℕ) (is : List WireItem) → some_of misnames (conditions_in size is) ≡ some_of misnamed is
names_asked size [] = refl
names_asked size (item.Payload bytes ∷ is) = names_asked size is
names_asked size (item.Sealed number start len ∷ is) = names_asked size is
names_asked size (item.DstName n ∷ is) = names_asked size is
names_asked size (item.Filter generation bits ∷ is) = names_asked size is
names_asked size (item.Mask bytes ∷ is) = names_asked size is
names_asked size (item.Name n ∷ is) = ap (is_bad_name n ||◌) (names_asked size is)
names_asked size (item.Access subject level id ∷ is) = names_asked size is
names_asked size (item.Bus n ∷ is) = names_asked size is
names_asked size (item.Endpoint n ∷ is) = names_asked size is
names_asked size (item.Description n ∷ is) = names_asked size is
names_asked size (item.Id id ∷ is) = names_asked size is
names_asked size (item.IdAdd id ∷ is) = names_asked size is
names_asked size (item.IdRemove id ∷ is) = names_asked size is
names_asked size (item.NameAdd old new n ∷ is) = ap (is_bad_name n ||◌) (names_asked size is)
names_asked size (item.NameRemove old new n ∷ is) = ap (is_bad_name n ||◌) (names_asked size is)
names_asked size (item.NameChange old new n ∷ is) = ap (is_bad_name n ||◌) (names_asked size is)

-- pieces that are all there have the size
pieces_fit : (n size : ℕ) (bytes : List ℕ) → n * size ≤ length bytes → has_filter_size size (pieces n size bytes) ≡ true
pieces_fit zero size bytes h = refl
pieces_fit (suc n) size bytes h =
    let more : suc n * size ≡ n * size + size = omega arith in
    let here : length (take size bytes) ≡ size = length-take-le size bytes (omega (arith, h, more)) in
    let left : n * size ≤ length (drop size bytes) = omega (arith, h, more, length-drop size bytes) in
    let same : (length (take size bytes) == size) ≡ true = grind (arith, nat_tests) in
    ap (λ b. b && has_filter_size size (pieces n size (drop size bytes))) same ∙ pieces_fit n size (drop size bytes) left

abbrev unfit : ℕ → List Condition → Bool
unfit size cs = some_of (λ (c : Condition). not (mask_fits size c)) cs

-- so each mask that is cut fits
pub masks_fit : (size : ℕ) (is : List WireItem) → unfit size (conditions_in size is) ≡ false
masks_fit size [] = refl
masks_fit size (item.Payload bytes ∷ is) = masks_fit size is
masks_fit size (item.Sealed number start len ∷ is) = masks_fit size is
masks_fit size (item.DstName n ∷ is) = masks_fit size is
masks_fit size (item.Filter generation bits ∷ is) = masks_fit size is
masks_fit size (item.Mask bytes ∷ is) = ap (λ b. not b || unfit size (conditions_in size is)) (pieces_fit (length bytes / size) size bytes (div-mul-le_self (length bytes) size)) ∙ masks_fit size is
masks_fit size (item.Name n ∷ is) = masks_fit size is
masks_fit size (item.Access subject level id ∷ is) = masks_fit size is
masks_fit size (item.Bus n ∷ is) = masks_fit size is
masks_fit size (item.Endpoint n ∷ is) = masks_fit size is
masks_fit size (item.Description n ∷ is) = masks_fit size is
masks_fit size (item.Id id ∷ is) = masks_fit size is
masks_fit size (item.IdAdd id ∷ is) = masks_fit size is
masks_fit size (item.IdRemove id ∷ is) = masks_fit size is
masks_fit size (item.NameAdd old new n ∷ is) = masks_fit size is
masks_fit size (item.NameRemove old new n ∷ is) = masks_fit size is
masks_fit size (item.NameChange old new n ∷ is) = masks_fit size is

-- there are no more conditions than items
no_more : {X Y : Type 0} (f : X → Option Y) (xs : List X) → length (filter_map f xs) ≤ length xs
no_more f [] = omega arith
no_more {Y = Y} f (x ∷ xs) = go (f x) (no_more f xs)
  where
    go : (o : Option Y) → length (filter_map f xs) ≤ length xs → length (cons_option o (filter_map f xs)) ≤ length (x ∷ xs)
    go None ih = omega (arith, ih)
    go (Some y) ih = omega (arith, ih)

left_no_more : (rules : List Rule) (id cookie : ℕ) (replace : Bool) → length (rules_left rules id cookie replace) ≤ length rules
left_no_more rules id cookie false = omega arith
left_no_more rules id cookie true = omega (arith, length-filter (λ (r : Rule). not (is_named id cookie r)) rules, count_by-le-length (λ (r : Rule). not (is_named id cookie r)) rules)

-- where there is room, there is room for a rule more
pub has_room : (rules : List Rule) (id cookie : ℕ) (replace : Bool) → nat_le 4096 (length rules) ≡ false → length (rules_left rules id cookie replace) < 4096
has_room rules id cookie replace e = let few : length rules < 4096 = grind (arith, nat_tests) in omega (arith, few, left_no_more rules id cookie replace)

four_pass : (a b c e a' b' c' : Bool) (x y z w : Refusal) → a ≡ a' → b' ≡ false → (c ≡ false → c' ≡ false) → first_that_holds ((a, x) ∷ (b, y) ∷ (c, z) ∷ (e, w) ∷ []) ≡ None → first_that_holds ((a', x) ∷ (b', y) ∷ (c', z) ∷ (e, w) ∷ []) ≡ None
four_pass true b c e a' b' c' x y z w same none few h = absurd cc
four_pass false true c e a' b' c' x y z w same none few h = absurd cc
four_pass false false true e a' b' c' x y z w same none few h = absurd cc
four_pass false false false true a' b' c' x y z w same none few h = absurd cc
four_pass false false false false a' b' c' x y z w same none few h = rw (← same, none, few refl) refl

-- a rule of items that aren't refused isn't refused
pub rule_fits_in : (d : Desk) (c : Conn) (replace : Bool) (cookie : ℕ) (is : List WireItem) → first_that_holds (match_refusals d c replace cookie is) ≡ None → rule_refusal d.rules c.id cookie (conditions_in d.rules.size is) replace ≡ None
unfolding match_refusals rule_refusal
rule_fits_in d c replace cookie is h =
    let cs : List Condition = conditions_in d.rules.size is in
    four_pass (some_of misnames cs) (some_of (is_bad_mask d.rules.size) is) (nat_lt 16 (length is)) (has_all_rules d.rules.rules c.id cookie replace)
    (some_of misnames cs) (unfit d.rules.size cs) (nat_lt 16 (length cs)) BadName BloomSize (TooMany 16) (TooMany 64)
    refl (masks_fit d.rules.size is) few h
  where
    few : nat_lt 16 (length is) ≡ false → nat_lt 16 (length (conditions_in d.rules.size is)) ≡ false
    few e = let less : length (conditions_in d.rules.size is) ≤ length is = no_more (condition_of d.rules.size) is in grind (arith, nat_tests)

-- ---- why a rule is refused, test by test

pub bad_name_judged : (d : Desk) (c : Conn) (replace : Bool) (cookie : ℕ) (is : List WireItem) → some_of misnamed is ≡ true → Err BadName ≡ result_of (first_that_holds (match_refusals d c replace cookie is))
unfolding match_refusals
bad_name_judged d c replace cookie is n = rw (names_asked d.rules.size is, n) refl

pub bad_mask_judged : (d : Desk) (c : Conn) (replace : Bool) (cookie : ℕ) (is : List WireItem) → some_of misnamed is ≡ false → some_of (is_bad_mask d.rules.size) is ≡ true → Err BloomSize ≡ result_of (first_that_holds (match_refusals d c replace cookie is))
unfolding match_refusals
bad_mask_judged d c replace cookie is n m = rw (names_asked d.rules.size is, n, m) refl

pub many_judged : (d : Desk) (c : Conn) (replace : Bool) (cookie : ℕ) (is : List WireItem) → some_of misnamed is ≡ false → some_of (is_bad_mask d.rules.size) is ≡ false → 16 < length is → Err (TooMany 16) ≡ result_of (first_that_holds (match_refusals d c replace cookie is))
unfolding match_refusals
many_judged d c replace cookie is n m h = let many : nat_lt 16 (length is) ≡ true = grind (arith, nat_tests) in rw (names_asked d.rules.size is, n, m, many) refl

pub rest_judged : (d : Desk) (c : Conn) (replace : Bool) (cookie : ℕ) (is : List WireItem) (r : Result (Unit {0}) Refusal) → some_of misnamed is ≡ false → some_of (is_bad_mask d.rules.size) is ≡ false → length is ≤ 16
    → r ≡ result_of (rule_refusal d.rules c.id cookie [] replace) → r ≡ result_of (first_that_holds (match_refusals d c replace cookie is))
unfolding match_refusals rule_refusal
rest_judged d c replace cookie is r n m h e = let few : nat_lt 16 (length is) ≡ false = grind (arith, nat_tests) in e ∙ rw (names_asked d.rules.size is, n, m, few) refl

-- ---- what is planned

abbrev by_tests : Option Refusal → Plan → Result Plan Refusal
by_tests o p = elim o [ Some r ↦ Err r | None ↦ Ok p ]

pub add_refused : (d : Desk) (c : Conn) (replace : Bool) (cookie : ℕ) (is : List WireItem) (why : Refusal) → Err why ≡ result_of (first_that_holds (match_refusals d c replace cookie is)) → match_add d c replace cookie is ≡ Err why
unfolding match_add
add_refused d c replace cookie is why e = ap (λ o. by_tests o (quiet c reply.MatchAdd (with_rule_of d c replace cookie is))) (refused_by (first_that_holds (match_refusals d c replace cookie is)) why e)

pub add_planned : (d : Desk) (c : Conn) (replace : Bool) (cookie : ℕ) (is : List WireItem) → first_that_holds (match_refusals d c replace cookie is) ≡ None → match_add d c replace cookie is ≡ Ok (quiet c reply.MatchAdd (with_rule_of d c replace cookie is))
unfolding match_add
add_planned d c replace cookie is e = ap (λ o. by_tests o (quiet c reply.MatchAdd (with_rule_of d c replace cookie is))) e

pub remove_refused : (d : Desk) (c : Conn) (cookie : ℕ) (why : Refusal) → Err why ≡ result_of (remove_refusal d.rules c.id cookie) → match_remove d c cookie ≡ Err why
unfolding match_remove
remove_refused d c cookie why e = ap (λ o. unless_refused o (quiet c reply.MatchRemove (record d { rules = without_rules d.rules c.id cookie }))) (refused_by (remove_refusal d.rules c.id cookie) why e)

pub remove_planned : (d : Desk) (c : Conn) (cookie : ℕ) → remove_refusal d.rules c.id cookie ≡ None → match_remove d c cookie ≡ Ok (quiet c reply.MatchRemove (applied (change.RemovesRules c.id cookie) d))
unfolding match_remove applied
remove_planned d c cookie e = ap (λ o. unless_refused o (quiet c reply.MatchRemove (record d { rules = without_rules d.rules c.id cookie }))) e

-- ---- seals

pub unseal_refused : (d : Desk) (c : Conn) (number : ℕ) (why : Refusal) → Err why ≡ unseal_answer d.seals c.id number → unseal d c number ≡ Err why
unfolding unseal
unseal_refused d c number why e = by_refusal (unseal_answer d.seals c.id number) (quiet c reply.Unseal (record d { seals = unsealed d.seals c.id number })) why e

pub unseal_planned : (d : Desk) (c : Conn) (number : ℕ) → Ok tt ≡ unseal_answer d.seals c.id number → unseal d c number ≡ Ok (quiet c reply.Unseal (applied (change.Unseals c.id number) d))
unfolding unseal applied
unseal_planned d c number e = by_answer (unseal_answer d.seals c.id number) (quiet c reply.Unseal (record d { seals = unsealed d.seals c.id number })) tt e

pub unseal_fits : (d : Desk) (id number : ℕ) → Ok tt ≡ unseal_answer d.seals id number → Fits d (change.Unseals id number)
unfolding Fits
unseal_fits d id number e = sym e

pub remove_fits : (d : Desk) (id cookie : ℕ) → remove_refusal d.rules id cookie ≡ None → Fits d (change.RemovesRules id cookie)
unfolding Fits
remove_fits d id cookie e = e
