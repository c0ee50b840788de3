-- Worked examples, as theorems that compute.
use Rattle.std.proofs.Common.{◌≡◌, ℕ, true, false, List, [], ◌∷◌, Some, refl}
use Rattle.kd_types.specs.declared.refusal.Refusal.TheVariants as refusal
use Rattle.kd_bloom.specs.Bits.{bit_is_set, bit_numbers, passes}
use Rattle.kd_match.specs.declared.condition.Condition.{Condition}
use Rattle.kd_match.specs.declared.condition.Condition.TheVariants as condition
use Rattle.kd_match.specs.declared.rule.Rule.{Rule}
use Rattle.kd_match.specs.Told.{message, id_add, name_remove, condition_holds}
use Rattle.kd_match.specs.Rules.{Table, rule_refusal, admits, with_rule}

any : ℕ
any = 18446744073709551615

rule : ℕ → ℕ → List Condition → Rule
rule id cookie conditions = record { id = id; cookie = cookie; conditions = conditions }

-- connections 1 and 3 have rules, one of them an empty one
table : Table
table = record { size = 8; rules = rule 1 5 (condition.IdAdd any ∷ []) ∷ rule 1 6 (condition.Id 7 ∷ condition.Name [] ∷ []) ∷ rule 3 5 [] ∷ [] }

-- all ones fit any id, and an empty rule admits all
any_id : admits table 1 (id_add 9) ≡ true
unfolding table rule any condition_holds
any_id = refl

any_sender : condition_holds (message 7 [] (0 ∷ []) 0) (condition.Id any) ≡ true
unfolding any condition_holds
any_sender = refl

everything : admits table 3 (message 7 [] (0 ∷ []) 2) ≡ true
unfolding table rule any condition_holds
everything = refl

-- an empty name asks for a sender that owns one
unnamed : admits table 1 (message 7 [] (0 ∷ []) 0) ≡ false
unfolding table rule any condition_holds
unnamed = refl

named : admits table 1 (message 7 ((97 ∷ []) ∷ []) (0 ∷ []) 0) ≡ true
unfolding table rule any condition_holds
named = refl

-- a message's mask, by the generation of the filter
masked : condition_holds (message 7 [] (6 ∷ []) 1) (condition.Mask ((7 ∷ []) ∷ (4 ∷ []) ∷ [])) ≡ true
unfolding condition_holds passes bit_numbers bit_is_set
masked = refl

-- a name that went is no name that came
removed : condition_holds (name_remove 4 0 (97 ∷ [])) (condition.NameAdd any any []) ≡ false
unfolding condition_holds
removed = refl

-- a rule stands behind the others of its connection, in place of those with its cookie where it
-- replaces them
added : (with_rule table (rule 1 5 []) false).rules ≡ rule 1 5 (condition.IdAdd any ∷ []) ∷ rule 1 6 (condition.Id 7 ∷ condition.Name [] ∷ []) ∷ rule 1 5 [] ∷ rule 3 5 [] ∷ []
unfolding with_rule table rule
added = refl

replaced : (with_rule table (rule 1 5 []) true).rules ≡ rule 1 6 (condition.Id 7 ∷ condition.Name [] ∷ []) ∷ rule 1 5 [] ∷ rule 3 5 [] ∷ []
unfolding with_rule table rule
replaced = refl

-- names are judged before masks
misnamed : rule_refusal table 1 0 (condition.Mask ((0 ∷ []) ∷ []) ∷ condition.Name (97 ∷ []) ∷ []) false ≡ Some refusal.BadName
unfolding rule_refusal table rule
misnamed = refl

missized : rule_refusal table 1 0 (condition.Mask ((0 ∷ []) ∷ []) ∷ []) false ≡ Some refusal.BloomSize
unfolding rule_refusal table rule
missized = refl
