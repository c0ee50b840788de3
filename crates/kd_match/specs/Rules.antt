-- The rules of all connections, and what adding and removing them does.
use Rattle.std.specs.Prelude.{◌≡◌, if◌then◌else◌, ℕ, Bool, true, false, not, ◌&&◌, ◌||◌, ◌==◌, nat_lt, nat_le, List, [], ◌∷◌, length, Option, Some, None, Result, Ok, Err}
use Rattle.std.specs.List.Sorted.{IsNonDecreasingBy}
use Rattle.kd_model.specs.Words.{those, but_those, all_of, some_of, is_empty, first_that_holds, put_in_order}
use Rattle.kd_types.specs.declared.refusal.Refusal.{Refusal}
use Rattle.kd_types.specs.declared.refusal.Refusal.TheVariants as refusal
use Rattle.kd_name.specs.Names.{is_name}
use Rattle.kd_bloom.specs.Bits.{has_filter_size}
use Rattle.kd_match.specs.declared.condition.Condition.{Condition}
use Rattle.kd_match.specs.declared.condition.Condition.TheVariants as condition
use Rattle.kd_match.specs.declared.rule.Rule.{Rule}
use Rattle.kd_match.specs.Told.{Told, message, condition_holds}

-- the size of the bus's filters, and the rules, by rising id of their connections and each
-- connection's as they were added
pub record Table : Type 0 where
  pub size : ℕ
  pub rules : List Rule

-- ---- what is admitted

-- a rule admits where each of its conditions holds
abbrev pub rule_admits : Told → Rule → Bool
rule_admits t rule = all_of (condition_holds t) rule.conditions

-- the rules of a connection
abbrev pub rules_of : ℕ → List Rule → List Rule
rules_of id = those (λ (r : Rule). r.id == id)

-- one admitting rule is enough
abbrev pub admits : Table → ℕ → Told → Bool
admits table id t = some_of (rule_admits t) (rules_of id table.rules)

-- a message's filter has this size
abbrev pub has_filter : ℕ → Told → Bool
has_filter size (message source names filter generation) = length filter == size
has_filter size _ = true

-- ---- which conditions are taken

-- an empty text stands for any name, and every other one is a name
abbrev pub is_bad_name : List ℕ → Bool
is_bad_name text = not (is_empty text || is_name text)

-- the condition names what is no name
abbrev pub misnames : Condition → Bool
misnames (condition.Name name) = is_bad_name name
misnames (condition.NameAdd old new name) = is_bad_name name
misnames (condition.NameRemove old new name) = is_bad_name name
misnames (condition.NameChange old new name) = is_bad_name name
misnames _ = false

-- a mask of the condition has the size
abbrev pub mask_fits : ℕ → Condition → Bool
mask_fits size (condition.Mask mask) = has_filter_size size mask
mask_fits size _ = true

-- each mask of the rule has the size
abbrev pub rule_fits : ℕ → Rule → Bool
rule_fits size rule = all_of (mask_fits size) rule.conditions

-- ---- adding

-- the connection's rule with the cookie
abbrev pub is_named : ℕ → ℕ → Rule → Bool
is_named id cookie rule = rule.id == id && rule.cookie == cookie

-- the rules that stay where a rule is added: all but those that it replaces
abbrev pub rules_left : List Rule → ℕ → ℕ → Bool → List Rule
rules_left rules id cookie true = but_those (is_named id cookie) rules
rules_left rules id cookie false = rules

-- the connection has its 64 rules without those that the new one replaces
abbrev pub has_all_rules : List Rule → ℕ → ℕ → Bool → Bool
has_all_rules rules id cookie replace =
    nat_le 64 (length (rules_of id (rules_left rules id cookie replace)))

-- why no rule is added: at most 16 conditions in a rule, and 64 rules of a connection
unfoldable pub rule_refusal : Table → ℕ → ℕ → List Condition → Bool → Option Refusal
rule_refusal table id cookie conditions replace = first_that_holds
    ((some_of misnames conditions, refusal.BadName)
    ∷ (some_of (λ c. not (mask_fits table.size c)) conditions, refusal.BloomSize)
    ∷ (nat_lt 16 (length conditions), refusal.TooMany 16)
    ∷ (has_all_rules table.rules id cookie replace, refusal.TooMany 64)
    ∷ [])

abbrev pub comes_before : Rule → Rule → Bool
comes_before a b = nat_lt a.id b.id

-- the rule stands behind the others of its connection
unfoldable pub with_rule : Table → Rule → Bool → Table
with_rule table rule replace = record table {
  rules = put_in_order comes_before rule (rules_left table.rules rule.id rule.cookie replace);
}

-- ---- removing

abbrev pub remove_refusal : Table → ℕ → ℕ → Option Refusal
remove_refusal table id cookie =
    if some_of (is_named id cookie) table.rules then None else Some refusal.NoSuchMatch

-- every rule of the connection with the cookie goes
abbrev pub without_rules : Table → ℕ → ℕ → Table
without_rules table id cookie = record table { rules = but_those (is_named id cookie) table.rules }

-- every rule of the connection goes
abbrev pub without_conn : Table → ℕ → Table
without_conn table id = record table { rules = but_those (λ (r : Rule). r.id == id) table.rules }

-- the answer of a call that has such a refusal, or none
abbrev pub result_of : Option Refusal → Result (Unit {0}) Refusal
result_of None = Ok tt
result_of (Some r) = Err r

-- ---- what always holds of the table

pub record IsTable (size : ℕ) (rules : List Rule) : Type 0 where
  pub in_order : IsNonDecreasingBy (λ (r : Rule). r.id) rules
  pub sized : all_of (rule_fits size) rules ≡ true
