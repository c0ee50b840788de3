-- MATCH_ADD and MATCH_REMOVE: the rules of a connection. An add has only refusals of the desk's
-- own, a remove only the rules' (`remove_refusal`).
use Rattle.std.specs.Prelude.{ℕ, Bool, List, [], ◌∷◌, length, Result, nat_le, nat_lt}
use Rattle.kd_types.specs.declared.refusal.Refusal.{Refusal}
use Rattle.kd_types.specs.declared.refusal.Refusal.TheVariants.{BadName, BloomSize, TooMany}
use Rattle.kd_model.specs.Words.{some_of}
use Rattle.kd_wire.specs.declared.item.WireItem.{WireItem}
use Rattle.kd_wire.specs.declared.reply.Reply.TheVariants as reply
use Rattle.kd_match.specs.Rules.{misnames, rules_of, rules_left, with_rule, remove_refusal, without_rules}
use Rattle.kd_commands.specs.declared.conn.Conn.{Conn}
use Rattle.kd_commands.specs.State.{Desk}
use Rattle.kd_commands.specs.Items.{conditions_in, is_bad_mask}
use Rattle.kd_commands.specs.Plans.{Plan, unless, unless_refused, quiet}

-- names are judged before masks
unfoldable pub match_refusals : Desk → Conn → Bool → ℕ → List WireItem → List (Bool × Refusal)
match_refusals d c replace cookie is =
    (some_of misnames (conditions_in d.rules.size is), BadName)
    ∷ (some_of (is_bad_mask d.rules.size) is, BloomSize)
    ∷ (nat_lt 16 (length is), TooMany 16)
    ∷ (
      nat_le 64 (length (rules_of c.id (rules_left d.rules.rules c.id cookie replace))),
      TooMany 64,
    )
    ∷ []

-- the desk with the rule; one with the same cookie goes where it is to be replaced
abbrev pub with_rule_of : Desk → Conn → Bool → ℕ → List WireItem → Desk
with_rule_of d c replace cookie is =
    record d {
      rules =
          with_rule d.rules (record {
            id = c.id;
            cookie = cookie;
            conditions = conditions_in d.rules.size is;
          }) replace;
    }

-- a rule more
unfoldable pub match_add : Desk → Conn → Bool → ℕ → List WireItem → Result Plan Refusal
match_add d c replace cookie is =
    unless (match_refusals d c replace cookie is)
    (quiet c reply.MatchAdd (with_rule_of d c replace cookie is))

-- every rule with the cookie goes
unfoldable pub match_remove : Desk → Conn → ℕ → Result Plan Refusal
match_remove d c cookie =
    unless_refused (remove_refusal d.rules c.id cookie)
    (quiet c reply.MatchRemove (record d { rules = without_rules d.rules c.id cookie }))
