use Rattle.kd_storm.proofs.Formed.{formed_by, rule_of_formed}
use Rattle.kd_storm.proofs.commands.rule.Goals as goal

pub returns-clause-form : goal.returns-clause-form
returns-clause-form c = formed_by _ _ (rule_of_formed _ c.requires c.args.id) c.plain_rule.ensures
