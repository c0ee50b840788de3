use Rattle.kd_storm.proofs.Formed.{formed_by, sending_formed}
use Rattle.kd_storm.proofs.commands.sending.Goals as goal

pub returns-clause-form : goal.returns-clause-form
returns-clause-form c = formed_by _ _ (sending_formed _ c.requires.filters c.args.message.now c.requires.target) c.plain_sending.ensures
