use Rattle.kd_outside.proofs.Lending.{lends_first}
use Rattle.kd_outside.proofs.binder.ListBinderBinder.clock.Goals as goal

pub returns-clause-given : goal.returns-clause-given
returns-clause-given c =
    let taken = c.hand_out in
    lends_first c.args.self.now _ taken.new.self c.into_own.result taken.result taken.new.self.coming c.self.view_is taken.ensures.first taken.ensures.after c.into_own.ensures
