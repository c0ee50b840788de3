-- There is one where it has a place.
use Rattle.std.proofs.Common.{ap, ◌∙◌}
use Rattle.std.specs.Prelude.{is_some}
use Rattle.kd_world.specs.Own.{is_pending_at}
use Rattle.kd_holds.proofs.Firsts.{is_there}
use Rattle.kd_holds.proofs.oldest.has.Goals as goal

pub returns : goal.returns
returns c = c.is_some.ensures ∙ ap is_some c.place_of.ensures ∙ is_there (is_pending_at c.args.seat c.args.number) c.args.pendings.now
