-- A slice that is looked at waits on.
use Rattle.kd_acts.specs.State.{slots}
use Rattle.kd_pool.proofs.Queued.{peeked_waits}
use Rattle.kd_pool.proofs.pool.Pool.take.Goals as goal

pub set_phase-requires : goal.set_phase-requires
set_phase-requires c = record { waits = peeked_waits c.args.number (slots c.args.self.now) c.requires; taken = λ e. cc }
