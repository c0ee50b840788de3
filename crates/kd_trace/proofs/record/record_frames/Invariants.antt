use Rattle.std.proofs.Common.{◌≡◌, length}
use Rattle.kd_replay.specs.Turns.{IsReady}
use Rattle.kd_trace.proofs.Records.{Recording}
use Rattle.kd_trace.proofs.record.record_frames.Given as goal

abbrev pub invariant-frames : goal.invariant-frames
invariant-frames g l =
    Recording l.bytes l.rest l.at (g.K.Sink.held l.initial.sink) (g.K.Sink.held l.sink) l.world.world
    × IsReady l.world.world × (g.K.Sink.faults l.sink ≡ g.K.Sink.faults l.initial.sink)

abbrev pub decreases-frames : goal.decreases-frames
decreases-frames g l = length l.rest
