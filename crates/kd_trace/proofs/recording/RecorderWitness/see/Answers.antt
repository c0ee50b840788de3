use Rattle.std.proofs.Common.{refl}
use Rattle.kd_core.specs.Running.{event_of}
use Rattle.kd_replay.proofs.Modes.{then_ok}
use Rattle.kd_trace.proofs.Written.{awaits, may_stand}
use Rattle.kd_trace.proofs.recording.RecorderWitness.see.Goals as goal

pub put_event-requires : goal.put_event-requires
put_event-requires c = may_stand (event_of c.args.event.now) c.requires.may (c.if-not-has_place.ensures refl)

pub returns : goal.returns
returns c =
    let stands = may_stand (event_of c.args.event.now) c.requires.may (c.if-not-has_place.ensures refl) in
    then_ok c.put_event.result
    (λ spelled hs w. awaits c.args.self.now.written.items c.put_event.new.out.items c.caller_of-self.result c.args.self.now.number c.number_with-self.result hs (event_of c.args.event.now) w stands spelled c.caller_of-self.ensures c.number_with-self.ensures)
    c.put_event.ensures
