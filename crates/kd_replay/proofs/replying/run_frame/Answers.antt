use Rattle.std.proofs.Common.{rules, refl, inl, []}
use Rattle.kd_replay.specs.Transcript.{IsRefused}
use Rattle.kd_replay.proofs.Along.{none_heard}
use Rattle.kd_replay.proofs.AtDesk.{frame_heard}
use Rattle.kd_replay.proofs.replying.run_frame.Goals as goal

pub returns-in-Ok-clause-told : goal.returns-in-Ok-clause-told
returns-in-Ok-clause-told g c =
    let read = c.in-Ok.ensures in
    frame_heard c.run.result c.args.world.now.world c.run.new.world.world c.args.frame.now c.in-Ok.caller c.in-Ok.command (g.W.Witness.has_heard c.args.witness.now) (g.W.Witness.has_heard c.run.new.witness) c.requires.ready
    (record { spelled = read.spelled; admitted = read.caller; run = read.command; form = read.well_formed; typed = read.typed; accepted = read.accepted })
    c.run.ensures.next c.run.ensures.reply c.run.ensures.told

pub returns-in-Err-clause-told : goal.returns-in-Err-clause-told
returns-in-Err-clause-told g c =
    let away : IsRefused c.args.world.now.world c.args.frame.now (record { next = c.args.world.now.world; reply = _ }) = search rules in
    ([], inl (away, refl), none_heard c.args.world.now.world (g.W.Witness.has_heard c.args.witness.now))
