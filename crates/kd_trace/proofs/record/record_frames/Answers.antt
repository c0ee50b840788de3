use Rattle.std.proofs.Common.{◌≡◌, ◌==◌, ℕ, List, [], ap, length, take, refl, sym, subst, ◌∙◌}
use Rattle.std.specs.Io.KnownBytes.{Appends}
use Rattle.std.proofs.lemmas.Bool.{true≢false}
use Rattle.std.proofs.lemmas.List.{length-take-le}
use Rattle.kd_world.specs.State.{World}
use Rattle.kd_replay.specs.Turns.{Turn}
use Rattle.kd_replay.specs.Frames.{IsCut}
use Rattle.kd_replay.specs.Transcript.{IsFrameRun}
use Rattle.kd_replay.proofs.Written.{nothing_left}
use Rattle.kd_trace.proofs.Records.{Recording, all_recorded, next_frame, one_more, recorded, recording_first, some_recorded}
use Rattle.kd_trace.proofs.record.record_frames.Goals as goal

pub frames-init : goal.frames-init
frames-init g c =
    (subst (λ (w : World). Recording c.args.bytes.now c.args.bytes.now 0 (g.K.Sink.held c.args.sink.now) (g.K.Sink.held c.args.sink.now) w) (sym c.in-Ok.ensures.world) (recording_first c.args.bytes.now (g.K.Sink.held c.args.sink.now)), c.in-Ok.ensures.ready, refl)

pub frames-preserved : goal.frames-preserved
frames-preserved g c =
    let t = c.in-Ok-run_frame.ensures.told in
    let rest = c.frames.rest.now in
    let own : List ℕ = c.run_frame.new.witness.written.items in
    let turn : Turn = record { next = c.run_frame.new.world.world; reply = c.in-Ok-run_frame.field-0 } in
    let run = subst (λ (f : List ℕ). IsFrameRun c.frames.world.world f t.0 turn) c.split_at.ensures.front t.1 in
    let next = next_frame c.frames.world.world (take c.in-Some.size rest) turn own c.run_frame.new.witness.number t.0 c.frames.invariant.1 run (t.2 [] c.clear.ensures) in
    let ok = subst (λ (l : List ℕ). Appends (g.K.Sink.held c.frames.sink) (g.K.Sink.held c.write_whole.new.sink) l) c.deref.ensures.value c.in-Ok-write_whole.ensures.ok in
    let more = one_more c.args.bytes.now rest c.frames.at c.in-Some.size (g.K.Sink.held c.args.sink.now) (g.K.Sink.held c.frames.sink) (g.K.Sink.held c.write_whole.new.sink) c.frames.world.world turn own c.frames.invariant.0 c.in-Some.ensures.frame
    (length-take-le c.in-Some.size rest c.in-Some.ensures.inside) next ok in
    (rw c.split_at.ensures.back more, c.in-Ok-run_frame.ensures.ready, c.in-Ok-write_whole.ensures.cause.kept ∙ c.frames.invariant.2)

pub returns-in_default-clause-recorded : goal.returns-in_default-clause-recorded
returns-in_default-clause-recorded g c = all_recorded _ _ _ _ _ _ (recording_first c.args.bytes.now (g.K.Sink.held c.args.sink.now))

pub returns-in_default-run_frame-clause-recorded : goal.returns-in_default-run_frame-clause-recorded
returns-in_default-run_frame-clause-recorded g c = all_recorded _ _ _ _ _ _ c.frames.invariant.0

pub returns-in_default-write_whole-clause-recorded : goal.returns-in_default-write_whole-clause-recorded
returns-in_default-write_whole-clause-recorded g c =
    let t = c.in-Ok-run_frame.ensures.told in
    let rest = c.frames.rest.now in
    let own : List ℕ = c.run_frame.new.witness.written.items in
    let turn : Turn = record { next = c.run_frame.new.world.world; reply = c.in-Ok-run_frame.field-0 } in
    let run = subst (λ (f : List ℕ). IsFrameRun c.frames.world.world f t.0 turn) c.split_at.ensures.front t.1 in
    let next = next_frame c.frames.world.world (take c.in-Some.size rest) turn own c.run_frame.new.witness.number t.0 c.frames.invariant.1 run (t.2 [] c.clear.ensures) in
    let e = c.in_default-write_whole.ensures.err in
    let front = subst (λ (l : List ℕ). Appends (g.K.Sink.held c.frames.sink) (g.K.Sink.held c.write_whole.new.sink) (take e.0 l)) c.deref.ensures.value e.1 in
    some_recorded c.args.bytes.now rest c.frames.at c.in-Some.size e.0 (g.K.Sink.held c.args.sink.now) (g.K.Sink.held c.frames.sink) (g.K.Sink.held c.write_whole.new.sink) c.frames.world.world turn own c.frames.invariant.0 c.in-Some.ensures.frame
    (length-take-le c.in-Some.size rest c.in-Some.ensures.inside) next front

pub returns-then-is_empty-clause-recorded : goal.returns-then-is_empty-clause-recorded
returns-then-is_empty-clause-recorded g c =
    let i = c.frames.invariant.0 in
    let none : c.frames.rest.now ≡ [] = nothing_left c.frames.rest.now (sym c.if-is_empty.ensures) in
    (i.frames, subst (IsCut c.args.bytes.now i.frames) none i.cut, (_, recorded _ _ _ _ _ _ i, i.held))

pub returns-clause-recorded : goal.returns-clause-recorded
returns-clause-recorded g c =
    let i = c.frames.invariant.0 in
    let some : c.frames.rest.now ≡ [] → ⊥ = λ e. true≢false (sym (ap (λ (r : List ℕ). length r == 0) e) ∙ sym c.if-is_empty.ensures) in
    (i.frames, c.frames.rest.now, i.cut, some, c.in_default-frame_size.ensures.none, i.place, (_, recorded _ _ _ _ _ _ i, i.held))
