use Rattle.std.proofs.Common.{◌≡◌, ◌==◌, ℕ, List, [], ap, length, take, refl, sym, subst, ◌∙◌}
use Rattle.std.proofs.lemmas.Bool.{true≢false}
use Rattle.kd_replay.specs.Frames.{IsCut}
use Rattle.std.proofs.lemmas.List.{length-take-le}
use Rattle.kd_replay.specs.Transcript.{IsTurn, reply_bytes}
use Rattle.kd_replay.proofs.Written.{nothing_left, stands_first, all_written, some_written, one_more}
use Rattle.kd_replay.proofs.Legal.{frames_reach}
use Rattle.kd_replay.proofs.replay.replay_frames.Goals as goal

pub returns-in_default-clause-answers : goal.returns-in_default-clause-answers
returns-in_default-clause-answers g c = all_written _ _ _ _ _ _ (stands_first c.args.bytes.now (g.K.Sink.held c.args.sink.now))

pub returns-in_default-put_answer-clause-answers :
    goal.returns-in_default-put_answer-clause-answers
returns-in_default-put_answer-clause-answers g c = all_written _ _ _ _ _ _ c.frames.invariant.0

pub returns-in_default-write_whole-clause-answers :
    goal.returns-in_default-write_whole-clause-answers
returns-in_default-write_whole-clause-answers g c =
    let t = c.in-Ok-put_answer.ensures.turn in
    let rest = c.frames.rest.now in
    let written : c.deref.result.now ≡ reply_bytes (take c.in-Some.size rest) t.0.reply = c.deref.ensures.value ∙ t.3 ∙ rw (c.clear.ensures.items, c.split_at.ensures.front) refl in
    let turn = subst (λ (f : List ℕ). IsTurn c.frames.world.world f t.0) c.split_at.ensures.front t.1 in
    let e = c.in_default-write_whole.ensures.err in
    some_written c.args.bytes.now rest c.frames.at c.in-Some.size e.0 _ _ (g.K.Sink.held c.write_whole.new.sink) c.frames.world.world t.0 c.frames.invariant.0 c.in-Some.ensures.frame turn (rw (← written) e.1)

pub frames-preserved : goal.frames-preserved
frames-preserved g c =
    let t = c.in-Ok-put_answer.ensures.turn in
    let rest = c.frames.rest.now in
    let written : c.deref.result.now ≡ reply_bytes (take c.in-Some.size rest) t.0.reply = c.deref.ensures.value ∙ t.3 ∙ rw (c.clear.ensures.items, c.split_at.ensures.front) refl in
    let turn = subst (λ (f : List ℕ). IsTurn c.frames.world.world f t.0) c.split_at.ensures.front t.1 in
    let more = one_more c.args.bytes.now rest c.frames.at c.in-Some.size _ _ (g.K.Sink.held c.write_whole.new.sink) c.frames.world.world t.0 c.frames.invariant.0 c.in-Some.ensures.frame
    (length-take-le c.in-Some.size rest c.in-Some.ensures.inside) turn (rw (← written) c.in-Ok-write_whole.ensures.ok) in
    (rw (c.split_at.ensures.back, t.2) more, c.in-Ok-put_answer.ensures.ready, c.in-Ok-write_whole.ensures.cause.kept ∙ c.frames.invariant.2)

pub returns-then-is_empty-clause-answers : goal.returns-then-is_empty-clause-answers
returns-then-is_empty-clause-answers g c =
    let i = c.frames.invariant.0 in
    let none : c.frames.rest.now ≡ [] = nothing_left c.frames.rest.now (sym c.if-is_empty.ensures) in
    (i.frames, subst (IsCut c.args.bytes.now i.frames) none i.cut, (i.written, (c.frames.world.world, i.answered, frames_reach i.frames i.written c.frames.world.world i.answered), i.held))

pub returns-clause-answers : goal.returns-clause-answers
returns-clause-answers g c =
    let i = c.frames.invariant.0 in
    let some : c.frames.rest.now ≡ [] → ⊥ = λ e. true≢false (sym (ap (λ (r : List ℕ). length r == 0) e) ∙ sym c.if-is_empty.ensures) in
    (i.frames, c.frames.rest.now, i.cut, some, c.in_default-frame_size.ensures.none, i.place, (i.written, (c.frames.world.world, i.answered, frames_reach i.frames i.written c.frames.world.world i.answered), i.held))
