use Rattle.std.proofs.Common.{List, ℕ, length, arith, sym, ap, ◌∙◌}
use Rattle.kd_wire.specs.Frames.{cut_of}
use Rattle.kd_wire.proofs.Accepted.{frame_size}
use Rattle.kd_trace.specs.Reading.{take_with}
use Rattle.kd_trace.proofs.Takes.{FrameRead, not_refused_here, take_body, take_none, take_read}
use Rattle.kd_trace.proofs.event_items.read_take.Goals as goal

pub returns-then-body-lt8-clause-none : goal.returns-then-body-lt8-clause-none
returns-then-body-lt8-clause-none c = λ e i. let t = take_body c.args.body.now e i in let long = t.2.long in let short = c.if-body-lt8.true in absurd (omega (arith, long, short))

pub returns-in_default : goal.returns-in_default
returns-in_default c = record {
  read = tt;
  none = λ e i.
      let t = take_body c.args.body.now e i in
      c.in_default.not-Frame _ (c.cut.ensures ∙ ap cut_of c.split_at.ensures.back ∙ t.2.cut);
}

pub returns-then-size-frame-clause-none : goal.returns-then-size-frame-clause-none
returns-then-size-frame-clause-none c = λ e i.
    let t = take_body c.args.body.now e i in
    let size = frame_size _ _ (sym c.in-Frame.is ∙ c.cut.ensures ∙ ap cut_of c.split_at.ensures.back ∙ t.2.cut) in
    c.if-size-frame.true (size ∙ ap (λ (l : List ℕ). length l) (sym c.split_at.ensures.back))

pub returns-in-Ok : goal.returns-in-Ok
returns-in-Ok c =
    let r = c.in-Ok.ensures in
    let body = c.args.body.now in
    let read : FrameRead body c.in-Ok.caller c.in-Ok.command = record { spelled = sym c.split_at.ensures.back ∙ r.spelled; admitted = r.caller; run = r.command; form = r.well_formed; typed = r.typed } in
    let is = c.take_with.ensures ∙ ap (λ k. take_with k c.in-Ok.caller c.in-Ok.command) c.word_at.ensures in
    record {
      read = take_read body c.in-Ok.caller c.in-Ok.command c.take_with.result (λ i. omega (arith, c.type_inv.body i)) (let long = c.if-body-lt8.false in omega (arith, long)) read is;
      none = take_none body c.in-Ok.caller c.in-Ok.command c.take_with.result read is;
    }

pub returns-in_default-why : goal.returns-in_default-why
returns-in_default-why c = record { read = tt; none = not_refused_here c.args.body.now c.split_at.result.1.now c.in-Err.why c.split_at.ensures.back c.in-Err.ensures.refused c.in_default-why.not-OutOfMemory }
