use Rattle.std.proofs.Common.{rules}
use Rattle.std.specs.Prelude.{IsTrue}
use Rattle.kd_trace.proofs.Written.{answered}
use Rattle.kd_trace.proofs.recording.RecorderWitness.hear.Goals as goal

pub returns-then-branch : goal.returns-then-branch
returns-then-branch c = λ hs e w.
    let same : IsTrue c.in_ok-is_read_again.field-0 = search rules in
    answered c.args.self.now.written.items c.put_outcome.new.out.items c.args.self.now.caller c.args.self.now.number hs e c.args.answer.now w c.in_ok-put_outcome.ensures (c.in_ok-is_read_again.ensures.stands same) (c.in_ok-is_read_again.ensures.fits same)
