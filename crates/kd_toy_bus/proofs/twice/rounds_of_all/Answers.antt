use Rattle.std.proofs.Common.{◌<◌, length, sym, ◌∙◌, arith}
use Rattle.kd_toy_bus.proofs.Backs.{new_at, new_rests}
use Rattle.kd_toy_bus.proofs.twice.rounds_of_all.Goals as goal

pub map_vec-requires-after_bounds : goal.map_vec-requires-after_bounds
map_vec-requires-after_bounds g c κs within = λ i x lt is.
    let new = new_at c.args.gate.now c.args.passes.items c.requires.new i x lt is in
    ((new_rests c.args.gate.now i x new, c.requires.locks), new.fresh.turns)

pub returns : goal.returns
returns g c =
    let before = c.args.passes.ok.0 in
    let after = c.in_ok-all.all.ok.0 in
    let count = c.requires.new.count in
    let len = c.in_ok-all.ensures.len in
    record {
      back = record {
        count = omega arith;
        each = λ k d lt.
            let near : k < length c.args.passes.items = omega arith in
            let job = (c.in_ok-all.ensures.each k d near).1 in
            let new = new_at c.args.gate.now c.args.passes.items c.requires.new k job.job near (sym (job.job_is job.job)) in
            (job.call.met.0, job.call.met.1.0 ∙ new.fresh.name_is);
      };
      turns = λ k d lt. let near : k < length c.args.passes.items = omega arith in (c.in_ok-all.ensures.each k d near).1.call.met.1.1;
    }
