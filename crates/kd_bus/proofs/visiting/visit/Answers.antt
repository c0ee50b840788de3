use Rattle.std.proofs.Common.{◌≡◌, suc, ap, subst, ◌∙◌, refl}
use Rattle.kd_acts.specs.State.{by_desk}
use Rattle.kd_acts.specs.Steps.{after, answer}
use Rattle.kd_tables.specs.Drafts.{content_at, seat_in}
use Rattle.kd_holds.specs.Handing.{answer_told, visit_met}
use Rattle.kd_holds.proofs.Counting.{visits_count}
use Rattle.kd_histories.specs.Turns.{Did}
use Rattle.kd_histories.specs.Pools.{hold_freed, marked_numbers}
use Rattle.kd_bus.specs.Slips.{words_in}
use Rattle.kd_bus.specs.Visited.{HasSwept}
use Rattle.kd_bus.proofs.Going.{raises_alone}
use Rattle.kd_bus.proofs.Holding.{counts_low, desk_still, one_visit, visit_put, visit_stands}
use Rattle.kd_bus.proofs.visiting.visit.Goals as goal

pub visit-out-requires-clause-counts : goal.visit-out-requires-clause-counts
visit-out-requires-clause-counts g c =
    let at = c.lock_of-lock.ensures ∙ ap suc c.seat.ensures in
    counts_low (seat_in c.args.asked.now) c.lock_of-lock.result at c.args.pass.now c.take.new.self c.swept-marks.new.pass c.in-Pool.hold c.in-Pool.ensures.took c.swept-marks.result c.free_marked.new.hold c.free_marked.ensures

pub put-requires-clause-stands : goal.put-requires-clause-stands
put-requires-clause-stands g c =
    let at = c.lock_of-lock.ensures ∙ ap suc c.seat.ensures in
    let h = c.in-Pool.hold in
    let marks = c.swept-marks.result in
    let content = content_at c.args.index c.args.plan.now.contents in
    let b = c.visit-out.new.made.drained in
    let vis = visit_met content c.args.asked.now b in
    let swept : HasSwept c.lock_of-lock.result _ marks c.take.new.self.view c.swept-marks.new.pass.view = subst (λ b. HasSwept c.lock_of-lock.result b marks c.take.new.self.view c.swept-marks.new.pass.view) (c.sweeps.ensures content b) c.swept-marks.ensures.swept in
    let e = c.visited-slip.result in
    let d : Did = record { generation = c.generation-generation.result; freed = marked_numbers (words_in marks); act = by_desk vis; answer = answer_told c.args.asked.now c.visit-out.result b } in
    let ans : d.answer ≡ answer (hold_freed d.freed h) (by_desk vis) = c.visit-out.ensures.answer content ∙ ap (λ x. answer x (by_desk vis)) c.free_marked.ensures in
    let few = (c.visit-out.ensures.made c.requires.ready.0 c.requires.ready.1).few in
    visit_stands (seat_in c.args.asked.now) c.lock_of-lock.result at c.args.pass.now c.take.new.self c.swept-marks.new.pass h c.in-Pool.ensures.took marks vis swept c.requires.desk.desk e d c.visited-slip.ensures refl refl c.generation-generation.ensures ans
    (λ n x. visits_count n x content c.args.asked.now b few) c.visit-out.new.self (c.visit-out.ensures.after content ∙ ap (λ x. after x (by_desk vis)) c.free_marked.ensures)

pub put-requires-clause-tie : goal.put-requires-clause-tie
put-requires-clause-tie g c =
    let at = c.lock_of-lock.ensures ∙ ap suc c.seat.ensures in
    let h = c.in-Pool.hold in
    let marks = c.swept-marks.result in
    let content = content_at c.args.index c.args.plan.now.contents in
    let b = c.visit-out.new.made.drained in
    let vis = visit_met content c.args.asked.now b in
    let swept : HasSwept c.lock_of-lock.result _ marks c.take.new.self.view c.swept-marks.new.pass.view = subst (λ b. HasSwept c.lock_of-lock.result b marks c.take.new.self.view c.swept-marks.new.pass.view) (c.sweeps.ensures content b) c.swept-marks.ensures.swept in
    let e = c.visited-slip.result in
    let d : Did = record { generation = c.generation-generation.result; freed = marked_numbers (words_in marks); act = by_desk vis; answer = answer_told c.args.asked.now c.visit-out.result b } in
    let ans : d.answer ≡ answer (hold_freed d.freed h) (by_desk vis) = c.visit-out.ensures.answer content ∙ ap (λ x. answer x (by_desk vis)) c.free_marked.ensures in
    visit_put (seat_in c.args.asked.now) c.lock_of-lock.result at c.args.pass.now c.take.new.self c.swept-marks.new.pass h c.in-Pool.ensures.took marks vis swept c.requires.desk.desk e d c.visited-slip.ensures refl refl c.generation-generation.ensures ans
    (λ size is. c.requires.raised size (raises_alone content c.args.asked.now b size is))

pub returns-clause-desk : goal.returns-clause-desk
returns-clause-desk g c =
    let at = c.lock_of-lock.ensures ∙ ap suc c.seat.ensures in
    let h = c.in-Pool.hold in
    let marks = c.swept-marks.result in
    let content = content_at c.args.index c.args.plan.now.contents in
    let b = c.visit-out.new.made.drained in
    let vis = visit_met content c.args.asked.now b in
    let swept : HasSwept c.lock_of-lock.result _ marks c.take.new.self.view c.swept-marks.new.pass.view = subst (λ b. HasSwept c.lock_of-lock.result b marks c.take.new.self.view c.swept-marks.new.pass.view) (c.sweeps.ensures content b) c.swept-marks.ensures.swept in
    let e = c.visited-slip.result in
    let d : Did = record { generation = c.generation-generation.result; freed = marked_numbers (words_in marks); act = by_desk vis; answer = answer_told c.args.asked.now c.visit-out.result b } in
    let ans : d.answer ≡ answer (hold_freed d.freed h) (by_desk vis) = c.visit-out.ensures.answer content ∙ ap (λ x. answer x (by_desk vis)) c.free_marked.ensures in
    desk_still (seat_in c.args.asked.now) c.lock_of-lock.result at c.args.pass.now c.take.new.self c.swept-marks.new.pass h c.in-Pool.ensures.took marks vis swept c.requires.desk.desk e d c.visited-slip.ensures refl refl c.generation-generation.ensures ans
    c.put.new.self c.put.ensures.passed c.args.gate.now c.requires.desk c.in-Pool.ensures.gate c.swept-marks.ensures.gate c.put.ensures.gate c.in-Pool.ensures.held c.swept-marks.ensures.held c.put.ensures.held

pub returns-clause-visit : goal.returns-clause-visit
returns-clause-visit g c =
    let at = c.lock_of-lock.ensures ∙ ap suc c.seat.ensures in
    let h = c.in-Pool.hold in
    let marks = c.swept-marks.result in
    let content = content_at c.args.index c.args.plan.now.contents in
    let b = c.visit-out.new.made.drained in
    let vis = visit_met content c.args.asked.now b in
    let swept : HasSwept c.lock_of-lock.result _ marks c.take.new.self.view c.swept-marks.new.pass.view = subst (λ b. HasSwept c.lock_of-lock.result b marks c.take.new.self.view c.swept-marks.new.pass.view) (c.sweeps.ensures content b) c.swept-marks.ensures.swept in
    let e = c.visited-slip.result in
    let d : Did = record { generation = c.generation-generation.result; freed = marked_numbers (words_in marks); act = by_desk vis; answer = answer_told c.args.asked.now c.visit-out.result b } in
    let ans : d.answer ≡ answer (hold_freed d.freed h) (by_desk vis) = c.visit-out.ensures.answer content ∙ ap (λ x. answer x (by_desk vis)) c.free_marked.ensures in
    record {
      entry = d;
      visit = one_visit (seat_in c.args.asked.now) c.lock_of-lock.result at c.args.pass.now c.take.new.self c.swept-marks.new.pass h c.in-Pool.ensures.took marks vis swept c.requires.desk.desk e d c.visited-slip.ensures refl refl c.generation-generation.ensures ans
          c.put.new.self c.put.ensures.passed c.requires.seat;
      answer_is = refl;
      generation_is = refl;
    }
