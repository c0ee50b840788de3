use Rattle.std.proofs.Common.{◌∙◌, ◌*◌, ◌^◌, ◌-◌, ◌<◌, ◌≤◌, arith, sym, subst}
use Rattle.kd_model.specs.declared.slice_no.TheConstants.{SLICES}
use Rattle.kd_core.specs.Running.{Running}
use Rattle.kd_holds.proofs.Below.{below_more}
use Rattle.kd_core.proofs.VisitLaws.{on_any_err, ready_in, visited_in, visited_said, visited_so, unvisited_in, unvisited_so, visiting_in, whole_unvisited, whole_visited}
use Rattle.kd_core.proofs.world.World.visit.Goals as goal

pub visit_next-requires-clause-ready : goal.visit_next-requires-clause-ready
visit_next-requires-clause-ready c =
    let v = visiting_in c.self.inside c.args.self.now c.args.caller c.args.seat c.self.view_is c.requires.may in
    (v.holder, v.holds, ready_in c.self.inside c.args.caller c.args.seat v c.self.invariant)

pub visit_next-requires-clause-counts : goal.visit_next-requires-clause-counts
visit_next-requires-clause-counts c =
    let few : SLICES * c.self.inside.steps ≤ 2 ^ 63 - 1 = let steps : c.self.inside.steps ≤ 2 ^ 54 = c.self.invariant.steps in omega (arith, steps) in
    below_more (SLICES * c.self.inside.steps) (2 ^ 63 - 1) c.self.inside.pools.items few c.self.invariant.below

pub invariant_of-self : goal.invariant_of-self
invariant_of-self c =
    let e = c.in_err-out.ensures in
    whole_unvisited c.self.inside c.visit_next.new.holder c.visit_next.new.pools c.self.invariant
    (unvisited_in c.self.inside c.args.self.now c.args.caller c.args.seat c.visit_next.new.holder c.self.view_is c.requires.may e.some e.same) e.pools_same

pub returns-in_err-out-clause-err : goal.returns-in_err-out-clause-err
returns-in_err-out-clause-err c =
    let e = c.in_err-out.ensures in
    let same = unvisited_so c.self.inside c.visit_next.new.holder c.visit_next.new.pools.items (unvisited_in c.self.inside c.args.self.now c.args.caller c.args.seat c.visit_next.new.holder c.self.view_is c.requires.may e.some e.same) e.pools_same in
    on_any_err c.from_residual.result (same ∙ c.self.view_is)

pub invariant_of-self-2 : goal.invariant_of-self-2
invariant_of-self-2 c =
    let e = c.in_ok-out.ensures in
    whole_visited c.self.inside c.args.caller c.args.seat c.visit_next.new.holder c.visit_next.new.pools c.in_ok-out.out c.self.invariant
    (subst (λ (r : Running). r.steps < 2 ^ 54) (sym c.self.view_is) c.requires.steps)
    (visited_in c.self.inside c.args.self.now c.args.caller c.args.seat c.visit_next.new.holder c.visit_next.new.pools.items c.in_ok-out.out c.self.view_is c.requires.may c.self.invariant e.some e.holder e.pools)

pub returns-clause-ok : goal.returns-clause-ok
returns-clause-ok c =
    let e = c.in_ok-out.ensures in
    visited_so c.self.inside c.args.self.now c.args.caller c.args.seat c.visit_next.new.holder c.visit_next.new.pools.items c.in_ok-out.out c.self.view_is
    (visited_in c.self.inside c.args.self.now c.args.caller c.args.seat c.visit_next.new.holder c.visit_next.new.pools.items c.in_ok-out.out c.self.view_is c.requires.may c.self.invariant e.some e.holder e.pools)

pub returns-clause-answer : goal.returns-clause-answer
returns-clause-answer c =
    let e = c.in_ok-out.ensures in
    visited_said c.self.inside c.args.self.now c.args.caller c.args.seat c.visit_next.new.holder c.visit_next.new.pools.items c.in_ok-out.out c.self.view_is
    (visited_in c.self.inside c.args.self.now c.args.caller c.args.seat c.visit_next.new.holder c.visit_next.new.pools.items c.in_ok-out.out c.self.view_is c.requires.may c.self.invariant e.some e.holder e.pools)
