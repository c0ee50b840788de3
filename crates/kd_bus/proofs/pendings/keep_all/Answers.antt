-- One part after the other.
use Rattle.std.proofs.Common.{◌+◌, arith, subst, sym}
use Rattle.kd_tables.specs.Drafts.{Draft}
use Rattle.kd_bus.proofs.Placing.{IsKeeping, keeps_all, keeps_more}
use Rattle.kd_bus.proofs.pendings.keep_all.Goals as goal

pub outs-preserved : goal.outs-preserved
outs-preserved c =
    let room = c.outs.invariant.0 in
    let outs = c.args.outs.now in
    let gs = c.args.generations.now in
    let more = keeps_more c.args.plan.now c.outs.plan outs gs c.args.pendings.now.items c.outs.pendings.items c.keep.new.pendings.items c.outs.index c.index-outs-index.result c.generation_at-generation.result
    c.outs-test.true c.requires.visited c.requires.generations c.index-outs-index.is c.generation_at-generation.ensures c.outs.invariant.1 c.keep.ensures.pendings in
    (omega (arith, room, c.keep.ensures.len, c.keep.ensures.room), subst (λ (p : Draft). IsKeeping c.args.plan.now p outs gs c.args.pendings.now.items c.keep.new.pendings.items (c.outs.index + 1)) (sym c.keep.ensures.plan) more)

pub returns-clause-pendings : goal.returns-clause-pendings
returns-clause-pendings c =
    keeps_all c.args.plan.now c.outs.plan c.args.outs.now c.args.generations.now c.args.pendings.now.items c.outs.pendings.items c.outs.index c.outs-test.false c.outs.invariant.1
