-- One part after the other.
use Rattle.std.proofs.Common.{◌+◌, arith, subst, sym}
use Rattle.kd_tables.specs.Drafts.{Draft}
use Rattle.kd_holds.proofs.Kept.{IsKeeping, keeps_all, keeps_more}
use Rattle.kd_holds.proofs.keeping.keep_all.Goals as goal

pub outs-preserved : goal.outs-preserved
outs-preserved c =
    let room = c.outs.invariant.0 in
    let pools = c.args.pools.now in
    let outs = c.args.outs.now in
    let more = keeps_more pools c.args.plan.now c.outs.plan outs c.args.pendings.now.items c.outs.pendings.items c.keep.new.pendings.items c.outs.index c.index-outs-index.result
    c.outs-test.true c.requires.visited c.index-outs-index.is c.outs.invariant.1 c.keep.ensures.pendings in
    (omega (arith, room, c.keep.ensures.len, c.keep.ensures.room), subst (λ (p : Draft). IsKeeping pools c.args.plan.now p outs c.args.pendings.now.items c.keep.new.pendings.items (c.outs.index + 1)) (sym c.keep.ensures.plan) more)

pub returns-clause-pendings : goal.returns-clause-pendings
returns-clause-pendings c =
    keeps_all c.args.pools.now c.args.plan.now c.outs.plan c.args.outs.now c.args.pendings.now.items c.outs.pendings.items c.outs.index c.outs-test.false c.outs.invariant.1
