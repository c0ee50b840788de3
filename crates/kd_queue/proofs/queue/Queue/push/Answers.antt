-- A new number below the count of slices finds room, and is apart from the others.
use Rattle.std.proofs.Common.{arith, rules}
use Rattle.kd_queue.specs.declared.entry.Entry.{Entry}
use Rattle.kd_queue.proofs.Numbers.{more, room_for}
use Rattle.kd_queue.proofs.queue.Queue.push.Goals as goal

pub unwrap-requires : goal.unwrap-requires
unwrap-requires c =
    let e : Entry = record { number = c.args.number; priority = c.args.priority } in
    let room = room_for _ _ e c.self.view_is c.self.invariant.slices (search rules) c.requires.below in
    c.push.ensures.succeeds (omega arith)

pub invariant_of-self : goal.invariant_of-self
invariant_of-self c =
    let grown = rw c.unwrap.ensures at c.push.ensures.items in
    record { slices = rw grown (more _ _ c.self.invariant.slices (rw c.self.view_is (search rules)) c.requires.below); room = omega (arith, c.push.ensures.capacity) }
