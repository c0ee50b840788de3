-- A counter that goes behind the others leaves its own place to itself.
use Rattle.std.proofs.Common.{arith, ap, length, ◌≡◌, inl, inr}
use Rattle.kd_model.specs.Words.{but_those}
use Rattle.kd_seal.specs.Book.{counts}
use Rattle.kd_seal.proofs.Fewer.{fewer_without, at_most}
use Rattle.kd_seal.proofs.seals.count.Goals as goal

pub unwrap-requires : goal.unwrap-requires
unwrap-requires c =
    let left : length c.forget.new.counters.items ≡ length (but_those (counts c.args.id) c.args.counters.now.items) = ap length c.forget.ensures.others in
    c.push.ensures.succeeds (elim c.requires.room [
      | inl counted ↦ (let fewer = fewer_without (counts c.args.id) c.args.counters.now.items counted in omega (arith, left, fewer))
      | inr room ↦ (let most = at_most (counts c.args.id) c.args.counters.now.items in omega (arith, left, most, room))
    ])
