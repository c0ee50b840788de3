use Rattle.std.proofs.Common.{◌<◌, length, ap, arith}
use Rattle.kd_registry.specs.Counts.{anyone}
use Rattle.kd_registry.proofs.Counting.{weight_within, told_with, room_again}
use Rattle.kd_registry.proofs.book.Book.replace.Goals as goal

pub strike-requires : goal.strike-requires
strike-requires c = weight_within c.self.inside.holdings c.self.inside.claims.items c.args.place c.index.result.now c.self.invariant.0 (omega (arith, c.requires, ap length c.self.view_is)) c.index.ensures

pub enter-requires : goal.enter-requires
enter-requires c = room_again c.self.inside.holdings c.strike.new.self c.self.inside.claims.items c.args.place c.index.result.now c.self.invariant.0 (c.strike.ensures anyone) (omega (arith, c.requires, ap length c.self.view_is)) c.index.ensures (omega (arith, c.self.invariant.1, c.self.inside.claims.ok.0))

pub invariant_of-self : goal.invariant_of-self
invariant_of-self c =
    let within : c.args.place < length c.self.inside.claims.items = omega (arith, c.requires, ap length c.self.view_is) in (
      λ chosen. told_with chosen c.self.inside.holdings c.strike.new.self c.enter.new.self c.self.inside.claims.items c.args.place c.index.result.now c.args.claim c.self.invariant.0 (c.strike.ensures chosen) (c.enter.ensures chosen) within c.index.ensures,
      c.self.invariant.1,
      c.self.invariant.2,
    )
