use Rattle.std.proofs.Common.{◌<◌, length, ap, sym, ◌∙◌, arith}
use Rattle.kd_registry.specs.Counts.{claimed}
use Rattle.kd_registry.proofs.Counting.{weight_within, told_without}
use Rattle.kd_registry.proofs.book.Book.remove.Goals as goal

pub strike-requires : goal.strike-requires
strike-requires c = weight_within c.self.inside.holdings c.self.inside.claims.items c.args.place c.remove-gone.result c.self.invariant.0 (omega (arith, c.requires, ap length c.self.view_is)) c.remove-gone.ensures.value

pub invariant_of-self : goal.invariant_of-self
invariant_of-self c =
    let within : c.args.place < length c.self.inside.claims.items = omega (arith, c.requires, ap length c.self.view_is) in (
      λ chosen. told_without chosen c.self.inside.holdings c.strike.new.self c.self.inside.claims.items c.args.place c.remove-gone.result c.self.invariant.0 (c.strike.ensures chosen) within c.remove-gone.ensures.value ∙ sym (ap (claimed chosen) c.remove-gone.ensures.items),
      omega (arith, c.remove-gone.ensures.len, c.self.invariant.1),
      omega (arith, c.remove-gone.ensures.capacity, c.self.invariant.2),
    )
