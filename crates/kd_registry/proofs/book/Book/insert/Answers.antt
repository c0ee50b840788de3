use Rattle.std.proofs.Common.{◌≡◌, ◌+◌, length, ap, sym, refl, ◌∙◌, arith, true}
use Rattle.std.specs.Prelude.{is_ok, vec_len}
use Rattle.std.specs.List.{insert}
use Rattle.kd_registry.specs.Counts.{anyone, claimed, weight}
use Rattle.kd_registry.proofs.Counting.{claimed_insert, few_claimed}
use Rattle.kd_registry.proofs.book.Book.insert.Goals as goal

pub enter-requires : goal.enter-requires
enter-requires c = omega (arith, c.self.invariant.0 anyone, few_claimed anyone c.self.inside.claims.items, ap length c.self.view_is, c.requires.room)

pub invariant_of-self : goal.invariant_of-self
invariant_of-self c =
    let r = c.self.inside.claims.items in
    let x = c.args.claim in
    let ok : is_ok c.insert.result ≡ true = ap is_ok c.unwrap.ensures in
    let new : c.insert.new.self.items ≡ insert r c.args.place x = rw (c.insert.ensures.items, ok) refl in
    let len : vec_len c.insert.new.self ≡ vec_len c.self.inside.claims + 1 = rw (c.insert.ensures.len, ok) refl in (
      λ chosen. c.enter.ensures chosen ∙ ap (◌+ weight chosen x) (c.self.invariant.0 chosen) ∙ sym (claimed_insert chosen r c.args.place x) ∙ sym (ap (claimed chosen) new),
      omega (arith, len, ap length c.self.view_is, c.requires.room, c.self.inside.claims.ok.0),
      omega (arith, c.insert.ensures.capacity, c.self.invariant.2),
    )
