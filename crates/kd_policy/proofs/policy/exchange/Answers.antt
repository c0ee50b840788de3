use Rattle.std.proofs.Common.{◌≡◌, Some, None, ap, sym, ◌∙◌}
use Rattle.kd_policy.specs.Policy.{Held, place_of}
use Rattle.kd_policy.proofs.Places.{entries_at, no_entries}
use Rattle.kd_policy.proofs.policy.exchange.Goals as goal

pub returns-in-Some-clause-old : goal.returns-in-Some-clause-old
returns-in-Some-clause-old c =
    let at : place_of c.args.holdings.now.items c.args.owner ≡ Some c.in-Some.place = rw c.as_slice.ensures.value at (sym c.in-Some.ensures.place) in
    c.into_entries.ensures ∙ ap (λ (h : Held). h.entries) c.replace.ensures.value ∙ sym (entries_at c.args.holdings.now.items c.args.owner c.in-Some.place c.index_mut.result.now at c.index_mut.ensures.value)

pub returns-in-None-clause-old : goal.returns-in-None-clause-old
returns-in-None-clause-old c =
    let none : place_of c.args.holdings.now.items c.args.owner ≡ None = rw c.as_slice.ensures.value at (sym c.in-None.ensures.place) in
    c.new-none.ensures.items ∙ sym (no_entries c.args.holdings.now.items c.args.owner none)
