-- The one at the place is the first, and what is left are the others.
use Rattle.std.proofs.Common.{ap, sym, ◌∙◌}
use Rattle.std.specs.List.{position}
use Rattle.kd_world.specs.Own.{is_pending_at}
use Rattle.kd_holds.proofs.Firsts.{first_at, none_there, without_at}
use Rattle.kd_holds.proofs.oldest.take.Goals as goal

pub unreachable-requires : goal.unreachable-requires
unreachable-requires c =
    let test = is_pending_at c.args.seat c.args.number in
    c.requires (none_there test _ (ap (position test) (sym c.deref.ensures.value) ∙ sym c.place_of.ensures ∙ c.in_default.is))

pub returns-clause-taken : goal.returns-clause-taken
returns-clause-taken c =
    let test = is_pending_at c.args.seat c.args.number in
    first_at test _ c.in-Some.place _ (ap (position test) (sym c.deref.ensures.value) ∙ sym c.place_of.ensures ∙ c.in-Some.is) c.remove.ensures.value

pub returns-clause-others : goal.returns-clause-others
returns-clause-others c =
    let test = is_pending_at c.args.seat c.args.number in
    c.remove.ensures.items ∙ without_at test _ c.in-Some.place c.remove.result (ap (position test) (sym c.deref.ensures.value) ∙ sym c.place_of.ensures ∙ c.in-Some.is)
