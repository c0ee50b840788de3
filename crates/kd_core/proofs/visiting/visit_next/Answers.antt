-- The holder that is there, and the one that it becomes.
use Rattle.std.proofs.Common.{sym, ◌∙◌}
use Rattle.kd_wire.proofs.Formed.{of_answer}
use Rattle.kd_core.proofs.VisitLaws.{visited_named}
use Rattle.kd_core.proofs.visiting.visit_next.Goals as goal

pub returns-clause-pools : goal.returns-clause-pools
returns-clause-pools c = of_answer c.visit.result
    (λ out f. λ h k p rest held now ahead. visited_named c.in-Some.holder c.visit.new.self h k c.args.pools.now.items c.visit.new.pools.items out f (sym c.in-Some.is ∙ held) now p rest ahead)
    c.visit.ensures.pools
