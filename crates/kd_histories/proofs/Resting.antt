-- What the lists say whenever nobody holds the desk.
use Rattle.std.specs.Prelude.{suc, false, ◌++◌}
use Rattle.std.proofs.Common.{ap, ◌∙◌}
use Rattle.std.proofs.lemmas.List.{append-nil}
use Rattle.kd_world.specs.State.{closed_pool}
use Rattle.kd_histories.specs.Slots.{unborn}
use Rattle.kd_histories.specs.Visits.{addressed, visits_opened}
use Rattle.kd_histories.specs.Known.{ExactlyAddressed, OpenAreLive, open_by}
use Rattle.kd_histories.proofs.Holds.{open_along}
use Rattle.kd_histories.proofs.Knowing.{lists_know}

pub exactly_addressed : ExactlyAddressed
unfolding visits_opened
exactly_addressed h c tie free =
    tie.addressed c
    ∙ (ap (λ o. addressed c unborn (h.lists 0) ++ visits_opened (suc c) o) free ∙ append-nil (addressed c unborn (h.lists 0)))

pub open_are_live : OpenAreLive
open_are_live h c tie free =
    open_along closed_pool (h.lists (suc c)) (tie.done c)
    ∙ (ap (λ xs. open_by xs false) (exactly_addressed h c tie free) ∙ (lists_know (h.lists 0) tie.told tie.fair).live c)
