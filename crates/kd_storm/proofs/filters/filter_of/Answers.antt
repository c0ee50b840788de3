-- The one string was added to a filter of none.
use Rattle.std.proofs.Common.{[], ap, ◌∙◌}
use Rattle.kd_bloom.specs.Building.{FilterSoFar}
use Rattle.kd_storm.proofs.Built.{filter_is}
use Rattle.kd_storm.proofs.filters.filter_of.Goals as goal

pub returns : goal.returns
returns c =
    let made = c.in_ok-filter.ensures in
    let param = c.in-Some.ensures.value in
    let shape = c.add.ensures.shape in
    filter_is _ _ _ (c.add.ensures.one_more [] made.empty)
    (ap (λ (f : FilterSoFar). f.size) shape ∙ (made.shape.0 ∙ param.0))
    (ap (λ (f : FilterSoFar). f.hashes) shape ∙ (made.shape.1 ∙ param.1))
    (ap (λ (f : FilterSoFar). f.generation) shape ∙ made.shape.2)
    (c.of-2.ensures ∙ c.finish.ensures)
