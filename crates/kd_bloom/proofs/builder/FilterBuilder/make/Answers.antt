-- Zeros are the filter of no string.
use Rattle.std.proofs.Common.{rules}
use Rattle.kd_bloom.proofs.Marks.{filter_none}
use Rattle.kd_bloom.proofs.builder.FilterBuilder.make.Goals as goal

pub returns-clause-empty : goal.returns-clause-empty
returns-clause-empty c = rw (c.in_ok-vec.ensures.items_if_clones_equal (search rules)) (filter_none _ _ _)
