-- Zeros are the mask of no string.
use Rattle.std.proofs.Common.{rules, refl}
use Rattle.kd_bloom.proofs.Masks.{length-pieces, masks_none}
use Rattle.kd_bloom.proofs.mask_builder.MaskBuilder.make.Goals as goal

pub returns-clause-shape : goal.returns-clause-shape
returns-clause-shape c = (refl, refl, length-pieces _ _ _)

pub returns-clause-empty : goal.returns-clause-empty
returns-clause-empty c = rw (c.in_ok-vec.ensures.items_if_clones_equal (search rules)) (masks_none _ _ _)
