-- The pieces of the bytes are what is seen.
use Rattle.std.proofs.Common.{◌∙◌, ap, sym, ℕ, ◌*◌}
use Rattle.kd_bloom.specs.Bits.{pieces}
use Rattle.kd_bloom.proofs.Masks.{length-pieces}
use Rattle.kd_bloom.proofs.mask_builder.MaskBuilder.finish.Goals as goal

pub returns-clause-joined : goal.returns-clause-joined
returns-clause-joined c = rw (← c.self.view_is) (ap (λ (n : ℕ). pieces n c.self.inside.param.size c.self.inside.bytes.items) (length-pieces c.self.inside.generations c.self.inside.param.size c.self.inside.bytes.items))

pub returns-clause-length : goal.returns-clause-length
returns-clause-length c = rw (← c.self.view_is) (c.self.invariant.0 ∙ ap (λ (n : ℕ). n * c.self.inside.param.size) (sym (length-pieces c.self.inside.generations c.self.inside.param.size c.self.inside.bytes.items)))
