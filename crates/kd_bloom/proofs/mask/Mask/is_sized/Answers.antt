-- Each generation has as many bytes as eight times its words.
use Rattle.std.proofs.Common.{sym}
use Rattle.kd_bloom.proofs.Masks.{sized_words}
use Rattle.kd_bloom.proofs.mask.Mask.is_sized.Goals as goal

pub returns : goal.returns
returns c = rw (← c.self.view_is) (sym (sized_words c.args.size _ _ _ c.self.invariant))
