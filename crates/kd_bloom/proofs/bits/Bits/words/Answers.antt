-- The words hold what is seen.
use Rattle.kd_bloom.proofs.Packs.{packs_seen}
use Rattle.kd_bloom.proofs.bits.Bits.words.Goals as goal

pub returns : goal.returns
returns c = rw (c.deref.ensures.value, ← c.self.view_is) (packs_seen _ _ c.self.invariant)
