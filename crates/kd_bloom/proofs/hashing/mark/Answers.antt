-- One hash more.
use Rattle.std.proofs.Common.{◌≡◌, ◌∙◌, ap, ℕ, ◌%◌, ◌*◌, length}
use Rattle.byteorder.specs.Endian.{big_number}
use Rattle.kd_bloom.specs.Bloom.{digest_bit}
use Rattle.kd_bloom.proofs.Marks.{marked_bits}
use Rattle.kd_bloom.proofs.hashing.mark.Goals as goal

pub hashes-preserved : goal.hashes-preserved
unfolding digest_bit
hashes-preserved c =
    let bit : c.read_u32-word.result % (8 * length c.args.bytes.now) ≡ digest_bit (length c.args.bytes.now) c.args.digest.now c.hashes.j =
    ap (λ (n : ℕ). n % (8 * length c.args.bytes.now)) (c.read_u32-word.ensures ∙ ap (big_number 4) c.split_at.ensures.back) in
    (c.set_bit.ensures.length ∙ c.hashes.invariant.0, marked_bits _ _ _ _ c.args.digest.now _ c.hashes.j c.hashes.invariant.1 bit c.set_bit.ensures.bits)
