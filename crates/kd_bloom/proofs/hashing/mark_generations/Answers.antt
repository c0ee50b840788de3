-- One generation more.
use Rattle.std.proofs.Common.{◌≡◌, ◌∙◌, arith, ◌<◌, ◌+◌, ◌-◌, ◌*◌, length}
use Rattle.kd_bloom.proofs.Masks.{marked_none, marked_more, pieces-written, length-written, length-pieces, get_or-pieces, slice_length}
use Rattle.kd_bloom.proofs.hashing.mark_generations.Goals as goal

pub generations-init : goal.generations-init
generations-init c = record { joined = c.requires.joined; marked = marked_none _ _ _ _ _ c.requires.joined }

pub generations-preserved : goal.generations-preserved
generations-preserved c =
    let i = c.generations.invariant in
    let size = c.args.param.size in
    let g = c.generations.generation in
    let lt : c.generations.generation < c.args.generations = omega arith in
    let width : c.generations.generation * c.args.param.size + c.args.param.size - c.generations.generation * c.args.param.size ≡ c.args.param.size = omega arith in
    let part = slice_length c.args.generations c.args.param.size c.generations.generation c.generations.bytes lt i.joined in
    let len : length c.mark.new.bytes ≡ c.args.param.size = rw width at c.mark.ensures.length ∙ part in
    let piece = get_or-pieces c.args.generations c.args.param.size c.generations.bytes c.generations.generation lt in
    let bits = rw (width, part, c.hash_count-count.ensures, ← piece) at c.mark.ensures.bits in
    record {
      joined = length-written c.args.generations c.args.param.size c.generations.generation c.generations.bytes c.mark.new.bytes lt i.joined len;
      marked = rw (pieces-written c.args.generations c.args.param.size c.generations.generation c.generations.bytes c.mark.new.bytes lt i.joined len)
          (marked_more c.args.param.size c.args.param.hashes c.generations.generation c.args.digest.now c.mark.new.bytes _ _ i.marked (omega (arith, length-pieces c.args.generations c.args.param.size c.args.bytes.now)) len bits);
    }
