use Rattle.std.proofs.Common.{◌≡◌, ◌^◌, ℕ, List, length, min, ap, ◌∙◌, arith}
use Rattle.kd_image.specs.Images.{laid}
use Rattle.kd_image.proofs.Lengths.{length_parts}
use Rattle.kd_image.proofs.length.whole_len.Goals as goal

pub returns : goal.returns
returns c =
    let m = c.args.message.now in
    let payloads : c.payloads_len.result ≡ min (length (laid m.payloads)) (2 ^ 32) = c.payloads_len.ensures.value ∙ ap (λ (l : List (List ℕ)). min (length (laid l)) (2 ^ 32)) c.blobs.ensures in
    omega (arith, length_parts m c.args.attached.now, c.front_len.ensures.value, payloads, c.min.ensures)
