use Rattle.std.proofs.Common.{ℕ, List, length, min, ap, ◌∙◌}
use Rattle.kd_image.proofs.Written.{range_between}
use Rattle.kd_image.proofs.building.put_body.Goals as goal

pub returns : goal.returns
returns c =
    let least = c.min.ensures ∙ ap (λ (l : List (List ℕ)). min c.in-Some.range.place (length l)) c.blobs-payloads.ensures in
    rw (c.in_ok-put_offsets-2.ensures.ok, c.in_ok-put_range.ensures, c.in_ok-next.ensures.ok, c.in_ok-next.ensures.end, c.split_at.ensures.front, c.split_at.ensures.back, c.blobs-payloads.ensures, c.in-Some.is)
    (range_between c.args.out.now.items c.args.begin c.min.result c.args.message.now.payloads c.in-Some.range least)
