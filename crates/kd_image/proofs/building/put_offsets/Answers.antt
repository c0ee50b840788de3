use Rattle.std.proofs.Common.{◌+◌, ap, ◌∙◌, arith}
use Rattle.kd_image.proofs.Written.{next_begin, next_off, begins_within}
use Rattle.kd_image.proofs.building.put_offsets.Goals as goal

pub overflow_add-at : goal.overflow_add-at
overflow_add-at c =
    let payloads = c.args.payloads.now in
    let i = c.payloads.payload-index in
    let next = next_begin c.args.begin c.payloads.at payloads i c.payload-item.result c.bytes-len.result.now c.payloads-test.true c.payload-item.is c.bytes-len.ensures c.payloads.invariant.1 in
    let all = begins_within c.args.begin payloads (i + 1) in
    omega (arith, next, all, c.padded_len.ensures, c.requires)

pub payloads-preserved : goal.payloads-preserved
payloads-preserved c =
    let payloads = c.args.payloads.now in
    let i = c.payloads.payload-index in
    let next = next_begin c.args.begin c.payloads.at payloads i c.payload-item.result c.bytes-len.result.now c.payloads-test.true c.payload-item.is c.bytes-len.ensures c.payloads.invariant.1 in
    let off = next_off c.args.out.now.items c.payloads.out.items c.args.begin c.payloads.at payloads i c.payload-item.result c.bytes-len.result.now c.payloads-test.true c.payload-item.is c.bytes-len.ensures c.payloads.invariant.1 c.payloads.invariant.0 in
    (c.in_ok-put_item.ensures ∙ off, ap (λ n. c.payloads.at + n) c.padded_len.ensures ∙ next)
