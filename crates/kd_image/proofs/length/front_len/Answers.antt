use Rattle.std.proofs.Common.{◌≡◌, ℕ, List, length, map, min, ◌*◌, ◌^◌, sym, ap, ◌∙◌, arith}
use Rattle.std.proofs.lemmas.List.{length-map}
use Rattle.kd_item.specs.Spelling.{spellings}
use Rattle.kd_image.specs.Items.{contents, owned_item}
use Rattle.kd_image.proofs.Lengths.{front_parts}
use Rattle.kd_image.proofs.length.front_len.Goals as goal

pub returns-clause-value : goal.returns-clause-value
returns-clause-value c =
    let m = c.args.message.now in
    let a = c.args.attached.now in
    let names : c.names_len.result ≡ min (length (spellings (map owned_item a.names))) (2 ^ 32) = c.names_len.ensures.value ∙ ap (λ (l : List (List ℕ)). min (length (spellings (map owned_item l))) (2 ^ 32)) c.texts.ensures in
    let count : length c.blobs.result.now ≡ length (map length m.payloads) = ap length c.blobs.ensures ∙ sym (length-map m.payloads length) in
    let one : c.item_len.result ≡ 32 = c.item_len.ensures in
    let parts = front_parts (contents m a) in
    let body : c.item_len.result * c.min.result ≡ 32 * c.min.result = ap (λ (n : ℕ). n * c.min.result) one in
    omega (arith, body, names, count, parts, c.creds_len.ensures.value, c.text_len.ensures.value, c.moment_len.ensures.value, c.text_len-2.ensures.value, c.range_len.ensures.value, c.min.ensures, c.min-2.ensures)
