use Rattle.std.proofs.Common.{ℕ, List, sym, ap, ◌∙◌}
use Rattle.kd_model.specs.Words.{text_below}
use Rattle.kd_image.proofs.Rising.{rising_push}
use Rattle.kd_image.proofs.order.may_follow.Goals as goal

pub returns-in-Some : goal.returns-in-Some
returns-in-Some c =
    let name = c.args.name.now in
    c.is_below.ensures ∙ ap (λ (l : List ℕ). text_below l name) c.bytes.ensures ∙ sym (rising_push c.args.names.now c.in-Some.last.now name c.requires c.in-Some.ensures.value)
