use Rattle.std.proofs.Common.{◌∙◌, ap, ◌≤◌, ◌≡◌, length, nat_eq, rules}
use Rattle.kd_model.specs.Words.{is_empty}
use Rattle.kd_outside.proofs.Splits.{over_at}
use Rattle.kd_outside.proofs.rack.Rack.is_over.Goals as goal

pub returns : goal.returns
returns g c =
    let s = c.self.inside in
    let inside : s.back ≤ length s.items.items = search rules in
    let count : c.len.result ≡ length s.items.items = search rules in
    ap (nat_eq s.back) count ∙ over_at s.back s.items.items inside ∙ ap (λ r. is_empty r.coming) c.self.view_is
