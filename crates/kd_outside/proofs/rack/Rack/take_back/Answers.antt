use Rattle.std.proofs.Common.{◌∙◌, ap, ◌≤◌, length, rules}
use Rattle.kd_outside.specs.Racks.{with_one_back}
use Rattle.kd_outside.proofs.Splits.{made_ok, put_back}
use Rattle.kd_outside.proofs.rack.Rack.take_back.Goals as goal

pub returns : goal.returns
returns g c =
    let s = c.self.inside in
    let inside : s.back ≤ length s.items.items = search rules in
    put_back s.items.items c.insert.new.self.items s.back s.out c.args.item inside
    (c.insert.ensures.items ∙ made_ok c.insert.result c.unwrap.result _ _ c.unwrap.ensures)
    ∙ ap (with_one_back c.args.item) c.self.view_is
