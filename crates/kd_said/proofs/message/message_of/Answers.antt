use Rattle.std.proofs.Common.{FitsSigned, rules, w64, ap, ◌∙◌}
use Rattle.std.proofs.lemmas.Int.{to_z-of_z}
use Rattle.kd_commands.specs.Items.{destination_name, payloads}
use Rattle.kd_said.proofs.Sorted.{message_is}
use Rattle.kd_said.proofs.message.message_of.Goals as goal

pub returns : goal.returns
returns c =
    let fits : FitsSigned w64 c.args.sent.priority = search rules in
    message_is c.args.sent _ c.in_ok-dst_name.dst_name c.of.result c.args.sealed (to_z-of_z w64 c.args.sent.priority fits)
    (c.in_ok-dst_name.ensures.name ∙ ap destination_name c.into_vec.ensures)
    (c.of.ensures ∙ c.in_ok-dst_name.ensures.payloads ∙ ap payloads c.into_vec.ensures)
    c.requires
