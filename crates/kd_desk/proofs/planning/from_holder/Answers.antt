use Rattle.std.proofs.Common.{ap, ◌∙◌}
use Rattle.std.specs.List.{list_any}
use Rattle.kd_wire.specs.Commands.{items_of}
use Rattle.kd_wire.specs.Refusals.{is_bad_access}
use Rattle.kd_desk.proofs.Forms.{no_bad_access}
use Rattle.kd_desk.proofs.planning.from_holder.Goals as goal

pub plan_policy_set-requires : goal.plan_policy_set-requires
plan_policy_set-requires c = record {
  numbers = ap (list_any is_bad_access) c.items-in-PolicySet.ensures ∙ no_bad_access c.args.cmd c.in-PolicySet.items (ap items_of c.in-PolicySet.is) c.requires.form;
}
