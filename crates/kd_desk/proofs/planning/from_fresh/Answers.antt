use Rattle.std.proofs.Common.{ap, ◌∙◌}
use Rattle.std.specs.List.{list_any}
use Rattle.kd_wire.specs.Commands.{items_of}
use Rattle.kd_wire.specs.Refusals.{is_bad_access}
use Rattle.kd_desk.proofs.Forms.{has_whole_pool, no_bad_access}
use Rattle.kd_desk.proofs.planning.from_fresh.Goals as goal

pub plan_hello-requires-clause-eights : goal.plan_hello-requires-clause-eights
plan_hello-requires-clause-eights c =
    let h = c.in-Hello in
    has_whole_pool c.args.cmd h.flags h.pool h.send_mask h.receive_mask h.items h.is c.requires.form

pub plan_hello-requires-clause-numbers : goal.plan_hello-requires-clause-numbers
plan_hello-requires-clause-numbers c = no_bad_access c.args.cmd c.in-Hello.items (ap items_of c.in-Hello.is) c.requires.form

pub plan_endpoint_make-requires : goal.plan_endpoint_make-requires
plan_endpoint_make-requires c = record {
  numbers = ap (list_any is_bad_access) c.items-in-EndpointMake.ensures ∙ no_bad_access c.args.cmd c.in-EndpointMake.items (ap items_of c.in-EndpointMake.is) c.requires.form;
}
