-- POLICY_SET: a holder or the keeper of an endpoint replaces its entries. All its refusals are the
-- policy's (`put_refusal`).
use Rattle.std.specs.Prelude.{List, [], Result}
use Rattle.kd_types.specs.declared.refusal.Refusal.{Refusal}
use Rattle.kd_wire.specs.declared.item.WireItem.{WireItem}
use Rattle.kd_wire.specs.declared.reply.Reply.TheVariants as reply
use Rattle.kd_policy.specs.declared.owner.Owner.{Owner}
use Rattle.kd_policy.specs.Policy.{put_refusal, after_put}
use Rattle.kd_commands.specs.declared.who.WhoKind.{WhoKind}
use Rattle.kd_commands.specs.State.{Desk}
use Rattle.kd_commands.specs.Items.{entries_in}
use Rattle.kd_commands.specs.Plans.{Plan, unless_refused}

-- an owner's entries are replaced
unfoldable pub policy_set : Desk → WhoKind → Owner → List WireItem → Result Plan Refusal
policy_set d w o is =
    unless_refused (put_refusal o (entries_in is))
    (record {
      parts = [];
      reply = reply.PolicySet;
      next = record d { policy = after_put d.policy o (entries_in is) };
      becomes = w;
    })
