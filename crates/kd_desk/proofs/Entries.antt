-- The entries of an owner, as they are planned.
use Rattle.std.proofs.Common.{◌≡◌, ◌<◌, Bool, true, List, [], length, Some, None, Ok, Err, sym, ap, ◌∙◌, arith}
use Rattle.std.specs.Prelude.{◌||◌, nat_lt, is_some}
use Rattle.std.proofs.lemmas.Bool.Decides.{nat_tests}
use Rattle.kd_types.specs.declared.refusal.Refusal.{Refusal}
use Rattle.kd_wire.specs.declared.item.WireItem.{WireItem}
use Rattle.kd_wire.specs.declared.reply.Reply.TheVariants as reply
use Rattle.kd_policy.specs.declared.entry.Entry.{Entry}
use Rattle.kd_policy.specs.declared.owner.Owner.{Owner}
use Rattle.kd_policy.specs.Policy.{Policy, after_put, place_of, put_refusal}
use Rattle.kd_commands.specs.declared.who.WhoKind.{WhoKind}
use Rattle.kd_commands.specs.State.{Desk}
use Rattle.kd_commands.specs.Items.{entries_in}
use Rattle.kd_commands.specs.Plans.{unless_refused}
use Rattle.kd_commands.specs.Policy.{policy_set}

pub set_refused : (d : Desk) (w : WhoKind) (o : Owner) (is : List WireItem) (es : List Entry) (why : Refusal) → es ≡ entries_in is → put_refusal o es ≡ Some why → policy_set d w o is ≡ Err why
unfolding policy_set
set_refused d w o is es why e r = ap (λ x. unless_refused x (record { parts = []; reply = reply.PolicySet; next = record d { policy = after_put d.policy o (entries_in is) }; becomes = w })) (ap (put_refusal o) (sym e) ∙ r)

pub set_planned : (d : Desk) (w : WhoKind) (o : Owner) (is : List WireItem) (es : List Entry) → es ≡ entries_in is → put_refusal o es ≡ None
    → policy_set d w o is ≡ Ok (record { parts = []; reply = reply.PolicySet; next = record d { policy = after_put d.policy o es }; becomes = w })
unfolding policy_set
set_planned d w o is es e r = rw e (ap (λ x. unless_refused x (record { parts = []; reply = reply.PolicySet; next = record d { policy = after_put d.policy o (entries_in is) }; becomes = w })) (ap (put_refusal o) (sym e) ∙ r))

-- the policy has room for the owner
pub has_room_for : (p : Policy) (o : Owner) (b : Bool) → b ≡ (is_some (place_of p o) || nat_lt (length p) 72) → b ≡ true → place_of p o ≡ None → length p < 72
has_room_for p o b e t none = let less : nat_lt (length p) 72 ≡ true = sym (ap (λ x. is_some x || nat_lt (length p) 72) none) ∙ sym e ∙ t in grind (arith, nat_tests)
