-- Policies and endpoints, computed from the definitions.
use Rattle.std.specs.Prelude.{◌≡◌, true, false, [], ◌∷◌, codes, refl}
use Rattle.kd_types.specs.declared.refusal.Refusal.TheVariants as why
use Rattle.kd_wire.specs.declared.item.WireItem.TheVariants as item
use Rattle.kd_wire.specs.declared.command.Command.TheVariants as cmd
use Rattle.kd_wire.specs.declared.reply.Reply.TheVariants as reply
use Rattle.kd_acts.specs.State.{got, refused}
use Rattle.kd_world.specs.Answers.{turned_away, left, pool_says}
use Rattle.kd_world.proofs.Script.{does, gets, script, plain, hello_of, hello_as, send_to, send_name, acquire, enter}

-- a policy for one element more lets a stranger talk to just such names
a_wildcard_covers_one_element :
    script (
    does 1 (hello_of 4096) ∷ does 2 (hello_of 4096) ∷ does 1 (acquire 0 (codes "foo.bar.baz")) ∷
    does 2 (acquire 0 (codes "foo.bar.baz.baz")) ∷
    does 3 (hello_as 4 0 (item.Name (codes "foo.bar.*") ∷ item.Access 3 2 0 ∷ [])) ∷ does 4 (enter 1001 false) ∷
    does 4 (hello_of 4096) ∷ does 4 (send_name (codes "foo.bar.baz")) ∷ does 4 (send_name (codes "foo.bar.baz.baz")) ∷ [])
    ≡ left (reply.Hello 1 64 8) ∷ left (reply.Hello 2 64 8) ∷ left (reply.NameAcquire false) ∷
    left (reply.NameAcquire false) ∷ left (reply.Hello 3 64 8) ∷ left reply.Enter ∷ left (reply.Hello 4 64 8) ∷
    left reply.Send ∷ turned_away why.NotPermitted ∷ []
unfolding script
a_wildcard_covers_one_element = refl

-- an endpoint's own list hides names and forbids to talk, whoever the caller is
an_endpoint_binds_the_privileged :
    script (
    does 1 (hello_of 4096) ∷ does 1 (acquire 0 (codes "a.b")) ∷
    does 2 (cmd.EndpointMake (item.Endpoint (codes "ep1") ∷ [])) ∷ does 3 (enter 0 true) ∷
    does 3 (hello_as 0 4096 (item.Endpoint (codes "ep1") ∷ [])) ∷ does 3 (send_name (codes "a.b")) ∷
    does 2 (cmd.PolicySet (item.Name (codes "a.b") ∷ item.Access 3 1 0 ∷ [])) ∷ does 3 (send_name (codes "a.b")) ∷
    does 2 (cmd.PolicySet (item.Name (codes "a.b") ∷ item.Access 3 2 0 ∷ [])) ∷ does 3 (send_name (codes "a.b")) ∷ [])
    ≡ left (reply.Hello 1 64 8) ∷ left (reply.NameAcquire false) ∷ left reply.EndpointMake ∷ left reply.Enter ∷
    left (reply.Hello 2 64 8) ∷ turned_away why.NoSuchName ∷ left reply.PolicySet ∷ turned_away why.NotPermitted ∷
    left reply.PolicySet ∷ left reply.Send ∷ []
unfolding script
an_endpoint_binds_the_privileged = refl

-- who came by an endpoint is gone with it, and comes back as somebody new
an_endpoint_goes_with_its_connections :
    script (
    does 1 (cmd.EndpointMake (item.Endpoint (codes "ep1") ∷ [])) ∷
    does 2 (hello_as 0 4096 (item.Endpoint (codes "ep1") ∷ [])) ∷ does 1 cmd.Close ∷ gets 2 plain ∷ does 2 (send_to 1) ∷
    does 2 cmd.Close ∷ does 2 (hello_of 4096) ∷ [])
    ≡ left reply.EndpointMake ∷ left (reply.Hello 1 64 8) ∷ left reply.Close ∷ pool_says (refused why.WrongState) ∷
    turned_away why.WrongState ∷ left reply.Close ∷ left (reply.Hello 2 64 8) ∷ []
unfolding script
an_endpoint_goes_with_its_connections = refl

-- the seat of a connection that others closed isn't given away before its own caller knows
a_blocked_seat_waits_for_its_caller :
    script (
    does 1 (cmd.EndpointMake (item.Endpoint (codes "ep1") ∷ [])) ∷
    does 2 (hello_as 0 4096 (item.Endpoint (codes "ep1") ∷ [])) ∷ does 1 cmd.Close ∷ does 3 (hello_of 4096) ∷
    does 3 (send_to 2) ∷ gets 2 plain ∷ gets 3 plain ∷ does 2 cmd.Byebye ∷ does 2 (hello_of 4096) ∷ [])
    ≡ left reply.EndpointMake ∷ left (reply.Hello 1 64 8) ∷ left reply.Close ∷ left (reply.Hello 2 64 8) ∷
    left reply.Send ∷ pool_says (refused why.WrongState) ∷ pool_says (got 0 0 104 0) ∷ left reply.Byebye ∷
    left (reply.Hello 3 64 8) ∷ []
unfolding script
a_blocked_seat_waits_for_its_caller = refl

-- a policy holder's list may have wildcards and an endpoint's may not; the default endpoint has its
-- label already
wildcards_are_for_the_bus :
    script (
    does 1 (hello_as 4 0 []) ∷ does 1 (cmd.PolicySet (item.Name (codes "a.*") ∷ item.Access 3 2 0 ∷ [])) ∷
    does 2 (cmd.EndpointMake (item.Endpoint (codes "ep1") ∷ [])) ∷
    does 2 (cmd.PolicySet (item.Name (codes "a.*") ∷ item.Access 3 2 0 ∷ [])) ∷
    does 3 (cmd.EndpointMake (item.Endpoint (codes "bus") ∷ [])) ∷ [])
    ≡ left (reply.Hello 1 64 8) ∷ left reply.PolicySet ∷ left reply.EndpointMake ∷ turned_away why.BadFlags ∷
    turned_away why.EndpointExists ∷ []
unfolding script
wildcards_are_for_the_bus = refl

-- a HELLO may name the one bus there is, and no other
there_is_one_bus :
    script (
    does 1 (hello_as 0 4096 (item.Bus (codes "1000-other") ∷ [])) ∷
    does 1 (hello_as 0 4096 (item.Bus (codes "1000-replay") ∷ [])) ∷
    does 1 (hello_as 0 4096 (item.Bus (codes "1000-other") ∷ [])) ∷ [])
    ≡ turned_away (why.NoSuchBus 0) ∷ left (reply.Hello 1 64 8) ∷ turned_away why.WrongState ∷ []
unfolding script
there_is_one_bus = refl
