-- Names and what goes with them, computed from the definitions.
use Rattle.std.specs.Prelude.{◌≡◌, true, false, [], ◌∷◌, codes, refl}
use Rattle.kd_types.specs.declared.refusal.Refusal.TheVariants as why
use Rattle.kd_wire.specs.declared.item.WireItem.TheVariants as item
use Rattle.kd_wire.specs.declared.command.Command.TheVariants as cmd
use Rattle.kd_wire.specs.declared.reply.Reply.TheVariants as reply
use Rattle.kd_acts.specs.State.{got}
use Rattle.kd_world.specs.Answers.{turned_away, left, pool_says}
use Rattle.kd_world.proofs.Script.{does, gets, script, plain, hello_of, hello_as, message_to, call_to, send_name, acquire}

-- the owner that is replaced stands next, and the queue is listed behind the owner
a_replaced_owner_queues :
    script (
    does 1 (hello_of 4096) ∷ does 2 (hello_of 4096) ∷ does 3 (hello_of 4096) ∷
    does 1 (acquire 6 (codes "org.example.App")) ∷ does 2 (acquire 1 (codes "org.example.App")) ∷
    does 3 (acquire 4 (codes "org.example.App")) ∷ does 2 cmd.Close ∷ does 1 (cmd.NameList (record { 0 = 10 })) ∷ [])
    ≡ left (reply.Hello 1 64 8) ∷ left (reply.Hello 2 64 8) ∷ left (reply.Hello 3 64 8) ∷ left (reply.NameAcquire false) ∷
    left (reply.NameAcquire false) ∷ left (reply.NameAcquire true) ∷ left reply.Close ∷
    left (reply.NameList (record { id = 1; standing = 1; name = codes "org.example.App" } ∷ record { id = 3; standing = 2; name = codes "org.example.App" } ∷ [])) ∷ []
unfolding script
a_replaced_owner_queues = refl

-- a name is taken, owned already, nobody's, or another's
refusals_of_names :
    script (
    does 1 (hello_of 4096) ∷ does 2 (hello_of 4096) ∷ does 1 (acquire 4 (codes "a.b")) ∷
    does 2 (acquire 0 (codes "a.b")) ∷ does 2 (cmd.NameRelease (codes "a.b")) ∷ does 2 (cmd.NameRelease (codes "c.d")) ∷
    does 1 (acquire 4 (codes "a.b")) ∷ [])
    ≡ left (reply.Hello 1 64 8) ∷ left (reply.Hello 2 64 8) ∷ left (reply.NameAcquire false) ∷ turned_away why.NameTaken ∷
    turned_away why.NotOwner ∷ turned_away why.NoSuchName ∷ turned_away why.AlreadyOwned ∷ []
unfolding script
refusals_of_names = refl

-- a message to a name and an id finds another owner; a message that starts nothing finds an
-- activator
a_name_that_moved :
    script (
    does 1 (hello_of 4096) ∷ does 2 (hello_of 4096) ∷ does 3 (hello_of 4096) ∷ does 1 (acquire 0 (codes "a.b")) ∷
    does 3 (message_to 2 (item.DstName (codes "a.b") ∷ [])) ∷ does 4 (hello_as 2 4096 (item.Name (codes "c.d") ∷ [])) ∷
    does 3 (call_to 2 0 0 0 (item.DstName (codes "c.d") ∷ [])) ∷ [])
    ≡ left (reply.Hello 1 64 8) ∷ left (reply.Hello 2 64 8) ∷ left (reply.Hello 3 64 8) ∷ left (reply.NameAcquire false) ∷
    turned_away (why.NameMoved 1) ∷ left (reply.Hello 4 64 8) ∷ turned_away why.NotStarted ∷ []
unfolding script
a_name_that_moved = refl

-- who takes an activator's name gets the messages that waited for it
what_waited_is_handed_over :
    script (
    does 1 (hello_as 2 4096 (item.Name (codes "a.b") ∷ [])) ∷ does 2 (hello_of 4096) ∷ does 2 (send_name (codes "a.b")) ∷
    does 2 (acquire 0 (codes "a.b")) ∷ gets 2 plain ∷ [])
    ≡ left (reply.Hello 1 64 8) ∷ left (reply.Hello 2 64 8) ∷ left reply.Send ∷ left (reply.NameAcquire false) ∷
    pool_says (got 0 0 128 0) ∷ []
unfolding script
what_waited_is_handed_over = refl
