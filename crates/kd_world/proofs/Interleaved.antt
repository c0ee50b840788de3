-- Events of several callers in between each other, computed from the definitions.
use Rattle.std.specs.Prelude.{◌≡◌, true, false, [], ◌∷◌, replicate, codes, refl}
use Rattle.kd_types.specs.declared.refusal.Refusal.TheVariants as why
use Rattle.kd_wire.specs.declared.item.WireItem.TheVariants as item
use Rattle.kd_wire.specs.declared.command.Command.TheVariants as cmd
use Rattle.kd_wire.specs.declared.reply.Reply.TheVariants as reply
use Rattle.kd_acts.specs.State.{got, refused, done, slice, placed, gone}
use Rattle.kd_image.specs.Images.{any}
use Rattle.kd_world.specs.Legal.{take, visit, leave, publishes, receives}
use Rattle.kd_world.specs.Answers.{taken, left, pool_says}
use Rattle.kd_world.proofs.Script.{does, events_say, events_legal, plain, hello_of, hello_as, message_to, send_to, send_name, acquire}

-- a receive between an offer and its publish finds nothing yet
a_message_is_published_after_its_receive :
    events_say (
    does 1 (hello_of 4096) ∷ does 2 (hello_of 4096) ∷ [])
    (take 1 (send_to 2) ∷ visit 1 1 ∷ leave 1 ∷ receives 2 plain ∷ publishes 1 1 0 ∷ receives 2 plain ∷ [])
    ≡ taken ∷ pool_says (slice 0) ∷ left reply.Send ∷ pool_says (refused (why.NoMessage 0)) ∷ pool_says placed ∷
    pool_says (got 0 0 104 0) ∷ []
unfolding events_say
a_message_is_published_after_its_receive = refl

-- a publish behind its receiver's close writes nothing
a_receiver_that_left_is_gone :
    events_say (
    does 1 (hello_of 4096) ∷ does 2 (hello_of 4096) ∷ [])
    (take 1 (send_to 2) ∷ visit 1 1 ∷ leave 1 ∷ take 2 cmd.Close ∷ visit 2 1 ∷ leave 2 ∷ publishes 1 1 0 ∷ [])
    ≡ taken ∷ pool_says (slice 0) ∷ left reply.Send ∷ taken ∷ pool_says done ∷ left reply.Close ∷ pool_says gone ∷ []
unfolding events_say
a_receiver_that_left_is_gone = refl

-- a name isn't handed over while a message for it is on its way
an_unpublished_message_keeps_an_activator_busy :
    events_say (
    does 1 (hello_of 4096) ∷ does 2 (hello_as 2 4096 (item.Name (codes "a.b") ∷ [])) ∷ does 3 (hello_of 4096) ∷ [])
    (take 1 (send_name (codes "a.b")) ∷ visit 1 1 ∷ leave 1 ∷ take 3 (acquire 0 (codes "a.b")) ∷ visit 3 1 ∷ leave 3 ∷
    publishes 1 1 0 ∷ take 3 (acquire 0 (codes "a.b")) ∷ visit 3 1 ∷ visit 3 2 ∷ leave 3 ∷ [])
    ≡ taken ∷ pool_says (slice 0) ∷ left reply.Send ∷ taken ∷ pool_says (refused (why.Busy 0)) ∷
    left (reply.Refused (why.Busy 0)) ∷ pool_says placed ∷ taken ∷ pool_says done ∷ pool_says done ∷
    left (reply.NameAcquire false) ∷ []
unfolding events_say
an_unpublished_message_keeps_an_activator_busy = refl

-- the pools of those that wait for the desk go on
others_receive_while_one_holds_the_desk :
    events_say (
    does 1 (hello_of 4096) ∷ does 2 (hello_of 4096) ∷ does 3 (hello_of 4096) ∷ does 2 (cmd.MatchAdd false 0 []) ∷
    does 3 (cmd.MatchAdd false 0 []) ∷ [])
    (take 1 (message_to any (item.Payload (codes "hi") ∷ item.Filter 0 (replicate 64 0) ∷ [])) ∷ visit 1 1 ∷
    receives 3 plain ∷ [])
    ≡ taken ∷ pool_says (slice 0) ∷ pool_says (refused (why.NoMessage 0)) ∷ []
unfolding events_say
others_receive_while_one_holds_the_desk = refl

-- only the holder of the desk visits
nobody_visits_for_another :
    events_legal (
    does 1 (hello_of 4096) ∷ does 2 (hello_of 4096) ∷ [])
    (take 1 (send_to 2) ∷ visit 2 1 ∷ [])
    ≡ false
unfolding events_legal
nobody_visits_for_another = refl

-- a send and the close of its receiver, one after the other, are legal
a_whole_send_is_legal :
    events_legal (
    does 1 (hello_of 4096) ∷ does 2 (hello_of 4096) ∷ [])
    (take 1 (send_to 2) ∷ visit 1 1 ∷ leave 1 ∷ take 2 cmd.Close ∷ visit 2 1 ∷ leave 2 ∷ publishes 1 1 0 ∷ [])
    ≡ true
unfolding events_legal
a_whole_send_is_legal = refl

-- nobody takes the desk while another holds it
a_held_desk_is_not_taken :
    events_legal (
    does 1 (hello_of 4096) ∷ does 2 (hello_of 4096) ∷ does 3 (hello_of 4096) ∷ does 2 (cmd.MatchAdd false 0 []) ∷
    does 3 (cmd.MatchAdd false 0 []) ∷ [])
    (take 1 (message_to any (item.Payload (codes "hi") ∷ item.Filter 0 (replicate 64 0) ∷ [])) ∷ visit 1 1 ∷
    receives 3 plain ∷ take 3 (cmd.NameList (record { 0 = 1 })) ∷ [])
    ≡ false
unfolding events_legal
a_held_desk_is_not_taken = refl

-- who holds the desk visits and leaves, and does nothing else
a_holder_receives_nothing :
    events_legal (
    does 1 (hello_of 4096) ∷ does 2 (hello_of 4096) ∷ [])
    (take 1 (send_to 2) ∷ receives 1 plain ∷ [])
    ≡ false
unfolding events_legal
a_holder_receives_nothing = refl
