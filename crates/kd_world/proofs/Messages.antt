-- Messages and their slices, computed from the definitions.
use Rattle.std.specs.Prelude.{◌≡◌, true, false, [], ◌∷◌, Some, codes, refl, pos, negsuc}
use Rattle.kd_types.specs.declared.refusal.Refusal.TheVariants as why
use Rattle.kd_wire.specs.declared.item.WireItem.TheVariants as item
use Rattle.kd_wire.specs.declared.command.Command.TheVariants as cmd
use Rattle.kd_wire.specs.declared.reply.Reply.TheVariants as reply
use Rattle.kd_acts.specs.State.{got, refused, freed, bytes_of}
use Rattle.kd_world.specs.Answers.{turned_away, left, pool_says}
use Rattle.kd_world.proofs.Script.{does, gets, looks, lets_go, script, plain, peeking, dropping, hi, hello_of, message_to, send_to}

-- one connection sends to itself, receives and frees
a_message_to_oneself :
    script (
    does 1 (hello_of 4096) ∷ does 1 (send_to 1) ∷ gets 1 plain ∷ lets_go 1 0 ∷ [])
    ≡ left (reply.Hello 1 64 8) ∷ left reply.Send ∷ pool_says (got 0 0 104 0) ∷ pool_says freed ∷ []
unfolding script
a_message_to_oneself = refl

-- within a limit the least priority comes first, and of equals the oldest
the_least_priority_first :
    script (
    does 1 (hello_of 4096) ∷ does 1 (cmd.Send (record { 0 = 0 }) (pos 5) 1 0 0 0 0 hi) ∷
    does 1 (cmd.Send (record { 0 = 0 }) (negsuc 0) 1 0 0 0 0 hi) ∷
    does 1 (cmd.Send (record { 0 = 0 }) (negsuc 0) 1 0 0 0 0 hi) ∷
    does 1 (cmd.Send (record { 0 = 0 }) (pos 5) 1 0 0 0 0 hi) ∷
    gets 1 (record { peek = false; drop_it = false; limit = Some (negsuc 1) }) ∷
    gets 1 (record { peek = false; drop_it = false; limit = Some (pos 5) }) ∷
    gets 1 (record { peek = false; drop_it = false; limit = Some (pos 5) }) ∷
    gets 1 (record { peek = false; drop_it = false; limit = Some (pos 5) }) ∷
    gets 1 (record { peek = false; drop_it = false; limit = Some (pos 5) }) ∷ gets 1 plain ∷ [])
    ≡ left (reply.Hello 1 64 8) ∷ left reply.Send ∷ left reply.Send ∷ left reply.Send ∷ left reply.Send ∷
    pool_says (refused why.NoSuchPriority) ∷ pool_says (got 1 104 104 0) ∷ pool_says (got 2 208 104 0) ∷
    pool_says (got 0 0 104 0) ∷ pool_says (got 3 312 104 0) ∷ pool_says (refused (why.NoMessage 0)) ∷ []
unfolding script
the_least_priority_first = refl

-- a peek tells a slice, and only a receive lets it be freed
a_peeked_slice_is_not_freed :
    script (
    does 1 (hello_of 4096) ∷ does 1 (send_to 1) ∷ gets 1 peeking ∷ lets_go 1 0 ∷ gets 1 plain ∷ lets_go 1 0 ∷
    lets_go 1 0 ∷ [])
    ≡ left (reply.Hello 1 64 8) ∷ left reply.Send ∷ pool_says (got 0 0 104 0) ∷ pool_says (refused why.NotReceived) ∷
    pool_says (got 0 0 104 0) ∷ pool_says freed ∷ pool_says (refused why.NoSuchSlice) ∷ []
unfolding script
a_peeked_slice_is_not_freed = refl

-- a connection with a waiting message is not let go
byebye_waits_for_messages :
    script (
    does 1 (hello_of 4096) ∷ does 1 (send_to 1) ∷ does 1 cmd.Byebye ∷ gets 1 dropping ∷ does 1 cmd.Byebye ∷
    gets 1 plain ∷ [])
    ≡ left (reply.Hello 1 64 8) ∷ left reply.Send ∷ left (reply.Refused why.MessagesQueued) ∷ pool_says (got 0 0 104 0) ∷
    left reply.Byebye ∷ pool_says (refused why.WrongState) ∷ []
unfolding script
byebye_waits_for_messages = refl

-- a closed connection is not sent to
nobody_is_there_any_more :
    script (
    does 1 (hello_of 4096) ∷ does 2 (hello_of 4096) ∷ does 1 (send_to 2) ∷ does 2 cmd.Close ∷ does 1 (send_to 2) ∷ [])
    ≡ left (reply.Hello 1 64 8) ∷ left (reply.Hello 2 64 8) ∷ left reply.Send ∷ left reply.Close ∷
    turned_away why.NoSuchConnection ∷ []
unfolding script
nobody_is_there_any_more = refl

-- a sealed range stays with its message after the seal is gone
a_share_outlives_its_seal :
    script (
    does 1 (hello_of 4096) ∷ does 1 (cmd.Seal (codes "sealed")) ∷ does 1 (message_to 1 (item.Sealed 1 0 6 ∷ [])) ∷
    does 1 (cmd.Unseal 1) ∷ gets 1 plain ∷ looks 1 0 true ∷ does 1 (message_to 1 (item.Sealed 1 0 6 ∷ [])) ∷ [])
    ≡ left (reply.Hello 1 64 8) ∷ left (reply.Seal 1) ∷ left reply.Send ∷ left reply.Unseal ∷ pool_says (got 0 0 96 0) ∷
    pool_says (bytes_of (codes "sealed")) ∷ turned_away why.NoSuchSeal ∷ []
unfolding script
a_share_outlives_its_seal = refl

-- a message without sealed bytes shares none
no_share_without_a_seal :
    script (
    does 1 (hello_of 4096) ∷ does 1 (send_to 1) ∷ gets 1 plain ∷ looks 1 0 true ∷ [])
    ≡ left (reply.Hello 1 64 8) ∷ left reply.Send ∷ pool_says (got 0 0 104 0) ∷ pool_says (refused why.NoSuchSeal) ∷ []
unfolding script
no_share_without_a_seal = refl
