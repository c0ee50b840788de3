-- Broadcasts and notices, computed from the definitions.
use Rattle.std.specs.Prelude.{◌≡◌, false, [], ◌∷◌, ◌++◌, replicate, codes, refl}
use Rattle.kd_types.specs.declared.refusal.Refusal.TheVariants as why
use Rattle.kd_wire.specs.declared.item.WireItem.TheVariants as item
use Rattle.kd_wire.specs.declared.command.Command.TheVariants as cmd
use Rattle.kd_wire.specs.declared.reply.Reply.TheVariants as reply
use Rattle.kd_acts.specs.State.{got, refused, freed, bytes_of}
use Rattle.kd_image.specs.Images.{any}
use Rattle.kd_world.specs.Answers.{turned_away, left, pool_says}
use Rattle.kd_world.proofs.Script.{does, gets, looks, lets_go, script, plain, hi, hello_of, hello_as, message_to, call_to, send_to, acquire, enter}

-- a mask is one to four times the size of the bus's filters
a_mask_has_the_bus_size :
    script (
    does 1 (hello_of 4096) ∷ does 1 (cmd.MatchAdd false 0 (item.Mask (replicate 8 5) ∷ [])) ∷
    does 1 (cmd.MatchAdd false 0 (item.Mask (replicate 128 5) ∷ [])) ∷
    does 1 (cmd.MatchAdd false 0 (item.Mask (replicate 96 5) ∷ [])) ∷
    does 1 (cmd.MatchAdd false 0 (item.Mask (replicate 320 5) ∷ [])) ∷ [])
    ≡ left (reply.Hello 1 64 8) ∷ turned_away why.BloomSize ∷ left reply.MatchAdd ∷ turned_away why.BloomSize ∷
    turned_away why.BloomSize ∷ []
unfolding script
a_mask_has_the_bus_size = refl

-- who asks for ids that come is told of the next one
an_arrival_is_told :
    script (
    does 1 (hello_of 4096) ∷ does 1 (cmd.MatchAdd false 0 (item.IdAdd any ∷ [])) ∷ does 2 (hello_of 4096) ∷
    gets 1 plain ∷ looks 1 0 false ∷ [])
    ≡ left (reply.Hello 1 64 8) ∷ left reply.MatchAdd ∷ left (reply.Hello 2 64 8) ∷ pool_says (got 0 0 88 0) ∷
    pool_says (bytes_of (88 ∷ replicate 23 0 ++ replicate 8 255 ++ replicate 32 0 ++ 24 ∷ replicate 7 0 ++ 12 ∷ replicate 7 0 ++ 2 ∷ replicate 7 0)) ∷ []
unfolding script
an_arrival_is_told = refl

-- an owner that leaves is told by its name's notice
a_name_without_an_owner_is_told :
    script (
    does 1 (hello_of 4096) ∷ does 1 (acquire 0 (codes "a.b")) ∷ does 2 (hello_of 4096) ∷
    does 2 (cmd.MatchAdd false 0 (item.NameRemove any any [] ∷ [])) ∷ does 1 cmd.Close ∷ gets 2 plain ∷ gets 2 plain ∷ [])
    ≡ left (reply.Hello 1 64 8) ∷ left (reply.NameAcquire false) ∷ left (reply.Hello 2 64 8) ∷ left reply.MatchAdd ∷
    left reply.Close ∷ pool_says (got 0 0 104 0) ∷ pool_says (refused (why.NoMessage 0)) ∷ []
unfolding script
a_name_without_an_owner_is_told = refl

-- a unicast is no signal, and a broadcast names nobody
what_a_broadcast_may_not_be :
    script (
    does 1 (hello_of 4096) ∷ does 1 (call_to 4 1 0 0 hi) ∷
    does 1 (message_to any (item.DstName (codes "a.b") ∷ item.Filter 0 (replicate 64 0) ∷ [])) ∷ [])
    ≡ left (reply.Hello 1 64 8) ∷ turned_away why.BroadcastMisuse ∷ turned_away why.BroadcastMisuse ∷ []
unfolding script
what_a_broadcast_may_not_be = refl

-- an empty rule admits notices of ids and names, in their order
an_empty_rule_admits_all :
    script (
    does 1 (hello_of 4096) ∷ does 1 (cmd.MatchAdd false 0 []) ∷ does 2 (hello_of 4096) ∷ gets 1 plain ∷
    does 2 (acquire 0 (codes "a.b")) ∷ gets 1 plain ∷ does 2 cmd.Close ∷ gets 1 plain ∷ gets 1 plain ∷ [])
    ≡ left (reply.Hello 1 64 8) ∷ left reply.MatchAdd ∷ left (reply.Hello 2 64 8) ∷ pool_says (got 0 0 88 0) ∷
    left (reply.NameAcquire false) ∷ pool_says (got 1 88 104 0) ∷ left reply.Close ∷ pool_says (got 2 192 104 0) ∷
    pool_says (got 3 296 88 0) ∷ []
unfolding script
an_empty_rule_admits_all = refl

-- a broadcast that finds no room is dropped and told by the next receive
a_broadcast_over_quota_is_counted :
    script (
    does 1 (hello_of 256) ∷ does 2 (hello_of 4096) ∷ does 1 (cmd.MatchAdd false 0 []) ∷
    does 2 (message_to any (item.Payload (codes "hi") ∷ item.Filter 0 (replicate 64 0) ∷ [])) ∷
    does 2 (message_to any (item.Payload (codes "hi") ∷ item.Filter 0 (replicate 64 0) ∷ [])) ∷ gets 1 plain ∷
    gets 1 plain ∷ [])
    ≡ left (reply.Hello 1 64 8) ∷ left (reply.Hello 2 64 8) ∷ left reply.MatchAdd ∷ left reply.Send ∷ left reply.Send ∷
    pool_says (got 0 0 104 1) ∷ pool_says (refused (why.NoMessage 0)) ∷ []
unfolding script
a_broadcast_over_quota_is_counted = refl

-- a broadcast reaches the one whose mask meets it; its receiver calls back and is answered
a_session_is_announced_and_listed :
    script (
    does 1 (hello_of 4096) ∷ does 1 (acquire 0 (codes "org.freedesktop.login1")) ∷
    does 2 (hello_as 4 0 (item.Name (codes "org.freedesktop.login1") ∷ item.Access 3 2 0 ∷ [])) ∷
    does 3 (enter 1001 false) ∷ does 3 (hello_of 4096) ∷ does 4 (enter 1002 false) ∷ does 4 (hello_of 4096) ∷
    does 3 (cmd.MatchAdd false 1 (item.Mask (6 ∷ replicate 63 0) ∷ [])) ∷
    does 4 (cmd.MatchAdd false 1 (item.Mask (10 ∷ replicate 63 0) ∷ [])) ∷
    does 1 (message_to any (item.Payload (codes "SessionNew") ∷ item.Filter 0 (38 ∷ replicate 63 0) ∷ [])) ∷
    gets 3 plain ∷ gets 4 plain ∷ lets_go 3 0 ∷
    does 3 (call_to 1 0 1 1000 (item.Payload (codes "ListSessions") ∷ item.DstName (codes "org.freedesktop.login1") ∷ [])) ∷
    gets 1 plain ∷ lets_go 1 0 ∷ does 1 (call_to 0 3 0 1 (item.Payload (codes "ok") ∷ [])) ∷ gets 3 plain ∷ lets_go 3 0 ∷
    does 1 (send_to 3) ∷ gets 3 plain ∷ [])
    ≡ left (reply.Hello 1 64 8) ∷ left (reply.NameAcquire false) ∷ left (reply.Hello 2 64 8) ∷ left reply.Enter ∷
    left (reply.Hello 3 64 8) ∷ left reply.Enter ∷ left (reply.Hello 4 64 8) ∷ left reply.MatchAdd ∷
    left reply.MatchAdd ∷ left reply.Send ∷ pool_says (got 0 0 112 0) ∷ pool_says (refused (why.NoMessage 0)) ∷
    pool_says freed ∷ left reply.Send ∷ pool_says (got 0 0 152 0) ∷ pool_says freed ∷ left reply.Send ∷
    pool_says (got 0 0 104 0) ∷ pool_says freed ∷ left reply.Send ∷ pool_says (got 0 0 104 0) ∷ []
unfolding script
a_session_is_announced_and_listed = refl
