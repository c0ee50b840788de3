-- Requests, metadata and monitors, computed from the definitions.
use Rattle.std.specs.Prelude.{◌≡◌, false, [], ◌∷◌, ◌++◌, replicate, refl}
use Rattle.kd_types.specs.declared.refusal.Refusal.TheVariants as why
use Rattle.kd_wire.specs.declared.command.Command.TheVariants as cmd
use Rattle.kd_wire.specs.declared.reply.Reply.TheVariants as reply
use Rattle.kd_acts.specs.State.{got, refused, bytes_of}
use Rattle.kd_world.specs.Answers.{turned_away, left, pool_says}
use Rattle.kd_world.proofs.Script.{does, gets, looks, script, plain, hi, hello_of, hello_as, call_to, send_to, enter}

-- a request that ran out is told, and its replier may not talk any more
a_late_reply_is_a_stranger_s :
    script (
    does 1 (hello_of 4096) ∷ does 2 (enter 1001 false) ∷ does 2 (hello_of 4096) ∷ does 1 (call_to 1 2 7 10 hi) ∷
    does 1 (cmd.Tick 9) ∷ gets 1 plain ∷ does 1 (cmd.Tick 10) ∷ gets 1 plain ∷ looks 1 0 false ∷
    does 2 (call_to 0 1 0 7 hi) ∷ [])
    ≡ left (reply.Hello 1 64 8) ∷ left reply.Enter ∷ left (reply.Hello 2 64 8) ∷ left reply.Send ∷ left (reply.Tick 9) ∷
    pool_says (refused (why.NoMessage 0)) ∷ left (reply.Tick 10) ∷ pool_says (got 0 0 80 0) ∷
    pool_says (bytes_of (80 ∷ replicate 23 0 ++ 1 ∷ replicate 31 0 ++ 7 ∷ replicate 7 0 ++ 16 ∷ replicate 7 0 ++ 17 ∷ replicate 7 0)) ∷
    turned_away why.NotPermitted ∷ []
unfolding script
a_late_reply_is_a_stranger_s = refl

-- a reply that is waited for may be sent by whoever was asked
a_reply_in_time_needs_no_right :
    script (
    does 1 (hello_of 4096) ∷ does 2 (enter 1001 false) ∷ does 2 (hello_of 4096) ∷ does 1 (call_to 1 2 7 10 hi) ∷
    does 2 (call_to 0 1 0 7 hi) ∷ does 2 (call_to 0 1 0 7 hi) ∷ [])
    ≡ left (reply.Hello 1 64 8) ∷ left reply.Enter ∷ left (reply.Hello 2 64 8) ∷ left reply.Send ∷ left reply.Send ∷
    turned_away why.NotPermitted ∷ []
unfolding script
a_reply_in_time_needs_no_right = refl

-- a request whose replier left is dead
a_replier_that_leaves_is_told :
    script (
    does 1 (hello_of 4096) ∷ does 2 (enter 1001 false) ∷ does 2 (hello_of 4096) ∷ does 1 (call_to 1 2 7 10 hi) ∷
    does 2 cmd.Close ∷ gets 1 plain ∷ does 1 (cmd.Tick 20) ∷ gets 1 plain ∷ [])
    ≡ left (reply.Hello 1 64 8) ∷ left reply.Enter ∷ left (reply.Hello 2 64 8) ∷ left reply.Send ∷ left reply.Close ∷
    pool_says (got 0 0 80 0) ∷ left (reply.Tick 20) ∷ pool_says (refused (why.NoMessage 0)) ∷ []
unfolding script
a_replier_that_leaves_is_told = refl

-- a second request with the cookie is refused, and one with the cookie 0 or the deadline 0
a_cookie_is_used_once :
    script (
    does 1 (hello_of 4096) ∷ does 2 (enter 1001 false) ∷ does 2 (hello_of 4096) ∷ does 1 (call_to 1 2 7 10 hi) ∷
    does 1 (call_to 1 2 7 10 hi) ∷ does 1 (call_to 1 2 0 10 hi) ∷ does 1 (call_to 1 2 8 0 hi) ∷ [])
    ≡ left (reply.Hello 1 64 8) ∷ left reply.Enter ∷ left (reply.Hello 2 64 8) ∷ left reply.Send ∷
    turned_away why.BadCookie ∷ turned_away why.BadCookie ∷ turned_away why.BadCookie ∷ []
unfolding script
a_cookie_is_used_once = refl

-- what both masks have is attached
credentials_are_attached :
    script (
    does 1 (cmd.Hello (record { 0 = 0 }) 4096 1 1 []) ∷ does 1 (send_to 1) ∷ gets 1 plain ∷ looks 1 0 false ∷ [])
    ≡ left (reply.Hello 1 64 8) ∷ left reply.Send ∷ pool_says (got 0 0 144 0) ∷
    pool_says (bytes_of (136 ∷ replicate 23 0 ++ 1 ∷ replicate 7 0 ++ 1 ∷ replicate 31 0 ++ 40 ∷ replicate 7 0 ++ 21 ∷ replicate 7 0 ++ 232 ∷ 3 ∷ replicate 6 0 ++ 232 ∷ 3 ∷ replicate 14 0 ++ 32 ∷ replicate 7 0 ++ 19 ∷ replicate 7 0 ++ 2 ∷ replicate 7 0 ++ 136 ∷ replicate 7 0 ++ 104 ∷ 105 ∷ replicate 6 0)) ∷ []
unfolding script
credentials_are_attached = refl

-- a monitor is shown arrivals and messages, and is itself nowhere
a_monitor_is_shown_all :
    script (
    does 1 (hello_as 8 4096 []) ∷ does 2 (hello_of 4096) ∷ does 3 (hello_of 4096) ∷ does 2 (send_to 3) ∷ gets 1 plain ∷
    gets 1 plain ∷ gets 1 plain ∷ does 2 (send_to 1) ∷ does 2 (cmd.NameList (record { 0 = 1 })) ∷ does 1 (send_to 2) ∷ [])
    ≡ left (reply.Hello 1 64 8) ∷ left (reply.Hello 2 64 8) ∷ left (reply.Hello 3 64 8) ∷ left reply.Send ∷
    pool_says (got 0 0 88 0) ∷ pool_says (got 1 88 88 0) ∷ pool_says (got 2 176 104 0) ∷
    turned_away why.NoSuchConnection ∷
    left (reply.NameList (record { id = 2; standing = 0; name = [] } ∷ record { id = 3; standing = 0; name = [] } ∷ [])) ∷
    turned_away why.WrongState ∷ []
unfolding script
a_monitor_is_shown_all = refl
