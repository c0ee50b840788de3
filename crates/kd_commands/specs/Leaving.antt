-- BYEBYE and CLOSE: a connection goes, or an endpoint with every connection on it. The desk refuses
-- neither; the pool of a BYEBYE may, where messages wait.
use Rattle.std.specs.Prelude.{ℕ, Bool, true, false, ◌||◌, List, [], ◌∷◌, ◌++◌, map, fold, ◌==◌}
use Rattle.kd_model.specs.Words.{those, but_those, in_order}
use Rattle.kd_wire.specs.declared.reply.Reply.{Reply}
use Rattle.kd_wire.specs.declared.reply.Reply.TheVariants as reply
use Rattle.kd_policy.specs.declared.owner.Owner.TheVariants as owner
use Rattle.kd_policy.specs.Policy.{Policy, after_drop}
use Rattle.kd_endpoint.specs.Labels.{after_remove}
use Rattle.kd_registry.specs.Changes.{changes_without}
use Rattle.kd_registry.specs.Changes as registry
use Rattle.kd_match.specs.Rules.{Table, without_conn}
use Rattle.kd_seal.specs.Book.{SealBook}
use Rattle.kd_seal.specs.Book as seal
use Rattle.kd_replies.specs.declared.request.Request.{Request}
use Rattle.kd_replies.specs.Requests.{is_among, is_dead_without}
use Rattle.kd_acts.specs.State.{close}
use Rattle.kd_commands.specs.declared.conn.Conn.{Conn}
use Rattle.kd_commands.specs.declared.who.WhoKind.TheVariants as who
use Rattle.kd_commands.specs.State.{Desk, is_monitor, came_before, seat_set}
use Rattle.kd_commands.specs.Audience.{Subject, id_remove, new_owner, reply_dead}
use Rattle.kd_commands.specs.Plans.{Part, Plan, notices}

-- ---- all that some connections have

-- who they are
abbrev pub ids_of : List Conn → List ℕ
ids_of gone = map (λ (c : Conn). c.id) gone

-- without the rules of some connections
abbrev pub rules_without : Table → List ℕ → Table
rules_without rules ids = fold without_conn rules ids

-- without their seals
abbrev pub seals_without : SealBook → List ℕ → SealBook
seals_without seals ids = fold seal.seals_without_conn seals ids

-- without their entries
abbrev pub policy_without : Policy → List ℕ → Policy
policy_without p ids = fold (λ q id. after_drop q (owner.Conn id)) p ids

-- nobody asks any more, or is to reply
abbrev pub concerns_one : List ℕ → Request → Bool
concerns_one ids q = is_among ids q.asker || is_among ids q.replier

-- all that some connections have goes in one step
unfoldable pub without_conns : Desk → List ℕ → Desk
without_conns d ids = record d {
  conns = but_those (λ (c : Conn). is_among ids c.id) d.conns;
  policy = policy_without d.policy ids;
  registry = registry.claims_without ids d.registry;
  rules = rules_without d.rules ids;
  seals = seals_without d.seals ids;
  requests = but_those (concerns_one ids) d.requests;
}

-- ---- what is told, and whom it closes

-- first the names whose owner is another, in byte order, then the requests whose replier left, by
-- asker and cookie, then those that left, by id; a monitor leaves unnoticed
unfoldable pub leaving_notices : Desk → List Conn → List Subject
leaving_notices d gone =
    map new_owner (changes_without d.registry (ids_of gone))
    ++ map (λ (q : Request). reply_dead q.asker q.cookie)
    (those (is_dead_without (ids_of gone)) d.requests)
    ++ map (λ (c : Conn). id_remove c.id)
    (in_order came_before (but_those (λ (c : Conn). is_monitor c.kind) gone))

-- its pool is closed; without force only where no message waits
abbrev pub closing : Bool → Conn → Part
closing force c = record { seat = c.seat; act = close force }

-- some connections leave: their pools are closed, and those that stay are told
abbrev pub leave : Desk → Reply → Bool → List Conn → Desk → Plan
leave d r force gone after = record {
  parts = map (closing force) gone ++ notices after (leaving_notices d gone);
  reply = r;
  next = after;
  becomes = who.Fresh;
}

-- one connection leaves
abbrev pub leave_one : Desk → Reply → Bool → Conn → Plan
leave_one d r force c = leave d r force (c ∷ []) (without_conns d (c.id ∷ []))

-- a connection says that it goes, unless messages wait
unfoldable pub byebye : Desk → Conn → Plan
byebye d c = leave_one d reply.Byebye false c

-- a connection goes, whatever waits
unfoldable pub close_conn : Desk → Conn → Plan
close_conn d c = leave_one d reply.Close true c

-- ---- an endpoint goes with every connection on it

-- those that came by it
abbrev pub on_endpoint : Desk → ℕ → List Conn
on_endpoint d e = those (λ (c : Conn). c.endpoint == e) d.conns

-- their seats are blocked until their own callers know
unfoldable pub without_endpoint : Desk → ℕ → Desk
without_endpoint d e =
    let gone : List Conn = on_endpoint d e in
    let left : Desk = without_conns d (ids_of gone) in
    record left {
      blocked = seat_set (left.blocked ++ map (λ (c : Conn). c.seat) gone);
      endpoints = after_remove left.endpoints e;
      policy = after_drop left.policy (owner.Endpoint e);
    }

-- its keeper closes it
unfoldable pub close_endpoint : Desk → ℕ → Plan
close_endpoint d e = leave d reply.Close true (on_endpoint d e) (without_endpoint d e)
