-- Every plan keeps a desk settled, and a new one is.
use Rattle.std.proofs.Common.{◌≡◌, ℕ, ◌<◌, ◌≤◌, Bool, List, [], ◌∷◌, Option, Some, None, Ok, refl, sym, ap, ◌∙◌, arith}
use Rattle.std.specs.Prelude.{◌==◌, max, not}
use Rattle.std.specs.List.{IsDistinct}
use Rattle.std.proofs.lemmas.Bool.{eqb-true}
use Rattle.kd_types.specs.declared.creds.Creds.{Creds}
use Rattle.kd_types.specs.declared.creds.Kind.{Kind}
use Rattle.kd_types.specs.declared.flags.ListFlags.{ListFlags}
use Rattle.kd_model.proofs.Lists.{found_passes}
use Rattle.kd_wire.specs.declared.command.Command.{Command}
use Rattle.kd_wire.specs.declared.command.Command.TheVariants as cmd
use Rattle.kd_wire.specs.declared.reply.Reply.{Reply}
use Rattle.kd_wire.specs.declared.reply.Reply.TheVariants as reply
use Rattle.kd_policy.specs.declared.owner.Owner.TheVariants as owner
use Rattle.kd_seal.specs.declared.seals.Counter.{Counter}
use Rattle.kd_replies.specs.declared.request.Request.{Request}
use Rattle.kd_replies.specs.Requests.{is_due}
use Rattle.kd_commands.specs.declared.conn.Conn.{Conn}
use Rattle.kd_commands.specs.declared.who.Who.{Who}
use Rattle.kd_commands.specs.declared.who.WhoKind.{WhoKind}
use Rattle.kd_commands.specs.declared.who.WhoKind.TheVariants as who
use Rattle.kd_commands.specs.State.{Desk, conn_of, has_id, opening_desk, unblocked}
use Rattle.kd_commands.specs.Hello.{Asked}
use Rattle.kd_commands.specs.Leaving.{byebye, close_conn, close_endpoint, ids_of, leave_one, on_endpoint, policy_without, without_conns, without_endpoint}
use Rattle.kd_commands.specs.NameList.{name_list}
use Rattle.kd_commands.specs.Plans.{Plan, itself, known}
use Rattle.kd_commands.specs.Tick.{tick}
use Rattle.kd_commands.specs.Seating.{AreSeated, IsKnown, IsPlaced}
use Rattle.kd_commands.specs.Step.{from_conn, from_fresh, from_gone, from_keeper, from_old, plan}
use Rattle.kd_commands.proofs.Moves.{Moves}
use Rattle.kd_commands.proofs.Moving.{moves}
use Rattle.kd_commands.proofs.Seating.{seating_stays}
use Rattle.kd_commands.proofs.Staying.{of_given, planned}
use Rattle.kd_settled.specs.Room.{IsAtHome, OpensSettled, SettledStays}
use Rattle.kd_settled.specs.Settled.{AreClaims, AreReached, AreRequests, AreRules, AreSeals, HasSeats, IsOwnedPolicy, IsSettled}
use Rattle.kd_settled.proofs.Coming.{hello_settled, made_settled}
use Rattle.kd_settled.proofs.Endpoints.{drop_owned, reached_still}
use Rattle.kd_settled.proofs.Leaving.{claims_without, policy_stays, reached_fewer, requests_stay, rules_stay, seals_stay}
use Rattle.kd_settled.proofs.Living.{staying}
use Rattle.kd_settled.proofs.Seats.{seats_then}
use Rattle.kd_settled.proofs.Settling.{HasTables, Then, kind_settled, policy_settled, tables}
use Rattle.kd_settled.proofs.Tables.{filtered_requests}

-- ---- one that goes

left_settled : (d : Desk) (ids : List ℕ) → IsSettled d → HasTables (without_conns d ids)
unfolding without_conns
left_settled d ids s = record {
  reached = reached_fewer d.conns ids d.endpoints s.reached;
  claims = claims_without d.conns ids d.registry s.claims;
  rules = rules_stay d.conns ids d.rules s.rules;
  seals = seals_stay d.conns ids d.seals s.seals;
  requests = requests_stay d.conns ids d.requests s.requests;
  policy = policy_stays d.conns d.endpoints ids d.policy s.policy;
}

byebye_settled : (d : Desk) (c : Conn) → IsSettled d → Then (byebye d c)
unfolding byebye
byebye_settled d c s = left_settled d (c.id ∷ []) s

close_settled : (d : Desk) (c : Conn) → IsSettled d → Then (close_conn d c)
unfolding close_conn
close_settled d c s = left_settled d (c.id ∷ []) s

-- all on an endpoint go, and the endpoint
ended_settled : (d : Desk) (e : ℕ) → IsSettled d → Then (close_endpoint d e)
unfolding close_endpoint without_endpoint without_conns
ended_settled d e s =
    let ids : List ℕ = ids_of (on_endpoint d e) in
    let left : HasTables (without_conns d ids) = left_settled d ids s in
    record {
      reached = reached_still d.conns d.endpoints e s.reached;
      claims = left.claims;
      rules = left.rules;
      seals = left.seals;
      requests = left.requests;
      policy = drop_owned (staying ids d.conns) d.endpoints e (policy_without d.policy ids) left.policy;
    }

-- ---- a live connection

listed_settled : (d : Desk) (c : Conn) (flags : ListFlags) → IsSettled d → Then (name_list d c flags)
unfolding name_list
listed_settled d c flags s = tables d s

tick_settled : (d : Desk) (c : Conn) (moment : ℕ) → IsSettled d → Then (tick d c moment)
unfolding tick
tick_settled d c moment s = record { reached = s.reached; claims = s.claims; rules = s.rules; seals = s.seals; requests = filtered_requests d.conns d.requests (λ q. not (is_due (max d.moment moment) q)) s.requests; policy = s.policy }

conn_settled : (d : Desk) (c : Conn) (x : Command) (p : Plan) → IsSettled d → conn_of d c.id ≡ Some c → from_conn d c x ≡ Ok p → Then p
conn_settled d c cmd.Byebye p s live e = of_given Then (byebye d c) p e (byebye_settled d c s)
conn_settled d c cmd.Close p s live e = of_given Then (close_conn d c) p e (close_settled d c s)
conn_settled d c (cmd.NameList flags) p s live e = of_given Then (name_list d c flags) p e (listed_settled d c flags s)
conn_settled d c (cmd.Tick moment) p s live e = of_given Then (tick d c moment) p e (tick_settled d c moment s)
conn_settled d c x p s live e = kind_settled d c c.kind x p s live refl e

-- ---- any caller at home

known_settled : (d : Desk) (r : Reply) (p : Plan) → IsSettled d → planned (known r d) ≡ planned p → Then p
known_settled d r p s e = of_given Then (known r d) p e (tables d s)

fresh_settled : (d : Desk) (creds : Creds) (x : Command) (p : Plan) → IsSettled d → from_fresh d creds x ≡ Ok p → Then p
fresh_settled d creds (cmd.Hello flags size send_mask receive_mask is) p s e =
    let a : Asked = record { flags = flags; size = size; send_mask = send_mask; receive_mask = receive_mask; items = is } in
    hello_settled d creds a p s e
fresh_settled d creds (cmd.EndpointMake is) p s e = made_settled d creds is p s e
fresh_settled d creds (cmd.Enter new) p s e = known_settled d reply.Enter p s e
fresh_settled d creds cmd.Close p s e = known_settled d reply.Close p s e
fresh_settled d creds x p s e = absurd cc

unblocked_settled : (d : Desk) (seat : ℕ) (r : Reply) (p : Plan) → IsSettled d → planned (known r (unblocked seat d)) ≡ planned p → Then p
unblocked_settled d seat r p s e = of_given Then (known r (unblocked seat d)) p e (record {
  reached = s.reached;
  claims = s.claims;
  rules = s.rules;
  seals = s.seals;
  requests = s.requests;
  policy = s.policy;
})

gone_settled : (d : Desk) (seat : ℕ) (x : Command) (p : Plan) → IsSettled d → from_gone d seat x ≡ Ok p → Then p
gone_settled d seat cmd.Byebye p s e = unblocked_settled d seat reply.Byebye p s e
gone_settled d seat cmd.Close p s e = unblocked_settled d seat reply.Close p s e
gone_settled d seat x p s e = absurd cc

caller_settled :
    (d : Desk) (id seat : ℕ) (x : Command) (p : Plan) → IsSettled d
    → (elim (conn_of d id) [ Some c ↦ from_conn d c x | None ↦ from_gone d seat x ]) ≡ planned p → Then p
caller_settled d id seat x p s e = go (conn_of d id) refl e
  where
    go : (o : Option Conn) → conn_of d id ≡ o → (elim o [ Some c ↦ from_conn d c x | None ↦ from_gone d seat x ]) ≡ planned p → Then p
    go None gone h = gone_settled d seat x p s h
    go (Some c) live h =
        let same : c.id ≡ id = eqb-true c.id id (found_passes (has_id id) d.conns c live) in
        conn_settled d c x p s (ap (conn_of d) same ∙ live) h

keeper_settled : (d : Desk) (k : Kind) (e : ℕ) (x : Command) (p : Plan) → IsSettled d → IsAtHome d k (who.Keeper e) → from_keeper d e x ≡ Ok p → Then p
keeper_settled d k e (cmd.PolicySet is) p s home h = policy_settled d (who.Keeper e) (owner.Endpoint e) is p s home h
keeper_settled d k e cmd.Close p s home h = of_given Then (close_endpoint d e) p h (ended_settled d e s)
keeper_settled d k e x p s home h = absurd cc

tables_then : (d : Desk) (k : Kind) (w : Who) (x : Command) (p : Plan) → IsSettled d → IsAtHome d k w.member → plan d w x ≡ Ok p → Then p
unfolding plan
tables_then d k w x p s home e = go w.member home e
  where
    go : (m : WhoKind) → IsAtHome d k m
        → (elim m [
          | who.Fresh ↦ from_fresh d w.creds x
          | who.Conn id s ↦ elim (conn_of d id) [ Some c ↦ from_conn d c x | None ↦ from_gone d s x ]
          | who.Keeper n ↦ from_keeper d n x
          | who.Old s ↦ from_old d s x
        ]) ≡ planned p
        → Then p
    go who.Fresh home h = fresh_settled d w.creds x p s h
    go (who.Conn id seat) home h = caller_settled d id seat x p s h
    go (who.Keeper n) home h = keeper_settled d k n x p s home h
    go (who.Old o) home h = absurd home

-- who is at home is known
pub at_home : (d : Desk) (k : Kind) (m : WhoKind) → IsAtHome d k m → IsKnown d k m
at_home d k who.Fresh home = tt
at_home d k (who.Conn id s) home = home
at_home d k (who.Keeper e) home = tt
at_home d k (who.Old s) home = home

pub settled_stays : SettledStays
settled_stays d k w x p s home e =
    let after : HasTables p.next = tables_then d k w x p s home e in
    let known_one : IsKnown d k w.member = at_home d k w.member home in
    record {
      seated = seating_stays d k w x p s.seated known_one e;
      seats = seats_then d w.member p (moves d k w x p known_one e) s.seats;
      reached = after.reached;
      claims = after.claims;
      rules = after.rules;
      seals = after.seals;
      requests = after.requests;
      policy = after.policy;
    }

-- ---- a new one

none_apart : {X : Type 0} (same : X → X → Bool) → IsDistinct same []
unfolding IsDistinct
none_apart same = tt

pub opens_settled : OpensSettled
unfolding opening_desk
opens_settled creator size hashes = record {
  seated = record { old_ids = tt; own_ids = none_apart (λ (a b : Conn). a.id == b.id); few_seats = tt; own_seats = none_apart (λ (a b : Conn). a.seat == b.seat); unblocked = tt };
  seats = record { rising = tt; some_ids = tt; next_id = omega arith; waiting = tt; few_waiting = tt };
  reached = record { places = refl; reached = tt };
  claims = record { owned = tt; order = refl; named = tt; few = λ id. omega arith };
  rules = record { owned = tt; few = λ id. omega arith };
  seals = record { owned = tt; few = λ id. omega arith; counted = tt; own_counters = none_apart (λ (a b : Counter). a.id == b.id) };
  requests = record { askers = tt; repliers = tt; order = record { rises = tt }; few = λ id. omega arith };
  policy = record { owned = tt; few = tt };
}
