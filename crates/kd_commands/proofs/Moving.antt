-- Each plan does one of five things to who sits where.
use Rattle.std.proofs.Common.{◌≡◌, ℕ, Bool, true, false, List, [], ◌∷◌, ◌++◌, Option, Some, None, Ok, refl, sym, ap, ◌∙◌}
use Rattle.std.specs.Prelude.{is_none, unwrap_or}
use Rattle.std.specs.List.{AllByRecursion}
use Rattle.std.proofs.lemmas.Bool.{eqb-true}
use Rattle.kd_types.specs.declared.creds.Creds.{Creds}
use Rattle.kd_types.specs.declared.creds.Kind.{Kind}
use Rattle.kd_types.specs.declared.refusal.Refusal.{Refusal}
use Rattle.kd_model.proofs.Lists.{found_passes}
use Rattle.kd_wire.specs.declared.command.Command.{Command}
use Rattle.kd_wire.specs.declared.command.Command.TheVariants as cmd
use Rattle.kd_wire.specs.declared.reply.Reply.{Reply}
use Rattle.kd_wire.specs.declared.reply.Reply.TheVariants as reply
use Rattle.kd_policy.specs.declared.owner.Owner.TheVariants as owner
use Rattle.kd_commands.specs.declared.conn.Conn.{Conn}
use Rattle.kd_commands.specs.declared.who.Who.{Who}
use Rattle.kd_commands.specs.declared.who.WhoKind.{WhoKind}
use Rattle.kd_commands.specs.declared.who.WhoKind.TheVariants as who
use Rattle.kd_commands.specs.State.{Desk, conn_of, has_id, unblocked}
use Rattle.kd_commands.specs.Plans.{Plan, itself, notices, unless, known}
use Rattle.kd_commands.specs.Hello.{Asked, arrival, first_owner, free_seat, hello, hello_plan, hello_refusals, newcomer, with_newcomer}
use Rattle.kd_commands.specs.Leaving.{byebye, close_conn, close_endpoint, leave_one, leaving_notices, on_endpoint, without_conns, without_endpoint}
use Rattle.kd_commands.specs.NameList.{name_list}
use Rattle.kd_commands.specs.Tick.{tick}
use Rattle.kd_commands.specs.Step.{from_conn, from_fresh, from_gone, from_keeper, from_old, plan}
use Rattle.kd_commands.specs.Seating.{IsKnown, IsPlaced}
use Rattle.kd_commands.proofs.Asides.{notices_aside}
use Rattle.kd_commands.proofs.Moves.{Arrives, Ends, Learns, Leaves, Moves, arrives, ends, learns, leaves, stays}
use Rattle.kd_commands.proofs.Staying.{endpoint_stays, kind_stays, list_stays, of_given, of_unless, planned, policy_stays, stays_with, tick_stays}

-- ---- one that comes

-- none of the tests holds where there is a plan
none_hold : (ts : List (Bool × Refusal)) (q p : Plan) → unless ts q ≡ planned p → AllByRecursion (λ (t : Bool × Refusal). t.0 ≡ false) ts
none_hold [] q p e = tt
none_hold ((true, r) ∷ ts) q p e = absurd cc
none_hold ((false, r) ∷ ts) q p e = (refl, none_hold ts q p e)

has_seat_free : (d : Desk) (c : Conn) (a : Asked) (q p : Plan) → unless (hello_refusals d c a) q ≡ planned p → is_none (free_seat d) ≡ false
unfolding hello_refusals
has_seat_free d c a q p e = (none_hold (hello_refusals d c a) q p e).1.1.1.1.1.0

seat_of_newcomer : (d : Desk) (creds : Creds) (a : Asked) → is_none (free_seat d) ≡ false → free_seat d ≡ Some (newcomer d creds a).seat
unfolding newcomer
seat_of_newcomer d creds a e = go (free_seat d) e
  where
    go : (o : Option ℕ) → is_none o ≡ false → o ≡ Some (unwrap_or o 0)
    go None h = absurd cc
    go (Some s) h = refl

hello_arrives :
    (d : Desk) (creds : Creds) (a : Asked) → free_seat d ≡ Some (newcomer d creds a).seat → Arrives d who.Fresh (hello_plan d (newcomer d creds a) a)
unfolding newcomer with_newcomer
hello_arrives d creds a free =
    let c : Conn = newcomer d creds a in
    record {
      one = c;
      was = refl;
      new_id = refl;
      free = free;
      conns = refl;
      blocked = refl;
      next_id = refl;
      size = c.size;
      rest = notices (with_newcomer d c a) (arrival c ++ first_owner d c a);
      parts = refl;
      aside = notices_aside (with_newcomer d c a) (arrival c ++ first_owner d c a);
      becomes = refl;
    }

hello_moves : (d : Desk) (creds : Creds) (a : Asked) (p : Plan) → hello d creds a ≡ Ok p → Moves d who.Fresh p
unfolding hello
hello_moves d creds a p e =
    let c : Conn = newcomer d creds a in
    let free : is_none (free_seat d) ≡ false = has_seat_free d c a (hello_plan d c a) p e in
    of_unless (Moves d who.Fresh) (hello_refusals d c a) (hello_plan d c a) p e (arrives (hello_arrives d creds a (seat_of_newcomer d creds a free)))

known_stays : (d : Desk) (r : Reply) (p : Plan) → planned (known r d) ≡ planned p → Moves d who.Fresh p
known_stays d r p e = of_given (Moves d who.Fresh) (known r d) p e (stays (stays_with d d who.Fresh [] r (refl, refl, refl) tt))

fresh_moves : (d : Desk) (creds : Creds) (x : Command) (p : Plan) → from_fresh d creds x ≡ Ok p → Moves d who.Fresh p
fresh_moves d creds (cmd.Hello flags size send_mask receive_mask is) p e =
    let a : Asked = record { flags = flags; size = size; send_mask = send_mask; receive_mask = receive_mask; items = is } in
    hello_moves d creds a p e
fresh_moves d creds (cmd.EndpointMake is) p e = stays (endpoint_stays d creds is p e)
fresh_moves d creds (cmd.Enter new) p e = known_stays d reply.Enter p e
fresh_moves d creds cmd.Close p e = known_stays d reply.Close p e
fresh_moves d creds x p e = absurd cc

-- ---- one that goes

one_leaves : (d : Desk) (c : Conn) (r : Reply) (force : Bool) → conn_of d c.id ≡ Some c → Leaves d (itself c) (leave_one d r force c)
unfolding without_conns
one_leaves d c r force live = record {
  one = c;
  was = refl;
  live = live;
  conns = refl;
  blocked = refl;
  next_id = refl;
  force = force;
  rest = notices (without_conns d (c.id ∷ [])) (leaving_notices d (c ∷ []));
  parts = refl;
  aside = notices_aside (without_conns d (c.id ∷ [])) (leaving_notices d (c ∷ []));
  becomes = refl;
}

byebye_leaves : (d : Desk) (c : Conn) → conn_of d c.id ≡ Some c → Leaves d (itself c) (byebye d c)
unfolding byebye
byebye_leaves d c live = one_leaves d c reply.Byebye false live

close_leaves : (d : Desk) (c : Conn) → conn_of d c.id ≡ Some c → Leaves d (itself c) (close_conn d c)
unfolding close_conn
close_leaves d c live = one_leaves d c reply.Close true live

conn_moves : (d : Desk) (c : Conn) (x : Command) (p : Plan) → conn_of d c.id ≡ Some c → from_conn d c x ≡ Ok p → Moves d (itself c) p
conn_moves d c cmd.Byebye p live e = of_given (Moves d (itself c)) (byebye d c) p e (leaves (byebye_leaves d c live))
conn_moves d c cmd.Close p live e = of_given (Moves d (itself c)) (close_conn d c) p e (leaves (close_leaves d c live))
conn_moves d c (cmd.NameList flags) p live e = of_given (Moves d (itself c)) (name_list d c flags) p e (stays (list_stays d c flags))
conn_moves d c (cmd.Tick moment) p live e = of_given (Moves d (itself c)) (tick d c moment) p e (stays (tick_stays d c moment))
conn_moves d c x p live e = stays (kind_stays d c c.kind x p e)

-- ---- one that is gone

gone_learns : (d : Desk) (id seat : ℕ) (r : Reply) → conn_of d id ≡ None → Learns d (who.Conn id seat) (known r (unblocked seat d))
gone_learns d id seat r gone = record {
  id = id;
  seat = seat;
  was = refl;
  gone = gone;
  conns = refl;
  blocked = refl;
  next_id = refl;
  parts = refl;
  becomes = refl;
}

gone_moves :
    (d : Desk) (id seat : ℕ) (x : Command) (p : Plan) → conn_of d id ≡ None → from_gone d seat x ≡ Ok p → Moves d (who.Conn id seat) p
gone_moves d id seat cmd.Byebye p gone e =
    of_given (Moves d (who.Conn id seat)) (known reply.Byebye (unblocked seat d)) p e (learns (gone_learns d id seat reply.Byebye gone))
gone_moves d id seat cmd.Close p gone e =
    of_given (Moves d (who.Conn id seat)) (known reply.Close (unblocked seat d)) p e (learns (gone_learns d id seat reply.Close gone))
gone_moves d id seat x p gone e = absurd cc

-- a caller that was a connection, live or gone
caller_moves :
    (d : Desk) (k : Kind) (id seat : ℕ) (x : Command) (p : Plan) → IsPlaced d id seat k
    → (elim (conn_of d id) [ Some c ↦ from_conn d c x | None ↦ from_gone d seat x ]) ≡ planned p → Moves d (who.Conn id seat) p
caller_moves d k id seat x p placed e = go (conn_of d id) refl e
  where
    go : (o : Option Conn) → conn_of d id ≡ o
        → (elim o [ Some c ↦ from_conn d c x | None ↦ from_gone d seat x ]) ≡ planned p → Moves d (who.Conn id seat) p
    go None gone h = gone_moves d id seat x p gone h
    go (Some c) live h =
        let same : c.id ≡ id = eqb-true c.id id (found_passes (has_id id) d.conns c live) in
        let itself_is : itself c ≡ who.Conn id seat = rw (same, (placed.live c live).0) refl in
        rw (sym itself_is) (conn_moves d c x p (ap (conn_of d) same ∙ live) h)

-- ---- the keeper of an endpoint

close_ends : (d : Desk) (e : ℕ) → Ends d (who.Keeper e) (close_endpoint d e)
unfolding close_endpoint without_endpoint without_conns
close_ends d e = record {
  endpoint = e;
  was = refl;
  conns = refl;
  blocked = refl;
  next_id = refl;
  rest = notices (without_endpoint d e) (leaving_notices d (on_endpoint d e));
  parts = refl;
  aside = notices_aside (without_endpoint d e) (leaving_notices d (on_endpoint d e));
  becomes = refl;
}

keeper_moves : (d : Desk) (e : ℕ) (x : Command) (p : Plan) → from_keeper d e x ≡ Ok p → Moves d (who.Keeper e) p
keeper_moves d e (cmd.PolicySet is) p h = stays (policy_stays d (who.Keeper e) (owner.Endpoint e) is p h)
keeper_moves d e cmd.Close p h = of_given (Moves d (who.Keeper e)) (close_endpoint d e) p h (ends (close_ends d e))
keeper_moves d e x p h = absurd cc

-- ---- any caller that the desk knows

pub moves : (d : Desk) (k : Kind) (w : Who) (x : Command) (p : Plan) → IsKnown d k w.member → plan d w x ≡ Ok p → Moves d w.member p
unfolding plan
moves d k w x p is e = go w.member is e
  where
    go : (m : WhoKind) → IsKnown d k m
        → (elim m [
          | who.Fresh ↦ from_fresh d w.creds x
          | who.Conn id s ↦ elim (conn_of d id) [ Some c ↦ from_conn d c x | None ↦ from_gone d s x ]
          | who.Keeper n ↦ from_keeper d n x
          | who.Old s ↦ from_old d s x
        ]) ≡ planned p
        → Moves d m p
    go who.Fresh known h = fresh_moves d w.creds x p h
    go (who.Conn id s) known h = caller_moves d k id s x p known h
    go (who.Keeper n) known h = keeper_moves d n x p h
    go (who.Old s) known h = absurd known
