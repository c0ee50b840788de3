-- What a plan does to who sits where: one of five things.
use Rattle.std.proofs.Common.{◌≡◌, ℕ, ◌+◌, Bool, true, List, [], ◌∷◌, ◌++◌, map, Some, None}
use Rattle.std.specs.Prelude.{◌⊎◌, ◌==◌}
use Rattle.kd_model.specs.Words.{but_those, put_in_order}
use Rattle.kd_acts.specs.State.{raise}
use Rattle.kd_commands.specs.declared.conn.Conn.{Conn}
use Rattle.kd_commands.specs.declared.who.WhoKind.{WhoKind}
use Rattle.kd_commands.specs.declared.who.WhoKind.TheVariants as who
use Rattle.kd_commands.specs.State.{Desk, conn_of, seat_set, sits_before}
use Rattle.kd_commands.specs.Plans.{Part, Plan, itself}
use Rattle.kd_commands.specs.Hello.{free_seat}
use Rattle.kd_commands.specs.Leaving.{closing, on_endpoint}
use Rattle.kd_commands.proofs.Asides.{AreAside}
use Rattle.kd_commands.proofs.Members.{seats_of, without}

-- seats are as they were, but that somebody new may keep an endpoint
pub record Stays (d : Desk) (m : WhoKind) (p : Plan) : Type 0 where
  pub conns : p.next.conns ≡ d.conns
  pub blocked : p.next.blocked ≡ d.blocked
  pub next_id : p.next.next_id ≡ d.next_id
  pub aside : AreAside p.parts
  pub alike : (p.becomes ≡ m) ⊎ ((e : ℕ) × (m ≡ who.Fresh) × (p.becomes ≡ who.Keeper e))

-- a connection takes the lowest free seat
pub record Arrives (d : Desk) (m : WhoKind) (p : Plan) : Type 0 where
  pub one : Conn
  pub was : m ≡ who.Fresh
  pub new_id : one.id ≡ d.next_id
  pub free : free_seat d ≡ Some one.seat
  pub conns : p.next.conns ≡ put_in_order sits_before one d.conns
  pub blocked : p.next.blocked ≡ d.blocked
  pub next_id : p.next.next_id ≡ d.next_id + 1
  pub size : ℕ
  pub rest : List Part
  pub parts : p.parts ≡ record { seat = one.seat; act = raise size } ∷ rest
  pub aside : AreAside rest
  pub becomes : p.becomes ≡ who.Conn one.id one.seat

-- a connection leaves its seat
pub record Leaves (d : Desk) (m : WhoKind) (p : Plan) : Type 0 where
  pub one : Conn
  pub was : m ≡ itself one
  pub live : conn_of d one.id ≡ Some one
  pub conns : p.next.conns ≡ without (one ∷ []) d.conns
  pub blocked : p.next.blocked ≡ d.blocked
  pub next_id : p.next.next_id ≡ d.next_id
  pub force : Bool
  pub rest : List Part
  pub parts : p.parts ≡ closing force one ∷ rest
  pub aside : AreAside rest
  pub becomes : p.becomes ≡ who.Fresh

-- all on an endpoint leave their seats, which wait for their callers
pub record Ends (d : Desk) (m : WhoKind) (p : Plan) : Type 0 where
  pub endpoint : ℕ
  pub was : m ≡ who.Keeper endpoint
  pub conns : p.next.conns ≡ without (on_endpoint d endpoint) d.conns
  pub blocked : p.next.blocked ≡ seat_set (d.blocked ++ seats_of (on_endpoint d endpoint))
  pub next_id : p.next.next_id ≡ d.next_id
  pub rest : List Part
  pub parts : p.parts ≡ map (closing true) (on_endpoint d endpoint) ++ rest
  pub aside : AreAside rest
  pub becomes : p.becomes ≡ who.Fresh

-- a caller learns that its connection is gone
pub record Learns (d : Desk) (m : WhoKind) (p : Plan) : Type 0 where
  pub id : ℕ
  pub seat : ℕ
  pub was : m ≡ who.Conn id seat
  pub gone : conn_of d id ≡ None
  pub conns : p.next.conns ≡ d.conns
  pub blocked : p.next.blocked ≡ but_those (λ b. b == seat) d.blocked
  pub next_id : p.next.next_id ≡ d.next_id
  pub parts : p.parts ≡ []
  pub becomes : p.becomes ≡ who.Fresh

pub data Moves (d : Desk) (m : WhoKind) (p : Plan) : Type 0 where
  stays : Stays d m p → Moves d m p
  arrives : Arrives d m p → Moves d m p
  leaves : Leaves d m p → Moves d m p
  ends : Ends d m p → Moves d m p
  learns : Learns d m p → Moves d m p
