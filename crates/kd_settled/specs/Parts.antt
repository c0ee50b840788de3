-- What the parts of a plan meet: open pools, whose sizes are those that were asked for.
use Rattle.std.specs.Prelude.{◌≡◌, ◌≤◌, ◌+◌, ◌==◌, ℕ, Bool, true, false, List, [], ◌∷◌, length, map, Option, Some, None, option_map}
use Rattle.kd_model.specs.Words.{first}
use Rattle.kd_acts.specs.State.{Act, Answer, Visit, by_desk, close, raise}
use Rattle.kd_acts.specs.Lasting.{is_let_be}
use Rattle.kd_commands.specs.declared.conn.Conn.{Conn}
use Rattle.kd_commands.specs.State.{Desk, has_seat}
use Rattle.kd_commands.specs.Plans.{Part, Plan}
use Rattle.kd_commands.specs.Visits.{first_ends, next_part}
use Rattle.kd_commands.specs.Seating.{is_live, open_along}
use Rattle.kd_settled.specs.Room.{BySettled}

-- an offer, a post, a drain, a settle and a close need an open pool; a raise opens one
abbrev pub needs_pool : Visit → Bool
needs_pool (raise size) = false
needs_pool _ = true

-- the pool that is visited next is open then, if the visit needs one
abbrev pub MeetsOpen : Desk → Plan → Type 0
MeetsOpen d p =
    (outs : List Answer) (q : Part) → first_ends p.parts outs ≡ None
    → next_part [] p.parts outs ≡ Some q → needs_pool q.act ≡ true
    → open_along q.seat p.parts outs (is_live d q.seat) ≡ true

abbrev pub VisitsMeetOpen : Type 0
VisitsMeetOpen = BySettled (λ d k w x p. MeetsOpen d p)

-- a plan has at most 2 to the 20 parts
abbrev pub PlansAreShort : Type 0
PlansAreShort = BySettled (λ d k w x p. length p.parts ≤ 1048576)

-- ids go on by one at most
abbrev pub IdsGoOn : Type 0
IdsGoOn = BySettled (λ d k w x p. (d.next_id ≤ p.next.next_id) × (p.next.next_id ≤ d.next_id + 1))
