-- Who sits where: the seats of live connections, those that wait for their own callers, and which
-- pools are open while a plan is visited.
use Rattle.std.specs.Prelude.{◌≡◌, ◌≢◌, ◌<◌, ◌⊎◌, ℕ, ◌==◌, Bool, true, false, List, [], ◌∷◌, Some, None, Ok}
use Rattle.std.specs.List.{AllByRecursion, IsDistinct}
use Rattle.kd_types.specs.declared.creds.Kind.{Kind}
use Rattle.kd_types.specs.declared.refusal.Refusal.{Refusal}
use Rattle.kd_model.specs.Words.{contains, some_of}
use Rattle.kd_wire.specs.declared.command.Command.{Command}
use Rattle.kd_acts.specs.State.{Answer, by_desk, raise}
use Rattle.kd_acts.specs.Lasting.{open_after}
use Rattle.kd_commands.specs.declared.conn.Conn.{Conn}
use Rattle.kd_commands.specs.declared.who.Who.{Who}
use Rattle.kd_commands.specs.declared.who.WhoKind.{WhoKind}
use Rattle.kd_commands.specs.declared.who.WhoKind.TheVariants as who
use Rattle.kd_commands.specs.State.{Desk, conn_of, has_seat}
use Rattle.kd_commands.specs.Plans.{Part, Plan}
use Rattle.kd_commands.specs.Hello.{is_free}
use Rattle.kd_commands.specs.Step.{plan}
use Rattle.kd_commands.specs.Visits.{next_part, first_ends}

-- a live connection has the seat
abbrev pub is_live : Desk → ℕ → Bool
is_live d s = some_of (has_seat s) d.conns

-- ids and seats are those of one connection each, and no live connection's seat waits for another
-- caller
pub record AreSeated (d : Desk) : Type 0 where
  pub old_ids : AllByRecursion (λ (c : Conn). c.id < d.next_id) d.conns
  pub own_ids : IsDistinct (λ (a b : Conn). a.id == b.id) d.conns
  pub few_seats : AllByRecursion (λ (c : Conn). c.seat < 64) d.conns
  pub own_seats : IsDistinct (λ (a b : Conn). a.seat == b.seat) d.conns
  pub unblocked : AllByRecursion (λ (c : Conn). contains c.seat d.blocked ≡ false) d.conns

-- the connection of this id is live at the seat and of the kind, or it is gone and its seat waits
-- for its own caller
pub record IsPlaced (d : Desk) (id seat : ℕ) (kind : Kind) : Type 0 where
  pub old_id : id < d.next_id
  pub low : seat < 64
  pub live : (c : Conn) → conn_of d id ≡ Some c → (c.seat ≡ seat) × (c.kind ≡ kind)
  pub gone : conn_of d id ≡ None → contains seat d.blocked ≡ true

-- a caller of this desk, which has never been removed
abbrev pub IsKnown : Desk → Kind → WhoKind → Type 0
IsKnown d k who.Fresh = Unit {0}
IsKnown d k (who.Conn id s) = IsPlaced d id s k
IsKnown d k (who.Keeper e) = Unit {0}
IsKnown d k (who.Old s) = ⊥

-- its seat, if it has one, is another
abbrev pub IsElsewhere : ℕ → WhoKind → Type 0
IsElsewhere seat (who.Conn id s) = seat ≢ s
IsElsewhere seat _ = Unit {0}

-- a caller that was a connection left its seat
abbrev pub HasLeft : Desk → WhoKind → Type 0
HasLeft d (who.Conn id s) = is_live d s ≡ false
HasLeft d _ = Unit {0}

-- who stayed a connection is placed as before; who became one took a free seat; who is none any
-- more left its seat
abbrev pub IsNow : Desk → Desk → Kind → WhoKind → WhoKind → Type 0
IsNow before after k was (who.Conn id s) =
    ((was ≡ who.Conn id s) × IsPlaced after id s k)
    ⊎ ((was ≡ who.Fresh) × (is_free before s ≡ true)
    × ((c : Conn) × (conn_of after id ≡ Some c) × IsPlaced after id s c.kind))
IsNow before after k was who.Fresh = HasLeft after was
IsNow before after k was (who.Keeper e) = HasLeft after was
IsNow before after k was (who.Old s) = ⊥

-- whether the pool of a seat is open after a visit that was answered so
abbrev pub open_at : ℕ → Part → Answer → Bool → Bool
open_at s p o was = elim (p.seat == s) [ true ↦ open_after (by_desk p.act) o was | false ↦ was ]

-- and after as many visits as there are answers
unfoldable pub open_along : ℕ → List Part → List Answer → Bool → Bool
open_along s [] outs was = was
open_along s (p ∷ ps) [] was = was
open_along s (p ∷ ps) (o ∷ outs) was = open_along s ps outs (open_at s p o was)

-- ---- what holds of every plan, for a desk that is seated and a caller that it knows

abbrev pub ByPlan : (Desk → Kind → Who → Plan → Type 0) → Type 0
ByPlan P =
    (d : Desk) (k : Kind) (w : Who) (x : Command) (p : Plan) → AreSeated d → IsKnown d k w.member
    → plan d w x ≡ Ok p → P d k w p

-- the desk stays seated
abbrev pub SeatingStays : Type 0
SeatingStays = ByPlan (λ d k w p. AreSeated p.next)

-- all others stay where they are, or are gone and their seats wait for them
abbrev pub StaysElsewhere : Desk → Desk → WhoKind → Type 0
StaysElsewhere before after m =
    (id seat : ℕ) (kind : Kind) → IsPlaced before id seat kind → IsElsewhere seat m
    → IsPlaced after id seat kind

abbrev pub OthersStay : Type 0
OthersStay = ByPlan (λ d k w p. StaysElsewhere d p.next w.member)

-- the caller stays what it is, takes a seat or leaves its own
abbrev pub CallersMove : Type 0
CallersMove = ByPlan (λ d k w p. IsNow d p.next k w.member p.becomes)

-- when all is visited the open pools are those of the live connections
abbrev pub IsLiveThen : Desk → Plan → Type 0
IsLiveThen d p =
    (outs : List Answer) (seat : ℕ) → first_ends p.parts outs ≡ None
    → next_part [] p.parts outs ≡ None
    → open_along seat p.parts outs (is_live d seat) ≡ is_live p.next seat

abbrev pub OpensAreLive : Type 0
OpensAreLive = ByPlan (λ d k w p. IsLiveThen d p)

-- where the first part ends all, they are those that were
abbrev pub IsLiveStill : Desk → Plan → Type 0
IsLiveStill d p =
    (outs : List Answer) (seat : ℕ) (why : Refusal) → first_ends p.parts outs ≡ Some why
    → open_along seat p.parts outs (is_live d seat) ≡ is_live d seat

abbrev pub OpensStay : Type 0
OpensStay = ByPlan (λ d k w p. IsLiveStill d p)

-- a pool is raised at a free seat, and isn't open then
abbrev pub IsRaisedFree : Desk → Plan → Type 0
IsRaisedFree d p =
    (outs : List Answer) (q : Part) (size : ℕ) → next_part [] p.parts outs ≡ Some q
    → q.act ≡ raise size
    → (q.seat < 64) × (is_free d q.seat ≡ true)
    × (open_along q.seat p.parts outs (is_live d q.seat) ≡ false)

abbrev pub RaisesFree : Type 0
RaisesFree = ByPlan (λ d k w p. IsRaisedFree d p)
