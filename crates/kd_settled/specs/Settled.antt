-- What holds of a desk after every command: whatever is somebody's belongs to a live connection of
-- the right kind or to an endpoint that is there, and nobody has more than it may have.
use Rattle.std.specs.Prelude.{◌≡◌, ◌<◌, ◌≤◌, ◌==◌, ℕ, Bool, true, List, length, nat_lt}
use Rattle.std.specs.List.{AllByRecursion, IsDistinct}
use Rattle.kd_model.specs.Words.{those}
use Rattle.kd_name.specs.Names.{is_name}
use Rattle.kd_endpoint.specs.Labels.{Labels}
use Rattle.kd_policy.specs.Policy.{Held, Policy}
use Rattle.kd_registry.specs.declared.claim.Claim.{Claim}
use Rattle.kd_registry.specs.Claims as registry
use Rattle.kd_match.specs.declared.rule.Rule.{Rule}
use Rattle.kd_match.specs.Rules.{rules_of}
use Rattle.kd_seal.specs.Book.{SealBook, is_seal_of}
use Rattle.kd_seal.specs.declared.seals.Counter.{Counter}
use Rattle.kd_seal.specs.declared.seals.Seal.{Seal}
use Rattle.kd_replies.specs.Order.{InOrder, Rises}
use Rattle.kd_replies.specs.Requests.{is_asked_by}
use Rattle.kd_replies.specs.declared.request.Request.{Request}
use Rattle.kd_commands.specs.declared.conn.Conn.{Conn}
use Rattle.kd_commands.specs.State.{Desk, sits_before}
use Rattle.kd_commands.specs.Seating.{AreSeated}
use Rattle.kd_settled.specs.Owners.{is_asked, is_reached, lives, may_claim, owns_policy, sends}

-- connections stand by rising seat under ids above 0, which stands for nobody; the seats that wait
-- for their callers are some of the 64, by rising number, each once
pub record HasSeats (d : Desk) : Type 0 where
  pub rising : Rises sits_before d.conns
  pub some_ids : AllByRecursion (λ (c : Conn). 0 < c.id) d.conns
  pub next_id : 0 < d.next_id
  pub waiting : Rises nat_lt d.blocked
  pub few_waiting : AllByRecursion (λ s. s < 64) d.blocked

-- there is a place for each of 8 endpoints, and whoever is connected came by one that is there
pub record AreReached (cs : List Conn) (labels : Labels) : Type 0 where
  pub places : length labels ≡ 8
  pub reached : AllByRecursion (λ (c : Conn). is_reached labels c ≡ true) cs

-- it is the connection's
abbrev pub is_claim_by : ℕ → Claim → Bool
is_claim_by id x = x.id == id

-- claims are on names, in their order, of live connections, at most 64 of each
pub record AreClaims (cs : List Conn) (r : List Claim) : Type 0 where
  pub owned : AllByRecursion (λ (x : Claim). lives (may_claim x) cs x.id ≡ true) r
  pub order : registry.ranked r ≡ true
  pub named : AllByRecursion (λ (x : Claim). is_name x.name ≡ true) r
  pub few : (id : ℕ) → length (those (is_claim_by id) r) ≤ 64

-- rules are of live ordinary connections, at most 64 of each
pub record AreRules (cs : List Conn) (rules : List Rule) : Type 0 where
  pub owned : AllByRecursion (λ (r : Rule). lives sends cs r.id ≡ true) rules
  pub few : (id : ℕ) → length (rules_of id rules) ≤ 64

-- seals are of live ordinary connections, at most 16 of each, and so are counters, one of each
pub record AreSeals (cs : List Conn) (b : SealBook) : Type 0 where
  pub owned : AllByRecursion (λ (s : Seal). lives sends cs s.id ≡ true) b.seals
  pub few : (id : ℕ) → length (those (is_seal_of id) b.seals) ≤ 16
  pub counted : AllByRecursion (λ (k : Counter). lives sends cs k.id ≡ true) b.counters
  pub own_counters : IsDistinct (λ (a b : Counter). a.id == b.id) b.counters

-- requests stand in their order; whoever asks is a live ordinary connection, with at most 128 of
-- them, and whoever is to reply is there
pub record AreRequests (cs : List Conn) (qs : List Request) : Type 0 where
  pub askers : AllByRecursion (λ (q : Request). lives sends cs q.asker ≡ true) qs
  pub repliers : AllByRecursion (λ (q : Request). lives is_asked cs q.replier ≡ true) qs
  pub order : InOrder qs
  pub few : (id : ℕ) → length (those (is_asked_by id) qs) ≤ 128

-- policy entries are of live holders and of endpoints that are there, at most 256 of each
pub record IsOwnedPolicy (cs : List Conn) (labels : Labels) (p : Policy) : Type 0 where
  pub owned : AllByRecursion (λ (h : Held). owns_policy cs labels h.owner ≡ true) p
  pub few : AllByRecursion (λ (h : Held). length h.entries ≤ 256) p

-- the invariant of a desk
pub record IsSettled (d : Desk) : Type 0 where
  -- ids below the next one and seats below 64 are those of one connection each, and nobody sits on
  -- a seat that waits for its caller
  pub seated : AreSeated d
  pub seats : HasSeats d
  pub reached : AreReached d.conns d.endpoints
  pub claims : AreClaims d.conns d.registry
  pub rules : AreRules d.conns d.rules.rules
  pub seals : AreSeals d.conns d.seals
  pub requests : AreRequests d.conns d.requests
  pub policy : IsOwnedPolicy d.conns d.endpoints d.policy
