-- The calls of a client, and what it knows by them.
use Rattle.std.specs.Prelude.{ℕ, ◌+◌, List, [], ◌∷◌, ◌++◌, length, Result}
use Rattle.kd_types.specs.declared.refusal.Refusal.{Refusal}
use Rattle.kd_client.specs.declared.request.Request.{Request}
use Rattle.kd_client.specs.Exchanges.{Exchange, replies}
use Rattle.kd_client.specs.Requests.{outstanding_with, placing, request_to, unsettled}
use Rattle.kd_client.specs.Receptions.{Reception, exchanges, found}

-- a call, with what came of it: a command was asked; commands were sent ahead of their replies; a
-- connection was asked for an answer, with a payload up to a deadline; or the next message was
-- looked for
pub data Call : Type 0 where
  asked : Exchange → Call
  sent : List Exchange → Call
  requested : ℕ → List ℕ → ℕ → Result ℕ Refusal → Call
  looked : Reception → Call

-- what it asked and was answered, where so many requests had been asked for
abbrev pub exchanges_in : ℕ → Call → List Exchange
exchanges_in before (asked e) = e ∷ []
exchanges_in before (sent es) = es
exchanges_in before (requested dst payload deadline answer) =
    placing (request_to (before + 1) dst) payload deadline answer ∷ []
exchanges_in before (looked reception) = exchanges reception

abbrev pub requests_in : Call → ℕ
requests_in (asked e) = 0
requests_in (sent es) = 0
requests_in (requested dst payload deadline answer) = 1
requests_in (looked reception) = 0

-- the requests that wait after it, where these waited before
abbrev pub waiting_after : ℕ → Call → List Request → List Request
waiting_after before (asked e) waiting = waiting
waiting_after before (sent es) waiting = waiting
waiting_after before (requested dst payload deadline answer) waiting =
    outstanding_with (request_to (before + 1) dst) answer waiting
waiting_after before (looked reception) waiting = unsettled (found waiting reception) waiting

-- how many requests were asked for in these calls, of which the last one stands first
abbrev pub requests_of : List Call → ℕ
requests_of [] = 0
requests_of (call ∷ before) = requests_of before + requests_in call

-- what was asked and answered in them, in order
abbrev pub dialogue : List Call → List Exchange
dialogue [] = []
dialogue (call ∷ before) = dialogue before ++ exchanges_in (requests_of before) call

-- the requests that were placed in them, less those that were answered or failed, in order
abbrev pub outstanding : List Call → List Request
outstanding [] = []
outstanding (call ∷ before) = waiting_after (requests_of before) call (outstanding before)

-- the link; how many bytes were read since the client was made; the requests that wait, in order;
-- and how many were asked for, those that were refused with them
pub record ClientState (L : Type 0) : Type 0 where
  pub link : L
  pub read : ℕ
  pub outstanding : List Request
  pub requests : ℕ

-- nothing was asked yet
abbrev pub new_client : {L : Type 0} → L → ClientState L
new_client link = record { link = link; read = 0; outstanding = []; requests = 0 }

-- a client after one more call, which left the link so
abbrev pub after : {L : Type 0} → L → Call → ClientState L → ClientState L
after link call c = record {
  link = link;
  read = c.read + length (replies (exchanges_in c.requests call));
  outstanding = waiting_after c.requests call c.outstanding;
  requests = c.requests + requests_in call;
}

-- a client after these calls, of which the last one stands first
abbrev pub client_after : {L : Type 0} → L → List Call → ClientState L
client_after link calls = record {
  link = link;
  read = length (replies (dialogue calls));
  outstanding = outstanding calls;
  requests = requests_of calls;
}
