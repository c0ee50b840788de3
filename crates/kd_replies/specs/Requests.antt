-- The requests that wait, and what happens to them.
use Rattle.std.specs.Prelude.{ℕ, Bool, not, ◌&&◌, ◌||◌, List, [], ◌∷◌, length, Option, Some, None, nat_le, ◌==◌}
use Rattle.std.specs.declared.result.Result.{Result}
use Rattle.std.specs.declared.result.Result.TheVariants.{Ok, Err}
use Rattle.kd_model.specs.Words.{first_that_holds, in_order, put_in_order, some_of, those}
use Rattle.kd_types.specs.declared.refusal.Refusal.{Refusal}
use Rattle.kd_types.specs.declared.refusal.Refusal.TheVariants.{BadCookie, TooMany}
use Rattle.kd_replies.specs.declared.request.Request.{Request}
use Rattle.kd_replies.specs.declared.replies.TheConstants.{REQUESTS_OF_ONE}
use Rattle.kd_replies.specs.Order.{is_due_before, request_stands_before}

-- the asker waits with this cookie
abbrev pub request_waits : ℕ → ℕ → Request → Bool
request_waits asker cookie q = q.asker == asker && q.cookie == cookie

-- the asker waits with this cookie for this replier
abbrev pub waits_for : ℕ → ℕ → ℕ → Request → Bool
waits_for asker replier cookie q = request_waits asker cookie q && q.replier == replier

-- the asker waits for it
abbrev pub is_asked_by : ℕ → Request → Bool
is_asked_by asker q = q.asker == asker

-- the deadline isn't above the moment
abbrev pub is_due : ℕ → Request → Bool
is_due now q = nat_le q.deadline now

-- it asks or is to reply
abbrev pub concerns : ℕ → Request → Bool
concerns id q = q.asker == id || q.replier == id

-- the connection is one of these
abbrev pub is_among : List ℕ → ℕ → Bool
is_among ids id = some_of (λ i. i == id) ids

-- its replier leaves and its asker stays, when these leave
abbrev pub is_dead_without : List ℕ → Request → Bool
is_dead_without ids q = is_among ids q.replier && not (is_among ids q.asker)

-- whether the asker waits for as many as one may
abbrev pub asks_most : ℕ → List Request → Bool
asks_most asker qs = nat_le REQUESTS_OF_ONE (length (those (is_asked_by asker) qs))

-- why the asker can't wait with this cookie
abbrev pub expect_refusal : ℕ → ℕ → List Request → Option Refusal
expect_refusal asker cookie qs =
    let waits = some_of (request_waits asker cookie) qs in
    first_that_holds ((waits, BadCookie) ∷ (asks_most asker qs, TooMany REQUESTS_OF_ONE) ∷ [])

-- whether the asker may wait with this cookie
abbrev pub expect_answer : ℕ → ℕ → List Request → Result (Unit {0}) Refusal
expect_answer asker cookie qs =
    elim (expect_refusal asker cookie qs) [ Some why ↦ Err why | None ↦ Ok tt ]

-- the request waits, at its place
abbrev pub expecting : Request → List Request → List Request
expecting q qs = put_in_order request_stands_before q qs

-- those that are due, by deadline, asker and cookie
abbrev pub due : ℕ → List Request → List Request
due now qs = in_order is_due_before (those (is_due now) qs)
