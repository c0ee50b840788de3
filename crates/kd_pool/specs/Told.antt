-- What a call answers, as an answer of the definitions.
use Rattle.std.specs.Prelude.{ℕ, ℤ, ◌≡◌, ◌≤◌, ◌^◌, List, Option, Result, Ok, Err}
use Rattle.kd_types.specs.declared.refusal.Refusal.{Refusal}
use Rattle.kd_acts.specs.State.{Answer, Content, Image, Pool, drained, got, refused, slice}
use Rattle.kd_acts.specs.Steps.{reserve_step}
use Rattle.kd_acts.specs.declared.receive.Got.{Got}

-- a message: its bytes, its share of sealed bytes if it takes one along, its priority
abbrev pub message : List ℕ → Option (List ℕ) → ℤ → Content
message image share priority = record { image = image; shared = share; priority = priority }

-- an offer
abbrev pub offer_answer : Result ℕ Refusal → Answer
offer_answer (Ok n) = slice n
offer_answer (Err why) = refused why

-- a receive
abbrev pub receive_answer : Result Got Refusal → Answer
receive_answer (Ok g) = got g.number g.offset g.length g.dropped
receive_answer (Err why) = refused why

-- a drain, with what is then in the buffer
abbrev pub drained_into : {T : Type 0} → Result T Refusal → List Image → Answer
drained_into (Ok _) images = drained images
drained_into (Err why) images = refused why

-- why nothing can be reserved of a length that no pool has
abbrev pub RefusesLong : Refusal → Pool → Type 0
RefusesLong why p =
    (len source : ℕ) (user : Option ℕ) → 2 ^ 32 ≤ len
    → reserve_step len user source p ≡ (p, refused why)
